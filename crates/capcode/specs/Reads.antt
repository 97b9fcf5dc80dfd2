-- Reading a text as a CAPCODE, byte by byte (document 01, "CAPCODE text"). The reading stops at the first byte at which no correct text could go on.
use Rattle.std.specs.Prelude.{ℕ, suc, ◌+◌, ◌-◌, ◌*◌, ◌/◌, ◌%◌, ◌^◌, ◌≤◌, ◌<◌, Bool, true, false, not, ◌&&◌, ◌||◌, List, [], ◌∷◌, leb, eqb, length, take, get_or, Option, Some, None, Result, Ok, Err}
use Prim.Native.Char.{code}
use Rattle.laws.specs.Choice.{pick}
use Rattle.laws.specs.Lists.{all}
use Rattle.refusal.specs.declared.Refusal.{Refusal}
use Rattle.refusal.specs.declared.Refusal.TheVariants.{Text, DigitBeforeLetter, LeadingFour, DigitAfterLetter}
use Rattle.refusal.specs.Told.{Told, refused, refused_at, given}
use Rattle.capcode.specs.declared.Capcode.{Capcode}
use Rattle.capcode.specs.declared.Assignment.{Assignment}
use Rattle.capcode.specs.declared.Fault.{Fault}
use Rattle.capcode.specs.declared.reading.Reading.{Reading}
use Rattle.capcode.specs.Assigned.{standard, framed, asked, phase_of, base_of}
use Rattle.capcode.specs.Text.{last_of_seven}

-- a byte that is a decimal digit
abbrev pub is_digit : ℕ → Bool
is_digit byte = leb (code "0") byte && leb byte (code "9")

-- digits before the letter, so many and of this number, with which some correct text begins: a collapse digit (never
-- 4) or the frame digits 000 to 127 and a collapse digit
abbrev pub head_goes_on : ℕ → ℕ → Bool
head_goes_on count number =
    (eqb count 1 && (leb number 3 || eqb number 5))
    || (eqb count 2 && leb number 12)
    || (eqb count 3 && leb number 127)
    || (eqb count 4 && leb (number % 10) 5)

-- a letter that may follow so many digits: A to L none or one, U to Z four
abbrev pub letter_goes_on : ℕ → ℕ → Bool
letter_goes_on count letter = ((eqb count 0 || eqb count 1) && standard letter) || (eqb count 4 && framed letter)

-- digits of the address with which some correct one begins: any seven; more only if ten of them can be over 2031614
abbrev pub address_goes_on : ℕ → ℕ → Bool
address_goes_on count number =
    leb count 7
    || (eqb count 8 && leb 20316 number)
    || (eqb count 9 && leb 203161 number)
    || (eqb count 10 && leb 2031615 number)

-- the bounds of a reading's counts and numbers
pub record Bounded (s : Reading) : Type 0 where
  pub before : s.before ≤ 4
  pub number : s.number ≤ 1279
  pub after : s.after ≤ 10
  pub address : s.address < 10 ^ 10

-- a reading goes on with the next state, or stops
abbrev pub go_on : Bool → Reading → Option Reading
go_on true s = Some s
go_on false s = None

-- a reading with one digit more before the letter
abbrev pub with_head : Reading → ℕ → Reading
with_head s digit = record { before = s.before + 1; number = s.number * 10 + digit; letter = 0; after = 0; address = 0 }

-- a reading with its letter
abbrev pub with_letter : Reading → ℕ → Reading
with_letter s byte = record { before = s.before; number = s.number; letter = byte; after = 0; address = 0 }

-- a reading with one digit more after the letter
abbrev pub with_address : Reading → ℕ → Reading
with_address s digit =
    record { before = s.before; number = s.number; letter = s.letter; after = s.after + 1; address = s.address * 10 + digit }

-- a digit before the letter
abbrev pub head_digit : Reading → ℕ → Option Reading
head_digit s digit = go_on (head_goes_on (s.before + 1) (s.number * 10 + digit)) (with_head s digit)

-- the letter
abbrev pub the_letter : Reading → ℕ → Option Reading
the_letter s byte = go_on (letter_goes_on s.before byte) (with_letter s byte)

-- a digit after the letter
abbrev pub address_digit : Reading → ℕ → Option Reading
address_digit s digit = go_on (address_goes_on (s.after + 1) (s.address * 10 + digit)) (with_address s digit)

-- one byte more
unfoldable pub step_of : Reading → ℕ → Option Reading
step_of s byte =
    pick (eqb s.letter 0)
    (pick (is_digit byte) (head_digit s (byte - code "0")) (the_letter s byte))
    (pick (is_digit byte) (address_digit s (byte - code "0")) None)

-- a reading under way and how many bytes it took, or the place at which it stopped
pub data Course : Type 0 where
  going : ℕ → Reading → Course
  stopped : ℕ → Course

-- where the next step leads
abbrev pub onward : ℕ → Option Reading → Course
onward place (Some s) = going (suc place) s
onward place None = stopped place

-- a course takes one byte more; one that has stopped stays
abbrev pub takes : Course → ℕ → Course
takes (going place s) byte = onward place (step_of s byte)
takes (stopped place) byte = stopped place

-- the course of a reading over a text
unfoldable pub follow : Course → List ℕ → Course
follow course [] = course
follow course (byte ∷ text) = follow (takes course byte) text

-- nothing read yet
abbrev pub blank : Reading
blank = record { before = 0; number = 0; letter = 0; after = 0; address = 0 }

-- a text may end here: seven digits up to 2031614, or ten
abbrev pub is_whole : Reading → Bool
is_whole s = not (eqb s.letter 0) && ((eqb s.after 7 && leb s.address last_of_seven) || eqb s.after 10)

-- what a whole reading says: no digit before the letter means collapse 4, one is the collapse, four are frame and collapse
abbrev pub said_by : Reading → Capcode
said_by s =
    record {
      letter = s.letter;
      frame = pick (eqb s.before 4) (s.number / 10) 0;
      collapse = pick (eqb s.before 0) 4 (s.number % 10);
      address = s.address;
    }

-- what a course that took the whole text says
abbrev pub end_of : Course → Result Capcode ℕ
end_of (going place s) = pick (is_whole s) (Ok (said_by s)) (Err place)
end_of (stopped place) = Err place

-- the form of a text: what it says, or where it goes wrong
unfoldable pub form_of : List ℕ → Result Capcode ℕ
form_of text = end_of (follow (going 0 blank) text)

-- what is answered for a text that says `c`: what is asked of every CAPCODE, then letter, frame, collapse, address, phase and base frame
abbrev pub read_as : Capcode → Told
read_as c = asked c (given (c.letter ∷ c.frame ∷ c.collapse ∷ c.address ∷ phase_of c ∷ base_of c ∷ []))

-- a place before the letter: only digits stand before it
abbrev pub before_letter : List ℕ → ℕ → Bool
before_letter text place = all is_digit (take place text)

-- 02, item 1, of the byte at which a text goes wrong: "20 for a 4 at place 0, 19 for any other digit before the letter, 21 for a digit after the
-- letter, 3 for all else. A text that only stops too soon is 21, its place the text's length". Where no byte stands, 0 is looked at, which is no digit
unfoldable pub fault_at : List ℕ → ℕ → Refusal
fault_at text place =
    pick (eqb place 0 && eqb (get_or text place 0) (code "4")) LeadingFour
    (pick (is_digit (get_or text place 0) && before_letter text place) DigitBeforeLetter
    (pick (is_digit (get_or text place 0)) DigitAfterLetter
    (pick (eqb place (length text)) DigitAfterLetter
    Text)))

-- a text that says a CAPCODE is answered by that; one that does not is refused by the byte where it goes wrong, and the place is told
abbrev pub read_by : List ℕ → Result Capcode ℕ → Told
read_by text (Ok c) = read_as c
read_by text (Err place) = refused_at (fault_at text place) place

-- what a text is read as
abbrev pub read_of : List ℕ → Told
read_of text = read_by text (form_of text)

-- how a reading is told
abbrev pub told_read : Result (Capcode × Assignment) Fault → Told
told_read (Ok (c, a)) = given (c.letter ∷ c.frame ∷ c.collapse ∷ c.address ∷ a.phase ∷ a.frame ∷ [])
told_read (Err (Fault.Wrong r place)) = refused_at r place
told_read (Err (Fault.Refused r)) = refused r
