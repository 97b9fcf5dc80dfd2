-- What a person is told of a text that is refused: which row of the table of sentences (`refusal`, specs/Sentences). House.
use Rattle.std.specs.Prelude.{ℕ, ◌+◌, ◌-◌, Bool, true, false, not, ◌&&◌, ◌||◌, List, leb, ltb, eqb, length, take, drop, get_or, Option, Some, None, Result, Ok, Err}
use Prim.Native.Char.{code}
use Rattle.laws.specs.Choice.{pick}
use Rattle.laws.specs.Lists.{all, first_that}
use Rattle.refusal.specs.Told.{number_of, number_told}
use Rattle.capcode.specs.declared.Advice.{Advice}
use Rattle.capcode.specs.declared.Capcode.{Capcode}
use Rattle.capcode.specs.Assigned.{standard, framed, assigned}
use Rattle.capcode.specs.Reads.{is_digit, letter_goes_on, form_of, before_letter, fault_at}

-- what a person is told: a row of the table of sentences, 0 where nothing is said, and a letter to write after the sentence
pub record Advised : Type 0 where
  pub row : ℕ
  pub letter : Option ℕ

-- a row of the table, and no letter after its sentence
abbrev pub say : ℕ → Advised
say row = record { row = row; letter = None }

-- the row of an advice: that of its refusal, or one of those from 40 on
abbrev pub row_of : Advice → ℕ
row_of Advice.Fine = 0
row_of (Advice.Refused r) = number_of r
row_of Advice.EmptyLine = 40
row_of Advice.NoLetter = 41
row_of Advice.TooFewOfSeven = 42
row_of Advice.TooFewOfTen = 43
row_of Advice.TooManyOfSeven = 44
row_of Advice.TooManyOfTen = 45
row_of Advice.ByteOrderMark = 46
row_of Advice.BlankAtTheEnd = 47
row_of Advice.Blank = 48
row_of (Advice.LowerCase capital) = 49
row_of Advice.LetterO = 50
row_of Advice.DigitsBefore = 51
row_of Advice.Character = 52

-- the letter of an advice
abbrev pub letter_of : Advice → Option ℕ
letter_of Advice.Fine = None
letter_of (Advice.Refused r) = None
letter_of Advice.EmptyLine = None
letter_of Advice.NoLetter = None
letter_of Advice.TooFewOfSeven = None
letter_of Advice.TooFewOfTen = None
letter_of Advice.TooManyOfSeven = None
letter_of Advice.TooManyOfTen = None
letter_of Advice.ByteOrderMark = None
letter_of Advice.BlankAtTheEnd = None
letter_of Advice.Blank = None
letter_of (Advice.LowerCase capital) = Some capital
letter_of Advice.LetterO = None
letter_of Advice.DigitsBefore = None
letter_of Advice.Character = None

-- how an advice is told
abbrev pub told_advice : Advice → Advised
told_advice advice = record { row = row_of advice; letter = letter_of advice }

-- how many digits a text begins with
abbrev pub head_digits : List ℕ → ℕ
head_digits text = first_that (λ byte. not (is_digit byte)) text

-- a text that stops too soon: it is empty (40), has no letter (41), or has fewer than seven digits after it (42), or fewer than ten (43)
abbrev pub short_advice : List ℕ → Advised
short_advice text =
    pick (eqb (length text) 0) (say 40)
    (pick (eqb (head_digits text) (length text)) (say 41)
    (pick (ltb (length text) (head_digits text + 8)) (say 42) (say 43)))

-- a digit too many after the letter: seven were enough (44), or it is the eleventh (45)
abbrev pub many_advice : List ℕ → ℕ → Advised
many_advice text place = pick (ltb place (head_digits text + 11)) (say 44) (say 45)

-- a byte-order mark at the start: that of UTF-8, or one of the two of UTF-16
abbrev pub is_marked : List ℕ → Bool
is_marked text =
    ((eqb (get_or text 0 0) 0xEF && eqb (get_or text 1 0) 0xBB) && eqb (get_or text 2 0) 0xBF)
    || (eqb (get_or text 0 0) 0xFF && eqb (get_or text 1 0) 0xFE)
    || (eqb (get_or text 0 0) 0xFE && eqb (get_or text 1 0) 0xFF)

-- a blank or a tabulator
abbrev pub is_blank : ℕ → Bool
is_blank byte = eqb byte (code " ") || eqb byte (code "\t")

-- a form that says a CAPCODE
abbrev pub is_said : Result Capcode ℕ → Bool
is_said (Ok c) = true
is_said (Err place) = false

-- a blank: after a correct text, with blanks alone after it (47), or elsewhere (48). Of a line over fifteen bytes the listing keeps only the first sixteen
abbrev pub blank_advice : List ℕ → ℕ → Advised
blank_advice text place =
    pick ((is_said (form_of (take place text)) && all is_blank (drop place text)) && ltb (length text) 16) (say 47) (say 48)

-- the capital of a small letter
abbrev pub capital_of : ℕ → Option ℕ
capital_of byte = pick (leb (code "a") byte && leb byte (code "z")) (Some (byte - 32)) None

-- whether a letter may follow so many digits, if there is one
abbrev pub goes_on_as : ℕ → Option ℕ → Bool
goes_on_as count (Some letter) = letter_goes_on count letter
goes_on_as count None = false

-- a byte that is neither a digit nor a blank: a small letter whose capital could stand there (49), an O among the digits after the letter (50), a
-- letter of CAPCODEs after the wrong digits (51), or any other (52)
abbrev pub letter_advice : List ℕ → ℕ → ℕ → Advised
letter_advice text place byte =
    pick (goes_on_as place (capital_of byte) && before_letter text place) (record { row = 49; letter = capital_of byte })
    (pick ((eqb byte (code "O") || eqb byte (code "o")) && not (before_letter text place)) (say 50)
    (pick ((standard byte || framed byte) && before_letter text place) (say 51) (say 52)))

-- a byte that is no digit: a byte-order mark (46), a blank, or any other
abbrev pub other_advice : Bool → List ℕ → ℕ → ℕ → Advised
other_advice first text place byte =
    pick (first && is_marked text) (say 46)
    (pick (is_blank byte) (blank_advice text place) (letter_advice text place byte))

-- a text that goes wrong at a place; a digit before the letter is told by its number, 19 or 20
unfoldable pub wrong_advice : Bool → List ℕ → ℕ → Advised
wrong_advice first text place =
    pick (eqb place (length text)) (short_advice text)
    (pick (not (is_digit (get_or text place 0))) (other_advice first text place (get_or text place 0))
    (pick (before_letter text place) (say (number_of (fault_at text place))) (many_advice text place)))

-- by the form of a text; one that says a CAPCODE is told by the number of its refusal, or 0 where nothing is refused
abbrev pub advice_by : Bool → List ℕ → Result Capcode ℕ → Advised
advice_by first text (Ok c) = say (number_told (assigned c))
advice_by first text (Err place) = wrong_advice first text place

-- what a person is told of a text; `first` says that it is the first line of a file
abbrev pub advice_of : Bool → List ℕ → Advised
advice_of first text = advice_by first text (form_of text)
