-- The two numbers of a text, before and after the letter: those of a sayable CAPCODE go on at each digit, and those that go on are of a sayable one.
use Prim.Native.Nat.{ℕ, zero, suc, ◌+◌, ◌*◌, ◌/◌, ◌%◌, ◌^◌, ◌≤◌, ◌<◌}
use mathlib.Core.Bool.{Bool, true, false, ◌&&◌, ◌||◌, and-false}
use mathlib.Core.Path.{◌≡◌, refl, sym, ap, ◌∙◌}
use mathlib.Core.Logic.{◌⊎◌, inl, inr}
use native.Mathlib.Nat.{pow-suc}
use native.Mathlib.Omega.{arith}
use lib.Dec.{leb, eqb}
use borrow.Author.Tests.{leb-true, leb-false, eqb-true, eqb-false, le-leb, lt-leb, eq-eqb, ne_eqb}
use Rattle.laws.specs.Choice.{pick}
use Rattle.capcode.specs.declared.Capcode.{Capcode}
use Rattle.capcode.specs.Assigned.{standard, framed, fields_fit}
use Rattle.capcode.specs.Text.{digits, last_of_seven, width_of, head_of, head_width, Sayable}
use Rattle.capcode.specs.Reads.{head_goes_on, letter_goes_on, address_goes_on}
use Rattle.capcode.specs.Underway.{Digits}
use Rattle.capcode.proofs.Sound.{one_digit, head_frame}
use Rattle.capcode.proofs.Writes.{head_digits}
use Rattle.laws.proofs.Tests.{first_of, second_of, other_of, either_of, only}

-- a letter U to Z is none of A to L
framed_only : (letter : ℕ) → framed letter ≡ true → standard letter ≡ false
framed_only letter e =
    let high : 85 ≤ letter = leb-true 85 letter (first_of _ _ e) in
    rw (lt-leb letter 76 (omega arith)) (and-false (leb 65 letter))

-- which letters may follow how many digits
pub data Lettered : ℕ → ℕ → Type 0 where
  none : {letter : ℕ} → standard letter ≡ true → Lettered 0 letter
  one : {letter : ℕ} → standard letter ≡ true → Lettered 1 letter
  four : {letter : ℕ} → framed letter ≡ true → Lettered 4 letter

-- none or one digit
lettered-few : (count letter : ℕ) → standard letter ≡ true → (eqb count 0 ≡ true) ⊎ (eqb count 1 ≡ true) → Lettered count letter
lettered-few count letter s (inl e) = rw (eqb-true count 0 e) (none s)
lettered-few count letter s (inr e) = rw (eqb-true count 1 e) (one s)

-- none, one or four
lettered-by : (count letter : ℕ) → (((eqb count 0 || eqb count 1) && standard letter) ≡ true) ⊎ ((eqb count 4 && framed letter) ≡ true) → Lettered count letter
lettered-by count letter (inl few) =
    lettered-few count letter (second_of (eqb count 0 || eqb count 1) _ few) (either_of (eqb count 0) (eqb count 1) (first_of _ (standard letter) few))
lettered-by count letter (inr many) = rw (eqb-true count 4 (first_of _ _ many)) (four (second_of (eqb count 4) _ many))

-- a letter that goes on is one of these
pub lettered : (count letter : ℕ) → letter_goes_on count letter ≡ true → Lettered count letter
lettered count letter e = lettered-by count letter (either_of _ _ e)

-- the digits before the letter of a CAPCODE
pub record Head (c : Capcode) (width number : ℕ) : Type 0 where
  pub written : head_of c ≡ digits width number
  pub goes_on_lem : Digits head_goes_on width number
  pub letter : letter_goes_on width c.letter ≡ true
  pub frame : pick (eqb width 4) (number / 10) 0 ≡ c.frame
  pub collapse : pick (eqb width 0) 4 (number % 10) ≡ c.collapse

-- one digit that is no 4 goes on
head_one : (number : ℕ) (low : Bool) → leb number 3 ≡ low → number ≤ 5 → (number ≡ 4 → ⊥) → head_goes_on 1 number ≡ true
head_one number true low small other = rw low
head_one number false low small other =
    let high = leb-false number 3 low in
    let five : number ≡ 5 = omega arith in
    rw (low, eq-eqb number 5 five)

module _ (c : Capcode) (sayable : Sayable c) where
  -- the collapse is 5 at most
  collapse_upto : c.collapse ≤ 5
  collapse_upto = leb-true c.collapse 5 (first_of _ _ sayable.fields)

  -- the frame is 0 with A to L
  frame_none : standard c.letter ≡ true → c.frame ≡ 0
  frame_none s = eqb-true c.frame 0 (rw s at (second_of (leb c.collapse 5) _ sayable.fields))

  -- and 127 at most with U to Z
  frame_upto : standard c.letter ≡ false → c.frame ≤ 127
  frame_upto s = leb-true c.frame 127 (rw s at (second_of (leb c.collapse 5) _ sayable.fields))

  -- the digits before the letter, by the letter and whether the collapse is 4
  head_by : (is-standard is-four : Bool) → standard c.letter ≡ is-standard → eqb c.collapse 4 ≡ is-four
      → Head c (pick is-standard (pick is-four 0 1) 4) (pick is-standard (pick is-four 0 c.collapse) (c.frame * 10 + c.collapse))
  unfolding digits
  head_by true true s f =
      record {
        written = rw (s, f);
        goes_on_lem = refl;
        letter = rw s;
        frame = sym (frame_none s);
        collapse = sym (eqb-true c.collapse 4 f);
      }
  head_by true false s f =
      let small = collapse_upto in
      record {
        written = rw (s, f);
        goes_on_lem = (head_one c.collapse _ refl small (eqb-false c.collapse 4 f), omega arith);
        letter = rw s;
        frame = sym (frame_none s);
        collapse = omega arith;
      }
  head_by false is-four s f =
      let number = c.frame * 10 + c.collapse in
      let small = collapse_upto in
      let frame = frame_upto s in
      let width : head_width c ≡ 4 = rw s in
      record {
        written = head_digits c (omega arith) ∙ ap (λ (w : ℕ). digits w number) width;
        goes_on_lem = (
          le-leb (number % 10) 5 (omega arith),
          (
            rw (le-leb (number / 10) 127 (omega arith)),
            (rw (le-leb (number / 10 / 10) 12 (omega arith)), (rw (le-leb (number / 10 / 10 / 10) 3 (omega arith)), omega arith)),
          ),
        );
        letter = other_of _ _ sayable.letter s;
        frame = omega arith;
        collapse = omega arith;
      }

  -- the digits before the letter of a sayable CAPCODE
  pub head_of_lem : Head c (head_width c) (pick (standard c.letter) (pick (eqb c.collapse 4) 0 c.collapse) (c.frame * 10 + c.collapse))
  head_of_lem = head_by _ _ refl refl

-- what is known of a CAPCODE from the digits before its letter
pub record Headed (c : Capcode) (width number : ℕ) : Type 0 where
  pub written : head_of c ≡ digits width number
  pub letter : (standard c.letter || framed c.letter) ≡ true
  pub fields : fields_fit c ≡ true

-- digits that go on, with a letter that may follow them, are those of the CAPCODE that they say
pub headed : (c : Capcode) {width : ℕ} (number : ℕ) → Lettered width c.letter → Digits head_goes_on width number
    → pick (eqb width 4) (number / 10) 0 ≡ c.frame → pick (eqb width 0) 4 (number % 10) ≡ c.collapse → Headed c width number
unfolding digits
headed c number (none s) goes_on_lem frame collapse =
    record {
      written = rw (s, eq-eqb c.collapse 4 (sym collapse));
      letter = rw s;
      fields = rw (s, le-leb c.collapse 5 (omega arith), eq-eqb c.frame 0 (sym frame));
    }
headed c number (one s) goes_on_lem frame collapse =
    let low = one_digit number (only _ goes_on_lem.0) in
    let zero : number / 10 ≡ 0 = goes_on_lem.1 in
    let same : c.collapse ≡ number = omega arith in
    let other : c.collapse ≡ 4 → ⊥ = λ is-four. low.1 (sym same ∙ is-four) in
    record {
      written = rw (s, ne_eqb c.collapse 4 other, same);
      letter = rw s;
      fields = rw (s, le-leb c.collapse 5 (omega arith), eq-eqb c.frame 0 (sym frame));
    }
headed c number (four f) goes_on_lem frame collapse =
    let s = framed_only c.letter f in
    let small : number % 10 ≤ 5 = leb-true (number % 10) 5 goes_on_lem.0 in
    let few : number / 10 ≤ 127 = head_frame 3 (number / 10) goes_on_lem.1 (omega arith) in
    let last : c.collapse % 10 ≡ number % 10 = omega arith in
    record {
      written = rw (s, ← frame, last);
      letter = rw (s, f);
      fields = rw (s, le-leb c.collapse 5 (omega arith), le-leb c.frame 127 (omega arith));
    }

-- an address of so many digits at which a text may end
pub record Ended (address width : ℕ) : Type 0 where
  pub goes_on_lem : Digits address_goes_on width address
  pub whole : ((eqb width 7 && leb address last_of_seven) || eqb width 10) ≡ true

-- up to seven digits go on, whatever they are
address_few : (n number : ℕ) → n ≤ 7 → number < 10 ^ n → Digits address_goes_on n number
address_few zero number few below = omega arith
address_few (suc n) number few below =
    let power : 10 ^ suc n ≡ 10 ^ n * 10 = pow-suc 10 n in
    let less : number / 10 < 10 ^ n = omega arith in
    (rw (le-leb (suc n) 7 few), address_few n (number / 10) (omega arith) less)

-- an address of ten digits at most ends at its width
ended_by : (address : ℕ) (small : Bool) → leb address last_of_seven ≡ small → address < 10 ^ 10 → Ended address (pick small 7 10)
ended_by address true small below =
    let upto = leb-true address last_of_seven small in
    record { goes_on_lem = address_few 7 address (omega arith) (omega arith); whole = rw small }
ended_by address false small below =
    let over = leb-false address last_of_seven small in
    record {
      goes_on_lem = (
        le-leb 2031615 address (omega arith),
        (
          rw (le-leb 203161 (address / 10) (omega arith)),
          (rw (le-leb 20316 (address / 10 / 10) (omega arith)), address_few 7 (address / 10 / 10 / 10) (omega arith) (omega arith)),
        ),
      );
      whole = refl;
    }

pub ended : (address : ℕ) → address < 10 ^ 10 → Ended address (width_of address)
ended address below = ended_by address _ refl below

-- seven digits or ten: the width of the address that they are
width_by : (address width : ℕ) → Digits address_goes_on width address
    → ((eqb width 7 && leb address last_of_seven) ≡ true) ⊎ (eqb width 10 ≡ true) → width_of address ≡ width
width_by address width goes_on_lem (inl e) = rw (second_of (eqb width 7) _ e) (sym (eqb-true width 7 (first_of _ _ e)))
width_by address width goes_on_lem (inr e) =
    let ten : width ≡ 10 = eqb-true width 10 e in
    let over : leb 2031615 address ≡ true = (rw ten at goes_on_lem).0 in
    let more = leb-true 2031615 address over in
    rw (lt-leb address last_of_seven (omega arith)) (sym ten)

pub width_of_lem : (address width : ℕ) → Ended address width → width_of address ≡ width
width_of_lem address width e = width_by address width e.goes_on_lem (either_of (eqb width 7 && leb address last_of_seven) _ e.whole)
