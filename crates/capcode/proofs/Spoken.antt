-- The text of a sayable CAPCODE is read as that CAPCODE.
use Rattle.std.specs.Prelude.{Option, Some, Ok}
use Prim.Native.Nat.{ℕ, zero, suc, ◌+◌, ◌-◌, ◌*◌, ◌/◌, ◌%◌, ◌≤◌}
use mathlib.Core.Bool.{Bool, true, false}
use mathlib.Core.Path.{◌≡◌, refl, sym, ap, ◌∙◌}
use mathlib.Core.List.{List, [], ◌∷◌, ◌++◌}
use native.Mathlib.Nat.{add-zero, add-suc}
use native.Mathlib.Numerals.{add-one}
use native.Mathlib.Omega.{arith}
use borrow.Author.Tests.{leb-true, le-leb, lt-leb, ne_eqb}
use Rattle.capcode.specs.declared.Capcode.{Capcode}
use Rattle.capcode.specs.declared.reading.Reading.{Reading}
use Rattle.capcode.specs.Text.{digits, width_of, head_of, text_of, Sayable}
use Rattle.capcode.specs.Reads.{is_digit, head_goes_on, letter_goes_on, address_goes_on, with_letter, step_of, Course}
use Rattle.capcode.specs.Reads.{going, takes, onward, follow, blank, end_of, form_of}
use Rattle.capcode.specs.Underway.{Digits}
use Rattle.capcode.proofs.Steps.{step_head, step_letter, step_address}
use Rattle.capcode.proofs.Parts.{Lettered, none, one, four, lettered, Head, head_of_lem, Ended, ended}
use Rattle.laws.proofs.Tests.{first_of}

-- a course over two texts, one after the other
pub follow_append : (course : Course) (text more : List ℕ) → follow course (text ++ more) ≡ follow (follow course text) more
unfolding follow
follow_append course [] more = refl
follow_append course (byte ∷ text) more = follow_append (takes course byte) text more

-- the byte of a digit is one
pub digit_byte : (digit : ℕ) → digit ≤ 9 → is_digit (48 + digit) ≡ true
digit_byte digit small = rw (le-leb 48 (48 + digit) (omega arith), le-leb (48 + digit) 57 (omega arith))

-- digits that go on are taken one by one; `at` is where the reading stands after so many of a number
module _ (goes_on : ℕ → ℕ → Bool) (at : ℕ → ℕ → Reading)
    (steps :
    (n number digit : ℕ) → digit ≤ 9 → goes_on (suc n) (number * 10 + digit) ≡ true
    → step_of (at n number) (48 + digit) ≡ Some (at (suc n) (number * 10 + digit)))
    (place : ℕ) where
  pub taken : (n number : ℕ) → Digits goes_on n number → follow (going place (at 0 0)) (digits n number) ≡ going (place + n) (at n number)
  unfolding digits follow
  taken zero number e = rw (e, add-zero)
  taken (suc n) number e =
      let back : number / 10 * 10 + number % 10 ≡ number = omega arith in
      let step = steps n (number / 10) (number % 10) (omega arith) (rw back e.0) in
      follow_append (going place (at 0 0)) (digits n (number / 10)) _ ∙ rw (taken n (number / 10) e.1, step, back, add-suc)

-- where a reading stands after so many digits before the letter
abbrev head_at : ℕ → ℕ → Reading
head_at n number = record { before = n; number = number; letter = 0; after = 0; address = 0 }

-- and after so many after it
abbrev address_at : Reading → ℕ → ℕ → Reading
address_at s n number = record { before = s.before; number = s.number; letter = s.letter; after = n; address = number }

-- a digit before the letter that goes on
head_steps : (n number digit : ℕ) → digit ≤ 9 → head_goes_on (suc n) (number * 10 + digit) ≡ true
    → step_of (head_at n number) (48 + digit) ≡ Some (head_at (suc n) (number * 10 + digit))
head_steps n number digit small e =
    let back : 48 + digit - 48 ≡ digit = omega arith in
    sym (step_head (head_at n number) (48 + digit) (digit_byte digit small) refl) ∙ rw (back, add-one, e)

-- and one after it
address_steps : (s : Reading) → (s.letter ≡ 0 → ⊥) → (n number digit : ℕ) → digit ≤ 9
    → address_goes_on (suc n) (number * 10 + digit) ≡ true
    → step_of (address_at s n number) (48 + digit) ≡ Some (address_at s (suc n) (number * 10 + digit))
address_steps s some n number digit small e =
    let back : 48 + digit - 48 ≡ digit = omega arith in
    sym (step_address (address_at s n number) (48 + digit) (digit_byte digit small) some) ∙ rw (back, add-one, e)

-- a letter is no digit, and not 0
pub letter_high : (count letter : ℕ) → Lettered count letter → 65 ≤ letter
letter_high _ letter (none s) = leb-true 65 letter (first_of _ _ s)
letter_high _ letter (one s) = leb-true 65 letter (first_of _ _ s)
letter_high _ letter (four f) =
    let high = leb-true 85 letter (first_of _ _ f) in
    omega arith

-- a letter that may follow is taken
letter-step : (n number letter : ℕ) → letter_goes_on n letter ≡ true → step_of (head_at n number) letter ≡ Some (with_letter (head_at n number) letter)
letter-step n number letter e =
    let high = letter_high n letter (lettered n letter e) in
    let other : is_digit letter ≡ false = rw (le-leb 48 letter (omega arith), lt-leb letter 57 (omega arith)) in
    sym (step_letter (head_at n number) letter other refl) ∙ rw e

module _ (c : Capcode) (width number : ℕ) (head : Head c width number) (end : Ended c.address (width_of c.address)) where
  -- a letter has come
  some : c.letter ≡ 0 → ⊥
  some e =
      let high = letter_high width c.letter (lettered width c.letter head.letter) in
      omega arith

  -- the reading of the whole text
  course : follow (going 0 blank) (text_of c)
      ≡ going (suc (0 + width) + width_of c.address) (address_at (with_letter (head_at width number) c.letter) (width_of c.address) c.address)
  unfolding text_of follow
  course =
      let there = with_letter (head_at width number) c.letter in
      let rest = digits (width_of c.address) c.address in
      let first : follow (going 0 blank) (head_of c) ≡ going (0 + width) (head_at width number) =
      ap (follow (going 0 blank)) head.written ∙ taken head_goes_on head_at head_steps 0 width number head.goes_on_lem in
      follow_append (going 0 blank) (head_of c) (c.letter ∷ rest)
      ∙ ap (λ (x : Course). follow x (c.letter ∷ rest)) first
      ∙ ap (λ (x : Option Reading). follow (onward (0 + width) x) rest) (letter-step width number c.letter head.letter)
      ∙ taken address_goes_on (address_at there) (address_steps there some) (suc (0 + width)) (width_of c.address) c.address end.goes_on_lem

  -- it says the CAPCODE
  pub spoken : form_of (text_of c) ≡ Ok c
  unfolding form_of
  spoken = ap end_of course ∙ rw (ne_eqb c.letter 0 some, end.whole, head.frame, head.collapse)

-- a text of a sayable CAPCODE says it
pub read_of_printed : (c : Capcode) → Sayable c → form_of (text_of c) ≡ Ok c
read_of_printed c sayable = spoken c _ _ (head_of_lem c sayable) (ended c.address sayable.address)
