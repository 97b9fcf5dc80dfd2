-- One byte of a reading, by what the byte is and whether the letter has come.
use Rattle.std.specs.Prelude.{Some, None}
use Prim.Native.Nat.{ℕ, ◌+◌, ◌-◌, ◌*◌, ◌≤◌}
use mathlib.Core.Bool.{Bool, true, false}
use mathlib.Core.Path.{◌≡◌, refl, ap, ◌∙◌}
use native.Mathlib.Omega.{arith}
use lib.Dec.{leb, eqb}
use borrow.Author.Tests.{eq-eqb, ne_eqb, eqb-true, eqb-false, leb-true}
use Rattle.capcode.specs.declared.reading.Reading.{Reading}
use Rattle.capcode.specs.Reads.{is_digit, head_goes_on, letter_goes_on, address_goes_on, go_on, with_head, with_letter}
use Rattle.capcode.specs.Reads.{with_address, head_digit, the_letter, address_digit, step_of}
use Rattle.laws.proofs.Tests.{first_of, second_of}

module _ (s : Reading) (byte : ℕ) where
  -- a digit before the letter
  pub step_head : is_digit byte ≡ true → s.letter ≡ 0 → head_digit s (byte - 48) ≡ step_of s byte
  unfolding step_of
  step_head digit none = rw (eq-eqb _ _ none, digit)

  -- no digit, and no letter yet
  pub step_letter : is_digit byte ≡ false → s.letter ≡ 0 → the_letter s byte ≡ step_of s byte
  unfolding step_of
  step_letter digit none = rw (eq-eqb _ _ none, digit)

  -- a digit after the letter
  pub step_address : is_digit byte ≡ true → (s.letter ≡ 0 → ⊥) → address_digit s (byte - 48) ≡ step_of s byte
  unfolding step_of
  step_address digit some = rw (ne_eqb _ _ some, digit)

  -- no digit after the letter
  pub step_stop : is_digit byte ≡ false → (s.letter ≡ 0 → ⊥) → None ≡ step_of s byte
  unfolding step_of
  step_stop digit some = rw (ne_eqb _ _ some, digit)

-- a digit's byte is 48 or more
pub digit_from : (byte : ℕ) → is_digit byte ≡ true → 48 ≤ byte
digit_from byte e = leb-true 48 byte (first_of _ _ e)

-- and at most 57
pub digit_to : (byte : ℕ) → is_digit byte ≡ true → byte ≤ 57
digit_to byte e = leb-true byte 57 (second_of (leb 48 byte) _ e)

-- a reading that went on passed its test
went_on : (test : Bool) (u t : Reading) → go_on test u ≡ Some t → (test ≡ true) × (u ≡ t)
went_on true u t e = (refl, cc)
went_on false u t e = absurd (let no : ◌≡◌ {A = ℕ} 0 1 = cc in omega arith)

-- how a reading goes on with a byte: a digit before the letter, the letter, or a digit after it
pub data Stepped (s : Reading) (byte : ℕ) (t : Reading) : Type 0 where
  by_head : is_digit byte ≡ true → s.letter ≡ 0 → head_goes_on (s.before + 1) (s.number * 10 + (byte - 48)) ≡ true
      → with_head s (byte - 48) ≡ t → Stepped s byte t
  by_letter : s.letter ≡ 0 → letter_goes_on s.before byte ≡ true → with_letter s byte ≡ t → Stepped s byte t
  by_address : is_digit byte ≡ true → (s.letter ≡ 0 → ⊥)
      → address_goes_on (s.after + 1) (s.address * 10 + (byte - 48)) ≡ true → with_address s (byte - 48) ≡ t
      → Stepped s byte t

stepped_by : (s t : Reading) (byte : ℕ) (digit none : Bool) → is_digit byte ≡ digit → eqb s.letter 0 ≡ none → step_of s byte ≡ Some t → Stepped s byte t
stepped_by s t byte true true digit none e =
    let before = eqb-true s.letter 0 none in
    let went = went_on (head_goes_on (s.before + 1) (s.number * 10 + (byte - 48))) (with_head s (byte - 48)) t (step_head s byte digit before ∙ e) in
    by_head digit before went.0 went.1
stepped_by s t byte true false digit none e =
    let lettered = eqb-false s.letter 0 none in
    let went = went_on (address_goes_on (s.after + 1) (s.address * 10 + (byte - 48))) (with_address s (byte - 48)) t (step_address s byte digit lettered ∙ e) in
    by_address digit lettered went.0 went.1
stepped_by s t byte false true digit none e =
    let before = eqb-true s.letter 0 none in
    let went = went_on (letter_goes_on s.before byte) (with_letter s byte) t (step_letter s byte digit before ∙ e) in
    by_letter before went.0 went.1
stepped_by s t byte false false digit none e =
    absurd (let no : ◌≡◌ {A = ℕ} 0 1 = cc (step_stop s byte digit (eqb-false s.letter 0 none) ∙ e) in omega arith)

-- a reading goes on in one of these ways
pub stepped : (s t : Reading) (byte : ℕ) → step_of s byte ≡ Some t → Stepped s byte t
stepped s t byte = stepped_by s t byte _ _ refl refl

-- each way to go on keeps the letter of a reading that has one
after_by : (s t : Reading) (byte : ℕ) → (s.letter ≡ 0 → ⊥) → Stepped s byte t → t.letter ≡ 0 → ⊥
after_by s t byte some (by_head digit none goes_on_lem same) zero = some none
after_by s t byte some (by_letter none goes_on_lem same) zero = some none
after_by s t byte some (by_address digit lettered goes_on_lem same) zero = some (ap (λ (u : Reading). u.letter) same ∙ zero)

-- a reading after its letter stays there
pub step_after : (s t : Reading) (byte : ℕ) → (s.letter ≡ 0 → ⊥) → step_of s byte ≡ Some t → t.letter ≡ 0 → ⊥
step_after s t byte some e = after_by s t byte some (stepped s t byte e)

-- the number of a digit's byte
pub digit_small : (byte : ℕ) → is_digit byte ≡ true → byte - 48 ≤ 9
digit_small byte digit = omega (arith, digit_from byte digit, digit_to byte digit)
