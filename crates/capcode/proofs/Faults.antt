-- The number of a text that is not in the form, by the byte where it goes wrong.
use Prim.Native.Nat.{ℕ, ◌≤◌, ◌<◌}
use mathlib.Core.Bool.{true, false, ◌&&◌}
use mathlib.Core.Path.{◌≡◌}
use mathlib.Core.List.{List}
use mathlib.Core.Logic.{⊎_elim}
use native.Mathlib.Omega.{arith}
use lib.Dec.{eqb}
use lib.ListN.{length, take, get_or, get_or-eq_default}
use lib.Seq.{take-take, get_or-take, length-take-le}
use borrow.Author.Tests.{eqb-true, eq-eqb, ne_eqb}
use Rattle.laws.proofs.Tests.{decided, not_both, second_of}
use Rattle.refusal.specs.declared.Refusal.TheVariants.{Text, DigitBeforeLetter, LeadingFour, DigitAfterLetter}
use Rattle.capcode.specs.Reads.{is_digit, before_letter, fault_at}

-- a place that lies within the first n bytes of a text has the same number in them
pub fault_within : (text : List ℕ) (n place : ℕ) → place < n → n ≤ length text → fault_at (take n text) place ≡ fault_at text place
unfolding fault_at
fault_within text n place earlier within =
    let short : eqb place (length (take n text)) ≡ false = ne_eqb place _ (λ e. omega (arith, length-take-le n text within)) in
    let long : eqb place (length text) ≡ false = ne_eqb place _ (λ e. omega arith) in
    rw (short, long, get_or-take n text place 0 earlier, take-take place n text (omega arith))

-- ---- the lines of 02, item 1, each with what it asks

-- a 4 is a digit
four_digit : (byte : ℕ) → eqb byte 52 ≡ true → is_digit byte ≡ true
four_digit byte four = rw (eqb-true byte 52 four)

module _ (text : List ℕ) (place : ℕ) where
  -- a 4 at place 0
  pub leading_four : (eqb place 0 && eqb (get_or text place 0) 52) ≡ true → LeadingFour ≡ fault_at text place
  unfolding fault_at
  leading_four four = rw four

  -- a place at which no 4 at the start stands
  module _ (no-four : (eqb place 0 && eqb (get_or text place 0) 52) ≡ false) where
    -- any other digit before the letter
    pub digit_before : is_digit (get_or text place 0) ≡ true → before_letter text place ≡ true → DigitBeforeLetter ≡ fault_at text place
    unfolding fault_at
    digit_before digit before = rw (no-four, digit, before)

    -- a digit after the letter
    pub digit_after : is_digit (get_or text place 0) ≡ true → before_letter text place ≡ false → DigitAfterLetter ≡ fault_at text place
    unfolding fault_at
    digit_after digit after = rw (no-four, digit, after)

  -- a byte that is no digit is no 4
  no_digit_four : is_digit (get_or text place 0) ≡ false → (eqb place 0 && eqb (get_or text place 0) 52) ≡ false
  no_digit_four other =
      ⊎_elim
      (λ (four : (eqb place 0 && eqb (get_or text place 0) 52) ≡ true).
      absurd (not_both (is_digit (get_or text place 0)) (four_digit (get_or text place 0) (second_of (eqb place 0) _ four)) other))
      (λ (none : (eqb place 0 && eqb (get_or text place 0) 52) ≡ false). none)
      (decided (eqb place 0 && eqb (get_or text place 0) 52))

  -- a text that only stops too soon
  pub stops_too_soon : place ≡ length text → DigitAfterLetter ≡ fault_at text place
  unfolding fault_at
  stops_too_soon end =
      let none : get_or text place 0 ≡ 0 = get_or-eq_default text 0 (omega arith) in
      let other : is_digit (get_or text place 0) ≡ false = rw none in
      rw (no_digit_four other, other, eq-eqb place (length text) end)

  -- a byte that is no digit
  pub no_digit : (place ≡ length text → ⊥) → is_digit (get_or text place 0) ≡ false → Text ≡ fault_at text place
  unfolding fault_at
  no_digit within other = rw (no_digit_four other, other, ne_eqb place (length text) within)
