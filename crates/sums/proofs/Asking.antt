-- All words of a row asked at once: whether each is below a power of two is asked of their bits taken together.
use Rattle.std.proofs.Common.{◌≡◌, ℕ, ◌+◌, ◌/◌, ◌^◌, ◌<◌, ◌≤◌, sym, nat_eq, Bool, true, false, ◌&&◌, ltb, List, length, get_or, drop, refl, arith, ltb-false, ltb-true, le-ltb, lt-ltb, ◌∙◌}
use borrow.Author.Tests.{eq-eqb, ne_eqb, le-leb}
use native.Mathlib.Nat.{div-eq_of_lt, pow-le-pow_right}
use Rattle.std.proofs.lemmas.Nat.{le-div}
use lib.Dec.{leb}
use lib.Pow.{pow_pos}
use lib.Bits.{bit_or, or_lt, or_add_and, and_le_l, and_le_r}
use Rattle.laws.specs.Numerals.{are_digits}
use Rattle.laws.proofs.Rows.{all_turn}

-- two numbers taken together are below a power of two exactly if both are
or_below : (k a b : ℕ) → ltb (bit_or a b) (2 ^ k) ≡ (ltb a (2 ^ k) && ltb b (2 ^ k))
or_below k a b = by_tests (ltb a (2 ^ k)) (ltb b (2 ^ k)) refl refl
  where
    by_tests : (x y : Bool) → ltb a (2 ^ k) ≡ x → ltb b (2 ^ k) ≡ y → ltb (bit_or a b) (2 ^ k) ≡ (x && y)
    by_tests true true e f = lt-ltb (bit_or a b) (2 ^ k) (or_lt k a b (ltb-true a (2 ^ k) e) (ltb-true b (2 ^ k) f))
    by_tests true false e f = le-ltb (bit_or a b) (2 ^ k) (omega (arith, ltb-false b (2 ^ k) f, or_add_and a b, and_le_l a b))
    by_tests false y e f = le-ltb (bit_or a b) (2 ^ k) (omega (arith, ltb-false a (2 ^ k) e, or_add_and a b, and_le_r a b))

module _ (k : ℕ) (row : List ℕ) (bits i : ℕ) where
  -- one turn: the number there is asked with those before it
  pub asked_more : i < length row
      → (ltb (bit_or bits (get_or row i 0)) (2 ^ k) && are_digits (2 ^ k) (drop (i + 1) row)) ≡ (ltb bits (2 ^ k) && are_digits (2 ^ k) (drop i row))
  asked_more within = rw (or_below k bits (get_or row i 0)) (all_turn (λ digit. ltb digit (2 ^ k)) row i (ltb bits (2 ^ k)) within)

-- a number fits so many bits exactly if nothing is left of it without them
pub nothing_left : (k n : ℕ) → nat_eq (n / 2 ^ k) 0 ≡ ltb n (2 ^ k)
nothing_left k n = by_test (ltb n (2 ^ k)) refl
  where
    by_test : (fits : Bool) → ltb n (2 ^ k) ≡ fits → nat_eq (n / 2 ^ k) 0 ≡ fits
    by_test true e = eq-eqb (n / 2 ^ k) 0 (div-eq_of_lt (ltb-true n (2 ^ k) e))
    by_test false e =
        let some : 1 ≤ n / 2 ^ k = le-div 1 n (2 ^ k) (pow_pos k) (omega (arith, ltb-false n (2 ^ k) e)) in
        ne_eqb (n / 2 ^ k) 0 (λ none. omega arith)

-- a number of 32 bits fits any more
pub wide_fits : (k n : ℕ) → 32 ≤ k → n < 2 ^ 32 → leb 32 k ≡ ltb n (2 ^ k)
wide_fits k n wide fits =
    let far : 2 ^ 32 ≤ 2 ^ k = pow-le-pow_right (omega arith) wide in
    le-leb 32 k wide ∙ sym (lt-ltb n (2 ^ k) (omega arith))
