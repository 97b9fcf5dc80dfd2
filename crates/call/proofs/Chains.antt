-- The searches of the library are those of the definitions; and a loop from the last of a row to the first, turn by turn.
use Prim.Native.Nat.{ℕ, suc, ◌+◌, ◌-◌, ◌<◌, ◌≤◌}
use mathlib.Core.Bool.{Bool, true, false, not, cond, ◌||◌}
use mathlib.Core.List.{List, [], ◌∷◌, reverse}
use mathlib.Core.Logic.{⊎_elim}
use mathlib.Core.Path.{◌≡◌, refl, sym, ap, ◌∙◌}
use native.Mathlib.Omega.{arith}
use borrow.Author.Tests.{ltb-true, ltb-false}
use lib.Dec.{ltb}
use lib.ListN.{length, get_or, drop}
use lib.Seq.{drop-cons}
use Rattle.std.specs.Prelude.{Option, Some, None}
use Rattle.std.specs.List.{list_any, filter, position_or_len, position}
use Rattle.std.proofs.lemmas.List.{length-reverse, get_or-reverse}
use Rattle.laws.specs.Choice.{pick}
use Rattle.laws.specs.Lists.{first_that, any_of, those}
use Rattle.laws.proofs.Tests.{decided, not_both}
use Rattle.call.specs.Calls.{found}

add_first : (n : ℕ) → 1 + n ≡ suc n
add_first n = omega arith

module _ {A : Type 0} (test : A → Bool) where
  -- how many are passed before the first that passes a test
  prefix_first : (row : List A) → position_or_len test row ≡ first_that test row
  unfolding first_that
  prefix_first [] = refl
  prefix_first (x ∷ row) = ap (λ (n : ℕ). cond (not (test x)) (1 + n) 0) (prefix_first row) ∙ by_test (test x)
    where
      by_test : (b : Bool) → cond (not b) (1 + first_that test row) 0 ≡ pick b 0 (suc (first_that test row))
      by_test true = refl
      by_test false = add_first (first_that test row)

  -- `position`
  pub position_found : (row : List A) → position test row ≡ found (first_that test row) (length row)
  position_found row = rw (prefix_first row) (by_test (ltb (first_that test row) (length row)) (first_that test row))
    where
      by_test : (b : Bool) (n : ℕ) → cond b (Some n) None ≡ pick b (Some n) None
      by_test true n = refl
      by_test false n = refl

  -- `any`
  pub any_any : (row : List A) → list_any test row ≡ any_of test row
  unfolding any_of
  any_any [] = refl
  any_any (x ∷ row) = ap (λ (so : Bool). test x || so) (any_any row)

  -- `filter`
  pub filter_those : (row : List A) → filter test row ≡ those test row
  unfolding those
  filter_those [] = refl
  filter_those (x ∷ row) = rw (filter_those row) (by_test (test x))
    where
      by_test : (b : Bool) → cond b (x ∷ those test row) (those test row) ≡ pick b (x ∷ those test row) (those test row)
      by_test true = refl
      by_test false = refl

module _ {A : Type 0} where
  -- a turn of a loop from the last to the first: what is left is one shorter, and what was met one longer
  pub turn_back : (row : List A) (n : ℕ) (x d : A) → (n < length (reverse row)) × (x ≡ get_or (reverse row) n x)
      → (n < length row) × (drop (length row - (n + 1)) row ≡ x ∷ drop (length row - n) row)
  turn_back row n x d turn =
      let long = length-reverse row in
      let within : n < length row = omega (arith, long, turn.0) in
      let here : get_or row (length row - 1 - n) x ≡ x = sym (turn.1 ∙ get_or-reverse row n x within) in
      let at : length row - (n + 1) ≡ length row - 1 - n = omega arith in
      let next : suc (length row - 1 - n) ≡ length row - n = omega (arith, within) in
      (within, rw at (drop-cons row (length row - 1 - n) x (omega (arith, within)) ∙ rw (here, next)))

  -- when each was met, what is left to meet is nothing, and what was met is the row
  pub met_all : (row : List A) (n : ℕ) → n ≡ length (reverse row) → drop (length row - n) row ≡ row
  met_all row n all =
      let none : length row - n ≡ 0 = omega (arith, all, length-reverse row) in
      rw none refl

-- ---- what a search answers

-- whether a place is found, and which
abbrev is_found : Option ℕ → Bool
is_found None = false
is_found (Some place) = true

abbrev place_found : Option ℕ → ℕ
place_found None = 0
place_found (Some place) = place

-- a place that is found is the one that was searched for, and within the row
pub found_some : (place count it : ℕ) → Some it ≡ found place count → (it ≡ place) × (place < count)
found_some place count it is =
    ⊎_elim
    (λ near. (ap place_found is ∙ rw near, ltb-true place count near))
    (λ far. absurd (not_both true refl (ap is_found is ∙ rw far)))
    (decided (ltb place count))

-- where none is found, the place that was searched for is past the row
pub found_no : (place count : ℕ) → None ≡ found place count → count ≤ place
found_no place count is =
    ⊎_elim
    (λ near. absurd (not_both true refl (sym (ap is_found is ∙ rw near))))
    (λ far. ltb-false place count far)
    (decided (ltb place count))
