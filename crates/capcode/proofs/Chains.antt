-- What a chain of iterators answers, by the words of our definitions.
use Prim.Native.Nat.{ℕ, ◌<◌}
use Rattle.std.specs.List.{list_all, AllWithin, HoldsAt}
use Rattle.std.specs.Option.{MatchOption, unwrap_or}
use Rattle.std.specs.declared.option.Option.{Option}
use Rattle.std.proofs.lemmas.Iterator.{index_from_first}
use lib.ListN.{length}
use mathlib.Core.Bool.{Bool, true, false, ◌&&◌}
use mathlib.Core.List.{List, [], ◌∷◌}
use mathlib.Core.Path.{◌≡◌, refl, sym, ap}
use native.Mathlib.Numerals.{add-one}
use Rattle.laws.specs.Lists.{all, first_that}

-- `all` of an iterator is that of a row
pub all_is : (test : ℕ → Bool) (row : List ℕ) → list_all test row ≡ all test row
unfolding all
all_is test [] = refl
all_is test (x ∷ row) = ap (◌&&◌ (test x)) (all_is test row)

-- `position` of an iterator, or the row's length where it answers none, is the first place of a row
pub first_is : (test : ℕ → Bool) (row : List ℕ) (found : Option ℕ)
    → MatchOption found (AllWithin (λ x. test x ≡ false) row 0 (length row))
    (λ i. (i < length row) × HoldsAt (λ x. test x ≡ true) row i × AllWithin (λ x. test x ≡ false) row 0 i)
    → unwrap_or found (length row) ≡ first_that test row
unfolding first_that
first_is test row found first =
    sym (index_from_first (first_that test) (λ x. test x ≡ true) (λ x. test x ≡ false) refl
    (λ x xs yes. rw yes) (λ x xs no. rw (no, add-one (first_that test xs))) row found first)
