-- A slot that was found: the library's search is this repository's, and a slot that was found is within the row.
use Prim.Native.Nat.{ℕ, suc, ◌+◌, ◌<◌}
use mathlib.Core.Bool.{Bool, true, false, not, cond}
use mathlib.Core.List.{List, [], ◌∷◌}
use mathlib.Core.Path.{◌≡◌, refl, sym, ap}
use native.Mathlib.Omega.{arith}
use borrow.Author.Tests.{ltb-true, ltb-false}
use lib.Dec.{ltb}
use lib.ListN.{length, set}
use lib.Seq.{set_out}
use Rattle.std.specs.Prelude.{Option, Some, None}
use Rattle.std.specs.List.{position_or_len}
use Rattle.std.specs.Option.{is_some}
use Rattle.laws.specs.Choice.{pick}
use Rattle.laws.specs.Lists.{first_that}
use Rattle.chain.specs.declared.Chain.{Chain}
use Rattle.chain.specs.Chains.{found}

-- the place of the first that passes a test, as the library has it
first_is : (test : Chain → Bool) (row : List Chain) → position_or_len test row ≡ first_that test row
unfolding first_that
first_is test [] = refl
first_is test (c ∷ row) = by_test (test c) (first_is test row)
  where
    by_test : (good : Bool) → position_or_len test row ≡ first_that test row
        → cond (not good) (1 + position_or_len test row) 0 ≡ pick good 0 (suc (first_that test row))
    by_test true later = refl
    by_test false later = omega (arith, later)

-- what the library's search answers
pub search_is : (test : Chain → Bool) (row : List Chain)
    → cond (ltb (position_or_len test row) (length row)) (Some (position_or_len test row)) None ≡ found row (first_that test row)
search_is test row = rw (first_is test row) (by_test (ltb (first_that test row) (length row)))
  where
    by_test : (there : Bool) → cond there (Some (first_that test row)) None ≡ pick there (Some (first_that test row)) None
    by_test true = refl
    by_test false = refl

-- whether a slot was found
pub some_found : (row : List Chain) (place : ℕ) → is_some (found row place) ≡ ltb place (length row)
some_found row place = by_test (ltb place (length row))
  where
    by_test : (there : Bool) → is_some (pick there (Some place) None) ≡ there
    by_test true = refl
    by_test false = refl

-- a slot that was found is the one where the search ended, within the row
pub found_slot : (row : List Chain) (place slot : ℕ) → Some slot ≡ found row place → (slot ≡ place) × (slot < length row)
found_slot row place slot = by_test (ltb place (length row)) refl
  where
    by_test : (there : Bool) → ltb place (length row) ≡ there → Some slot ≡ pick there (Some place) None → (slot ≡ place) × (slot < length row)
    by_test true within is = let same : slot ≡ place = cc in (same, rw same (ltb-true place (length row) within))
    by_test false out is = absurd (cc)

-- where none was found the search ended past the row
pub found_none : (row : List Chain) (place : ℕ) → None ≡ found row place → ltb place (length row) ≡ false
found_none row place = by_test (ltb place (length row))
  where
    by_test : (there : Bool) → None ≡ pick there (Some place) None → there ≡ false
    by_test true is = absurd (cc)
    by_test false is = refl

-- a row as it was, and stored at a place past its end
pub none_set : (row : List Chain) (place : ℕ) (c : Chain) → None ≡ found row place → row ≡ set row place c
none_set row place c is = sym (set_out row place c (ltb-false place (length row) (found_none row place is)))

-- the same, where it is only known that no slot was found
pub unfound_set : (row : List Chain) (place : ℕ) (c : Chain) (slot : Option ℕ) → ((k : ℕ) → slot ≡ Some k → ⊥) → slot ≡ found row place → row ≡ set row place c
unfound_set row place c (Some k) none is = absurd (none k refl)
unfound_set row place c None none is = none_set row place c is

-- what is found in a row is found in another that is as long
pub found_alike : (row other : List Chain) (place : ℕ) → length row ≡ length other → found row place ≡ found other place
found_alike row other place long = ap (λ (n : ℕ). pick (ltb place n) (Some place) None) long
