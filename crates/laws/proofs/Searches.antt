-- A search for the first of a row that passes a test: what is found passes, none before it does, and a search that goes from place to place finds it.
use Prim.Native.Nat.{ℕ, zero, suc, ◌+◌, ◌≤◌, ◌<◌}
use mathlib.Core.Bool.{Bool, true, false}
use mathlib.Core.List.{List, [], ◌∷◌}
use mathlib.Core.Logic.{⊎_elim}
use mathlib.Core.Path.{◌≡◌, refl}
use native.Mathlib.Numerals.{add-one}
use native.Mathlib.Omega.{arith}
use borrow.Author.Tests.{lt-ltb, le-ltb, ltb-true, ltb-false}
use lib.Dec.{ltb}
use lib.ListN.{length, get_or, drop, drop_of_length-le}
use lib.Seq.{drop-cons}
use Rattle.laws.specs.Choice.{pick}
use Rattle.laws.specs.Lists.{first_that}
use Rattle.laws.proofs.Tests.{decided, not_both}

module _ {ℓ} {A : Type ℓ} (test : A → Bool) where
  -- nothing is found after the row
  pub first_most : (row : List A) → first_that test row ≤ length row
  unfolding first_that
  first_most [] = omega arith
  first_most (x ∷ row) = by_test (test x) (first_most row)
    where
      by_test : (good : Bool) → first_that test row ≤ length row → pick good 0 (suc (first_that test row)) ≤ suc (length row)
      by_test true most = omega arith
      by_test false most = omega arith

  -- what is found passes
  pub first_passes : (row : List A) (d : A) → first_that test row < length row → test (get_or row (first_that test row) d) ≡ true
  unfolding first_that
  first_passes [] d within = absurd (omega arith)
  first_passes (x ∷ row) d within = by_test (test x) refl (first_passes row d) within
    where
      by_test : (good : Bool) → test x ≡ good → (first_that test row < length row → test (get_or row (first_that test row) d) ≡ true)
          → pick good 0 (suc (first_that test row)) < suc (length row) → test (get_or (x ∷ row) (pick good 0 (suc (first_that test row))) d) ≡ true
      by_test true e rest l = e
      by_test false e rest l = rest (omega arith)

  -- none before the one that is found passes
  pub none_before : (row : List A) (d : A) (k : ℕ) → k < first_that test row → test (get_or row k d) ≡ false
  unfolding first_that
  none_before [] d k before = absurd (omega arith)
  none_before (x ∷ row) d k before = by_test (test x) refl k (none_before row d) before
    where
      by_test : (good : Bool) → test x ≡ good → (k : ℕ) → ((k : ℕ) → k < first_that test row → test (get_or row k d) ≡ false)
          → k < pick good 0 (suc (first_that test row)) → test (get_or (x ∷ row) k d) ≡ false
      by_test true e k rest l = absurd (omega arith)
      by_test false e zero rest l = e
      by_test false e (suc k) rest l = rest k (omega arith)

  -- the first is found no later than any one that passes
  pub found_by : (row : List A) (d : A) (k : ℕ) → k < length row → test (get_or row k d) ≡ true → first_that test row ≤ k
  unfolding first_that
  found_by [] d k within good = absurd (omega arith)
  found_by (x ∷ row) d zero within good = rw good (omega arith)
  found_by (x ∷ row) d (suc k) within good = by_test (test x) (found_by row d k (omega arith) good)
    where
      by_test : (this : Bool) → first_that test row ≤ k → pick this 0 (suc (first_that test row)) ≤ suc k
      by_test true l = omega arith
      by_test false l = omega arith

  -- where none of a row passes, none is found
  pub none_found : (row : List A) (d : A) → ((k : ℕ) → k < length row → test (get_or row k d) ≡ false) → first_that test row ≡ length row
  unfolding first_that
  none_found [] d none = refl
  none_found (x ∷ row) d none = rw (none 0 (omega arith), none_found row d (λ k within. none (suc k) (omega arith)))

  module _ (row : List A) (d : A) where
    -- where one passes, one is found
    pub is_found : (k : ℕ) → k < length row → test (get_or row k d) ≡ true → ltb (first_that test row) (length row) ≡ true
    is_found k within good = lt-ltb (first_that test row) (length row) (omega (arith, found_by row d k within good))

    -- where one is found, it passes
    pub found_passes : ltb (first_that test row) (length row) ≡ true → (first_that test row < length row) × (test (get_or row (first_that test row) d) ≡ true)
    found_passes is =
        let within = ltb-true (first_that test row) (length row) is in
        (within, first_passes row d within)

    -- where none is found, none of the row passes
    pub none_passes : ltb (first_that test row) (length row) ≡ false → (k : ℕ) → k < length row → test (get_or row k d) ≡ false
    none_passes none k within =
        ⊎_elim (λ good. absurd (not_both (ltb (first_that test row) (length row)) (is_found k within good) none)) (λ bad. bad) (decided (test (get_or row k d)))

    -- where none of the row passes, a test says that none is found
    pub is_none : ((k : ℕ) → k < length row → test (get_or row k d) ≡ false) → ltb (first_that test row) (length row) ≡ false
    is_none none = le-ltb (first_that test row) (length row) (omega (arith, none_found row d none))

  -- where none is found, the search ends at the row's end
  pub none_at : (row : List A) → ltb (first_that test row) (length row) ≡ false → first_that test row ≡ length row
  none_at row none = omega (arith, first_most row, ltb-false (first_that test row) (length row) none)

  -- in two rows, as long, that pass it at the same places, the same is found
  pub found_alike : (row other : List A) (d : A) → length row ≡ length other
      → ((k : ℕ) → k < length row → test (get_or row k d) ≡ test (get_or other k d))
      → first_that test row ≡ first_that test other
  unfolding first_that
  found_alike [] [] d long alike = refl
  found_alike [] (y ∷ other) d long alike = absurd (omega arith)
  found_alike (x ∷ row) [] d long alike = absurd (omega arith)
  found_alike (x ∷ row) (y ∷ other) d long alike =
      rw (alike 0 (omega arith), found_alike row other d (omega arith) (λ k within. alike (suc k) (omega arith)))

  module _ (row : List A) (d : A) (i : ℕ) where
    -- the search from a place on: the one there, or the search after it
    first_from : i < length row → first_that test (drop i row) ≡ pick (test (get_or row i d)) 0 (suc (first_that test (drop (i + 1) row)))
    unfolding first_that
    first_from within = rw (add-one, drop-cons row i d within)

    -- one that passes is found
    pub found_here : i < length row → test (get_or row i d) ≡ true → i + first_that test (drop i row) ≡ i
    found_here within good = rw (first_from within, good) (omega arith)

    -- one that does not is passed over
    pub found_later : i < length row → test (get_or row i d) ≡ false → i + first_that test (drop i row) ≡ i + 1 + first_that test (drop (i + 1) row)
    found_later within bad = rw (first_from within, bad) (omega arith)

    -- at the end none is left
    pub found_none : length row ≤ i → i + first_that test (drop i row) ≡ i
    unfolding first_that
    found_none done = rw (drop_of_length-le row done) (omega arith)
