-- What stands in a row, rows of numbers one after the other, a question whether one of a row passes a test, and those of a row that do.
use Prim.Native.Nat.{ℕ, zero, suc, ◌+◌, ◌-◌, ◌≤◌, ◌<◌, min}
use mathlib.Core.Bool.{Bool, true, false, ◌||◌, or-true, or_assoc}
use mathlib.Core.List.{List, [], ◌∷◌, ◌++◌}
use mathlib.Core.Logic.{◌⊎◌, ⊎_elim}
use mathlib.Core.Path.{◌≡◌, refl, sym, ◌∙◌}
use native.Mathlib.Nat.{min-le_left}
use native.Mathlib.Numerals.{add-one}
use native.Mathlib.Omega.{arith}
use borrow.Author.Tests.{eqb-true, eqb-false, ne_eqb}
use lib.Dec.{eqb}
use lib.ListN.{length, get_or, take, drop, drop_of_length-le, length-take, length-drop}
use lib.Seq.{drop-cons, get_or-take, get_or-drop, ext_get_or}
use Rattle.laws.proofs.Tests.{or_none}
use Rattle.laws.specs.Choice.{pick, bit_of}
use Rattle.laws.specs.Lists.{place_in, any_of, those, up_from}
use Rattle.laws.proofs.Bits.{bit_le}
use Rattle.laws.proofs.Searches.{none_found}
use Rattle.laws.proofs.Tests.{decided}

-- ---- what stands at a place

module _ {ℓ} {A : Type ℓ} where
  -- what stands at a place within a row is the row's, whatever is said to stand after the row
  pub at_within : (row : List A) (k : ℕ) (d e : A) → k < length row → get_or row k d ≡ get_or row k e
  at_within [] k d e within = absurd (omega arith)
  at_within (x ∷ row) zero d e within = refl
  at_within (x ∷ row) (suc k) d e within = at_within row k d e (omega arith)

  -- a part of two rows, as long, that hold the same there is the same
  pub part_alike : (row other : List A) (d : A) (from n : ℕ) → length row ≡ length other
      → ((k : ℕ) → k < n → get_or row (from + k) d ≡ get_or other (from + k) d)
      → take n (drop from row) ≡ take n (drop from other)
  part_alike row other d from n long alike =
      ext_get_or d (take n (drop from row)) (take n (drop from other)) (simp (length-take, length-drop) (rw long))
      (λ k within.
      let inside : k < min n (length (drop from row)) = rw length-take at within in
      let less : k < n = omega (arith, min-le_left n (length (drop from row))) in
      get_or-take n (drop from row) k d less ∙ get_or-drop from row k d ∙ alike k less ∙ sym (get_or-take n (drop from other) k d less ∙ get_or-drop from other k d))

-- ---- the numbers from a first one on

-- the numbers from a first one on are as many as asked for
pub up_length : (a n : ℕ) → length (up_from a n) ≡ n
unfolding up_from
up_length a zero = refl
up_length a (suc n) = rw (up_length (suc a) n)

-- each of the numbers from a first one on is one more than the one before
pub up_at : (a n k : ℕ) → k < n → get_or (up_from a n) k 0 ≡ a + k
unfolding up_from
up_at a zero k within = absurd (omega arith)
up_at a (suc n) zero within = omega arith
up_at a (suc n) (suc k) within = up_at (suc a) n k (omega arith) ∙ omega arith

-- a number among the numbers from a first one on is found where it stands
pub up_place : (a n w : ℕ) → a ≤ w → w < a + n → place_in (up_from a n) w ≡ w - a
unfolding up_from place_in
up_place a zero w least most = absurd (omega arith)
up_place a (suc n) w least most =
    ⊎_elim
    (λ here. let is = eqb-true w a here in rw here (omega arith))
    (λ later. let not-here = eqb-false w a later in rw (later, up_place (suc a) n w (omega arith) (omega arith)) (omega arith))
    (decided (eqb w a))

-- a number that is not among the numbers from a first one on is found nowhere
pub up_no_place : (a n w : ℕ) → (w < a) ⊎ (a + n ≤ w) → place_in (up_from a n) w ≡ n
unfolding place_in
up_no_place a n w outside =
    none_found (eqb w) (up_from a n) 0 (λ k within.
    let inside : k < n = rw up_length at within in
    rw (up_at a n k inside) (ne_eqb w (a + k) (λ is. ⊎_elim (λ before. omega arith) (λ after. omega arith) outside)))
    ∙ up_length a n

module _ {ℓ} {A : Type ℓ} (test : A → Bool) where
  -- ---- whether one of a row passes

  -- where one of a row passes, one does
  pub any_at : (row : List A) (d : A) (k : ℕ) → k < length row → test (get_or row k d) ≡ true → any_of test row ≡ true
  unfolding any_of
  any_at [] d k within good = absurd (omega arith)
  any_at (x ∷ row) d zero within good = rw good
  any_at (x ∷ row) d (suc k) within good = rw (any_at row d k (omega arith) good) (or-true (test x))

  module _ (row : List A) (d : A) (i : ℕ) where
    -- from a place on: the one there, or one after it
    pub any_from : i < length row → any_of test (drop i row) ≡ (test (get_or row i d) || any_of test (drop (i + 1) row))
    unfolding any_of
    any_from within = rw (add-one, drop-cons row i d within)

    -- asked so far, the one there, and those after it
    pub any_turn : (so : Bool) → i < length row → ((so || test (get_or row i d)) || any_of test (drop (i + 1) row)) ≡ (so || any_of test (drop i row))
    any_turn so within = rw (any_from within) (or_assoc so (test (get_or row i d)) (any_of test (drop (i + 1) row)))

    -- where the one at a place passes, one from there on does
    pub any_here : i < length row → test (get_or row i d) ≡ true → true ≡ any_of test (drop i row)
    any_here within good = rw (any_from within, good)

    -- where the one at a place does not pass, those after it are still to be asked
    pub any_later : i < length row → test (get_or row i d) ≡ false → any_of test (drop (i + 1) row) ≡ any_of test (drop i row)
    any_later within bad = rw (any_from within, bad)

    -- at the end none passes
    pub any_none : length row ≤ i → false ≡ any_of test (drop i row)
    unfolding any_of
    any_none done = rw (drop_of_length-le row done)

  -- when all have been asked, what was found so far is found
  pub any_done : (so : Bool) (row : List A) (i : ℕ) → length row ≤ i → so ≡ (so || any_of test (drop i row))
  unfolding any_of
  any_done so row i done = rw (drop_of_length-le row done) (sym (or_none so))

  -- ---- those of a row that pass

  -- those that pass of what is joined are those that pass of both
  pub those_append : (xs ys : List A) → those test (xs ++ ys) ≡ those test xs ++ those test ys
  unfolding those
  those_append [] ys = refl
  those_append (x ∷ xs) ys = rw (those_append xs ys) (by_test (test x))
    where
      by_test : (good : Bool)
          → pick good (x ∷ those test xs ++ those test ys) (those test xs ++ those test ys) ≡ pick good (x ∷ those test xs) (those test xs) ++ those test ys
      by_test true = refl
      by_test false = refl

  -- one more after a row is the last of those that pass, if it does
  pub those_snoc : (row : List A) (x : A) → those test (row ++ x ∷ []) ≡ those test row ++ pick (test x) (x ∷ []) []
  unfolding those
  those_snoc row x = those_append row (x ∷ [])

  -- how many pass: one more where the first does
  pub those_length_cons : (x : A) (row : List A) → length (those test (x ∷ row)) ≡ bit_of (test x) + length (those test row)
  unfolding those
  those_length_cons x row = by_test (test x)
    where
      by_test : (good : Bool) → length (pick good (x ∷ those test row) (those test row)) ≡ bit_of good + length (those test row)
      by_test true = omega arith
      by_test false = omega arith

  -- those that pass are at most all
  pub those_most : (row : List A) → length (those test row) ≤ length row
  unfolding those
  those_most [] = omega arith
  those_most (x ∷ row) = omega (arith, those_length_cons x row, bit_le (test x), those_most row)

  -- those that pass are fewer than all where one does not
  pub those_fewer : (row : List A) (d : A) (k : ℕ) → k < length row → test (get_or row k d) ≡ false → length (those test row) < length row
  unfolding those
  those_fewer [] d k within bad = absurd (omega arith)
  those_fewer (x ∷ row) d zero within bad = rw bad (omega (arith, those_most row))
  those_fewer (x ∷ row) d (suc k) within bad =
      omega (arith, those_length_cons x row, bit_le (test x), those_fewer row d k (omega arith) bad)
