-- Rows: a test of all, also number by number from the front, a search, a sum.
use Prim.Native.Nat.{ℕ, zero, suc, ◌+◌, ◌*◌, ◌≤◌, ◌<◌}
use mathlib.Core.Bool.{Bool, true, false, ◌&&◌, and_assoc, and-true, and-eq-true_iff}
use mathlib.Core.List.{List, [], ◌∷◌, ◌++◌, map}
use mathlib.Core.Logic.{⊎_elim}
use mathlib.Core.Path.{◌≡◌, refl, sym, ap, ◌∙◌}
use native.Mathlib.Nat.{add_assoc, zero-add}
use native.Mathlib.Numerals.{add-one}
use native.Mathlib.Omega.{arith}
use borrow.Author.Tests.{eqb-true}
use lib.Dec.{eqb}
use lib.ListN.{length, get_or, take, drop, replicate, drop_of_length-le, take-append-drop}
use lib.Seq.{take-add, take-suc, drop-cons, drop-drop, get_or-take, length-take-le}
use Rattle.std.specs.List.{list_all}
use Rattle.laws.specs.Lists.{place_in, all, sum_by}
use Rattle.laws.proofs.Searches.{first_passes}
use Rattle.laws.proofs.Tests.{decided, not_both}

-- all of what is joined pass a test if all of both rows do
pub all_append : (test : ℕ → Bool) (xs ys : List ℕ) → all test (xs ++ ys) ≡ (all test xs && all test ys)
unfolding all
all_append test [] ys = refl
all_append test (x ∷ xs) ys = rw (all_append test xs ys) (sym (and_assoc (test x) (all test xs) (all test ys)))

-- where all of what is joined pass, all of each row do
pub all_parts : (test : ℕ → Bool) (xs ys : List ℕ) → all test (xs ++ ys) ≡ true → (all test xs ≡ true) × (all test ys ≡ true)
all_parts test xs ys e = (and-eq-true_iff (all test xs) (all test ys)).0 (sym (all_append test xs ys) ∙ e)

-- a number of a row that all pass does
pub all_at : (test : ℕ → Bool) (row : List ℕ) (k : ℕ) → all test row ≡ true → k < length row → test (get_or row k 0) ≡ true
unfolding all
all_at test [] k e h = absurd (omega arith)
all_at test (x ∷ row) zero e h = ((and-eq-true_iff (test x) (all test row)).0 e).0
all_at test (x ∷ row) (suc k) e h = all_at test row k ((and-eq-true_iff (test x) (all test row)).0 e).1 (omega arith)

-- where all of a row pass a test, all of a part of it do
pub all_part : (test : ℕ → Bool) (row : List ℕ) (n place : ℕ) → all test row ≡ true → all test (take n (drop place row)) ≡ true
all_part test row n place e =
    let later = (all_parts test (take place row) (drop place row) (rw (take-append-drop place row) e)).1 in
    (all_parts test (take n (drop place row)) (drop n (drop place row)) (rw (take-append-drop n (drop place row)) later)).0

-- what passes a test passes one that asks less
pub all_weaker : (test other : ℕ → Bool) (row : List ℕ) → ((x : ℕ) → test x ≡ true → other x ≡ true) → all test row ≡ true → all other row ≡ true
unfolding all
all_weaker test other [] less e = refl
all_weaker test other (x ∷ row) less e =
    let both = (and-eq-true_iff (test x) (all test row)).0 e in
    rw (less x both.0) (all_weaker test other row less both.1)

-- a row of one number passes where the number does
pub all_replicate : (test : ℕ → Bool) (n a : ℕ) → test a ≡ true → all test (replicate n a) ≡ true
unfolding all
all_replicate test zero a e = refl
all_replicate test (suc n) a e = rw e (all_replicate test n a e)

-- a test of what a rule makes of a row is a test of the row
pub all_map : (test : ℕ → Bool) (rule : ℕ → ℕ) (row : List ℕ) → all test (map rule row) ≡ all (λ x. test (rule x)) row
unfolding all
all_map test rule [] = refl
all_map test rule (x ∷ row) = rw (all_map test rule row)

-- it is the test that the library's search asks
pub all_listed : (test : ℕ → Bool) (row : List ℕ) → list_all test row ≡ all test row
unfolding all
all_listed test [] = refl
all_listed test (x ∷ row) = rw (all_listed test row)

module _ (test : ℕ → Bool) (row : List ℕ) (i : ℕ) where
  -- where all before a place pass and the number there does, all up to it pass
  pub all_grows : i < length row → all test (take i row) ≡ true → test (get_or row i 0) ≡ true → all test (take (i + 1) row) ≡ true
  unfolding all
  all_grows within before here = rw (add-one i, take-suc row i 0 within, all_append test (take i row) (get_or row i 0 ∷ []), before, here)

  -- a number that does not pass stands before every later place
  pub all_fails : (n : ℕ) → i < n → n ≤ length row → test (get_or row i 0) ≡ false → all test (take n row) ≡ false
  all_fails n earlier within other =
      ⊎_elim
      (λ (passed : all test (take n row) ≡ true).
      let long : i < length (take n row) = omega (arith, length-take-le n row within) in
      absurd (not_both (test (get_or row i 0)) (rw (get_or-take n row i 0 earlier) at (all_at test (take n row) i passed long)) other))
      (λ (failed : all test (take n row) ≡ false). failed)
      (decided (all test (take n row)))

  -- the number there, and all after it
  all_from : i < length row → all test (drop i row) ≡ (test (get_or row i 0) && all test (drop (i + 1) row))
  unfolding all
  all_from within = rw (add-one, drop-cons row i 0 within)

  -- one turn of a loop that carries along whether all so far have passed: the number there is asked with those before it
  pub all_turn : (so : Bool) → i < length row → ((so && test (get_or row i 0)) && all test (drop (i + 1) row)) ≡ (so && all test (drop i row))
  all_turn so within = rw (all_from within) (and_assoc so (test (get_or row i 0)) (all test (drop (i + 1) row)))

  -- when all have been asked, what was found so far is found
  pub all_done : (so : Bool) → length row ≤ i → so ≡ (so && all test (drop i row))
  unfolding all
  all_done so done = rw (drop_of_length-le row done) (sym (and-true so))

  -- where all from a place on pass, the number there does, and all after it do
  pub all_next : i < length row → all test (drop i row) ≡ true → (test (get_or row i 0) ≡ true) × (all test (drop (i + 1) row) ≡ true)
  all_next within pass = (and-eq-true_iff (test (get_or row i 0)) (all test (drop (i + 1) row))).0 (sym (all_from within) ∙ pass)

  -- a number that passes: all after it are still to be asked
  pub passes : i < length row → test (get_or row i 0) ≡ true → all test (drop (i + 1) row) ≡ all test (drop i row)
  passes within good = rw (all_from within, good)

  -- a number that does not: not all pass
  pub fails : i < length row → test (get_or row i 0) ≡ false → false ≡ all test (drop i row)
  fails within bad = rw (all_from within, bad)

  -- at the end none is still to be asked
  pub all_asked : length row ≤ i → true ≡ all test (drop i row)
  unfolding all
  all_asked done = rw (drop_of_length-le row done)

-- what a rule makes of a row, at a place of the row
pub map_at : (rule : ℕ → ℕ) (row : List ℕ) (k : ℕ) → k < length row → get_or (map rule row) k 0 ≡ rule (get_or row k 0)
map_at rule [] k h = absurd (omega arith)
map_at rule (x ∷ row) zero h = refl
map_at rule (x ∷ row) (suc k) h = map_at rule row k (omega arith)

-- what was found stands at its place
pub place_found : (row : List ℕ) (n : ℕ) → place_in row n < length row → get_or row (place_in row n) 0 ≡ n
unfolding place_in
place_found row n h = sym (eqb-true n (get_or row (place_in row n) 0) (first_passes (eqb n) row 0 h))

-- a sum from a place on: the number there, and the sum after it
pub sum_from : (rule : ℕ → ℕ) (row : List ℕ) (k : ℕ) → k < length row → sum_by rule (drop k row) ≡ rule (get_or row k 0) + sum_by rule (drop (suc k) row)
unfolding sum_by
sum_from rule row k h = ap (sum_by rule) (drop-cons row k 0 h)

-- the sum of what is joined is the sum of both
pub sum_join : (rule : ℕ → ℕ) (xs ys : List ℕ) → sum_by rule (xs ++ ys) ≡ sum_by rule xs + sum_by rule ys
unfolding sum_by
sum_join rule [] ys = sym (zero-add (sum_by rule ys))
sum_join rule (x ∷ xs) ys = rw (sum_join rule xs ys) (sym (add_assoc (rule x) (sum_by rule xs) (sum_by rule ys)))

-- of a row in parts of a size, so many parts from one on: that part, and those after it
pub parts_next : (size : ℕ) (row : List ℕ) (part count : ℕ)
    → take (size * suc count) (drop (size * part) row) ≡ take size (drop (size * part) row) ++ take (size * count) (drop (size * suc part) row)
parts_next size row part count =
    let many : size * suc count ≡ size + size * count = omega arith in
    let next : size * part + size ≡ size * suc part = omega arith in
    rw (many, take-add size (size * count) (drop (size * part) row), drop-drop size (size * part) row, next)
