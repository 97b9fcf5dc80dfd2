-- Rows: what lent memory holds after a write, a search, a test of all, those at the end, a sum.
use Rattle.std.specs.Prelude.{ℕ, zero, suc, ◌+◌, Bool, true, false, ◌&&◌, ◌||◌, List, [], ◌∷◌, ◌++◌, eqb, length, take, drop}
use Rattle.laws.specs.Choice.{pick}

-- a buffer with a text written at a place: all before and after it is as it was
abbrev pub put {ℓ} : {A : Type ℓ} → List A → ℕ → List A → List A
put buffer place text = take place buffer ++ text ++ drop (place + length text) buffer

-- the place of the first of a row that passes a test; the row's length where none does
unfoldable pub first_that {ℓ} : {A : Type ℓ} → (A → Bool) → List A → ℕ
first_that test [] = 0
first_that test (x ∷ row) = pick (test x) 0 (suc (first_that test row))

-- the first place of a number in a row
unfoldable pub place_in : List ℕ → ℕ → ℕ
unfolding first_that
place_in row n = first_that (eqb n) row

-- whether every number of a row passes a test
unfoldable pub all : (ℕ → Bool) → List ℕ → Bool
all test [] = true
all test (x ∷ row) = test x && all test row

-- whether one of a row passes a test
unfoldable pub any_of {ℓ} : {A : Type ℓ} → (A → Bool) → List A → Bool
any_of test [] = false
any_of test (x ∷ row) = test x || any_of test row

-- those of a row that pass a test, in the row's order
unfoldable pub those {ℓ} : {A : Type ℓ} → (A → Bool) → List A → List A
those test [] = []
those test (x ∷ row) = pick (test x) (x ∷ those test row) (those test row)

-- how many numbers at the end of a row pass a test, where so many stood before it
unfoldable pub last_after : (ℕ → Bool) → ℕ → List ℕ → ℕ
last_after test before [] = before
last_after test before (x ∷ row) = last_after test (pick (test x) (suc before) 0) row

-- how many numbers at the end of a row pass a test: each that does not begins the count again
abbrev pub last_that : (ℕ → Bool) → List ℕ → ℕ
last_that test row = last_after test 0 row

-- the numbers from a first one on, so many of them
unfoldable pub up_from : ℕ → ℕ → List ℕ
up_from first zero = []
up_from first (suc n) = first ∷ up_from (suc first) n

-- the sum of a row, each number taken by a rule
unfoldable pub sum_by : (ℕ → ℕ) → List ℕ → ℕ
sum_by rule [] = 0
sum_by rule (x ∷ row) = rule x + sum_by rule row
