-- Tests and bounds: a rule over all numbers below a bound, by one test that is computed; a row cut at a bound; how many parts hold so many.
use Prim.Native.Nat.{ℕ, zero, suc, ◌+◌, ◌-◌, ◌*◌, ◌/◌, ◌%◌, ◌≤◌, ◌<◌, min}
use mathlib.Core.Bool.{Bool, true, ◌&&◌}
use mathlib.Core.Logic.{⊎_elim}
use mathlib.Core.List.{List, [], ◌∷◌}
use mathlib.Core.Path.{◌≡◌}
use native.Mathlib.Nat.{div-add-mod, eq-or-lt_of_le, le_of_suc-le-suc, mod-lt, zero-min, min-zero, suc-min-suc}
use native.Mathlib.Omega.{arith}
use lib.Dec.{T}
use lib.ListN.{length, take}
use mir.Facts.{and_yes}

-- the test holds of each number below the bound
abbrev pub all_below : (ℕ → Bool) → ℕ → Bool
all_below test zero = true
all_below test (suc n) = test n && all_below test n

-- what is computed of all is known of each
pub of_all_below : (test : ℕ → Bool) (n : ℕ) → T (all_below test n) → (k : ℕ) → k < n → T (test k)
of_all_below test zero t k h = absurd (omega arith)
of_all_below test (suc n) t k h =
    ⊎_elim
    (λ e. rw e (and_yes (test n) (all_below test n) t).0)
    (λ l. of_all_below test n (and_yes (test n) (all_below test n) t).1 k l)
    (eq-or-lt_of_le (le_of_suc-le-suc h))

-- a row cut at its own length, where the number asked for is larger, is the row cut at that number
pub take_min : {A : Type 0} (n : ℕ) (row : List A) → take (min n (length row)) row ≡ take n row
take_min zero row = rw zero-min
take_min (suc n) [] = rw min-zero
take_min (suc n) (x ∷ row) = rw (suc-min-suc, take_min n row)

-- so many things in parts of a size, the last perhaps in part: the parts hold all, one part fewer would not, and there is one
pub rounded_up : (things size : ℕ) → 1 ≤ things → 1 ≤ size
    → let parts = (things + (size - 1)) / size in (things ≤ size * parts) × (size * (parts - 1) < things) × (1 ≤ parts)
rounded_up things size some large = by_parts ((things + (size - 1)) / size) (div-add-mod (things + (size - 1)) size) (mod-lt (things + (size - 1)) large)
  where
    by_parts : (parts : ℕ) → size * parts + (things + (size - 1)) % size ≡ things + (size - 1)
        → (things + (size - 1)) % size < size → (things ≤ size * parts) × (size * (parts - 1) < things) × (1 ≤ parts)
    by_parts zero whole less = absurd (omega arith)
    by_parts (suc parts) whole less = let fewer : suc parts - 1 ≡ parts = omega arith in rw fewer (omega arith)
