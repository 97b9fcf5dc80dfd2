-- What the proofs keep from event to event of a run that begins with no call open.
use Prim.Native.Nat.{ℕ, ◌<◌}
use mathlib.Core.Bool.{true}
use mathlib.Core.List.{List}
use mathlib.Core.Path.{◌≡◌}
use lib.ListN.{length, get_or}
use Rattle.call.specs.declared.Call.{Call}
use Rattle.call.specs.Calls.{blank, has_vector}
use Rattle.call.specs.Steps.{next_area}

-- calls that have their vector have areas of their own, the first ones
pub record Placed (row : List Call) : Type 0 where
  pub below : (i : ℕ) → i < length row → has_vector (get_or row i blank) ≡ true → (get_or row i blank).area < next_area row
  pub apart : (i j : ℕ) → i < length row → j < length row
      → has_vector (get_or row i blank) ≡ true → has_vector (get_or row j blank) ≡ true
      → (get_or row i blank).area ≡ (get_or row j blank).area → i ≡ j
