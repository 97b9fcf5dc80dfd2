-- `first_free` meets its contract: what is found from a slot on is found from the start.
use mathlib.Core.Path.{◌≡◌}
use lib.ListN.{drop}
use Rattle.std.specs.Prelude.{◌+◌, None}
use Rattle.chain.specs.Chains.{first_free}
use Rattle.chain.proofs.finding.first_free.Given as goal

abbrev pub invariant-loop-slot : goal.invariant-loop-slot
invariant-loop-slot l = (l.free ≡ None) × (first_free l.slots ≡ l.slot + first_free (drop l.slot l.slots))
