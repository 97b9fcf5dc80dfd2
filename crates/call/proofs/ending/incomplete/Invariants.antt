-- `incomplete` meets its contract: of the calls that were met the incomplete ones are listed.
use Prim.Native.Nat.{◌≤◌}
use mathlib.Core.Path.{◌≡◌}
use lib.ListN.{length, take}
use Rattle.call.specs.Steps.{listed, incomplete_in}
use Rattle.call.proofs.ending.incomplete.Given as goal

abbrev pub invariant-loop-call : goal.invariant-loop-call
invariant-loop-call l = record {
  few : length l.call-items ≤ 8;
  list : l.list ≡ listed 8 (incomplete_in (take l.call-index l.call-items) l.memory);
}
