-- `sound` meets its contract: from the last call to the first, the later ones are sound and their keys are marked.
use Prim.Native.Nat.{◌-◌, ◌≤◌}
use mathlib.Core.Bool.{true}
use mathlib.Core.Path.{◌≡◌}
use lib.ListN.{length, drop}
use Rattle.call.specs.Calls.{opens, sound}
use Rattle.call.proofs.searching.Marks.{Marks}
use Rattle.call.proofs.searching.sound.Given as goal

abbrev pub invariant-loop-call : goal.invariant-loop-call
invariant-loop-call l = record {
  can_go_on : (goal.iterator-loop-call).can_next l.call-iterator;
  ends : (goal.iterator-loop-call).is_finite l.call-iterator;
  within : length l.yielded ≤ length (opens l.calls);
  six : length l.marks ≡ 6;
  later : sound (drop (length (opens l.calls) - length l.yielded) (opens l.calls)) ≡ true;
  marked : Marks l.marks (drop (length (opens l.calls) - length l.yielded) (opens l.calls));
}
