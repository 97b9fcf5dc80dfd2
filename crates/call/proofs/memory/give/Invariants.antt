-- `give` meets its contract: from the last call to the first, what the word did to the later ones.
use Prim.Native.Nat.{◌-◌, ◌≤◌}
use mathlib.Core.Path.{◌≡◌}
use lib.ListN.{length, drop}
use Rattle.call.specs.Calls.{opens}
use Rattle.call.specs.Words.{given_to, finished}
use Rattle.call.proofs.memory.give.Given as goal

abbrev pub invariant-loop-call : goal.invariant-loop-call
invariant-loop-call l = record {
  can_go_on : (goal.iterator-loop-call).can_next l.call-iterator;
  ends : (goal.iterator-loop-call).is_finite l.call-iterator;
  within : length l.yielded ≤ length (opens l.calls);
  given : l.memory ≡ given_to (drop (length (opens l.calls) - length l.yielded) (opens l.calls)) l.message l.initial.memory;
  completes : l.completed ≡ finished (drop (length (opens l.calls) - length l.yielded) (opens l.calls)) l.message l.initial.memory;
}
