-- `sendable` meets its contract: what is still to be asked decides.
use Rattle.std.proofs.Common.{◌≡◌, length}
use Rattle.fragment.specs.Cutting.{sendable}
use Rattle.fragment.proofs.cutting.sendable.Given as goal

abbrev pub invariant-loop-rest : goal.invariant-loop-rest
invariant-loop-rest l = sendable l.rest ≡ sendable l.text

abbrev pub decreases-loop-rest : goal.decreases-loop-rest
decreases-loop-rest l = length l.rest
