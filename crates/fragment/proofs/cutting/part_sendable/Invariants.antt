-- `part_sendable` meets its contract: what was asked so far, and what is still to be asked, decide.
use Rattle.std.proofs.Common.{◌≡◌, ◌&&◌, drop}
use Rattle.fragment.specs.Cutting.{sendable}
use Rattle.fragment.proofs.cutting.part_sendable.Given as goal

abbrev pub invariant-loop-character : goal.invariant-loop-character
invariant-loop-character l = (l.all && sendable (drop l.character-index l.part)) ≡ sendable l.part
