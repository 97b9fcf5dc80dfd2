-- `count` meets its contract: the characters so far and those still to come are all.
use Rattle.std.proofs.Common.{◌≡◌, ◌+◌, ◌∷◌, length}
use Rattle.fragment.specs.Cells.{plain_text}
use Rattle.fragment.proofs.text.count.Given as goal

abbrev pub invariant-loop-rest : goal.invariant-loop-rest
invariant-loop-rest l = l.count + length (plain_text l.rest) ≡ length (plain_text (l.second ∷ l.words))

abbrev pub decreases-loop-rest : goal.decreases-loop-rest
decreases-loop-rest l = length l.rest
