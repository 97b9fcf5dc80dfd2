-- `sum` meets its contract: the sum so far and what is still to come, modulo 128.
use Rattle.std.proofs.Common.{◌≡◌, ◌+◌, ◌%◌, drop}
use Rattle.laws.specs.Lists.{sum_by}
use Rattle.fragment.proofs.text.Cells.{cell_sum}
use Rattle.fragment.proofs.head.sum.Given as goal

abbrev pub invariant-loop-word : goal.invariant-loop-word
invariant-loop-word l = (l.sum + sum_by cell_sum (drop l.word-index l.word-items)) % 128 ≡ sum_by cell_sum l.word-items % 128
