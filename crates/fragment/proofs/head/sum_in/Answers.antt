-- `sum_in` meets its contract: the three cells added.
use Rattle.std.proofs.Common.{arith}
use Rattle.fragment.proofs.text.Cells.{added}
use Rattle.fragment.proofs.head.sum_in.Goals as goal

pub returns : goal.returns
returns c = record { sum = added c.args.word; small = omega arith }
