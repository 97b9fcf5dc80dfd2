-- `count_few` meets its contract: the characters so far and those still to come are all.
use Rattle.std.proofs.Common.{get_or, arith}
use Rattle.fragment.proofs.text.Cells.{few}
use Rattle.fragment.proofs.text.Counting.{counted_more, counted_last}
use Rattle.fragment.proofs.text.count_few.Goals as goal

pub overflow_add-count : goal.overflow_add-count
overflow_add-count c = omega (arith, c.requires, c.count_in-count.ensures, few (get_or c.args.words.now c.loop-word.word-index 0))

pub loop-word-preserved : goal.loop-word-preserved
loop-word-preserved c = counted_more _ _ _ _ c.loop-word.invariant (omega arith) c.count_in-count.ensures

pub returns : goal.returns
returns c = counted_last _ _ _ c.loop-word.invariant (omega arith)
