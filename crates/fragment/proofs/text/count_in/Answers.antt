-- `count_in` meets its contract: the cells that are no fill are counted.
use Rattle.fragment.proofs.text.Cells.{counted}
use Rattle.fragment.proofs.text.count_in.Goals as goal

pub returns : goal.returns
returns c = counted c.args.word
