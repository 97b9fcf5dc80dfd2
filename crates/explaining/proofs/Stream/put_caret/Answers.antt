-- `put_caret` meets its contract: blanks, and the caret after them.
use Rattle.explaining.specs.Remarks.{caret}
use Rattle.explaining.proofs.Writing.{written_then, cut_blanks}
use Rattle.explaining.proofs.Stream.put_caret.Goals as goal

pub returns : goal.returns
unfolding caret
returns g c = rw (← cut_blanks c.args.place c.min.result c.min.ensures) (written_then c.put-2.result _ _ _ _ _ c.in_ok-put.ensures c.put-2.ensures)
