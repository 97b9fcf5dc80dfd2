-- `hear` meets its contract: the words so far had nothing to tell.
use Rattle.pocsag.proofs.Rows.{Silent}
use Rattle.pocsag.proofs.hearing.hear.Given as goal

abbrev pub invariant-loop-i : goal.invariant-loop-i
invariant-loop-i l = Silent l.initial.state l.initial.lent l.words l.state l.lent l.i
