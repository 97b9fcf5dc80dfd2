-- `collect` meets its contract: each byte does what the definition says of it.
use Rattle.pocsag_lister.proofs.Portions.{Collecting}
use Rattle.pocsag_lister.proofs.collecting.collect.Given as goal

abbrev pub invariant-loop-taken : goal.invariant-loop-taken
invariant-loop-taken g l = Collecting g.I.Input.taken l.initial.token l.input l.initial.row l.token l.taken l.count l.row
