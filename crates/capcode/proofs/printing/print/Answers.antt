use Rattle.std.proofs.lemmas.Result.{err_from_is_err_and}
use Rattle.capcode.proofs.printing.Prints.{refused_keeps}
use Rattle.capcode.proofs.printing.print.Goals as goal

pub returns-in_err-judge-clause-told : goal.returns-in_err-judge-clause-told
returns-in_err-judge-clause-told c = let p = err_from_is_err_and c.from_residual.result c.from_residual.ensures.1 in
    rw (p.1, p.2) (c.in_err-judge.ensures.told _)

pub returns-in_err-judge-clause-buffer : goal.returns-in_err-judge-clause-buffer
returns-in_err-judge-clause-buffer c = refused_keeps _ _ _ (c.in_err-judge.ensures.told _)
