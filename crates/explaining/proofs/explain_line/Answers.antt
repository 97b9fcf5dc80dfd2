-- `explain_line` meets its contract, by how the text was read.
use Rattle.std.proofs.KnownBytes.{Appends-nil, Appends-trans}
use Rattle.explaining.proofs.Writing.{line_accepted, line_refused, line_wrong}
use Rattle.explaining.proofs.explain_line.Goals as goal

pub returns-in_ok-put_entry-in-Ok-clause-said : goal.returns-in_ok-put_entry-in-Ok-clause-said
returns-in_ok-put_entry-in-Ok-clause-said g c =
    rw (line_accepted c.args.text.now c.args.line _ c.in-Ok.ensures).0 (Appends-nil _)

pub returns-in_ok-put_entry-in-Ok-clause-kept : goal.returns-in_ok-put_entry-in-Ok-clause-kept
returns-in_ok-put_entry-in-Ok-clause-kept g c =
    rw (line_accepted c.args.text.now c.args.line _ c.in-Ok.ensures).1 c.in_ok-put_entry-in-Ok.ensures

pub returns-in_ok-put_remark-in-Err-Wrong-clause-said : goal.returns-in_ok-put_remark-in-Err-Wrong-clause-said
returns-in_ok-put_remark-in-Err-Wrong-clause-said g c =
    rw (line_wrong _ c.args.line _ _ _ c.in-Err-Wrong.field-0-is c.in-Err-Wrong.ensures).0
    (Appends-trans _ _ _ _ _ c.in_ok-put_caret-in-Err-Wrong.ensures c.in_ok-put_remark-in-Err-Wrong.ensures)

pub returns-in_ok-put_remark-in-Err-Wrong-clause-kept : goal.returns-in_ok-put_remark-in-Err-Wrong-clause-kept
returns-in_ok-put_remark-in-Err-Wrong-clause-kept g c =
    rw (line_wrong _ c.args.line _ _ _ c.in-Err-Wrong.field-0-is c.in-Err-Wrong.ensures).1 (Appends-nil _)

pub returns-in_ok-put_remark-in-Err-Refused-clause-said : goal.returns-in_ok-put_remark-in-Err-Refused-clause-said
returns-in_ok-put_remark-in-Err-Refused-clause-said g c =
    rw (line_refused _ c.args.line _ _ c.in-Err-Refused.field-0-is c.in-Err-Refused.ensures).0 c.in_ok-put_remark-in-Err-Refused.ensures

pub returns-in_ok-put_remark-in-Err-Refused-clause-kept : goal.returns-in_ok-put_remark-in-Err-Refused-clause-kept
returns-in_ok-put_remark-in-Err-Refused-clause-kept g c =
    rw (line_refused _ c.args.line _ _ c.in-Err-Refused.field-0-is c.in-Err-Refused.ensures).1 (Appends-nil _)
