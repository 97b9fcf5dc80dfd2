-- `write_verdict` meets its contract: the bytes of the verdict are copied.
use Rattle.std.proofs.Common.{◌∙◌}
use Rattle.lister.proofs.line_end.Told.{end_of}
use Rattle.lister.proofs.Writes.{wrote_same}
use Rattle.lister.proofs.feeding.write_verdict.Goals as goal

pub returns : goal.returns
returns c = wrote_same _ _ _ _ _ _ (c.as_slice.ensures ∙ end_of c.args.text.now c.judge-verdict.result c.judge-verdict.ensures) c.copy.ensures
