-- `write_byte` meets its contract: a line feed, a carriage return, or any other byte.
use Rattle.std.proofs.Common.{ap, ◌∙◌, arith}
use Rattle.lister.specs.Verdicts.{verdict_of}
use Rattle.lister.proofs.Writes.{wrote_same, wrote_then, writes_line, writes_held, writes_byte}
use Rattle.lister.proofs.feeding.write_byte.Goals as goal

pub returns-then-byte-eq10 : goal.returns-then-byte-eq10
returns-then-byte-eq10 c = wrote_same _ _ _ _ _ _ (ap verdict_of c.kept.ensures ∙ writes_line _ _ _ c.if-byte-eq10.true) c.write_verdict.ensures

pub returns-then-byte-eq13 : goal.returns-then-byte-eq13
returns-then-byte-eq13 c = wrote_same _ _ _ _ _ _ (writes_held _ _ _ c.if-byte-eq13.true) c.show_held-shown.ensures

pub returns : goal.returns
returns c = wrote_same _ _ _ _ _ _ (writes_byte _ _ _ c.if-byte-eq10.false c.if-byte-eq13.false)
    (wrote_then _ _ _ _ _ _ _ _ (omega arith) c.show_held-shown.ensures c.show.ensures)
