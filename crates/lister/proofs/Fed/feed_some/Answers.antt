-- `feed_some` meets its contract: a whole line, or one byte.
use Rattle.std.proofs.Common.{arith}
use Rattle.lister.proofs.Progress.{byte_on}
use Rattle.lister.proofs.WholeLine.{line_on}
use Rattle.lister.proofs.Fed.feed_some.Goals as goal

pub returns-in_default : goal.returns-in_default
returns-in_default c = byte_on _ _ _ _ _ c.requires.taken_in_bounds c.requires.most_written_in_bounds c.feed_byte.ensures

pub returns-in_default-write_line : goal.returns-in_default-write_line
returns-in_default-write_line c =
    let byte = rw c.in_default-write_line.ensures at c.feed_byte-in_default-write_line.ensures in
    byte_on _ _ _ _ _ c.requires.taken_in_bounds c.requires.most_written_in_bounds byte

pub returns : goal.returns
returns c = line_on _ _ _ _ _ _ c.in-Some.ensures.0 (omega arith) c.in-Some.ensures.1 c.in-Some-write_line.ensures
