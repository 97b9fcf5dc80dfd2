-- `write_title` meets its contract: its buffer has room for the first line.
use Rattle.std.proofs.Common.{arith}
use Rattle.lister.proofs.StartLaws.{title_length, answered_ok}
use Rattle.listing.proofs.write_title.Goals as goal

pub unwrap-n-requires : goal.unwrap-n-requires
unwrap-n-requires g c = rw (answered_ok _ _ _ _ (omega (arith, title_length)) c.title.ensures)
