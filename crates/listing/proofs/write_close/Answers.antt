-- `write_close` meets its contract: its buffer has room for the end of a line.
use Rattle.std.proofs.Common.{arith}
use Rattle.lister.specs.Stands.{stand_of}
use Rattle.lister.proofs.Lengths.{closes_short}
use Rattle.lister.proofs.StartLaws.{answered_ok}
use Rattle.listing.proofs.write_close.Goals as goal

pub unwrap-n-requires : goal.unwrap-n-requires
unwrap-n-requires g c = rw (answered_ok _ _ _ _ (omega (arith, closes_short (stand_of c.args.lister))) c.close.ensures)
