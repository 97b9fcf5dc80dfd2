-- `explain_close` meets its contract: its buffer has room for the end of a line.
use Rattle.std.proofs.Common.{◌≤◌, length, arith, rules}
use Rattle.lister.specs.Stands.{stand_of}
use Rattle.lister.proofs.Lengths.{closes_short}
use Rattle.lister.proofs.StartLaws.{answered_ok}
use Rattle.explaining.proofs.Explaining.explain_close.Goals as goal

pub unwrap-n-requires : goal.unwrap-n-requires
unwrap-n-requires g c =
    let room : 42 ≤ length c.deref_mut.result.now = search rules in
    rw (answered_ok _ _ _ _ (omega (arith, closes_short (stand_of c.args.self.now.lister))) c.close.ensures)
