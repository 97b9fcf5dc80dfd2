-- `put_entry` meets its contract: the text, a blank, the number and a line feed.
use Rattle.std.proofs.KnownBytes.{Appends-trans}
use Rattle.explaining.specs.Remarks.{entry}
use Rattle.explaining.proofs.Writing.{written_then}
use Rattle.explaining.proofs.Stream.put_entry.Goals as goal

pub returns : goal.returns
unfolding entry
returns g c =
    let blank = Appends-trans _ _ _ _ _ c.in_ok-put.ensures c.in_ok-put-2.ensures in
    written_then c.put-3.result _ _ _ _ _ (Appends-trans _ _ _ _ _ blank c.in_ok-put_number.ensures) c.put-3.ensures
