-- `put_explained` meets its contract.
use Rattle.std.proofs.KnownBytes.{Appends-trans}
use Rattle.pocsag_listing.proofs.Written.{written_then}
use Rattle.pocsag_listing.proofs.pages.put_explained.Goals as goal

pub returns-clause-listed : goal.returns-clause-listed
returns-clause-listed g c =
    let meant = rw c.remark.ensures at c.in_ok-put_meaning.ensures in
    let begun = rw c.deref.ensures.value at c.put_begun.ensures in
    let whole = written_then c.put_begun.result _ _ _ _ _ (Appends-trans _ _ _ _ _ c.in_ok-put_place.ensures meant) begun in
    rw c.read-read.ensures.told at (rw c.read-read.ensures.text at whole)
