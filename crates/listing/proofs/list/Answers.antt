-- `list` meets its contract: the title, all portions and the close are the listing of all that was read.
use Rattle.listing.proofs.Steps.{listed_whole, ok_then}
use Rattle.listing.proofs.list.Goals as goal

pub returns : goal.returns
returns g c =
    ok_then c.write_close.result (listed_whole _ _ _ _ _ _ _ c.in_ok-write_title.ensures c.in_ok-lister.ensures) c.write_close.ensures
