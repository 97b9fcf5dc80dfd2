-- `list_portion` meets its contract: each part leads on from the part before it.
use Rattle.std.proofs.Common.{sym}
use borrow.Author.Tests.{eqb-true}
use Rattle.listing.proofs.Steps.{underway_none, underway_more, underway_end}
use Rattle.listing.proofs.Listing.list_portion.Goals as goal

pub loop-rest-init : goal.loop-rest-init
loop-rest-init g c = underway_none _ _ _

pub loop-rest-preserved : goal.loop-rest-preserved
loop-rest-preserved g c =
    let more = c.in_ok-taken.ensures in
    underway_more _ _ _ _ _ _ _ _ _ c.loop-rest.invariant more.stands more.wrote

pub returns : goal.returns
returns g c =
    let all = underway_end _ _ _ _ _ _ c.loop-rest.invariant (eqb-true _ 0 (sym c.loop-rest-test.ensures)) in
    record { stands = all.0; wrote = all.1 }
