-- `put_begun` meets its contract.
use borrow.Author.Tests.{ne_eqb}
use Rattle.std.proofs.KnownBytes.{Appends-trans}
use Rattle.pocsag_listing.proofs.Written.{written_then}
use Rattle.pocsag_listing.proofs.pages.put_begun.Goals as goal

pub returns : goal.returns
returns g c =
    let some = ne_eqb c.args.count 0 c.if-count-eq0.false in
    let whole = written_then c.put-3.result _ _ _ _ _ (Appends-trans _ _ _ _ _ c.in_ok-put.ensures c.in_ok-put_text.ensures) c.put-3.ensures in
    rw some (rw some at whole)
