-- `put_ended` meets its contract.
use borrow.Author.Tests.{ne_eqb}
use Rattle.pocsag_listing.proofs.Written.{written_then}
use Rattle.pocsag_listing.proofs.pages.put_ended.Goals as goal

pub returns-then-options-clause-listed : goal.returns-then-options-clause-listed
returns-then-options-clause-listed g c =
    let whole = written_then c.put_explained.result _ _ _ _ _ c.in_ok-put_refused.ensures c.put_explained.ensures.listed in
    rw (ne_eqb c.args.page.number 0 c.if-page-eq0.false, c.if-options.true) (rw c.kind_chosen-kind.ensures at whole)
