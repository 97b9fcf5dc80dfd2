-- `hear` meets its contract: some words are taken where there are any.
use Rattle.pocsag_listing.proofs.Taking.{heard_within, heard_some}
use Rattle.pocsag_listing.proofs.telling.hear.Goals as goal

pub returns : goal.returns
returns c =
    rw c.hear.ensures.told
    (heard_some _ c.args.reader c.args.words.now c.requires, heard_within _ c.args.reader c.args.words.now)
