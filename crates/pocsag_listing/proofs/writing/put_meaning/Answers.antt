-- `put_meaning` meets its contract.
use Rattle.pocsag_listing.proofs.Written.{written_in}
use Rattle.pocsag_listing.proofs.writing.put_meaning.Goals as goal

pub returns : goal.returns
returns g c =
    rw (← c.in_words-sentence.ensures.words)
    (written_in c.write.result c.context.result _ _ c.context.ensures c.write.ensures.bytes)
