-- `of` meets its contract: a word within a batch, or one where a sync word must come next.
use Rattle.pocsag.specs.Batches.{meaning_of}
use Rattle.pocsag.proofs.Meaning.of.Goals as goal

pub returns-then-left : goal.returns-then-left
unfolding meaning_of
returns-then-left c = rw c.if-left.true c.at_sync.ensures

pub returns : goal.returns
unfolding meaning_of
returns c = rw c.if-left.false c.in_batch.ensures
