-- `in_words` meets its contract: the table has the sentences in their order.
use Rattle.refusal.specs.Sentences.{sentences}
use Rattle.refusal.proofs.SentenceLaws.{sentence_short}
use Rattle.refusal.proofs.sentences.in_words.Goals as goal

pub returns-clause-words : goal.returns-clause-words
unfolding sentences
returns-clause-words c = c.text_at.ensures

pub returns-clause-short : goal.returns-clause-short
unfolding sentences
returns-clause-short c = rw (c.text_at.ensures) (sentence_short c.args.row)
