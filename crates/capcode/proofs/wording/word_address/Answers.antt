-- `word_address` meets its contract: the address that Table 24 leads back to, if its words are these.
use mathlib.Core.Bool.{true, false}
use mathlib.Core.Path.{sym, ◌∙◌}
use borrow.Author.Rules.{rules}
use Rattle.capcode.proofs.wording.Given.{word_answered}
use Rattle.capcode.proofs.wording.word_address.Goals as goal

pub returns-then-eq : goal.returns-then-eq
returns-then-eq c = word_answered c.words_of-given.result _ c.saturating_sub-address.result c.args.word true
    c.saturating_sub-address.ensures c.words_of-given.ensures (search rules) (sym c.if-eq.true ∙ c.eq.ensures)

pub returns-else-eq : goal.returns-else-eq
returns-else-eq c = word_answered c.words_of-given.result _ c.saturating_sub-address.result c.args.word false
    c.saturating_sub-address.ensures c.words_of-given.ensures (search rules) (sym c.if-eq.false ∙ c.eq.ensures)
