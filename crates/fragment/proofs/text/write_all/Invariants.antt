-- `write_all` meets its contract: the text of the words so far is stored, that of the others still to come; where no word
-- has fill, those have none.
use Rattle.std.proofs.Common.{◌≡◌, true, not, eqb, drop}
use Rattle.laws.specs.Lists.{all}
use Rattle.fragment.specs.Full.{is_full}
use Rattle.fragment.proofs.text.Words.{Begun}
use Rattle.fragment.proofs.text.write_all.Given as goal

abbrev pub invariant-loop-word : goal.invariant-loop-word
invariant-loop-word g l = Begun l.words l.initial.text l.from l.text l.at l.word-index × (not (eqb g.row.FULL 0) ≡ true → all is_full (drop l.word-index l.words) ≡ true)
