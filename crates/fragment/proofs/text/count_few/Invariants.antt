-- `count_few` meets its contract: the characters so far and those still to come are all.
use Rattle.fragment.proofs.text.Counting.{Counted}
use Rattle.fragment.proofs.text.count_few.Given as goal

abbrev pub invariant-loop-word : goal.invariant-loop-word
invariant-loop-word l = Counted l.words l.count l.word-index
