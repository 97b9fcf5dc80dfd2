-- `are_full` meets its contract: what was asked so far, and what is still to be asked, decide.
use Rattle.std.proofs.Common.{◌≡◌, ◌&&◌, drop}
use Rattle.laws.specs.Lists.{all}
use Rattle.fragment.specs.Full.{is_full}
use Rattle.fragment.proofs.text.are_full.Given as goal

abbrev pub invariant-loop-word : goal.invariant-loop-word
invariant-loop-word l = (l.full && all is_full (drop l.word-index l.words)) ≡ all is_full l.words
