-- `are_full` meets its contract: what was asked so far, and what is still to be asked, decide.
use Rattle.std.proofs.Common.{◌+◌, Bool, ◌&&◌, drop, ap, ◌∙◌, arith}
use Rattle.laws.specs.Lists.{all}
use Rattle.fragment.specs.Full.{is_full}
use Rattle.laws.proofs.Rows.{all_turn, all_done}
use Rattle.fragment.proofs.text.are_full.Goals as goal

pub loop-word-preserved : goal.loop-word-preserved
loop-word-preserved c = let words = c.args.words.now in
    ap (λ (b : Bool). (c.loop-word.full && b) && all is_full (drop (c.loop-word.word-index + 1) words)) c.is_full-full.ensures
    ∙ all_turn is_full words c.loop-word.word-index c.loop-word.full (omega arith)
    ∙ c.loop-word.invariant

pub returns : goal.returns
returns c = all_done is_full c.args.words.now c.loop-word.word-index c.loop-word.full (omega arith) ∙ c.loop-word.invariant
