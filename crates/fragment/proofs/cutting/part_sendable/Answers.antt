-- `part_sendable` meets its contract: what was asked so far, and what is still to be asked, decide.
use Rattle.std.proofs.Common.{◌+◌, Bool, ◌&&◌, drop, ap, ◌∙◌, arith}
use Rattle.laws.proofs.Rows.{all_turn, all_done}
use Rattle.fragment.specs.Cutting.{is_text, sendable}
use Rattle.fragment.proofs.cutting.part_sendable.Goals as goal

pub loop-character-preserved : goal.loop-character-preserved
unfolding sendable
loop-character-preserved c = let text = c.args.part.now in
    ap (λ (b : Bool). (c.loop-character.all && b) && sendable (drop (c.loop-character.character-index + 1) text)) c.is_text-all.ensures
    ∙ all_turn is_text text c.loop-character.character-index c.loop-character.all (omega arith)
    ∙ c.loop-character.invariant

pub returns : goal.returns
unfolding sendable
returns c = all_done is_text c.args.part.now c.loop-character.character-index c.loop-character.all (omega arith) ∙ c.loop-character.invariant
