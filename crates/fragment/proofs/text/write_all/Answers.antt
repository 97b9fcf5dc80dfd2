-- `write_all` meets its contract: the text of the words so far is stored, that of the others still to come.
use Rattle.std.proofs.Common.{not, ap, ◌∙◌, arith, ne_eqb}
use Rattle.fragment.specs.Full.{is_full}
use Rattle.laws.proofs.Rows.{all_next}
use Rattle.fragment.proofs.text.Words.{begun_none, begun_room, begun_more, begun_all}
use Rattle.fragment.proofs.text.write_all.Goals as goal
use Rattle.fragment.proofs.text.write_all.Goals.{then-this-ne0, else-this-ne0}

pub loop-word-init : goal.loop-word-init
loop-word-init g c = (begun_none _ _ _ c.requires.words_in_bounds, c.requires.words_value)

pub write_three-at-requires : goal.write_three-at-requires
write_three-at-requires g c = record {
  word_value = (all_next is_full c.args.words.now c.loop-word.word-index (omega arith)
      (c.loop-word.invariant.1 (ap not (ne_eqb g.row.FULL 0 c.if-this-ne0.true)))).0;
  word_in_bounds = begun_room _ _ _ _ _ _ c.loop-word.invariant.0 (omega arith);
}

pub write_word-at-requires : goal.write_word-at-requires
write_word-at-requires g c = begun_room _ _ _ _ _ _ c.loop-word.invariant.0 (omega arith)

pub loop-word-preserved : goal.loop-word-preserved
loop-word-preserved g c = (
  elim c.if-this-ne0.branch [
    | then-this-ne0 w ↦
        begun_more _ _ _ _ _ _ _ _ c.loop-word.invariant.0 (omega arith) (w.at-is ∙ w.write_three-at.ensures.next)
        (w.text-is ∙ w.write_three-at.ensures.buffer)
    | else-this-ne0 w ↦
        begun_more _ _ _ _ _ _ _ _ c.loop-word.invariant.0 (omega arith) (w.at-is ∙ w.write_word-at.ensures.next)
        (w.text-is ∙ w.write_word-at.ensures.buffer)
  ],
  λ full. (all_next is_full c.args.words.now c.loop-word.word-index (omega arith) (c.loop-word.invariant.1 full)).1,
)

pub returns : goal.returns
returns g c = let both = begun_all _ _ _ _ _ _ c.loop-word.invariant.0 (omega arith) in record { next = both.0; buffer = both.1 }
