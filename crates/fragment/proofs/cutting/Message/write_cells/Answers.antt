-- `write_cells` meets its contract: each word holds the next three cells.
use Rattle.std.proofs.Common.{◌+◌, ◌≤◌, length, ◌∙◌, arith, length-set}
use Rattle.fragment.specs.Cutting.{message_of}
use Rattle.fragment.proofs.CutCounts.{message_length}
use Rattle.fragment.proofs.cutting.Writing.{cell_turn, cells_done, body_written}
use Rattle.fragment.proofs.cutting.Message.write_cells.Goals as goal

pub word-requires : goal.word-requires
word-requires c = omega (arith, c.requires, c.loop-word.invariant.0, c.loop-word.invariant.1)

pub overflow_add-at : goal.overflow_add-at
overflow_add-at c = omega (arith, c.requires, c.loop-word.invariant.0, c.loop-word.invariant.1, message_length c.args.self.text.now, c.args.self.is_short)

pub loop-word-preserved : goal.loop-word-preserved
loop-word-preserved c =
    let inv = c.loop-word.invariant in
    let message = message_of c.args.self.text.now in
    let inside : c.loop-word.at + 3 ≤ length message = omega (arith, c.requires, inv.0, inv.1) in (
      omega (arith, inv.0),
      simp length-set inv.1,
      cell_turn message c.loop-word.words c.loop-word.at c.loop-word.word-index (length c.args.words.now) c.word.result (omega arith)
          (omega (arith, inv.1)) inside c.word.ensures.word
          ∙ inv.2,
    )

pub returns : goal.returns
returns c =
    let message = message_of c.args.self.text.now in
    cells_done message c.loop-word.words c.loop-word.at c.loop-word.word-index (length c.args.words.now) c.loop-word-test.false
    ∙ c.loop-word.invariant.2
    ∙ body_written message c.args.words.now c.args.place c.requires
