-- `word` meets its contract: three cells from a place of the message.
use Rattle.std.proofs.Common.{arith}
use Rattle.fragment.proofs.CutCounts.{message_length}
use Rattle.fragment.proofs.cutting.MessageCells.{three_cells}
use Rattle.fragment.proofs.cutting.Message.word.Goals as goal

pub overflow_add-place : goal.overflow_add-place
overflow_add-place c = omega (arith, c.requires, message_length c.args.self.text.now, c.args.self.is_short)

pub overflow_add-place-2 : goal.overflow_add-place-2
overflow_add-place-2 c = omega (arith, c.requires, message_length c.args.self.text.now, c.args.self.is_short)

pub returns : goal.returns
returns c = record {
  word = rw (c.cell-first.ensures.cell, c.cell-second.ensures.cell, c.cell-third.ensures.cell)
      (three_cells c.args.self.text.now c.args.place c.requires);
  small = omega (arith, c.cell-first.ensures.small, c.cell-second.ensures.small, c.cell-third.ensures.small);
}
