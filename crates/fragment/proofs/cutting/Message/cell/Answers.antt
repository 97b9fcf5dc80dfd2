-- `cell` meets its contract: before, within and after the text.
use Rattle.std.proofs.Common.{◌∙◌, arith}
use Rattle.fragment.proofs.cutting.MessageCells.{sum_small, first_cell, text_cell, fill_cell, cell_small}
use Rattle.fragment.proofs.cutting.Message.cell.Goals as goal

pub returns-then-place-eq0 : goal.returns-then-place-eq0
returns-then-place-eq0 c = let message = c.args.self in record {
  cell = message.is_signed ∙ first_cell message.text.now c.args.place c.if-place-eq0.true;
  small = rw message.is_signed (sum_small message.text.now);
}

pub returns-then-place-self : goal.returns-then-place-self
returns-then-place-self c = record { cell = fill_cell c.args.self.text.now c.args.place c.if-place-self.true; small = omega arith }

pub returns : goal.returns
returns c = let text = c.args.self.text.now in record {
  cell = text_cell text c.args.place c.if-place-eq0.false c.if-place-self.false;
  small = cell_small text c.args.place c.args.self.can_be_sent c.if-place-eq0.false c.if-place-self.false;
}
