-- `write_cell` meets its contract: fill is not written, another cell is.
use Rattle.std.proofs.Common.{length, sym, refl, ap, arith}
use Rattle.laws.proofs.Writing.{put_nothing, put_one}
use Rattle.fragment.proofs.text.Cells.{fill_none, text_one}
use Rattle.fragment.proofs.text.write_cell.Goals as goal

pub returns-then-cell-eq-ETX : goal.returns-then-cell-eq-ETX
returns-then-cell-eq-ETX c = let args = c.args in
    rw (fill_none args.cell c.if-cell-eq-ETX.true) record { next = omega arith; buffer = sym (put_nothing args.text.now args.at) }

pub bounds-text-at : goal.bounds-text-at
bounds-text-at c = omega (arith, ap length (text_one c.args.cell c.if-cell-eq-ETX.false), c.requires.cell_in_bounds)

pub returns : goal.returns
returns c = let args = c.args in
    let one = text_one args.cell c.if-cell-eq-ETX.false in
    rw one record { next = refl; buffer = put_one args.text.now args.at args.cell (omega (arith, ap length one, c.requires.cell_in_bounds)) }
