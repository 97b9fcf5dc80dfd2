-- `write_word` meets its contract: the text of three cells, one after the other.
use Rattle.std.proofs.Common.{sym, ap, ◌∙◌, arith}
use Rattle.laws.specs.Lists.{put}
use Rattle.laws.proofs.Writing.{put_on}
use Rattle.fragment.proofs.text.Cells.{text_three, length_three}
use Rattle.fragment.proofs.text.write_word.Goals as goal

pub write_cell-second-requires : goal.write_cell-second-requires
write_cell-second-requires c = record { cell_bound = omega arith; cell_in_bounds = omega (arith, length_three c.args.word, c.requires) }

pub write_cell-third-requires : goal.write_cell-third-requires
write_cell-third-requires c = record { cell_bound = omega arith; cell_in_bounds = omega (arith, length_three c.args.word, c.requires, c.write_cell-second.ensures.next) }

pub write_cell-requires : goal.write_cell-requires
write_cell-requires c = record { cell_bound = omega arith; cell_in_bounds = omega (arith, length_three c.args.word, c.requires, c.write_cell-second.ensures.next, c.write_cell-third.ensures.next) }

pub returns : goal.returns
returns c = let args = c.args in
    let all = length_three args.word in record {
      next = omega (arith, c.write_cell-second.ensures.next, c.write_cell-third.ensures.next, c.write_cell.ensures.next, all);
      buffer = c.write_cell.ensures.buffer
          ∙ put_on c.write_cell-second.new.text c.write_cell-third.new.text _ _ c.write_cell-second.result
          c.write_cell-third.result (omega (arith, c.requires, c.write_cell-second.ensures.next, all)) c.write_cell-third.ensures.buffer c.write_cell-third.ensures.next
          ∙ put_on args.text.now c.write_cell-second.new.text _ _ args.at c.write_cell-second.result
          (omega (arith, c.requires)) c.write_cell-second.ensures.buffer c.write_cell-second.ensures.next
          ∙ ap (put args.text.now args.at) (sym (text_three args.word));
    }
