-- `has_room` meets its contract: three characters a word are never too few, and where there is less room they are counted.
use Rattle.std.proofs.Common.{◌∷◌, length, sym, arith, le-leb}
use Rattle.fragment.specs.Cells.{plain_text}
use Rattle.fragment.proofs.text.Cells.{text_most}
use Rattle.fragment.proofs.text.has_room.Goals as goal

pub returns-then-words-room : goal.returns-then-words-room
returns-then-words-room c = let row = c.args.second ∷ c.args.words.now in
    sym (le-leb (length (plain_text row)) c.args.room (omega (arith, text_most row, c.if-words-room.true)))
