-- How long what is written can be.
use Prim.Native.Nat.{ℕ, ◌≤◌}
use mathlib.Core.Bool.{Bool, ◌&&◌}
use mathlib.Core.List.{List, [], ◌∷◌, ◌++◌}
use native.Mathlib.Omega.{arith}
use lib.Dec.{eqb, leb}
use lib.ListN.{length, length-append}
use Rattle.laws.specs.Choice.{pick}
use Rattle.lister.specs.Stands.{Stand, stand}
use Rattle.lister.specs.Verdicts.{line_feed, verdict_of}
use Rattle.lister.proofs.line_end.Lengths.{pick_short, verdict_short}
use Rattle.lister.specs.Lines.{shown_byte}
use Rattle.lister.specs.Portions.{kept, held_bytes, held_shown, writes, most_written, closed_text, closes}
use Rattle.lister.proofs.Writes.{held_length}

-- a byte is shown as four bytes at most
shown_short : (byte : ℕ) → length (shown_byte byte) ≤ 4
shown_short byte =
    pick_short (eqb byte 92) (92 ∷ 92 ∷ []) _ 4 (omega arith)
    (pick_short (leb 32 byte && leb byte 126) (byte ∷ []) _ 4 (omega arith) (omega arith))

-- no byte of the input writes more than there is room for
pub writes_short : (s : Stand) (byte : ℕ) → length (writes s byte) ≤ most_written
unfolding writes
writes_short (stand text held) byte =
    pick_short (eqb byte line_feed) (verdict_of text) _ most_written (omega (arith, verdict_short text))
    (omega (
      arith,
      length-append (held_shown held) (pick (eqb byte 13) [] (shown_byte byte)),
      held_length held,
      pick_short (eqb byte 13) [] (shown_byte byte) 4 (omega arith) (shown_short byte),
    ))

-- what is written at the end of the input has 27 bytes at most
pub closes_short : (s : Stand) → length (closes s) ≤ 27
unfolding closes
closes_short (stand text held) = closed_short (kept (text ++ held_bytes held)) held
  where
    closed_short : (text : List ℕ) (held : Bool) → length (closed_text text held) ≤ 27
    closed_short [] held = omega arith
    closed_short (b ∷ text) held = omega (arith, length-append (held_shown held) (verdict_of (b ∷ text)), held_length held, verdict_short (b ∷ text))
