-- The text as far as it has come is put as it is shown.
use Rattle.std.proofs.Common.{take}
use Rattle.std.specs.Io.KnownBytes.{Appends}
use Rattle.lister.specs.Lines.{shown}
use Rattle.pocsag_listing.proofs.writing.put_shown.Given as goal

abbrev pub invariant-loop-byte : goal.invariant-loop-byte
invariant-loop-byte g l = Appends (g.W.Write.contents l.fn.writer) (g.W.Write.contents l.writer) (shown (take l.byte-index l.text))
