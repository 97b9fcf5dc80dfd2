-- `mend_each` meets its contract: the words so far are mended, and those still to come are as they were.
use mathlib.Core.List.{map}
use mathlib.Core.Path.{◌≡◌}
use lib.ListN.{length, drop}
use Rattle.laws.specs.Lists.{put}
use Rattle.pocsag.specs.Mending.{word_mended, bits_told}
use Rattle.pocsag.proofs.layout.Tables.mend_each.Given as goal

abbrev pub invariant-loop-i : goal.invariant-loop-i
invariant-loop-i l = (length l.words ≡ length l.initial.words) × (length l.bits ≡ length l.initial.bits)
    × (put l.words l.i (map word_mended (drop l.i l.words)) ≡ put l.initial.words 0 (map word_mended l.initial.words))
    × (put l.bits l.i (map bits_told (drop l.i l.words)) ≡ put l.initial.bits 0 (map bits_told l.initial.words))
