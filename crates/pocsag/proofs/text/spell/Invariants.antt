-- `spell` meets its contract: the characters so far are stored, and the others still to come.
use Prim.Native.Nat.{◌-◌, ◌/◌, ◌^◌, ◌<◌}
use mathlib.Core.List.{map}
use mathlib.Core.Path.{◌≡◌}
use lib.ListN.{length}
use Rattle.laws.specs.Lists.{put}
use Rattle.laws.specs.Numerals.{number, digits}
use Rattle.pocsag.specs.Texts.{kind_number, width_of, character_of}
use Rattle.pocsag.proofs.Spelling.{Held}
use Rattle.pocsag.proofs.text.spell.Given as goal

abbrev pub invariant-loop-i : goal.invariant-loop-i
invariant-loop-i l = record {
  few : l.bits < 20;
  so : Held (width_of (kind_number l.kind)) l.words l.held l.bits l.at l.i;
  long : length l.text ≡ length l.initial.text;
  rest : put l.text l.i (map (character_of (kind_number l.kind)) (digits (2 ^ width_of (kind_number l.kind)) (l.room - l.i) (number (2 ^ 20) l.words / (2 ^ width_of (kind_number l.kind)) ^ l.i)))
      ≡ put l.initial.text 0 (map (character_of (kind_number l.kind)) (digits (2 ^ width_of (kind_number l.kind)) l.room (number (2 ^ 20) l.words)));
}
