-- `write_characters` meets its contract: the characters so far are stored, the others still to come; the bit reached is that after them.
use Prim.Native.Nat.{◌+◌, ◌-◌, ◌*◌, ◌/◌, ◌^◌, ◌<◌}
use mathlib.Core.Path.{◌≡◌}
use mathlib.Core.List.{map}
use lib.ListN.{length, get_or}
use Rattle.laws.specs.Layouts.{size}
use Rattle.laws.specs.Lists.{put}
use Rattle.laws.specs.Numerals.{number, digits}
use Rattle.numeric.specs.Pages.{head_of}
use Rattle.numeric.specs.Sets.{set_in}
use Rattle.numeric.proofs.reading.Received.write_characters.Given as goal

abbrev pub invariant-loop-i : goal.invariant-loop-i
invariant-loop-i l =
    let numbered = l.self.head.numbered in
    let page = number (2 ^ 21) l.self.words.now / 2 ^ size (head_of numbered) in
    record {
      in_word : l.place < 21;
      at_bit : 21 * l.at + l.place ≡ size (head_of numbered) + 4 * l.i;
      as_long : length l.text ≡ length l.initial.text;
      stored : put l.text l.i (map (λ c. get_or (set_in l.set) c 0) (digits 16 (l.room - l.i) (page / 16 ^ l.i)))
          ≡ put l.initial.text 0 (map (λ c. get_or (set_in l.set) c 0) (digits 16 l.room page));
    }
