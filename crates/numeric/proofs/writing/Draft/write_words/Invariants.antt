-- `write_words` meets its contract: each word is a digit of the page's bits, of which the later ones are the characters' alone.
use Prim.Native.Nat.{◌+◌, ◌-◌, ◌*◌, ◌/◌, ◌^◌}
use mathlib.Core.List.{[], ◌∷◌, ◌++◌}
use mathlib.Core.Path.{◌≡◌}
use lib.ListN.{length}
use Rattle.laws.specs.Layouts.{size, packed}
use Rattle.laws.specs.Lists.{put}
use Rattle.laws.specs.Numerals.{digits}
use Rattle.numeric.specs.Pages.{head_of, spaced, codes_of}
use Rattle.numeric.specs.Answers.{flags_of}
use Rattle.numeric.specs.Sets.{set_in}
use Rattle.numeric.proofs.writing.Draft.write_words.Given as goal

abbrev pub invariant-loop-i : goal.invariant-loop-i
invariant-loop-i l =
    let page = l.self in
    let layout = head_of page.head.numbered in
    let row = packed layout (flags_of page.numbering ++ 0 ∷ []) + 2 ^ size layout * codes_of (set_in page.set) (spaced page.room page.text.now) in
    record {
      as_long : length l.words ≡ length l.initial.words;
      stored : put l.words l.i (digits (2 ^ 21) (page.words - l.i) (row / (2 ^ 21) ^ l.i))
          ≡ put l.initial.words 1 (digits (2 ^ 21) (page.words - 1) (row / (2 ^ 21) ^ 1));
    }
