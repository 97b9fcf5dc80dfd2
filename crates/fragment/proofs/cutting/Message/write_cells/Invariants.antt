-- `write_cells` meets its contract: the words so far are written, the others still to come.
use Rattle.std.proofs.Common.{◌≡◌, ◌+◌, ◌-◌, ◌*◌, length, take, drop}
use Rattle.laws.specs.Lists.{put}
use Rattle.fragment.specs.Fragments.{words_of}
use Rattle.fragment.specs.Cutting.{message_of}
use Rattle.fragment.proofs.cutting.Message.write_cells.Given as goal

abbrev pub invariant-loop-word : goal.invariant-loop-word
invariant-loop-word l = let size = length l.initial.words in
    (l.at ≡ l.place + 3 * l.word-index) × (length l.words ≡ size)
    × (put l.words l.word-index (words_of (take (3 * (size - l.word-index)) (drop l.at (message_of l.self.text.now)))) ≡ put l.initial.words 0 (words_of (take (3 * size) (drop l.place (message_of l.self.text.now)))))
