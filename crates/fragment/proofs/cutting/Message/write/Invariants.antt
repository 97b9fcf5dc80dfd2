-- `write` meets its contract: each fragment after the one before it.
use Rattle.std.proofs.Common.{◌≡◌, ◌-◌, ◌*◌, length}
use mathlib.Core.List.{flatten}
use Rattle.laws.specs.Lists.{put}
use Rattle.fragment.specs.Cutting.{fragments_for, fragments_from, cut}
use Rattle.fragment.proofs.cutting.Message.write.Given as goal

abbrev pub invariant-loop-place : goal.invariant-loop-place
invariant-loop-place l = let count = fragments_for l.self.largest (length l.self.text.now) in
    (length l.words ≡ length l.initial.words)
    × (put l.words (l.self.largest * l.place) (flatten (fragments_from l.self.marks l.self.largest l.self.text.now l.place (count - l.place)))
    ≡ put l.initial.words 0 (flatten (cut l.self.marks l.self.largest l.self.text.now)))
