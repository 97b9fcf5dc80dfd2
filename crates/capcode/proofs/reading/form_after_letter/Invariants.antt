use mathlib.Core.Path.{◌≡◌}
use lib.ListN.{drop}
use Rattle.capcode.specs.Reads.{going, follow, end_of}
use Rattle.capcode.proofs.Course.{Stands}
use Rattle.capcode.proofs.reading.form_after_letter.Given as goal

abbrev pub invariant-loop-here : goal.invariant-loop-here
invariant-loop-here l = Stands l.text (end_of (follow (going l.from l.fn.start) (drop l.from l.text))) l.here l.s × (l.s.letter ≡ 0 → ⊥)
