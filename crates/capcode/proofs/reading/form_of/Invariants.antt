use Prim.Native.Nat.{◌-◌, ◌≤◌}
use lib.ListN.{length}
use Rattle.capcode.specs.Reads.{form_of}
use Rattle.capcode.proofs.Course.{Stands}
use Rattle.capcode.proofs.reading.form_of.Given as goal

abbrev pub invariant-loop-i : goal.invariant-loop-i
invariant-loop-i l = Stands l.text (form_of l.text) l.i l.s × (l.i ≤ length l.text)

abbrev pub decreases-loop-i : goal.decreases-loop-i
decreases-loop-i l = length l.text - l.i
