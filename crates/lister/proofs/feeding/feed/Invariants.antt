-- `feed` meets its contract: `Progress` holds between two turns, and at the end is what is asked.
use Prim.Native.Nat.{◌-◌}
use lib.ListN.{length}
use Rattle.lister.specs.Stands.{stand_of}
use Rattle.lister.proofs.Progress.{Progress}
use Rattle.lister.proofs.feeding.feed.Given as goal

abbrev pub invariant-loop-fed : goal.invariant-loop-fed
invariant-loop-fed l = Progress (stand_of l.fn.lister) l.input l.initial.out l.fed l.out

abbrev pub decreases-loop-fed : goal.decreases-loop-fed
decreases-loop-fed l = length l.input - l.fed.taken
