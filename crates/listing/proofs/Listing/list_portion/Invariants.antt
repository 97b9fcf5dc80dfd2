-- The listing of a portion as far as it has come.
use Rattle.std.proofs.Common.{length}
use Rattle.lister.specs.Stands.{stand_of}
use Rattle.listing.proofs.Steps.{Underway}
use Rattle.listing.proofs.Listing.list_portion.Given as goal

abbrev pub invariant-loop-rest : goal.invariant-loop-rest
invariant-loop-rest g l =
    Underway (g.W.Write.contents l.fn.writer) (g.W.Write.contents l.writer) (stand_of l.fn.self.lister) (stand_of l.self.lister) l.input l.rest

abbrev pub decreases-loop-rest : goal.decreases-loop-rest
decreases-loop-rest g l = length l.rest
