-- The reads as far as they have come: each of them gave some bytes.
use Rattle.std.proofs.Common.{length, ◌≤◌, ◌<◌}
use Rattle.lister.specs.Stands.{stand_of}
use Rattle.listing.specs.Runs.{Went}
use Rattle.listing.proofs.Listing.list_reads.Given as goal

abbrev pub invariant-loop : goal.invariant-loop
invariant-loop g l = 0 < length l.input
    → (run : Went (g.R.Read.remaining l.fn.reader) (g.R.Read.remaining l.reader) (stand_of l.fn.self.lister) (stand_of l.self.lister)
    (g.W.Write.contents l.fn.writer) (g.W.Write.contents l.writer)) × (l.counter ≤ length run.bytes)
