-- `explain_portion` ends, since each turn goes on after a line feed.
use Rattle.std.proofs.Common.{length}
use Rattle.explaining.proofs.Explaining.explain_portion.Given as goal

abbrev pub decreases-loop-end : goal.decreases-loop-end
decreases-loop-end g l = length l.rest
