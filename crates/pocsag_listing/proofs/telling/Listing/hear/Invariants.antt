-- `hear` ends, since each turn takes some words.
use Rattle.std.proofs.Common.{length}
use Rattle.pocsag_listing.proofs.telling.Listing.hear.Given as goal

abbrev pub decreases-loop-left : goal.decreases-loop-left
decreases-loop-left g l = length l.left
