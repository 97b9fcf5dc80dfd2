-- `list_portion` ends, since each turn takes some bytes.
use Rattle.std.proofs.Common.{length}
use Rattle.pocsag_listing.proofs.reading.Reading.list_portion.Given as goal

abbrev pub decreases-loop-left : goal.decreases-loop-left
decreases-loop-left g l = length l.left
