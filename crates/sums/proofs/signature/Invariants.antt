-- `signature` meets its contract: the sum so far and what is still to come, modulo 128.
use Rattle.std.proofs.Common.{◌≡◌, ◌+◌, ◌%◌, drop}
use Rattle.laws.specs.Lists.{sum_by}
use Rattle.sums.specs.Sums.{whole}
use Rattle.sums.proofs.signature.Given as goal

abbrev pub invariant-loop-character : goal.invariant-loop-character
invariant-loop-character l = (l.sum + sum_by whole (drop l.character-index l.characters)) % 128 ≡ sum_by whole l.characters % 128
