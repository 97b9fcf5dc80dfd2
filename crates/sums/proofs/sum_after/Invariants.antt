-- `sum_after` meets its contract: the sum so far and what is still to come, modulo 1024.
use Rattle.std.proofs.Common.{◌≡◌, ◌+◌, ◌%◌, drop}
use Rattle.laws.specs.Lists.{sum_by}
use Rattle.sums.specs.Sums.{groups_of}
use Rattle.sums.proofs.sum_after.Given as goal

abbrev pub invariant-loop-word : goal.invariant-loop-word
invariant-loop-word l = (l.sum + sum_by groups_of (drop l.word-index l.rest)) % 1024 ≡ (groups_of l.first + sum_by groups_of l.rest) % 1024
