-- `sum_after` meets its contract: the sum so far and what is still to come, modulo 1024.
use Rattle.std.proofs.Common.{ℕ, ◌+◌, ◌%◌, ◌^◌, drop, sym, ap, ◌∙◌, arith}
use Rattle.laws.specs.Lists.{sum_by}
use Rattle.sums.specs.Sums.{groups_of}
use Rattle.sums.proofs.Summing.{one_more, none_left}
use Rattle.sums.proofs.sum_after.Goals as goal

pub loop-word-preserved : goal.loop-word-preserved
loop-word-preserved c =
    let rest = c.args.rest.now in
    let at = c.loop-word.word-index in
    ap (λ (n : ℕ). ((c.loop-word.sum + n) % 2 ^ 32 + sum_by groups_of (drop (at + 1) rest)) % 1024) c.groups-sum-in-loop-word.ensures.sum
    ∙ one_more groups_of rest 22 10 c.loop-word.sum at (omega arith)
    ∙ c.loop-word.invariant

pub returns : goal.returns
returns c = sym (none_left groups_of c.args.rest.now 22 10 c.loop-word.sum c.loop-word.word-index (omega arith)) ∙ c.loop-word.invariant
