-- `sum` meets its contract: the sum so far and what is still to come, modulo 128.
use Rattle.std.proofs.Common.{ℕ, ◌+◌, ◌-◌, ◌%◌, ◌^◌, List, length, take, drop, sym, ap, ◌∙◌, arith}
use Rattle.laws.specs.Lists.{sum_by}
use Rattle.sums.proofs.Summing.{one_more, none_left}
use Rattle.fragment.proofs.text.Cells.{cell_sum, sum_words, tail}
use Rattle.fragment.proofs.head.sum.Goals as goal

pub loop-word-preserved : goal.loop-word-preserved
loop-word-preserved c =
    let rest = take (length c.args.words.now - 1) (drop 1 c.args.words.now) in
    ap (λ (n : ℕ). ((c.loop-word.sum + n) % 2 ^ 32 + sum_by cell_sum (drop (c.loop-word.word-index + 1) rest)) % 128) c.sum_in-sum.ensures.sum
    ∙ one_more cell_sum rest 25 7 c.loop-word.sum c.loop-word.word-index (omega arith)
    ∙ c.loop-word.invariant

pub returns : goal.returns
returns c =
    let words = c.args.words.now in
    let rest = take (length words - 1) (drop 1 words) in
    sym (none_left cell_sum rest 25 7 c.loop-word.sum c.loop-word.word-index (omega arith))
    ∙ c.loop-word.invariant
    ∙ ap (λ (row : List ℕ). sum_by cell_sum row % 128) (tail 1 words)
    ∙ ap (λ (n : ℕ). n % 128) (sym (sum_words (drop 1 words)))
