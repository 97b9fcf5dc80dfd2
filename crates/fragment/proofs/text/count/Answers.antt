-- `count` meets its contract: the characters so far and those still to come are all.
use Rattle.std.proofs.Common.{ℕ, List, ◌∷◌, length, sym, ap, arith, length-take, length-take-le}
use Rattle.fragment.specs.Cells.{plain_text}
use Rattle.fragment.proofs.text.Cells.{length_cons, text_parts, tail, text_most}
use Rattle.fragment.proofs.text.count.Goals as goal

pub loop-rest-init : goal.loop-rest-init
loop-rest-init c = omega (arith, c.count_in-count.ensures, length_cons c.args.second c.args.words.now)

pub slice_bounds-count_few-end : goal.slice_bounds-count_few-end
slice_bounds-count_few-end c = sym (length-take-le 85 c.loop-rest.rest.now (omega arith))

pub count_few-requires : goal.count_few-requires
count_few-requires c = omega (arith, length-take 85 c.loop-rest.rest.now)

pub overflow_add-count : goal.overflow_add-count
overflow_add-count c =
    omega (
      arith,
      c.well_formed,
      c.loop-rest.invariant,
      c.count_few.ensures,
      text_parts 85 c.loop-rest.rest.now,
      text_most (c.args.second ∷ c.args.words.now),
    )

pub loop-rest-preserved : goal.loop-rest-preserved
loop-rest-preserved c =
    let rest = c.loop-rest.rest.now in
    let others = ap (λ (row : List ℕ). length (plain_text row)) (tail 85 rest) in
    omega (arith, others, c.loop-rest.invariant, c.count_few.ensures, text_parts 85 rest)

pub overflow_add-result : goal.overflow_add-result
overflow_add-result c =
    omega (arith, c.well_formed, c.loop-rest.invariant, c.count_few-2.ensures, text_most (c.args.second ∷ c.args.words.now))
