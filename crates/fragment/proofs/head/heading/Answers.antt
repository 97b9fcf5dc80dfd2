-- `heading` meets its contract: the questions stand in the definition's order.
use Rattle.std.proofs.Common.{sym, ◌∙◌, arith, eq-eqb, ne_eqb}
use Rattle.sums.specs.Sums.{ten_bits}
use Rattle.fragment.specs.Fragments.{check_in}
use Rattle.fragment.specs.Answers.{heading_of}
use Rattle.fragment.proofs.Laws.{heading_told_lem}
use Rattle.fragment.proofs.head.heading.Goals as goal

pub returns-then-not-is_size : goal.returns-then-not-is_size
unfolding heading_of
returns-then-not-is_size c = simp (sym c.is_size.ensures ∙ c.if-not-is_size.true)

pub returns-then-not-undamaged : goal.returns-then-not-undamaged
unfolding heading_of
returns-then-not-undamaged c =
    simp (sym c.is_size.ensures ∙ c.if-not-is_size.false, sym c.undamaged.ensures ∙ c.if-not-undamaged.true)

pub returns-then-ten_bit-words : goal.returns-then-ten_bit-words
unfolding heading_of
returns-then-ten_bit-words c =
    let words = c.args.words.now in
    simp (
      sym c.is_size.ensures ∙ c.if-not-is_size.false,
      sym c.undamaged.ensures ∙ c.if-not-undamaged.false,
      ne_eqb (ten_bits words) (check_in words) (λ same. omega (arith, c.ten_bit.ensures, c.if-ten_bit-words.true)),
    )

pub returns : goal.returns
returns c =
    let words = c.args.words.now in
    c.heading_of.ensures
    ∙ sym
    (heading_told_lem words
    (record {
      size = sym c.is_size.ensures ∙ c.if-not-is_size.false;
      intact = sym c.undamaged.ensures ∙ c.if-not-undamaged.false;
      sum = eq-eqb (ten_bits words) (check_in words) (omega (arith, c.ten_bit.ensures, c.if-ten_bit-words.false));
    }))
