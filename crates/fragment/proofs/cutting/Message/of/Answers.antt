-- `of` meets its contract: the questions stand in the definition's order.
use Rattle.std.proofs.Common.{length, sym, ◌∙◌, arith, le-ltb, lt-ltb}
use mathlib.Core.List.{flatten}
use Rattle.fragment.proofs.Laws.{size_limits}
use Rattle.fragment.specs.Cutting.{cut}
use Rattle.fragment.specs.CutAnswers.{cut_of}
use Rattle.fragment.proofs.CutCounts.{total}
use Rattle.fragment.proofs.cutting.Message.of.Goals as goal

pub returns-then-not-marked-clause-told : goal.returns-then-not-marked-clause-told
unfolding cut_of
returns-then-not-marked-clause-told c = simp (sym c.marked.ensures ∙ c.if-not-marked.true)

pub returns-then-not-is_size-clause-told : goal.returns-then-not-is_size-clause-told
unfolding cut_of
returns-then-not-is_size-clause-told c =
    simp (sym c.marked.ensures ∙ c.if-not-marked.false, sym c.is_size.ensures ∙ c.if-not-is_size.true)

pub returns-then-text-gt-MOST_CHARACTERS-clause-told : goal.returns-then-text-gt-MOST_CHARACTERS-clause-told
unfolding cut_of
returns-then-text-gt-MOST_CHARACTERS-clause-told c =
    simp (
      sym c.marked.ensures ∙ c.if-not-marked.false,
      sym c.is_size.ensures ∙ c.if-not-is_size.false,
      lt-ltb 1008 (length c.args.text.now) c.if-text-gt-MOST_CHARACTERS.true,
    )

pub returns-then-not-sendable-clause-told : goal.returns-then-not-sendable-clause-told
unfolding cut_of
returns-then-not-sendable-clause-told c =
    simp (
      sym c.marked.ensures ∙ c.if-not-marked.false,
      sym c.is_size.ensures ∙ c.if-not-is_size.false,
      le-ltb 1008 (length c.args.text.now) c.if-text-gt-MOST_CHARACTERS.false,
      sym c.sendable.ensures ∙ c.if-not-sendable.true,
    )

pub returns-then-lent-fragments_for-clause-told : goal.returns-then-lent-fragments_for-clause-told
unfolding cut_of
returns-then-lent-fragments_for-clause-told c =
    let sized = sym c.is_size.ensures ∙ c.if-not-is_size.false in
    let together = total c.args.marks c.args.largest c.args.text.now (size_limits c.args.largest sized).0 in
    simp (
      sym c.marked.ensures ∙ c.if-not-marked.false,
      sized,
      le-ltb 1008 (length c.args.text.now) c.if-text-gt-MOST_CHARACTERS.false,
      sym c.sendable.ensures ∙ c.if-not-sendable.false,
      lt-ltb c.args.lent (length (flatten (cut c.args.marks c.args.largest c.args.text.now)))
          (omega (arith, together, c.fragments_for.ensures.count, c.words_for.ensures, c.if-lent-fragments_for.true)),
    )

pub returns-clause-told : goal.returns-clause-told
unfolding cut_of
returns-clause-told c =
    let sized = sym c.is_size.ensures ∙ c.if-not-is_size.false in
    let together = total c.args.marks c.args.largest c.args.text.now (size_limits c.args.largest sized).0 in
    simp (
      sym c.marked.ensures ∙ c.if-not-marked.false,
      sized,
      le-ltb 1008 (length c.args.text.now) c.if-text-gt-MOST_CHARACTERS.false,
      sym c.sendable.ensures ∙ c.if-not-sendable.false,
      le-ltb c.args.lent (length (flatten (cut c.args.marks c.args.largest c.args.text.now)))
          (omega (arith, together, c.fragments_for.ensures.count, c.words_for.ensures, c.if-lent-fragments_for.false)),
    )
