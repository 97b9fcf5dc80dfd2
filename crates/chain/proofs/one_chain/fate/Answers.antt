-- `fate` meets its contract: each return is one case of the definition.
use Prim.Native.Nat.{ℕ, ◌+◌, ◌%◌}
use mathlib.Core.Bool.{true, not}
use mathlib.Core.Path.{◌≡◌, sym, ap, ap₂, ◌∙◌}
use native.Mathlib.Omega.{arith}
use borrow.Author.Tests.{eq-eqb, ne_eqb}
use Rattle.std.specs.Prelude.{Result, Ok}
use Rattle.laws.proofs.Tests.{not_both}
use Rattle.fragment.specs.declared.FragmentHeading.{FragmentHeading}
use Rattle.chain.specs.declared.Chain.{Chain}
use Rattle.chain.specs.declared.Lost.{Lost}
use Rattle.chain.specs.Steps.{goes_on, sum_after, characters_after}
use Rattle.chain.proofs.Fates.{out_of_turn, wrong_total, goes_on_lem, is_whole, join_room}
use Rattle.chain.specs.FateAnswers.{as_fate}
use Rattle.chain.proofs.one_chain.fate.Goals as goal

-- a chain that goes on and awaits an F
abbrev as_grown : Chain → FragmentHeading → ℕ → ℕ → Result Chain Lost
as_grown c h next sum =
    Ok (record {
      is_open = 1;
      address = c.address;
      message_number = c.message_number;
      next_fragment = next;
      sum = sum;
      characters = characters_after c h;
    })

-- a sum of what is left of two numbers, as far as it is kept
sum_of : (c : Chain) (h : FragmentHeading) → (c.sum % 128 + h.sum % 128) % 128 ≡ sum_after c h
sum_of c h = omega arith

pub returns-then-heading-chain : goal.returns-then-heading-chain
returns-then-heading-chain c = c.lost.ensures ∙ ap as_fate (sym (out_of_turn c.args.chain c.args.heading c.if-heading-chain.true))

pub returns-then-heading-gt-MOST_CHARACTERS : goal.returns-then-heading-gt-MOST_CHARACTERS
returns-then-heading-gt-MOST_CHARACTERS c =
    c.lost-then-heading-gt-MOST_CHARACTERS.ensures ∙ ap as_fate (sym ((join_room c.args.chain c.args.heading c.if-heading-chain.false).1 (omega (arith, c.if-heading-gt-MOST_CHARACTERS.true))))

pub returns-then-chain-heading : goal.returns-then-chain-heading
returns-then-chain-heading c =
    c.lost-then-chain-heading.ensures ∙ ap as_fate (sym ((join_room c.args.chain c.args.heading c.if-heading-chain.false).1 (omega (arith, c.if-chain-heading.true))))

pub returns-then-heading-ne0 : goal.returns-then-heading-ne0
returns-then-heading-ne0 c = let on : goes_on c.args.heading ≡ true = ap not (ne_eqb c.args.heading.continued 0 c.if-heading-ne0.true) in
    ap₂ (as_grown c.args.chain c.args.heading) c.next_number.ensures (sum_of c.args.chain c.args.heading)
    ∙ ap as_fate (sym (goes_on_lem c.args.chain c.args.heading (record {
      turn = c.if-heading-chain.false;
      fits = omega (arith, c.if-heading-gt-MOST_CHARACTERS.false, c.if-chain-heading.false);
      total = λ ends. absurd (not_both (goes_on c.args.heading) on ends);
    }) on))

pub returns-then-sum-ne-WHOLE_SUM : goal.returns-then-sum-ne-WHOLE_SUM
returns-then-sum-ne-WHOLE_SUM c =
    c.lost-then-sum-ne-WHOLE_SUM.ensures ∙ ap as_fate
    (sym
    (wrong_total c.args.chain c.args.heading c.if-heading-chain.false
    (omega (arith, c.if-heading-gt-MOST_CHARACTERS.false, c.if-chain-heading.false))
    (ap not (eq-eqb c.args.heading.continued 0 c.if-heading-ne0.false))
    (λ same. c.if-sum-ne-WHOLE_SUM.true (sum_of c.args.chain c.args.heading ∙ same))))

pub returns : goal.returns
returns c = ap as_fate (sym (is_whole c.args.chain c.args.heading (record {
  turn = c.if-heading-chain.false;
  fits = omega (arith, c.if-heading-gt-MOST_CHARACTERS.false, c.if-chain-heading.false);
  total = λ ends. sym (sum_of c.args.chain c.args.heading) ∙ c.if-sum-ne-WHOLE_SUM.false;
}) (ap not (eq-eqb c.args.heading.continued 0 c.if-heading-ne0.false))))
