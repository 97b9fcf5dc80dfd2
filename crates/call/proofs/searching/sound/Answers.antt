-- `sound` meets its contract: from the last call to the first, the later ones are sound and their keys are marked.
use Prim.Native.Nat.{ℕ, ◌+◌, ◌-◌, ◌≤◌}
use mathlib.Core.Bool.{true, false}
use mathlib.Core.List.{[], ◌∷◌, ◌++◌}
use mathlib.Core.Logic.{⊎_elim}
use mathlib.Core.Path.{◌≡◌, refl, sym, ap, ◌∙◌, subst}
use native.Mathlib.Omega.{arith}
use borrow.Author.Rules.{rules}
use lib.ListN.{length, drop, drop_of_length-le, length-set}
use Rattle.std.proofs.lemmas.List.{length_push}
use Rattle.std.proofs.lemmas.Iterator.Adapters.{YieldsList-from_rev_slice}
use Rattle.std.proofs.lemmas.Iterator.Consumers.{YieldsList-turn, YieldsList-end}
use Rattle.laws.specs.Choice.{bit_of}
use Rattle.laws.proofs.Bits.{set_bit}
use Rattle.laws.proofs.Tests.{decided}
use Rattle.call.specs.Calls.{opens, in_limits, holds, sound}
use Rattle.call.proofs.Chains.{turn_back, met_all}
use Rattle.call.proofs.Records.{Limits, in_limits_lem, sound_end}
use Rattle.call.proofs.searching.Asking.{unsound, twice, alone, spoiled}
use Rattle.call.proofs.searching.Marks.{with_mark, key_of, Marks, none_marked, one_marked}
use Rattle.call.proofs.searching.sound.Goals as goal

pub loop-call-init : goal.loop-call-init
loop-call-init c =
    let row = opens c.args.calls.now in
    let done : length row ≤ length row - 0 = omega arith in record {
      can_go_on = search rules;
      ends = search rules;
      within = omega arith;
      six = refl;
      later = sound_end row (length row - 0) done;
      marked = rw (drop_of_length-le row done) (none_marked 6);
    }

pub returns-then-not-in_limits : goal.returns-then-not-in_limits
returns-then-not-in_limits c =
    let row = opens c.args.calls.now in
    let call = c.in-Some.call.now in
    let n = length c.loop-call.yielded in
    let turn = turn_back row n call call (YieldsList-turn (YieldsList-from_rev_slice row cc) c.loop-call.yielded _ c.loop-call.yielded_by _ _ c.in-Some.call c.in-Some.is c.next.ensures.steps) in
    let bad : in_limits call ≡ false = sym c.in_limits.ensures ∙ c.if-not-in_limits.true in
    sym (spoiled row (length row - (n + 1)) (ap sound turn.1 ∙ unsound call (drop (length row - n) row) bad))

pub returns-then-mark-bit-eq1 : goal.returns-then-mark-bit-eq1
returns-then-mark-bit-eq1 c =
    let row = opens c.args.calls.now in
    let call = c.in-Some.call.now in
    let n = length c.loop-call.yielded in
    let later = drop (length row - n) row in
    let turn = turn_back row n call call (YieldsList-turn (YieldsList-from_rev_slice row cc) c.loop-call.yielded _ c.loop-call.yielded_by _ _ c.in-Some.call c.in-Some.is c.next.ensures.steps) in
    let sane : in_limits call ≡ true = sym c.in_limits.ensures ∙ c.if-not-in_limits.false in
    let limits : Limits call = (in_limits_lem call).0 sane in
    let marked = c.loop-call.invariant.marked call.phase call.vector limits.of_phase limits.of_vector in
    let met = set_bit (holds call.phase call.vector later) (sym marked ∙ c.if-mark-bit-eq1.true) in
    sym (spoiled row (length row - (n + 1)) (ap sound turn.1 ∙ twice call later met))

pub loop-call-preserved : goal.loop-call-preserved
loop-call-preserved c =
    let row = opens c.args.calls.now in
    let call = c.in-Some.call.now in
    let n = length c.loop-call.yielded in
    let marks = c.loop-call.marks in
    let later = drop (length row - n) row in
    let turn = turn_back row n call call (YieldsList-turn (YieldsList-from_rev_slice row cc) c.loop-call.yielded _ c.loop-call.yielded_by _ _ c.in-Some.call c.in-Some.is c.next.ensures.steps) in
    let sane : in_limits call ≡ true = sym c.in_limits.ensures ∙ c.if-not-in_limits.false in
    let limits : Limits call = (in_limits_lem call).0 sane in
    let so_far = c.loop-call.invariant in
    let marked = so_far.marked call.phase call.vector limits.of_phase limits.of_vector in
    let none : holds call.phase call.vector later ≡ false =
    ⊎_elim (λ met. absurd (c.if-mark-bit-eq1.false (marked ∙ ap bit_of met))) (λ unmet. unmet) (decided (holds call.phase call.vector later))
    in
    let met : length (c.loop-call.yielded ++ c.in-Some.call ∷ []) ≡ n + 1 = length_push c.loop-call.yielded c.in-Some.call in
    let now : drop (length row - length (c.loop-call.yielded ++ c.in-Some.call ∷ [])) row ≡ call ∷ later =
    ap (λ (k : ℕ). drop (length row - k) row) met ∙ turn.1 in record {
      can_go_on = search rules;
      ends = search rules;
      within = omega (arith, met, turn.0);
      six = length-set marks _ _ ∙ so_far.six;
      later = ap sound now ∙ alone call later sane none ∙ so_far.later;
      marked = subst (Marks (with_mark marks (key_of call.phase call.vector))) (sym now)
          (one_marked marks call later so_far.six limits.of_phase limits.of_vector so_far.marked);
    }

pub returns : goal.returns
returns c =
    let row = opens c.args.calls.now in
    let all = YieldsList-end (YieldsList-from_rev_slice row cc) c.loop-call.yielded _ c.loop-call.yielded_by _ _ c.in-None.is c.next.ensures.steps in
    sym c.loop-call.invariant.later ∙ ap sound (met_all row (length c.loop-call.yielded) all.1)
