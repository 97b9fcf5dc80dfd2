-- `give` meets its contract: from the last call to the first, what the word did to the later ones.
use Prim.Native.Nat.{ℕ, ◌+◌, ◌-◌, ◌*◌}
use mathlib.Core.List.{List, [], ◌∷◌, ◌++◌}
use mathlib.Core.Path.{◌≡◌, sym, ap, ◌∙◌}
use native.Mathlib.Omega.{arith}
use borrow.Author.Rules.{rules}
use lib.ListN.{length, drop, length-drop}
use mir.Val.{bool_byte}
use Rattle.std.proofs.lemmas.List.{length_push}
use Rattle.std.proofs.lemmas.Iterator.Adapters.{YieldsList-from_rev_slice}
use Rattle.std.proofs.lemmas.Iterator.Consumers.{YieldsList-turn, YieldsList-end}
use Rattle.laws.specs.Choice.{bit_of}
use Rattle.laws.proofs.Bits.{bit_le, as_bit}
use Rattle.call.specs.declared.Call.{Call}
use Rattle.call.specs.Calls.{opens}
use Rattle.call.specs.Words.{completes, offered, given_to, finished}
use Rattle.call.proofs.Chains.{turn_back, met_all}
use Rattle.call.proofs.MemoryLaws.{given_end, finished_end}
use Rattle.call.proofs.memory.Asking.{given_turn, finished_turn, finished_few}
use Rattle.call.proofs.memory.give.Goals as goal

pub loop-call-init : goal.loop-call-init
loop-call-init c =
    let row = opens c.args.calls.now in record {
      can_go_on = search rules;
      ends = search rules;
      within = omega arith;
      given = sym (given_end c.args.message.now row (length row - 0) c.args.memory.now (omega arith));
      completes = sym (finished_end c.args.message.now row (length row - 0) c.args.memory.now (omega arith));
    }

pub overflow_mul-completed : goal.overflow_mul-completed
overflow_mul-completed c =
    let row = opens c.args.calls.now in
    let later = drop (length row - length c.loop-call.yielded) row in
    let few = finished_few later c.args.message.now c.args.memory.now (omega (arith, c.in_use.ensures.small, ap length c.in_use.ensures.told, length-drop (length row - length c.loop-call.yielded) row)) in
    omega (arith, few, c.loop-call.invariant.completes)

pub overflow_add-completed : goal.overflow_add-completed
overflow_add-completed c =
    let row = opens c.args.calls.now in
    let later = drop (length row - length c.loop-call.yielded) row in
    let few = finished_few later c.args.message.now c.args.memory.now (omega (arith, c.in_use.ensures.small, ap length c.in_use.ensures.told, length-drop (length row - length c.loop-call.yielded) row)) in
    let bit = bit_le c.offer.result in
    omega (arith, few, bit, c.loop-call.invariant.completes)

pub loop-call-preserved : goal.loop-call-preserved
loop-call-preserved c =
    let row = opens c.args.calls.now in
    let message = c.args.message.now in
    let memory = c.args.memory.now in
    let call = c.in-Some.call.now in
    let n = length c.loop-call.yielded in
    let later = drop (length row - n) row in
    let now = drop (length row - (n + 1)) row in
    let turn = turn_back row n call call (YieldsList-turn (YieldsList-from_rev_slice row cc) c.loop-call.yielded _ c.loop-call.yielded_by _ _ c.in-Some.call c.in-Some.is c.next.ensures.steps) in
    let met : length (c.loop-call.yielded ++ c.in-Some.call ∷ []) ≡ n + 1 = length_push c.loop-call.yielded c.in-Some.call in
    let given : c.offer.new.memory ≡ given_to now message memory =
    c.offer.ensures.memory ∙ ap (offered call message) c.loop-call.invariant.given ∙ given_turn now message memory call later turn.1 in
    let completed : c.loop-call.completed * 2 + bool_byte c.offer.result ≡ finished now message memory =
    ap (λ (k : ℕ). k * 2 + bool_byte c.offer.result) c.loop-call.invariant.completes
    ∙ ap (λ (k : ℕ). finished later message memory * 2 + k)
    (as_bit c.offer.result ∙ ap bit_of (c.offer.ensures.told ∙ ap (completes call message) c.loop-call.invariant.given))
    ∙ finished_turn now message memory call later turn.1 in record {
      can_go_on = search rules;
      ends = search rules;
      within = omega (arith, met, turn.0);
      given = given ∙ ap (λ (k : ℕ). given_to (drop (length row - k) row) message memory) (sym met);
      completes = completed ∙ ap (λ (k : ℕ). finished (drop (length row - k) row) message memory) (sym met);
    }

pub returns : goal.returns
returns c =
    let row = opens c.args.calls.now in
    let all = YieldsList-end (YieldsList-from_rev_slice row cc) c.loop-call.yielded _ c.loop-call.yielded_by _ _ c.in-None.is c.next.ensures.steps in
    let whole : drop (length row - length c.loop-call.yielded) row ≡ row = met_all row (length c.loop-call.yielded) all.1 in record {
      told = c.loop-call.invariant.completes ∙ ap (λ (calls : List Call). finished calls c.args.message.now c.args.memory.now) whole;
      memory = c.loop-call.invariant.given ∙ ap (λ (calls : List Call). given_to calls c.args.message.now c.args.memory.now) whole;
    }
