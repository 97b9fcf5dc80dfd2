-- `incomplete` meets its contract: of the calls that were met the incomplete ones are listed.
use Prim.Native.Nat.{◌+◌}
use mathlib.Core.Bool.{Bool, true, false}
use mathlib.Core.List.{List}
use mathlib.Core.Path.{◌≡◌, ap, ◌∙◌}
use native.Mathlib.Omega.{arith}
use lib.ListN.{get_or, take}
use Rattle.laws.specs.Choice.{pick}
use Rattle.call.specs.declared.Call.{Call}
use Rattle.call.specs.declared.Calls.{Calls}
use Rattle.call.specs.Calls.{blank}
use Rattle.call.specs.Steps.{added, listed, incomplete_in}
use Rattle.call.proofs.ending.Listing.{incomplete_none, incomplete_few, incomplete_turn, incomplete_done}
use Rattle.call.proofs.ending.incomplete.Goals as goal
use Rattle.call.proofs.ending.incomplete.Goals.{then-not-is_complete, else-not-is_complete}

pub loop-call-init : goal.loop-call-init
loop-call-init c = record { few = c.in_use-call-items.ensures.small; list = c.requires ∙ incomplete_none 8 c.args.memory.now }

pub add-requires : goal.add-requires
add-requires c =
    let few = incomplete_few c.in_use-call-items.result.now c.args.memory.now c.loop-call.call-index c.loop-call.auto.call-index-end in
    omega (arith, few, ap (λ (s : Calls). s.size) c.loop-call.invariant.list, c.loop-call.invariant.few, c.loop-call-test.true)

pub loop-call-preserved : goal.loop-call-preserved
loop-call-preserved c =
    let row = c.in_use-call-items.result.now in
    let memory = c.args.memory.now in
    let i = c.loop-call.call-index in
    let call = get_or row i blank in
    let turned = incomplete_turn row memory i 8 c.loop-call.invariant.few c.loop-call-test.true in
    let judged : (b : Bool) → c.is_complete.result ≡ b
    → pick b c.loop-call.list (added c.loop-call.list call) ≡ listed 8 (incomplete_in (take (i + 1) row) memory) =
    λ b is. ap (λ (s : Calls). pick b s (added s call)) c.loop-call.invariant.list ∙ rw (← is, c.is_complete.ensures) turned
    in
    let now : c.if-not-is_complete.list ≡ listed 8 (incomplete_in (take (i + 1) row) memory) =
    elim c.if-not-is_complete.branch [
      | then-not-is_complete w ↦ w.list-is ∙ w.add.ensures ∙ judged false w.if-not-is_complete.true
      | else-not-is_complete w ↦ w.list-is ∙ judged true w.if-not-is_complete.false
    ]
    in
    record { few = c.loop-call.invariant.few; list = now }

pub returns : goal.returns
returns c =
    let row = c.in_use-call-items.result.now in
    c.loop-call.invariant.list
    ∙ ap (listed 8) (incomplete_done row c.args.memory.now c.loop-call.call-index (omega (arith, c.loop-call-test.false))
    ∙ ap (λ (calls : List Call). incomplete_in calls c.args.memory.now) c.in_use-call-items.ensures.told)
