-- `end_frame` meets its contract.
use Prim.Native.Nat.{ℕ}
use mathlib.Core.Path.{◌≡◌, ap₂, ◌∙◌}
use borrow.Author.Rules.{rules}
use lib.ListN.{length}
use Rattle.call.specs.declared.Calls.{Calls}
use Rattle.call.specs.declared.FrameEnd.{FrameEnd}
use Rattle.call.proofs.ending.Listing.{ended_good, ended_refused}
use Rattle.call.proofs.ending.end_frame.Goals as goal

pub returns-in-Ok : goal.returns-in-Ok
returns-in-Ok c =
    let long : length c.args.calls.calls ≡ 8 = search rules in
    let answer : Calls → Calls → FrameEnd = λ missed calls. record { number = 0; incomplete = missed; calls = calls } in
    ap₂ answer c.incomplete.ensures c.fresh-calls.ensures ∙ ended_good c.args.calls c.args.memory.now long c.in-Ok.ensures

pub returns-in-Err : goal.returns-in-Err
returns-in-Err c =
    let long : length c.args.calls.calls ≡ 8 = search rules in
    let answer : ℕ → Calls → FrameEnd = λ number missed. record { number = number; incomplete = missed; calls = c.args.calls } in
    ap₂ answer c.number-number.ensures c.fresh-list.ensures ∙ ended_refused c.args.calls c.args.memory.now c.in-Err.refusal long c.in-Err.ensures
