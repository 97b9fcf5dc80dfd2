-- `open_in` meets its contract: each return is one line of the definition.
use mathlib.Core.Bool.{true, false}
use mathlib.Core.Path.{◌≡◌, sym, ap, ◌∙◌}
use borrow.Author.Rules.{rules}
use Rattle.std.specs.Prelude.{Ok, Err}
use Rattle.refusal.specs.Told.{told_by}
use Rattle.call.specs.Calls.{opens, sound}
use Rattle.call.specs.OpeningPieces.{address_result, opened_values}
use Rattle.call.proofs.opening.Answers.{calls_so, unsound, no_address, tone-only, goes_on, goes_on_calls}
use Rattle.call.proofs.opening.open_in.Goals as goal

pub returns-then-not-sound : goal.returns-then-not-sound
returns-then-not-sound c =
    let bad : sound (opens c.args.calls.now) ≡ false = sym c.sound.ensures ∙ c.if-not-sound.true in
    let is = unsound c.args.calls.now c.args.packet.bits bad in
    record { told = sym is; calls = calls_so c.args.calls.now c.args.packet.bits _ is }

pub returns-in_err-address : goal.returns-in_err-address
returns-in_err-address c =
    let right : sound (opens c.args.calls.now) ≡ true = sym c.sound.ensures ∙ c.if-not-sound.false in
    let refusal = c.in_err-address.field-0.0 in
    let read : address_result c.args.packet.bits ≡ Err refusal = sym c.in_err-address.ensures in
    let is = no_address c.args.calls.now c.args.packet.bits right refusal read in
    let result : c.from_residual.result ≡ Err refusal = search rules in
    record { told = ap (told_by opened_values) result ∙ sym is; calls = calls_so c.args.calls.now c.args.packet.bits _ is }

pub returns-then-address-eq1 : goal.returns-then-address-eq1
returns-then-address-eq1 c =
    let right : sound (opens c.args.calls.now) ≡ true = sym c.sound.ensures ∙ c.if-not-sound.false in
    let read : address_result c.args.packet.bits ≡ Ok c.in_ok-address.address = sym c.in_ok-address.ensures in
    let is = tone-only c.args.calls.now c.args.packet.bits right c.in_ok-address.address read c.if-address-eq1.true in
    record { told = sym is; calls = calls_so c.args.calls.now c.args.packet.bits _ is }

pub returns : goal.returns
returns c =
    let right : sound (opens c.args.calls.now) ≡ true = sym c.sound.ensures ∙ c.if-not-sound.false in
    let read : address_result c.args.packet.bits ≡ Ok c.in_ok-address.address = sym c.in_ok-address.ensures in record {
      told = c.open_call.ensures.told ∙ sym (goes_on c.args.calls.now c.args.packet.bits right c.in_ok-address.address read c.if-address-eq1.false);
      calls = c.open_call.ensures.calls ∙ goes_on_calls c.args.calls.now c.args.packet.bits right c.in_ok-address.address read c.if-address-eq1.false;
    }
