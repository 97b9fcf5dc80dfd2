-- `sound` meets its contract: what is sound from a slot on is sound from the start.
use Rattle.std.proofs.Common.{◌≡◌, ℕ, ◌+◌, ◌-◌, ◌<◌, Bool, List, Option, length, take, drop, sym, ap, ◌∙◌, arith}
use Rattle.std.proofs.lemmas.Slice.{between_to_end}
use Rattle.std.specs.Option.{is_some}
use Rattle.chain.specs.declared.Chain.{Chain}
use Rattle.chain.specs.Chains.{found, find, holds, sound}
use Rattle.chain.proofs.finding.Asking.{here, met, unsound, closed, twice, alone}
use Rattle.chain.proofs.finding.Found.{some_found}
use Rattle.chain.proofs.Records.{sound_end}
use Rattle.chain.proofs.finding.sound.Goals as goal
use Rattle.chain.proofs.finding.sound.Goals.{else-chain-ne0-via-then-chain-ne0+else-is_some, else-chain-ne0-via-else-chain-ne0}

-- whether a slot's key is found after it, as the code asks it
asked : (row : List Chain) (slot : ℕ) (within : slot < length row) (some : Bool) (place : Option ℕ)
    → let key = here row slot within in let rest = take (length row - (slot + 1)) (drop (slot + 1) row) in
    place ≡ found rest (find key.address key.message_number rest) → some ≡ is_some place → some ≡ met row slot within
asked row slot within some place there is =
    let key = here row slot within in
    is ∙ ap is_some there
    ∙ some_found _ (find key.address key.message_number (take (length row - (slot + 1)) (drop (slot + 1) row)))
    ∙ ap (holds key.address key.message_number) (between_to_end row (slot + 1) (length row) (omega arith))

pub returns-then-not-is_sound : goal.returns-then-not-is_sound
returns-then-not-is_sound c =
    sym (c.loop-slot.invariant ∙ unsound c.args.slots.now c.loop-slot.slot c.loop-slot-test.true (sym c.is_sound.ensures ∙ c.if-not-is_sound.true))

pub returns-then-is_some : goal.returns-then-is_some
returns-then-is_some c =
    let row = c.args.slots.now in
    let found = asked row c.loop-slot.slot c.loop-slot-test.true c.is_some.result c.find.result c.find.ensures c.is_some.ensures in
    sym (c.loop-slot.invariant ∙ twice row c.loop-slot.slot c.loop-slot-test.true c.if-chain-ne0.true (sym found ∙ c.if-is_some.true))

pub loop-slot-preserved : goal.loop-slot-preserved
loop-slot-preserved c =
    let row = c.args.slots.now in
    let slot = c.loop-slot.slot in
    let good = sym c.is_sound.ensures ∙ c.if-not-is_sound.false in
    let rest : sound (drop slot row) ≡ sound (drop (slot + 1) row) =
    elim c.else-chain-ne0.branch [
      | else-chain-ne0-via-then-chain-ne0+else-is_some w ↦
          alone row slot c.loop-slot-test.true good w.if-chain-ne0.true
          (sym (asked row slot c.loop-slot-test.true w.is_some.result w.find.result w.find.ensures w.is_some.ensures) ∙ w.if-is_some.false)
      | else-chain-ne0-via-else-chain-ne0 w ↦ closed row slot c.loop-slot-test.true good w.if-chain-ne0.false
    ] in
    c.loop-slot.invariant ∙ rest

pub returns : goal.returns
returns c = sym (c.loop-slot.invariant ∙ sound_end c.args.slots.now c.loop-slot.slot c.loop-slot-test.false)
