-- `store` meets its contract: if there is a slot, it has the record.
use Rattle.std.proofs.Common.{ℕ, set, sym, ap, ◌∙◌, arith}
use Rattle.chain.proofs.finding.Found.{found_slot, unfound_set}
use Rattle.chain.proofs.joining.store.Goals as goal

pub bounds-slots-slot : goal.bounds-slots-slot
bounds-slots-slot c = (found_slot c.args.slots.now c.requires.0 c.in-Some.slot (sym c.in-Some.is ∙ c.requires.1)).1

pub offset_bounds-slots-slot : goal.offset_bounds-slots-slot
offset_bounds-slots-slot c =
    omega (arith, c.well_formed, (found_slot c.args.slots.now c.requires.0 c.in-Some.slot (sym c.in-Some.is ∙ c.requires.1)).1)

pub returns-in-Some : goal.returns-in-Some
returns-in-Some c =
    λ place is. ap (λ (n : ℕ). set c.args.slots.now n c.args.chain) (found_slot c.args.slots.now place c.in-Some.slot (sym c.in-Some.is ∙ is)).0

pub returns-in_default : goal.returns-in_default
returns-in_default c = λ place is. unfound_set c.args.slots.now place c.args.chain c.args.slot c.in_default.not-Some is
