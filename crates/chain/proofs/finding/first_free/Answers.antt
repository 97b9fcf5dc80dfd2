-- `first_free` meets its contract: what is found from a slot on is found from the start.
use mathlib.Core.Bool.{Bool, not}
use mathlib.Core.Path.{◌≡◌, sym, ◌∙◌}
use native.Mathlib.Omega.{arith}
use borrow.Author.Tests.{eq-eqb, ne_eqb, lt-ltb}
use lib.ListN.{length, get_or}
use Rattle.laws.proofs.Searches.{found_here, found_later}
use Rattle.chain.specs.declared.Chain.{Chain}
use Rattle.chain.specs.Chains.{blank, is_open, first_free}
use Rattle.chain.proofs.finding.first_free.Goals as goal

-- whether a slot is free
abbrev is_free : Chain → Bool
is_free c = not (is_open c)

pub loop-slot-preserved : goal.loop-slot-preserved
loop-slot-preserved c =
    let row = c.args.slots.now in
    let slot = c.loop-slot.slot in (
      c.loop-slot.invariant.0,
      c.loop-slot.invariant.1
          ∙ found_later is_free row blank slot c.loop-slot-test.true (rw (ne_eqb (get_or row slot blank).is_open 0 c.if-chain-eq0.false)),
    )

pub returns-then-chain-eq0 : goal.returns-then-chain-eq0
returns-then-chain-eq0 c =
    let row = c.args.slots.now in
    let slot = c.loop-slot.slot in
    let first : first_free row ≡ slot =
    c.loop-slot.invariant.1 ∙ found_here is_free row blank slot c.loop-slot-test.true (rw (eq-eqb (get_or row slot blank).is_open 0 c.if-chain-eq0.true)) in
    rw (first, lt-ltb slot (length row) c.loop-slot-test.true)
