-- `sound` meets its contract: what is sound from a slot on is sound from the start.
use mathlib.Core.Path.{◌≡◌}
use lib.ListN.{drop}
use Rattle.chain.specs.Chains.{sound}
use Rattle.chain.proofs.finding.sound.Given as goal

abbrev pub invariant-loop-slot : goal.invariant-loop-slot
invariant-loop-slot l = sound l.slots ≡ sound (drop l.slot l.slots)
