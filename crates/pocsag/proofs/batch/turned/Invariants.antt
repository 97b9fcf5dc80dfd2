-- `turned` meets its contract: the bits so far are turned, and the others still to come.
use Prim.Native.Nat.{◌-◌, ◌^◌, ◌<◌}
use mathlib.Core.Path.{◌≡◌}
use Rattle.pocsag.specs.Batches as Batches
use Rattle.pocsag.proofs.Turning.{poured}
use Rattle.pocsag.proofs.batch.turned.Given as goal

abbrev pub invariant-loop : goal.invariant-loop
invariant-loop l = record {
  small : l.turned < 2 ^ (20 - (20 - l.counter));
  so : poured (20 - l.counter) l.turned l.rest ≡ Batches.turned l.bits;
}
