-- That the telling of a packet that was built is its own.
use Rattle.std.specs.Prelude.{Result, Ok, Err}
use mathlib.Core.Path.{◌≡◌, ap, sym}
use native.Mathlib.Omega.{arith}
use Rattle.refusal.specs.declared.Refusal.{Refusal}
use Rattle.refusal.proofs.Laws.{number_positive, number_tells}
use Rattle.packet.specs.declared.Packet.{Packet}
use Rattle.packet.specs.declared.Built.{Built}
use Rattle.packet.specs.Reading.{built_as}

-- a packet that was built is never told as a refusal
built_not_refused : (p : Packet) (r : Refusal) → built_as (Ok p) ≡ built_as (Err r) → ⊥
built_not_refused p r e =
    let n : (built_as (Ok p)).number ≡ (built_as (Err r)).number = ap (λ (b : Built). b.number) e in
    omega (arith, number_positive r)

-- one telling, one answer to `Packet::build`, and to any other function that answers a packet
pub built_tells : (a b : Result Packet Refusal) → built_as a ≡ built_as b → a ≡ b
built_tells (Ok p) (Ok q) e = ap (λ (t : Built). Ok t.packet) e
built_tells (Ok p) (Err r) e = absurd (built_not_refused p r e)
built_tells (Err r) (Ok q) e = absurd (built_not_refused q r (sym e))
built_tells (Err r) (Err q) e = ap Err (number_tells r q (ap (λ (t : Built). t.number) e))
