-- That the telling of a mirror is its own.
use Rattle.std.specs.Prelude.{Result, Ok, Err}
use mathlib.Core.Path.{◌≡◌, ap, sym}
use native.Mathlib.Omega.{arith}
use Rattle.refusal.specs.declared.Refusal.{Refusal}
use Rattle.refusal.proofs.Laws.{number_positive, number_tells}
use Rattle.mirror.specs.declared.Mirror.{Mirror}
use Rattle.mirror.specs.declared.Mirrored.{Mirrored}
use Rattle.mirror.specs.Handshake.{mirrored_as}

-- a mirror is never told as a refusal, whatever mirror is told beside that
mirrored_not_refused : (before m : Mirror) (r : Refusal) → mirrored_as before (Ok m) ≡ mirrored_as before (Err r) → ⊥
mirrored_not_refused before m r e =
    let n : (mirrored_as before (Ok m)).number ≡ (mirrored_as before (Err r)).number = ap (λ (t : Mirrored). t.number) e in
    omega (arith, number_positive r)

-- one telling, one answer to `reset`, `step` and `run`
pub mirrored_tells : (before : Mirror) (a b : Result Mirror Refusal) → mirrored_as before a ≡ mirrored_as before b → a ≡ b
mirrored_tells before (Ok m) (Ok n) e = ap (λ (t : Mirrored). Ok t.mirror) e
mirrored_tells before (Ok m) (Err r) e = absurd (mirrored_not_refused before m r e)
mirrored_tells before (Err r) (Ok n) e = absurd (mirrored_not_refused before n r (sym e))
mirrored_tells before (Err r) (Err q) e = ap Err (number_tells r q (ap (λ (t : Mirrored). t.number) e))
