-- `turned` meets its contract: the bits so far are turned, and the others still to come.
use Prim.Native.Nat.{◌+◌, ◌-◌}
use mathlib.Core.Path.{◌≡◌, sym, ◌∙◌}
use native.Mathlib.Omega.{arith}
use Rattle.pocsag.proofs.Turning.{poured, pours, pours_on, pours_small}
use Rattle.pocsag.proofs.batch.turned.Goals as goal

pub loop-init : goal.loop-init
loop-init c = record { small = omega arith; so = pours c.args.bits }

pub loop-preserved : goal.loop-preserved
loop-preserved c = let l = c.loop in
    let fewer : 20 - (l.counter + 1) ≡ 20 - l.counter - 1 = omega arith in
    rw fewer (record {
      small = pours_small (20 - l.counter) l.turned l.rest (omega (arith, c.loop-test.true)) (omega arith) l.invariant.small;
      so = sym (pours_on (20 - l.counter) l.turned l.rest (omega (arith, c.loop-test.true))) ∙ l.invariant.so;
    })

pub returns : goal.returns
unfolding poured
returns c = let none : 20 - c.loop.counter ≡ 0 = omega (arith, c.loop-test.false) in
    rw none at c.loop.invariant.so
