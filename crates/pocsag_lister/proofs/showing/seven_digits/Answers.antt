-- `seven_digits` meets its contract: the digits from the lowest on are written, and those before them still to come.
use Prim.Native.Nat.{◌+◌, ◌-◌}
use mathlib.Core.Path.{◌≡◌, refl, sym, ◌∙◌}
use native.Mathlib.Omega.{arith}
use lib.ListN.{length-set}
use Rattle.laws.proofs.Writing.{put_nothing}
use Rattle.capcode.specs.Text.{digits}
use Rattle.pocsag_lister.proofs.Addresses.{digit_written}
use Rattle.pocsag_lister.proofs.showing.seven_digits.Goals as goal

pub loop-place-init : goal.loop-place-init
unfolding digits
loop-place-init c = record { long = refl; so = refl }

pub loop-place-preserved : goal.loop-place-preserved
loop-place-preserved c = let l = c.loop-place in
    let one : l.place - 1 + 1 ≡ l.place = omega (arith, c.loop-place-test.true) in
    record {
      long = simp length-set l.invariant.long;
      so = (rw one at (digit_written l.text l.rest (l.place - 1) (omega (arith, c.loop-place-test.true, c.loop-place.auto.place, l.invariant.long)))) ∙ l.invariant.so;
    }

pub returns : goal.returns
unfolding digits
returns c = let none : c.loop-place.place ≡ 0 = omega (arith, c.loop-place-test.false) in
    sym (put_nothing c.loop-place.text 0) ∙ rw none at c.loop-place.invariant.so
