use mathlib.Core.Path.{refl, sym, ◌∙◌}
use borrow.Author.Rules.{rules}
use Rattle.capcode.specs.Reads.{form_of}
use Rattle.capcode.proofs.Sound.{sound_blank, sound_bounded}
use Rattle.capcode.proofs.Course.{stands_on, stands_stop, stands_short}
use Rattle.capcode.proofs.reading.form_of.Goals as goal
use Rattle.capcode.proofs.reading.form_of.Goals.{else-loop-i-test, then-loop-i-test+then-not-s}

pub loop-i-init : goal.loop-i-init
unfolding form_of
loop-i-init c = (record { sound = sound_blank; answer = refl }, search rules)

pub step_of-requires : goal.step_of-requires
step_of-requires c = sound_bounded _ c.loop-i.invariant.0.sound

pub returns-in_default : goal.returns-in_default
returns-in_default c = let step = sym c.step_of.ensures ∙ c.in_default.is in
    stands_stop _ _ c.loop-i.i c.loop-i.s c.loop-i.invariant.0 (search rules) step

pub loop-i-preserved : goal.loop-i-preserved
loop-i-preserved c = let step = sym c.step_of.ensures ∙ c.in-Some.is in
    (stands_on _ _ c.loop-i.i c.loop-i.s c.loop-i.invariant.0 c.in-Some.next (search rules) step, search rules)

pub returns-then-s-eq0 : goal.returns-then-s-eq0
returns-then-s-eq0 c =
    elim c.loop-i-test.branch [
      | else-loop-i-test w ↦ stands_short _ _ c.loop-i.i c.loop-i.s c.loop-i.invariant.0 w.loop-i-test.false c.if-s-eq0.true
      | then-loop-i-test+then-not-s w ↦ absurd (w.if-not-s.true c.if-s-eq0.true)
    ]
