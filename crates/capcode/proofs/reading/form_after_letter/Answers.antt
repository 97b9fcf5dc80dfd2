use mathlib.Core.Path.{◌≡◌, sym, ◌∙◌}
use lib.ListN.{length}
use borrow.Author.Rules.{rules}
use Rattle.capcode.proofs.Steps.{step_after}
use Rattle.capcode.proofs.Sound.{sound_bounded}
use Rattle.capcode.proofs.Course.{stands_on, stands_stop, stands_end}
use Rattle.capcode.proofs.reading.form_after_letter.Goals as goal

pub step_after_letter-requires : goal.step_after_letter-requires
step_after_letter-requires c = (sound_bounded _ c.loop-here.invariant.0.sound, c.loop-here.invariant.1)

pub returns-in_default : goal.returns-in_default
returns-in_default c = let step = sym c.step_after_letter.ensures ∙ c.in_default.is in
    stands_stop _ _ c.loop-here.here c.loop-here.s c.loop-here.invariant.0 (search rules) step

pub loop-here-preserved : goal.loop-here-preserved
loop-here-preserved c = let step = sym c.step_after_letter.ensures ∙ c.in-Some.is in
    let next = c.in-Some.next in
    let state = c.loop-here.s in
    (stands_on _ _ c.loop-here.here state c.loop-here.invariant.0 next (search rules) step, step_after state next _ c.loop-here.invariant.1 step)

pub form_at_end-requires : goal.form_at_end-requires
form_at_end-requires c = sound_bounded _ c.loop-here.invariant.0.sound

pub returns : goal.returns
returns c = let end : length c.args.text.now ≡ c.loop-here.here = search rules in
    c.form_at_end.ensures ∙ rw end (stands_end _ _ c.loop-here.here c.loop-here.s c.loop-here.invariant.0 (search rules))
