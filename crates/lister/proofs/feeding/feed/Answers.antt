-- `feed` meets its contract: `Progress` holds between two turns, and at the end is what is asked.
use mathlib.Core.Logic.{inl, inr}
use native.Mathlib.Omega.{arith}
use Rattle.lister.proofs.Progress.{progress_start, progress_turn, progress_end}
use Rattle.lister.proofs.feeding.feed.Goals as goal

pub loop-fed-init : goal.loop-fed-init
loop-fed-init c = progress_start c.args.lister _ _

pub loop-fed-preserved : goal.loop-fed-preserved
loop-fed-preserved c = let p = c.loop-fed.invariant in
    progress_turn _ _ _ _ _ p _ _ (omega (arith, c.feed_some.auto, p.same)) c.feed_some.ensures

pub returns-after-loop-fed : goal.returns-after-loop-fed
returns-after-loop-fed c = progress_end _ _ _ _ _ c.loop-fed.invariant (inl c.loop-fed-test.false)

pub returns-then-out-fed-lt32 : goal.returns-then-out-fed-lt32
returns-then-out-fed-lt32 c = let p = c.loop-fed.invariant in
    progress_end _ _ _ _ _ p (inr (omega (arith, c.if-out-fed-lt32.true, p.same)))
