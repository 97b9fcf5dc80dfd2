-- `merged` meets its contract: what is marked is what the listeners passed listen to.
use mathlib.Core.Path.{refl}
use native.Mathlib.Numerals.{add-one}
use borrow.Author.Rules.{rules}
use Rattle.frames.specs.Listening.{heard, mask_from}
use Rattle.frames.proofs.Hearing.{fit_at, merge_more}
use Rattle.frames.proofs.marking.merged.Goals as goal

pub loop-listener-init : goal.loop-listener-init
unfolding heard mask_from
loop-listener-init c = refl

pub mask-marked-requires : goal.mask-marked-requires
mask-marked-requires c = fit_at c.args.listeners.now c.requires c.loop-listener.listener-index (search rules)

pub loop-listener-preserved : goal.loop-listener-preserved
loop-listener-preserved c = rw (c.loop-listener.invariant, c.mask-marked.ensures, add-one)
    (merge_more c.args.listeners.now c.loop-listener.listener-index 0 32 (search rules))
