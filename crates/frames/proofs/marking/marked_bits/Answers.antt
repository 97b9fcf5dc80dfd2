-- `marked_bits` meets its contract: the count is that of the masks passed.
use mathlib.Core.Path.{refl}
use borrow.Author.Rules.{rules}
use native.Mathlib.Omega.{arith}
use Rattle.frames.proofs.Masks.{mask_more}
use Rattle.frames.specs.Listening.{ones_of}
use Rattle.frames.proofs.marking.marked_bits.Goals as goal

pub loop-mask-init : goal.loop-mask-init
unfolding ones_of
loop-mask-init c = (omega arith, refl)

pub loop-mask-preserved : goal.loop-mask-preserved
loop-mask-preserved c =
    mask_more c.args.masks c.loop-mask.mask-index c.loop-mask.count _ (search rules) (search rules) (search rules) c.loop-mask.invariant
