-- `listen` meets its contract: the tests stand in the definition's order, and the masks are those of frames that repeat.
use mathlib.Core.Bool.{true}
use mathlib.Core.Path.{◌≡◌, sym, ap, ◌∙◌}
use borrow.Author.Tests.{le-ltb}
use borrow.Author.Rules.{rules}
use native.Mathlib.Omega.{arith}
use lib.ListN.{take}
use Rattle.frames.specs.Listening.{heard, all_fit, ones_of, masks_of, count_of, listened}
use Rattle.frames.proofs.Masks.{repeated}
use Rattle.frames.proofs.Hearing.{looked, heard_repeats}
use Rattle.frames.proofs.Laws.{counted}
use Rattle.frames.proofs.marking.listen.Goals as goal

pub returns : goal.returns
unfolding listened
returns c = let all = c.args.all in
    let same = looked all.listeners all.count c.min.result (search rules) c.min.ensures in
    let fit : all_fit (take all.count all.listeners) ≡ true = ap all_fit (sym same) ∙ sym c.all_fit.ensures ∙ c.if-not-all_fit.false in
    let frames = heard (take all.count all.listeners) in
    let masks : c.masks_of-masks.result ≡ masks_of frames =
    rw (c.masks_of-masks.ensures, c.merged.ensures, same)
    (repeated frames (heard_repeats (take all.count all.listeners) fit)) in
    let count : c.marked_bits.result ≡ count_of frames = c.marked_bits.ensures ∙ ap ones_of masks ∙ counted frames in
    rw (count, masks, fit, le-ltb 16 all.count (omega (arith, c.if-all-gt16.false)))
