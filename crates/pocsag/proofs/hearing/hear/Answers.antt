-- `hear` meets its contract: the words so far had nothing to tell.
use mathlib.Core.Bool.{true, false}
use mathlib.Core.Path.{◌≡◌, sym, ap, ◌∙◌}
use native.Mathlib.Omega.{arith}
use lib.ListN.{length, get_or}
use Rattle.refusal.specs.Told.{Told}
use Rattle.pocsag.specs.Mending.{as_mended}
use Rattle.pocsag.specs.Batches.{StepTold, step_told, step_by, stored_by}
use Rattle.pocsag.specs.Hearing.{step_of, stored_of, tells, heard_at, after}
use Rattle.pocsag.proofs.Rows.{tells_here, silence_goes_on, silence_ends}
use Rattle.pocsag.proofs.hearing.hear.Goals as goal

pub returns-then-tells : goal.returns-then-tells
returns-then-tells c = let l = c.loop-i in
    let word = get_or c.args.words.now l.i 0 in
    let is : step_told c.step-step.result ≡ step_of (length l.lent) l.state word =
    c.step-step.ensures.told ∙ ap (λ (t : Told). step_by (length l.lent) l.state (as_mended t)) c.mended.ensures in
    let stored : c.step-step.new.lent ≡ stored_of l.state word l.lent =
    c.step-step.ensures.lent ∙ ap (λ (t : Told). stored_by l.state (as_mended t) l.lent) c.mended.ensures in
    let told : tells (step_of (length l.lent) l.state word) ≡ true = ap tells (sym is) ∙ sym c.tells.ensures ∙ c.if-tells.true in
    let ended = tells_here c.args.reader c.args.lent.now c.args.words.now l.state l.lent l.i c.loop-i-test.true l.invariant told in
    record { told = rw c.number.ensures (ap (λ (s : StepTold). after l.i (heard_at s)) is ∙ ended.0); lent = stored ∙ ended.1 }

pub loop-i-preserved : goal.loop-i-preserved
loop-i-preserved c = let l = c.loop-i in
    let word = get_or c.args.words.now l.i 0 in
    let is : step_told c.step-step.result ≡ step_of (length l.lent) l.state word =
    c.step-step.ensures.told ∙ ap (λ (t : Told). step_by (length l.lent) l.state (as_mended t)) c.mended.ensures in
    let stored : c.step-step.new.lent ≡ stored_of l.state word l.lent =
    c.step-step.ensures.lent ∙ ap (λ (t : Told). stored_by l.state (as_mended t) l.lent) c.mended.ensures in
    let silent : tells (step_of (length l.lent) l.state word) ≡ false = ap tells (sym is) ∙ sym c.tells.ensures ∙ c.if-tells.false in
    let reader : c.step-step.result.reader ≡ (step_of (length l.lent) l.state word).reader = ap (λ (s : StepTold). s.reader) is in
    rw (reader, stored) (silence_goes_on c.args.reader c.args.lent.now c.args.words.now l.state l.lent l.i c.loop-i-test.true l.invariant silent)

pub returns : goal.returns
returns c = let l = c.loop-i in
    let both = silence_ends c.args.reader c.args.lent.now c.args.words.now l.state l.lent l.i c.loop-i-test.false l.invariant in
    let whole : l.i ≡ length c.args.words.now = omega (arith, c.loop-i-test.false, l.invariant.few) in
    record { told = rw (c.none.ensures, ← whole) both.0; lent = both.1 }
