-- `sendable` meets its contract: what is still to be asked decides.
use Rattle.std.proofs.Common.{◌≡◌, ℕ, Bool, true, false, ◌&&◌, List, take, drop, sym, ap, ◌∙◌, arith, length-take-le, take-append-drop}
use Rattle.laws.specs.Lists.{all}
use Rattle.laws.proofs.Rows.{all_append}
use Rattle.fragment.specs.Cutting.{is_text, sendable}
use Rattle.fragment.proofs.text.Cells.{tail}
use Rattle.fragment.proofs.cutting.sendable.Goals as goal

-- a part and what is after it are all
parts : (place : ℕ) (text : List ℕ) → (sendable (take place text) && sendable (drop place text)) ≡ sendable text
unfolding sendable
parts place text = sym (all_append is_text (take place text) (drop place text)) ∙ ap (all is_text) (take-append-drop place text)

pub slice_bounds-part_sendable-end : goal.slice_bounds-part_sendable-end
slice_bounds-part_sendable-end c = sym (length-take-le 64 c.loop-rest.rest.now (omega arith))

pub returns-then-not-part_sendable : goal.returns-then-not-part_sendable
returns-then-not-part_sendable c =
    let rest = c.loop-rest.rest.now in
    let wrong : sendable (take 64 rest) ≡ false = sym c.part_sendable.ensures ∙ c.if-not-part_sendable.true in
    ap (λ (b : Bool). b && sendable (drop 64 rest)) (sym wrong) ∙ parts 64 rest ∙ c.loop-rest.invariant

pub loop-rest-preserved : goal.loop-rest-preserved
loop-rest-preserved c =
    let rest = c.loop-rest.rest.now in
    let good : sendable (take 64 rest) ≡ true = sym c.part_sendable.ensures ∙ c.if-not-part_sendable.false in
    ap sendable (tail 64 rest) ∙ ap (λ (b : Bool). b && sendable (drop 64 rest)) (sym good) ∙ parts 64 rest ∙ c.loop-rest.invariant
