-- `write` meets its contract: each fragment after the one before it.
use Rattle.std.proofs.Common.{ℕ, ◌+◌, ◌-◌, ◌*◌, ◌<◌, ◌≤◌, List, length, refl, ap, ◌∙◌, arith}
use mathlib.Core.List.{flatten}
use Rattle.laws.specs.Lists.{put}
use Rattle.laws.proofs.Writing.{length_put}
use Rattle.fragment.proofs.Laws.{size_limits}
use Rattle.fragment.specs.Cutting.{fragments_for, fragment_at, fragments_from}
use Rattle.fragment.proofs.cutting.Writing.{starts_within, ends_within, fragments_begin, fragment_turn, fragments_done}
use Rattle.fragment.proofs.cutting.Message.write.Goals as goal

pub loop-place-init : goal.loop-place-init
loop-place-init c =
    let m = c.args.self in
    (refl, fragments_begin m.marks m.largest m.text.now (size_limits m.largest m.is_sized).0 c.args.words.now _ refl)

pub loop-place-preserved : goal.loop-place-preserved
loop-place-preserved c =
    let m = c.args.self in
    let two = (size_limits m.largest m.is_sized).0 in
    let count = fragments_for m.largest (length m.text.now) in
    let place = c.loop-place.place in
    let words = c.loop-place.words in
    let more : place < count = omega (arith, c.loop-place-test.true, c.size-place-end.ensures.fragments) in
    let inside : m.largest * place ≤ length words =
    omega (arith, starts_within m.largest m.text.now place two more, c.requires, c.loop-place.invariant.0) in
    let fragment = fragment_at m.marks m.largest m.text.now place in
    let ends : m.largest * place + length fragment ≤ length words =
    omega (arith, ends_within m.marks m.largest m.text.now two place more, c.requires, c.loop-place.invariant.0) in (
      ap length c.write_at.ensures ∙ length_put words fragment (m.largest * place) ends ∙ c.loop-place.invariant.0,
      ap
          (λ (row : List ℕ). put row (m.largest * (place + 1)) (flatten (fragments_from m.marks m.largest m.text.now (place + 1) (count - (place + 1)))))
          c.write_at.ensures
          ∙ fragment_turn m.marks m.largest m.text.now two words place count refl more inside
          ∙ c.loop-place.invariant.1,
    )

pub returns : goal.returns
returns c =
    let m = c.args.self in
    fragments_done m.marks m.largest m.text.now (size_limits m.largest m.is_sized).0 c.loop-place.words c.loop-place.place _
    (omega (arith, c.loop-place-test.false, c.size-place-end.ensures.fragments))
    ∙ c.loop-place.invariant.1
