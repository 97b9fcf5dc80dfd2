-- `write_at` meets its contract: a fragment's part of the row is as long as the fragment.
use Rattle.std.proofs.Common.{◌≡◌, ℕ, ◌+◌, ◌-◌, ◌*◌, ◌<◌, ◌≤◌, min, eqb, List, length, take, drop, ap, ◌∙◌, ap₂, arith}
use borrow.Rule.Slice.PartMut.{mid_of, put_mid, mid_len}
use Rattle.laws.proofs.Parts.{part_put}
use Rattle.fragment.specs.Fragments.{fragment_of}
use Rattle.fragment.proofs.Laws.{size_limits}
use Rattle.fragment.specs.Cutting.{message_of, words_for, head_at, fragments_for, fragment_at}
use Rattle.fragment.proofs.CutCounts.{words_at, fragment_length}
use Rattle.fragment.proofs.cutting.Writing.{starts_within, part_size, cells_within, cells_taken}
use Rattle.fragment.proofs.cutting.Message.write_at.Goals as goal

-- where the fragment ends
record Ends (largest : ℕ) (text words : List ℕ) (place end : ℕ) : Type 0 where
  there : end ≡ largest * place + (1 + words_at largest (length text) place)
  within : end ≤ length words
  long : length (mid_of (largest * place) (end - largest * place) words) ≡ 1 + words_at largest (length text) place

ends : (largest : ℕ) (text words : List ℕ) (place end total : ℕ) → 2 ≤ largest → place < fragments_for largest (length text)
    → fragments_for largest (length text) + words_for (length text) ≤ length words → total ≡ fragments_for largest (length text) + words_for (length text)
    → end ≡ largest * place + min largest (total - largest * place) → Ends largest text words place end
ends largest text words place end total two inside room all is =
    let from = largest * place in
    let end_is = is ∙ ap (λ (n : ℕ). from + min largest (n - from)) all in
    let there = end_is ∙ ap (λ (n : ℕ). from + n) (part_size largest text place two inside) in
    let within : end ≤ length words = omega (arith, end_is, room, starts_within largest text place two inside) in
    record { there = there; within = within; long = mid_len from end words within ∙ omega (arith, there) }

pub end_of-end-requires : goal.end_of-end-requires
end_of-end-requires c =
    let message = c.args.self in
    omega (
      arith,
      c.size-size.ensures.fragments,
      c.size-size.ensures.words,
      starts_within message.largest message.text.now c.args.place (size_limits message.largest message.is_sized).0 c.requires.place_bound,
    )

pub slice_bounds-write_fragment-end : goal.slice_bounds-write_fragment-end
slice_bounds-write_fragment-end c =
    let message = c.args.self in
    (ends message.largest message.text.now c.args.words.now c.args.place c.end_of-end.result c.size-size.result.words
    (size_limits message.largest message.is_sized).0 c.requires.place_bound c.requires.room
    (c.size-size.ensures.words ∙ ap (λ (n : ℕ). n + words_for (length message.text.now)) c.size-size.ensures.fragments) c.end_of-end.ensures).within

pub write_fragment-requires : goal.write_fragment-requires
write_fragment-requires c =
    let message = c.args.self in
    let two = (size_limits message.largest message.is_sized).0 in
    let e = ends message.largest message.text.now c.args.words.now c.args.place c.end_of-end.result c.size-size.result.words
    two c.requires.place_bound c.requires.room
    (c.size-size.ensures.words ∙ ap (λ (n : ℕ). n + words_for (length message.text.now)) c.size-size.ensures.fragments) c.end_of-end.ensures in
    record {
      in_bounds = omega (arith, e.long);
      words_in_bounds = omega (arith, e.long, cells_within message.largest message.text.now c.args.place two c.requires.place_bound);
    }

pub returns : goal.returns
unfolding fragment_at
returns c =
    let message = c.args.self in
    let largest = message.largest in
    let text = message.text.now in
    let place = c.args.place in
    let two = (size_limits largest message.is_sized).0 in
    let e = ends largest text c.args.words.now place c.end_of-end.result c.size-size.result.words two c.requires.place_bound c.requires.room
    (c.size-size.ensures.words ∙ ap (λ (n : ℕ). n + words_for (length text)) c.size-size.ensures.fragments) c.end_of-end.ensures in
    let from = largest * place in
    let after_first : length (mid_of from (c.end_of-end.result - from) c.args.words.now) - 1 ≡ words_at largest (length text) place =
    omega (arith, e.long) in
    let written : c.write_fragment.new.words ≡ fragment_at message.marks largest text place =
    c.write_fragment.ensures
    ∙ ap₂
    (λ (n k : ℕ). fragment_of (eqb place 0) (head_at message.marks place (n - 1 - place))
    (take (3 * k) (drop (3 * (largest - 1) * place) (message_of text))))
    c.size-size.ensures.fragments after_first
    ∙ ap
    (fragment_of (eqb place 0) (head_at message.marks place (fragments_for largest (length text) - 1 - place)))
    (cells_taken largest text place two c.requires.place_bound) in
    let fragment = fragment_at message.marks largest text place in
    let size : length fragment ≡ c.end_of-end.result - from = fragment_length largest text place message.marks ∙ omega (arith, e.there) in
    ap (put_mid from (c.end_of-end.result - from) c.args.words.now) written
    ∙ part_put c.args.words.now from c.end_of-end.result (omega (arith, e.there)) e.within fragment size
