-- `write_characters` meets its contract: the characters so far are stored, the others still to come; the bit reached is that after them.
use Prim.Native.Nat.{ℕ, ◌+◌, ◌-◌, ◌*◌, ◌/◌, ◌%◌, ◌^◌, ◌<◌}
use mathlib.Core.Path.{◌≡◌, sym, ap, ◌∙◌}
use native.Mathlib.Omega.{arith}
use lib.ListN.{get_or, length-set}
use Rattle.std.proofs.lemmas.Option.{unwrap_or-slice_get}
use Rattle.laws.specs.Layouts.{size}
use Rattle.laws.specs.Numerals.{number, digits}
use Rattle.laws.proofs.Writing.{put_nothing, spelled_turn}
use Rattle.numeric.specs.Pages.{head_of, text_in}
use Rattle.numeric.specs.Sets.{set_in}
use Rattle.numeric.proofs.reading.Characters.{after_characters}
use Rattle.numeric.proofs.reading.Received.write_characters.Goals as goal
use Rattle.numeric.proofs.reading.Received.write_characters.Goals.{then-place-lt17, else-place-lt17}

pub loop-i-preserved : goal.loop-i-preserved
loop-i-preserved c =
    let args = c.args in
    let l = c.loop-i in
    let set = set_in args.set in
    let head = size (head_of args.self.now.head.numbered) in
    let row = number (2 ^ 21) args.self.now.words.now in
    let next : (c.if-place-lt17.place < 21) × (21 * c.if-place-lt17.at + c.if-place-lt17.place ≡ 21 * l.at + l.place + 4) =
    elim c.if-place-lt17.branch [ then-place-lt17 w ↦ (omega arith, omega arith) | else-place-lt17 w ↦ (omega (arith, l.invariant.in_word), omega arith) ] in
    let code : c.unwrap_or.result ≡ get_or set (row / 2 ^ head / 16 ^ l.i % 16) 0 =
    c.unwrap_or.ensures ∙ rw c.character_of.ensures (unwrap_or-slice_get set c.code_in.result 0)
    ∙ ap (λ (n : ℕ). get_or set n 0)
    (c.code_in.ensures ∙ ap (λ (n : ℕ). n % 16) (after_characters row head l.i (21 * l.at + l.place) l.invariant.at_bit)) in record {
      in_word = next.0;
      at_bit = omega (arith, next.1, l.invariant.at_bit);
      as_long = simp length-set l.invariant.as_long;
      stored = rw code
          (spelled_turn 16 (λ n. get_or set n 0) l.text c.room-room.result l.i (row / 2 ^ head) c.loop-i-test.true (omega (arith, l.invariant.as_long, c.requires, c.room-room.ensures)))
          ∙ l.invariant.stored;
    }

pub returns-clause-buffer : goal.returns-clause-buffer
unfolding text_in digits
returns-clause-buffer c =
    let done : c.room-room.result - c.loop-i.i ≡ 0 = omega arith in
    sym (put_nothing c.loop-i.text c.loop-i.i) ∙ rw (done, c.room-room.ensures) at c.loop-i.invariant.stored
