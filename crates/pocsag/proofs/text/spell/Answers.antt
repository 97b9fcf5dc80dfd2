-- `spell` meets its contract: the characters so far are stored, and the others still to come.
use Prim.Native.Nat.{◌-◌, ◌/◌, ◌%◌, ◌^◌, ◌<◌}
use mathlib.Core.Path.{◌≡◌, sym, ap, ◌∙◌}
use native.Mathlib.Omega.{arith}
use lib.ListN.{length, length-set}
use Rattle.laws.specs.Numerals.{number, digits}
use Rattle.laws.proofs.Writing.{put_nothing, spelled_turn}
use Rattle.pocsag.specs.Texts.{kind_number, width_of, character_of, text_in}
use Rattle.pocsag.proofs.Spelling.{word_left, code_held, spelled_on, room_bits, width_small}
use Rattle.pocsag.proofs.Spelling.{Ready, ready_taken, ready_left, held_fits}
use Rattle.pocsag.proofs.text.spell.Goals as goal
use Rattle.pocsag.proofs.text.spell.Goals.{then-bits-width, else-bits-width}

pub overflow_add-held : goal.overflow_add-held
overflow_add-held c = let l = c.loop-i in
    let kind = kind_number c.args.kind in
    let words = c.args.words.now in
    let within = room_bits kind (length words) l.i (omega (arith, c.loop-i-test.true, c.requires.room_value)) in
    let short : l.bits < width_of kind = omega (arith, c.if-bits-width.true, c.width-width.ensures) in
    let come = word_left (width_of kind) words l.held l.bits l.at l.i l.invariant.so short within in
    record { fits = held_fits (width_of kind) words l.held l.bits l.at l.i l.invariant.so short (width_small kind).1 come c.requires.words_value }

pub loop-i-preserved : goal.loop-i-preserved
loop-i-preserved c = let l = c.loop-i in
    let kind = kind_number c.args.kind in
    let words = c.args.words.now in
    let bits : Ready (width_of kind) words c.if-bits-width.held c.if-bits-width.bits c.if-bits-width.at l.i =
    elim c.if-bits-width.branch [
      | then-bits-width w ↦
          let within = room_bits kind (length words) l.i (omega (arith, c.loop-i-test.true, c.requires.room_value)) in
          let short : l.bits < width_of kind = omega (arith, w.if-bits-width.true, c.width-width.ensures) in
          let come = word_left (width_of kind) words l.held l.bits l.at l.i l.invariant.so short within in
          rw (w.held-is, w.bits-is, w.at-is)
          (ready_taken (width_of kind) words l.held l.bits l.at l.i l.invariant.so short (width_small kind).1 come c.requires.words_value)
      | else-bits-width w ↦
          rw (w.held-is, w.bits-is, w.at-is)
          (ready_left (width_of kind) words l.held l.bits l.at l.i l.invariant.so
          (omega (arith, w.if-bits-width.false, c.width-width.ensures)) l.invariant.few)
    ] in
    let code : c.take-character.result.0 ≡ character_of kind (number (2 ^ 20) words / (2 ^ width_of kind) ^ l.i % 2 ^ width_of kind) =
    c.take-character.ensures.character
    ∙ ap (character_of kind)
    (code_held (width_of kind) words c.if-bits-width.held c.if-bits-width.bits c.if-bits-width.at l.i bits.so bits.enough) in
    record {
      few = omega (arith, bits.most, bits.enough, c.width-width.ensures);
      so = rw (c.width-width.ensures, c.take-character.ensures.rest)
          (spelled_on (width_of kind) words c.if-bits-width.held c.if-bits-width.bits c.if-bits-width.at l.i bits.so bits.enough);
      long = simp length-set l.invariant.long;
      rest = rw code
          (spelled_turn (2 ^ width_of kind) (character_of kind) l.text c.args.room l.i (number (2 ^ 20) words)
          c.loop-i-test.true (omega (arith, l.invariant.long, c.requires.room_in_bounds)))
          ∙ l.invariant.rest;
    }

pub returns : goal.returns
unfolding text_in digits
returns c = let args = c.args in
    let done : args.room - c.loop-i.i ≡ 0 = omega (arith, c.loop-i-test.false) in
    sym (put_nothing c.loop-i.text c.loop-i.i) ∙ rw (done, c.requires.room_value) at c.loop-i.invariant.rest
