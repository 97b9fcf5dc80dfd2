-- `join` meets its contract: each return is one case of what becomes of the chain.
use Rattle.std.proofs.Common.{◌≡◌, ℕ, ◌+◌, ◌*◌, not, length, Err, sym, ap, ◌∙◌, ap₂, arith, ltb-false}
use borrow.Author.Tests.{not-true}
use Rattle.std.proofs.lemmas.Result.{err_from_is_err_and}
use Rattle.laws.specs.Lists.{put}
use Rattle.laws.proofs.Tests.{first_of}
use Rattle.refusal.specs.Told.{number_told}
use Rattle.refusal.proofs.Laws.{number_positive}
use Rattle.fragment.specs.Fragments.{text_in}
use Rattle.fragment.specs.declared.FragmentHeading.{FragmentHeading}
use Rattle.chain.specs.declared.joining.Turn.{Turn}
use Rattle.chain.specs.declared.joining.Refused.{Refused}
use Rattle.chain.specs.Steps.{is_first, slot_for, fate, fate_of}
use Rattle.chain.specs.Answers.{known, as_answer}
use Rattle.chain.specs.JoiningPieces.{goes, settled, taken_of, answered, join_of}
use Rattle.chain.proofs.Steps.{slot_most}
use Rattle.chain.proofs.finding.Found.{found_none}
use Rattle.chain.proofs.joining.Turns.{turned, not_turned, not_lost, place_of, stored, lands, join_lost, join_full, join_taken, writes_none, writes_text}
use Rattle.chain.proofs.joining.join.Goals as goal

pub overflow_add-slot : goal.overflow_add-slot
overflow_add-slot c =
    let l = lands c.args.slots.now c.args.address c.args.heading c.in_ok-turn.turn c.in_ok-settle.field-0 c.in-Some.slot c.in_ok-turn.ensures.turn c.in-Some.is c.in_ok-settle.ensures.told in
    omega (arith, c.requires.count, l.within, l.fits)

pub write_at-requires : goal.write_at-requires
write_at-requires c =
    let l = lands c.args.slots.now c.args.address c.args.heading c.in_ok-turn.turn c.in_ok-settle.field-0 c.in-Some.slot c.in_ok-turn.ensures.turn c.in-Some.is c.in_ok-settle.ensures.told in
    let size : length (text_in c.args.words.now) ≡ c.args.heading.characters = ap (λ (f : FragmentHeading). f.characters) (sym c.requires.heading_value) in
    omega (arith, size, c.requires.count, l.within, l.fits, c.requires.most_characters_in_bounds)

pub taken_in-requires : goal.taken_in-requires
taken_in-requires c =
    let l = lands c.args.slots.now c.args.address c.args.heading c.in_ok-turn.turn c.in_ok-settle.field-0 c.in-Some.slot c.in_ok-turn.ensures.turn c.in-Some.is c.in_ok-settle.ensures.told in
    record { slot_lt_slot_count = omega (arith, c.requires.count, l.within); characters_bound = l.fits }

pub returns-in_err-turn : goal.returns-in_err-turn
returns-in_err-turn c =
    let row = c.args.slots.now in
    let address = c.args.address in
    let h = c.args.heading in
    let none = not_turned row address h c.in_err-turn.field-0.0 c.in_err-turn.ensures.turn in
    let later = not-true (is_first h) (first_of (not (is_first h)) (not (known row address h)) none.0) in
    let p = err_from_is_err_and c.from_residual.result c.from_residual.ensures.1 in
    record {
      told = rw (p.1, p.2, none.1, none.0);
      slots = c.in_err-turn.ensures.slots ∙ rw (none.0, later);
      buffer = writes_none row address c.args.words.now c.args.buffer.now h c.requires.heading_value (λ zero. let n : number_told (join_of row address h) ≡ 13 = rw none.0 in omega (arith, n, zero));
    }

pub returns-in-Some : goal.returns-in-Some
returns-in-Some c =
    let row = c.args.slots.now in
    let address = c.args.address in
    let h = c.args.heading in
    let words = c.args.words.now in
    let buffer = c.args.buffer.now in
    let l = lands row address h c.in_ok-turn.turn c.in_ok-settle.field-0 c.in-Some.slot c.in_ok-turn.ensures.turn c.in-Some.is c.in_ok-settle.ensures.told in
    let taken = join_taken row address h l.alone l.none (λ same. omega (arith, same, l.place, l.within)) in
    record {
      told = c.taken_in.ensures ∙ ap as_answer (ap₂ (λ (t : Turn) (s : ℕ). taken_of t s h) l.there l.place ∙ sym taken);
      slots = stored row _ _ address h c.in_ok-turn.turn c.in_ok-turn.ensures.turn c.in_ok-turn.ensures.slots c.in_ok-settle.ensures.slots;
      buffer = writes_text row address words buffer h c.requires.heading_value _ (ap number_told taken)
          (c.write_at.ensures
          ∙ ap₂ (λ (s n : ℕ). put buffer (s * 1008 + n) (text_in words)) l.place (ap (λ (t : Turn). t.chain.characters) l.there));
    }

pub returns-in-None : goal.returns-in-None
returns-in-None c =
    let row = c.args.slots.now in
    let address = c.args.address in
    let h = c.args.heading in
    let both = turned row address h c.in_ok-turn.turn c.in_ok-turn.ensures.turn in
    let none = not_lost (goes row address h) (fate_of row address h) c.in_ok-settle.field-0
    (c.in_ok-settle.ensures.told ∙ ap (λ (t : Turn). settled t (fate t.chain h)) both.1) in
    let out = ltb-false (slot_for row address h) (length row)
    (found_none row (slot_for row address h) (sym c.in-None.is ∙ ap (λ (t : Turn). t.slot) both.1)) in
    let full = join_full row address h both.0 none (omega (arith, out, slot_most row address h)) in
    record {
      told = ap (λ (r : Refused). answered (Err r)) c.from.ensures ∙ ap as_answer (sym full);
      slots = stored row _ _ address h c.in_ok-turn.turn c.in_ok-turn.ensures.turn c.in_ok-turn.ensures.slots c.in_ok-settle.ensures.slots;
      buffer = writes_none row address c.args.words.now c.args.buffer.now h c.requires.heading_value (λ zero. omega (arith, zero, ap number_told full));
    }

pub settle-requires : goal.settle-requires
settle-requires c =
    let row = c.args.slots.now in
    let address = c.args.address in
    let h = c.args.heading in
    (slot_for row address h, place_of row _ address h c.in_ok-turn.turn c.in_ok-turn.ensures.turn c.in_ok-turn.ensures.slots)

pub returns-in_err-settle : goal.returns-in_err-settle
returns-in_err-settle c =
    let row = c.args.slots.now in
    let address = c.args.address in
    let h = c.args.heading in
    let r = c.in_err-settle.field-0.0 in
    let both = turned row address h c.in_ok-turn.turn c.in_ok-turn.ensures.turn in
    let lost = join_lost row address h both.0 r (c.in_err-settle.ensures.told ∙ ap (λ (t : Turn). settled t (fate t.chain h)) both.1) in
    let p = err_from_is_err_and c.from_residual-in_err-settle.result c.from_residual-in_err-settle.ensures.1 in
    record {
      told = rw (p.1, p.2) (ap as_answer (sym lost));
      slots = stored row _ _ address h c.in_ok-turn.turn c.in_ok-turn.ensures.turn c.in_ok-turn.ensures.slots c.in_err-settle.ensures.slots;
      buffer = writes_none row address c.args.words.now c.args.buffer.now h c.requires.heading_value
          (λ zero. omega (arith, zero, ap number_told lost, number_positive r.refusal));
    }
