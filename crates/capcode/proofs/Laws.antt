-- What the definitions promise: a text is in the form exactly if it is the text of a CAPCODE, an answer's telling is its own.
use Rattle.std.specs.Prelude.{Result, Ok, Err}
use Prim.Native.Nat.{ℕ, ◌^◌, ◌≤◌, ◌<◌}
use mathlib.Core.Bool.{Bool, true, false, ◌&&◌}
use mathlib.Core.Path.{◌≡◌, refl, sym, ap, ◌∙◌}
use mathlib.Core.List.{List}
use native.Mathlib.Omega.{arith}
use lib.ListN.{length, get_or}
use borrow.Author.Tests.{leb-true, eqb-false, not-false}
use lib.Dec.{leb, eqb}
use Rattle.laws.specs.Choice.{pick}
use Rattle.laws.proofs.Tests.{first_of, second_of, other_of, neither}
use Rattle.refusal.specs.Told.{Told}
use Rattle.refusal.proofs.Laws.{told_values, given_not_told, given_not_refused, refused_tells, refused_at_tells, placed_not_refused}
use Rattle.capcode.proofs.Bounds.{accepted_below}
use Rattle.refusal.specs.declared.Refusal.{Refusal}
use Rattle.capcode.specs.declared.Assignment.{Assignment}
use Rattle.capcode.specs.declared.Fault.{Fault}
use Rattle.capcode.specs.declared.Capcode.{Capcode}
use Rattle.capcode.specs.Assigned.{Fine, standard, framed, any_phase, fields_fit, phase_of, base_of, told_assign}
use Rattle.capcode.specs.Text.{head_width, width_of, text_of, Sayable}
use Rattle.capcode.specs.Reads.{form_of, told_read}
use Rattle.capcode.proofs.Spoken.{read_of_printed}
use Rattle.capcode.proofs.Heard.{printed_of_read}
use Rattle.capcode.proofs.Writes.{length_text}

-- a CAPCODE of which nothing is refused is one that a text could have
pub fine_sayable : (c : Capcode) → Fine c → Sayable c
fine_sayable c fine =
    let ten-digits : c.address < 10 ^ 10 = omega (arith, accepted_below c.address (not-false _ fine.range)) in
    record { letter = not-false _ fine.text; fields = not-false _ fine.packet; address = ten-digits }

-- a text is in the form exactly if it is the text of a CAPCODE that a text could have
pub form_exactly : (text : List ℕ) (c : Capcode)
    → (form_of text ≡ Ok c → (text_of c ≡ text) × Sayable c) × ((text_of c ≡ text) × Sayable c → form_of text ≡ Ok c)
form_exactly text c = (printed_of_read text c, λ both. ap form_of (sym both.0) ∙ read_of_printed c both.1)

-- two different texts never say the same CAPCODE
pub one_text : (text other : List ℕ) (c : Capcode) → form_of text ≡ Ok c → form_of other ≡ Ok c → text ≡ other
one_text text other c e f = sym (printed_of_read text c e).0 ∙ (printed_of_read other c f).0

-- a choice between two numbers is at most what both are
pick_upto : (b : Bool) (x y n : ℕ) → x ≤ n → y ≤ n → pick b x y ≤ n
pick_upto true x y n first second = first
pick_upto false x y n first second = second

-- the collapse of a CAPCODE that a text could have is one digit
pub collapse_digit : (c : Capcode) → Sayable c → c.collapse ≤ 9
collapse_digit c sayable =
    let small = leb-true c.collapse 5 (first_of _ _ sayable.fields) in
    omega arith

-- a correct text has four digits at most, the letter, and ten digits at most
pub text_upto : (c : Capcode) → Sayable c → length (text_of c) ≤ 15
text_upto c sayable =
    let before : head_width c ≤ 4 = pick_upto (standard c.letter) _ 4 4 (pick_upto (eqb c.collapse 4) 0 1 4 (omega arith) (omega arith)) (omega arith) in
    let after : width_of c.address ≤ 10 = pick_upto (leb c.address 2031614) 7 10 10 (omega arith) (omega arith) in
    omega (arith, length_text c (collapse_digit c sayable))

-- a text that says a CAPCODE has fifteen bytes at most
pub said_length : (text : List ℕ) (c : Capcode) → form_of text ≡ Ok c → length text ≤ 15
said_length text c e =
    let said = printed_of_read text c e in
    omega (arith, ap length said.0, text_upto c said.1)

-- the value at a place of a telling
abbrev value_at : Told → ℕ → ℕ
value_at t n = get_or (told_values t) n 0

-- one telling, one answer to `assign`
pub assign_tells : (a b : Result Assignment Refusal) → told_assign a ≡ told_assign b → a ≡ b
assign_tells (Ok a) (Ok b) e =
    ap (λ (t : Told). Ok (record { phase = value_at t 0; frame = value_at t 1 })) e
assign_tells (Ok a) (Err r) e = absurd (given_not_refused _ r e)
assign_tells (Err r) (Ok b) e = absurd (given_not_refused _ r (sym e))
assign_tells (Err r) (Err q) e = ap Err (refused_tells r q e)

-- one telling, one answer to `read`
pub read_tells : (a b : Result (Capcode × Assignment) Fault) → told_read a ≡ told_read b → a ≡ b
read_tells (Ok (c, a)) (Ok (d, b)) e =
    ap (λ (t : Told). Ok (
      record {
        letter = value_at t 0;
        frame = value_at t 1;
        collapse = value_at t 2;
        address = value_at t 3;
      },
      record { phase = value_at t 4; frame = value_at t 5 },
    )) e
read_tells (Ok (c, a)) (Err (Fault.Wrong r n)) e = absurd (given_not_told _ _ r e)
read_tells (Ok (c, a)) (Err (Fault.Refused r)) e = absurd (given_not_refused _ r e)
read_tells (Err (Fault.Wrong r n)) (Ok (d, b)) e = absurd (given_not_told _ _ r (sym e))
read_tells (Err (Fault.Wrong r n)) (Err (Fault.Wrong q m)) e =
    let same = refused_at_tells r q n m e in
    rw (same.0, same.1)
read_tells (Err (Fault.Wrong r n)) (Err (Fault.Refused q)) e = absurd (placed_not_refused r q n e)
read_tells (Err (Fault.Refused r)) (Ok (d, b)) e = absurd (given_not_refused _ r (sym e))
read_tells (Err (Fault.Refused r)) (Err (Fault.Wrong q m)) e = absurd (placed_not_refused q r m (sym e))
read_tells (Err (Fault.Refused r)) (Err (Fault.Refused q)) e = ap (λ (x : Refusal). Err (Fault.Refused x)) (refused_tells r q e)

-- the base frame of letters A to L is one of the 128 of a cycle, and so is the frame of the others where no field is too large
base_by : (c : Capcode) (by-rule : Bool) → standard c.letter ≡ by-rule → fields_fit c ≡ true → base_of c ≤ 127
base_by c true e fits = rw e (omega arith)
base_by c false e fits = rw e (leb-true c.frame 127 (rw e at (second_of (leb c.collapse 5) _ fits)))

-- what a fine CAPCODE assigns can be listened to: no frame over 127, no collapse over 5
pub fine_listens : (c : Capcode) → Fine c → (base_of c ≤ 127) × (c.collapse ≤ 5)
fine_listens c fine =
    let fits = not-false _ fine.packet in
    (base_by c (standard c.letter) refl fits, leb-true c.collapse 5 (first_of _ _ fits))

-- a letter that is neither all-phase nor any-phase nor A to L is one of U to X
phase_by : (c : Capcode) → Fine c → (any by-rule : Bool) → any_phase c.letter ≡ any → standard c.letter ≡ by-rule → phase_of c ≤ 4
phase_by c fine true by-rule a s = rw a (omega arith)
phase_by c fine false true a s = rw (a, s) (omega arith)
phase_by c fine false false a s =
    let u-to-z : framed c.letter ≡ true = other_of (standard c.letter) (framed c.letter) (not-false _ fine.text) s in
    let last : c.letter ≤ 90 = leb-true c.letter 90 (second_of (leb 85 c.letter) _ u-to-z) in
    let not-z : c.letter ≡ 90 → ⊥ = eqb-false c.letter 90 (neither (leb 73 c.letter && leb c.letter 76) _ fine.type) in
    let not-y : c.letter ≡ 89 → ⊥ = eqb-false c.letter 89 (neither (leb 69 c.letter && leb c.letter 72) _ a) in
    rw (a, s) (omega (arith, not-y, not-z))

-- the phase that a fine CAPCODE assigns is one of A to D, or any-phase
pub fine_phase : (c : Capcode) → Fine c → phase_of c ≤ 4
fine_phase c fine = phase_by c fine (any_phase c.letter) (standard c.letter) refl refl
