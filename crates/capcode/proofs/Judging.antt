-- The questions asked of every CAPCODE, by the answers to their tests.
use Prim.Native.Nat.{ℕ, ◌≤◌}
use mathlib.Core.Bool.{Bool, true, false, not, ◌||◌}
use mathlib.Core.Path.{◌≡◌, sym}
use mathlib.Core.List.{List}
use native.Mathlib.Omega.{arith}
use lib.Dec.{ltb}
use borrow.Author.Tests.{leb-true, not-false}
use Rattle.refusal.specs.declared.Refusal.{Refusal}
use Rattle.refusal.specs.declared.Refusal.TheVariants.{Text, «Type», Range, Offset, Packet}
use Rattle.refusal.specs.Told.{Told, refused, given, ask}
use Rattle.refusal.proofs.Laws.{given_not_refused, passed_given}
use Rattle.capcode.specs.Ranges.{accepted}
use Rattle.capcode.specs.declared.Capcode.{Capcode}
use Rattle.capcode.specs.Assigned.{Fine, standard, framed, all_phase, offset_of, fields_fit, asked}
use Rattle.laws.proofs.Tests.{first_of}

-- the answer, with each test's value in its place
pub asked_by : (text type range offset packet : Bool) (c : Capcode) (rest : Told)
    → not (standard c.letter || framed c.letter) ≡ text
    → all_phase c.letter ≡ type
    → not (accepted c.address) ≡ range
    → ltb c.address (offset_of c.letter) ≡ offset
    → not (fields_fit c) ≡ packet
    → ask text Text (ask type «Type» (ask range Range (ask offset Offset (ask packet Packet rest)))) ≡ asked c rest
unfolding asked
asked_by text type range offset packet c rest e₁ e₂ e₃ e₄ e₅ = rw (e₁, e₂, e₃, e₄, e₅)

-- a CAPCODE of which something is given is fine, and what is given comes from what follows the questions
pub given_fine : (c : Capcode) (rest : Told) (values : List ℕ) → asked c rest ≡ given values → Fine c × (rest ≡ given values)
unfolding asked
given_fine c rest values e =
    let s = passed_given _ _ _ values e in
    let t = passed_given _ _ _ values s.1 in
    let u = passed_given _ _ _ values t.1 in
    let v = passed_given _ _ _ values u.1 in
    let w = passed_given _ _ _ values v.1 in
    (record { text = s.0; type = t.0; range = u.0; offset = v.0; packet = w.0 }, w.1)

-- where one of the questions refuses, what follows them is not looked at
same_by : (text type range offset packet : Bool) (values : List ℕ) (other : Told) (r : Refusal)
    → refused r ≡ ask text Text (ask type «Type» (ask range Range (ask offset Offset (ask packet Packet (given values)))))
    → refused r ≡ ask text Text (ask type «Type» (ask range Range (ask offset Offset (ask packet Packet other))))
same_by true type range offset packet values other r e = e
same_by false true range offset packet values other r e = e
same_by false false true offset packet values other r e = e
same_by false false false true packet values other r e = e
same_by false false false false true values other r e = e
same_by false false false false false values other r e = absurd (given_not_refused values r (sym e))

-- a CAPCODE that is refused where values would be given is refused the same whatever would follow
pub refused_asked : (c : Capcode) (values : List ℕ) (other : Told) (r : Refusal) → refused r ≡ asked c (given values) → refused r ≡ asked c other
unfolding asked
refused_asked c values other r e =
    same_by (not (standard c.letter || framed c.letter)) (all_phase c.letter) (not (accepted c.address))
    (ltb c.address (offset_of c.letter)) (not (fields_fit c)) values other r e

-- of a fine CAPCODE the answer is what follows the questions
pub fine_asked : (c : Capcode) (rest : Told) → Fine c → rest ≡ asked c rest
fine_asked c rest f = asked_by false false false false false c rest f.text f.type f.range f.offset f.packet

-- the collapse of a CAPCODE that is fine is one digit
pub fine_collapse : (c : Capcode) → Fine c → c.collapse ≤ 9
fine_collapse c f =
    let small = leb-true c.collapse 5 (first_of _ _ (not-false _ f.packet)) in
    omega arith
