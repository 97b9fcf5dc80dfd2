-- What a CAPCODE's letter means, and the phase and base frame it assigns (document 01, "CAPCODE text"; S8.6.5, Table 25).
use Rattle.std.specs.Prelude.{ℕ, ◌-◌, ◌/◌, ◌%◌, Bool, false, not, ◌&&◌, ◌||◌, ◌≡◌, [], ◌∷◌, leb, ltb, eqb, Result, Ok, Err}
use Prim.Native.Char.{code}
use Rattle.laws.specs.Choice.{pick}
use Rattle.refusal.specs.declared.Refusal.{Refusal}
use Rattle.refusal.specs.declared.Refusal.TheVariants.{Text, «Type», Range, Offset, Packet}
use Rattle.refusal.specs.Told.{Told, refused, given, ask, told_by}
use Rattle.capcode.specs.Ranges.{accepted}
use Rattle.capcode.specs.declared.Capcode.{Capcode}
use Rattle.capcode.specs.declared.Assignment.{Assignment}

-- A to L: phase and frame by the standard rules
abbrev pub standard : ℕ → Bool
standard letter = leb (code "A") letter && leb letter (code "L")

-- U to Z: the frame stands in the text
abbrev pub framed : ℕ → Bool
framed letter = leb (code "U") letter && leb letter (code "Z")

-- Table 25: E to H and Y are any-phase
abbrev pub any_phase : ℕ → Bool
any_phase letter = (leb (code "E") letter && leb letter (code "H")) || eqb letter (code "Y")

-- Table 25: I to L and Z are all-phase, which the decoder does not support
abbrev pub all_phase : ℕ → Bool
all_phase letter = (leb (code "I") letter && leb letter (code "L")) || eqb letter (code "Z")

-- Table 25: the offset of A, E and I is 0, and so on to 3; U to Z have none
abbrev pub offset_of : ℕ → ℕ
offset_of letter = pick (standard letter) ((letter - code "A") % 4) 0

-- the number that phase and frame come from: 01, "a = address - offset"
abbrev pub counted : Capcode → ℕ
counted c = c.address - offset_of c.letter

-- 01: "phase (a div 4) mod 4"; of U to X the letter's; any-phase is told as 4
abbrev pub phase_of : Capcode → ℕ
phase_of c =
    pick (any_phase c.letter) 4
    (pick (standard c.letter) (counted c / 4 % 4)
    (c.letter - code "U"))

-- 01: "frame (a div 16) mod 128"; of U to Y the frame digits
abbrev pub base_of : Capcode → ℕ
base_of c = pick (standard c.letter) (counted c / 16 % 128) c.frame

-- no field is too large: a collapse of 0 to 5, a frame of 0 to 127, and no frame where the text has no frame digits
abbrev pub fields_fit : Capcode → Bool
fields_fit c = leb c.collapse 5 && pick (standard c.letter) (eqb c.frame 0) (leb c.frame 127)

-- 01's table, 3 to 7: what is asked of every CAPCODE before it is used. `rest` is what is answered when nothing is refused
unfoldable pub asked : Capcode → Told → Told
asked c rest =
    ask (not (standard c.letter || framed c.letter)) Text
    (ask (all_phase c.letter) «Type»
    (ask (not (accepted c.address)) Range
    (ask (ltb c.address (offset_of c.letter)) Offset
    (ask (not (fields_fit c)) Packet
    rest))))

-- a CAPCODE of which nothing is refused: each of the five tests fails
pub record Fine (c : Capcode) : Type 0 where
  pub text : not (standard c.letter || framed c.letter) ≡ false
  pub type : all_phase c.letter ≡ false
  pub range : not (accepted c.address) ≡ false
  pub offset : ltb c.address (offset_of c.letter) ≡ false
  pub packet : not (fields_fit c) ≡ false

-- the phase and base frame of a CAPCODE
abbrev pub assigned : Capcode → Told
assigned c = asked c (given (phase_of c ∷ base_of c ∷ []))

-- how a judgement is told: `rest` where nothing is refused
abbrev pub told_judged : {A : Type 0} → Result A Refusal → Told → Told
told_judged (Ok fine) rest = rest
told_judged (Err r) rest = refused r

-- how an assignment is told
abbrev pub told_assign : Result Assignment Refusal → Told
told_assign answer = told_by (λ a. a.phase ∷ a.frame ∷ []) answer
