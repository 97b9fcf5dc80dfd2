-- Rows for which the laws of Layouts hold, and for each of their premises a row for which they fail without it.
use Prim.Native.Nat.{ℕ, ◌-◌, ◌^◌}
use mathlib.Core.Bool.{Bool, true, false}
use mathlib.Core.Path.{◌≡◌, refl}
use mathlib.Core.List.{List, [], ◌∷◌, map}
use lib.Dec.{ltb, eqb}
use Rattle.laws.specs.Layouts.{Layout, printed, zeros, field, unused, size, fields_of, mask_of, is_read, shows, fit, packed}
use Rattle.laws.proofs.Layouts.{laid}

-- a row of 8 bits with a part of each sort
abbrev sample : Layout
sample = printed 2 1 ∷ zeros 1 ∷ field 3 ∷ unused 2 ∷ []

-- a row of 8 bits in which every bit is looked at
abbrev whole : Layout
whole = printed 2 1 ∷ zeros 1 ∷ field 3 ∷ field 2 ∷ []

-- a row of 33 bits, one more than a packet has
abbrev long : Layout
long = field 1 ∷ field 32 ∷ []

-- one thing built: the row and the values; whether the row is laid out right, whether the values fit; the packet, and what is read back
abbrev BuiltCase : Type 0
BuiltCase = Layout × List ℕ × Bool × Bool × ℕ × List ℕ

unfoldable pub built_cases : List BuiltCase
built_cases =
    (sample, 5 ∷ [], true, true, 0x54, 5 ∷ [])
    -- a value too large for its field: it reaches into the part before
    ∷ (sample, 13 ∷ [], true, false, 0x74, 5 ∷ [])
    -- a value for no field, and a field with no value
    ∷ (sample, 5 ∷ 1 ∷ [], true, false, 0x54, 5 ∷ [])
    ∷ (sample, [], true, false, 0x40, 0 ∷ [])
    -- a printed number too large for its bits
    ∷ (field 1 ∷ printed 1 2 ∷ [], 0 ∷ [], false, true, 2, 1 ∷ [])
    -- a row too long
    ∷ (long, 1 ∷ 0 ∷ [], false, true, 0, 0 ∷ 0 ∷ [])
    ∷ []

-- read_packed: what is read back is not what was given wherever a premise fails
pub built_examples :
    map {A = BuiltCase} {B = Bool × Bool × ℕ × List ℕ}
    (λ c. (laid c.0, fit c.0 c.1, packed c.0 c.1, fields_of c.0 (packed c.0 c.1))) built_cases
    ≡ map {A = BuiltCase} {B = Bool × Bool × ℕ × List ℕ} (λ c. (c.2, c.3, c.4, c.5)) built_cases
unfolding built_cases
built_examples = refl

-- one thing read: the row and the packet; whether the row is laid out right, whether the packet has no more bits than
-- the row, whether it has those that the table prints, whether every bit is looked at; the packet built again
abbrev ReadCase : Type 0
ReadCase = Layout × ℕ × Bool × Bool × Bool × Bool × ℕ

unfoldable pub read_cases : List ReadCase
read_cases =
    (whole, 0x57, true, true, true, true, 0x57)
    -- a 0 bit set, and another printed number
    ∷ (whole, 0x77, true, true, false, true, 0x57)
    ∷ (whole, 0x97, true, true, false, true, 0x57)
    -- an unused part
    ∷ (sample, 0x57, true, true, true, false, 0x54)
    -- a bit above the row
    ∷ (whole, 0x157, true, false, true, true, 0x57)
    -- a printed number too large for its bits
    ∷ (printed 1 0 ∷ printed 1 1 ∷ printed 1 2 ∷ [], 4, false, true, true, true, 2)
    -- a row too long
    ∷ (long, 2 ^ 32, false, true, true, true, 0)
    ∷ []

-- packed_read_whole: the packet built again is another wherever a premise fails
pub read_examples :
    map {A = ReadCase} {B = Bool × Bool × Bool × Bool × ℕ}
    (λ c. (
      laid c.0,
      ltb c.1 (2 ^ size c.0),
      shows c.0 c.1,
      eqb (mask_of is_read c.0) (2 ^ size c.0 - 1),
      packed c.0 (fields_of c.0 c.1),
    )) read_cases
    ≡ map {A = ReadCase} {B = Bool × Bool × Bool × Bool × ℕ} (λ c. (c.2, c.3, c.4, c.5, c.6)) read_cases
unfolding read_cases
read_examples = refl
