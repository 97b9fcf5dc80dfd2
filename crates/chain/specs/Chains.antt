-- The records of chains (document 01, "A chain is known by .."; its table, 2), in a row of any length.
use Rattle.std.specs.Prelude.{ℕ, Bool, true, not, ◌&&◌, List, [], ◌∷◌, leb, ltb, eqb, length, replicate, Option, Some, None}
use Rattle.laws.specs.Choice.{pick}
use Rattle.laws.specs.Lists.{first_that}
use Rattle.fragment.specs.Fragments.{most_characters}
use Rattle.chain.specs.declared.Chain.{Chain}

-- 01: "A closed slot's record is all zero"
abbrev pub blank : Chain
blank = record { is_open = 0; address = 0; message_number = 0; next_fragment = 0; sum = 0; characters = 0 }

-- whether a slot's chain is open
abbrev pub is_open : Chain → Bool
is_open c = not (eqb c.is_open 0)

-- 01: "address number (0 to 31, the last 16 temporary)"
abbrev pub is_address : ℕ → Bool
is_address address = leb address 31

-- 01's table, 7: "N over 63"
abbrev pub is_message : ℕ → Bool
is_message n = leb n 63

-- 01's table, 2, of an open chain: none of address over 31, N over 63, next F over 2, running sum over 127, length over 1,008
abbrev pub in_limits : Chain → Bool
in_limits c =
    is_address c.address && is_message c.message_number && leb c.next_fragment 2 && leb c.sum 127 && leb c.characters most_characters

-- 01's table, 2, of a closed slot: "a closed slot's record not all zero" (that it is closed says the first number)
abbrev pub is_blank : Chain → Bool
is_blank c =
    eqb c.address 0 && eqb c.message_number 0 && eqb c.next_fragment 0 && eqb c.sum 0 && eqb c.characters 0

-- 01's table, 2, of one slot, open or closed
abbrev pub is_sound : Chain → Bool
is_sound c = pick (is_open c) (in_limits c) (is_blank c)

-- 01: "A chain is known by address number .. and N"
abbrev pub is_of : ℕ → ℕ → Chain → Bool
is_of address n c = is_open c && eqb c.address address && eqb c.message_number n

-- the slot of a key's open chain; the row's length where it has none
abbrev pub find : ℕ → ℕ → List Chain → ℕ
find address n row = first_that (is_of address n) row

-- whether a key has an open chain
abbrev pub holds : ℕ → ℕ → List Chain → Bool
holds address n row = ltb (find address n row) (length row)

-- 01: "the lowest-numbered free slot"; the row's length where none is free
abbrev pub first_free : List Chain → ℕ
first_free row = first_that (λ c. not (is_open c)) row

-- a slot that was looked for, by the place where the search ended: none where that is the row's length
abbrev pub found : List Chain → ℕ → Option ℕ
found row place = pick (ltb place (length row)) (Some place) None

-- 01's table, 2, of the row: each slot is sound, and no two open chains are of one key
unfoldable pub sound : List Chain → Bool
sound [] = true
sound (c ∷ row) = is_sound c && not (is_open c && holds c.address c.message_number row) && sound row

-- 01: "There are 8 slots"
abbrev pub slot_count : ℕ
slot_count = 8

-- a row of so many closed slots
abbrev pub fresh : ℕ → List Chain
fresh count = replicate count blank
