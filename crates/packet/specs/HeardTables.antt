-- The data sheet's tables of the packets that the decoder sends: a line a byte, byte 3 first (docs/datasheet.md).
use Rattle.std.specs.Prelude.{[], ◌∷◌}
use Rattle.laws.specs.Layouts.{Layout, printed, zeros, field, unused}
use Rattle.packet.specs.Names.{address_id, status_id}

-- S8.4.9, Table 12: FIV, f; SM, LB, c; SMU, LBU, MT, EOF, BOE
abbrev pub status : Layout
status =
    printed 8 status_id
    ∷ field 1 ∷ field 7
    ∷ field 1 ∷ field 1 ∷ unused 2 ∷ field 4
    ∷ field 1 ∷ field 1 ∷ unused 1 ∷ field 1 ∷ unused 1 ∷ field 1 ∷ unused 1 ∷ field 1
    ∷ []

-- S8.7.2, Table 30: PA, p, LA; AI; TOA, WN
abbrev pub address : Layout
address =
    printed 8 address_id
    ∷ field 1 ∷ field 2 ∷ field 1 ∷ unused 4
    ∷ field 8
    ∷ field 1 ∷ field 7
    ∷ []

-- S8.7.8, Table 40: WN; e, p, i
abbrev pub message : Layout
message =
    zeros 1 ∷ field 7
    ∷ field 1 ∷ field 2 ∷ field 21
    ∷ []
