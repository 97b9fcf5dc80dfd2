-- The data sheet's tables of the packets that are both built and read: a line a byte, byte 3 first (docs/datasheet.md).
use Rattle.std.specs.Prelude.{◌/◌, [], ◌∷◌}
use Rattle.laws.specs.Layouts.{Layout, printed, zeros, field}
use Rattle.packet.specs.Names.{checksum_id, configuration_id, control_id, all_frame_mode_id, receiver_lines_id}
use Rattle.packet.specs.Names.{shut_down1_id, first_frames_id, address_enable_id, first_user_address_id, part_id_id}

-- S8.4.6, Table 9: CV
abbrev pub checksum : Layout
checksum =
    printed 8 checksum_id
    ∷ field 24
    ∷ []

-- S8.4.4, Table 5: OFD; SP; SME, MOT, COD, MTE, LBP
abbrev pub configuration : Layout
configuration =
    printed 8 configuration_id
    ∷ zeros 6 ∷ field 2
    ∷ zeros 6 ∷ field 2
    ∷ field 1 ∷ field 1 ∷ field 1 ∷ field 1 ∷ field 1 ∷ zeros 3
    ∷ []

-- S8.4.7, Table 11: FF; SPM, PS; SBI, MTC, ON
abbrev pub control : Layout
control =
    printed 8 control_id
    ∷ field 8
    ∷ zeros 1 ∷ field 1 ∷ field 2 ∷ zeros 4
    ∷ zeros 1 ∷ field 1 ∷ zeros 1 ∷ field 1 ∷ zeros 3 ∷ field 1
    ∷ []

-- S8.8.3, Table 56: DAF, FAF; DTA
abbrev pub all_frame_mode : Layout
all_frame_mode =
    printed 8 all_frame_mode_id
    ∷ field 1 ∷ field 1 ∷ zeros 6
    ∷ field 16
    ∷ []

-- S8.5.7, Table 19: FRS; CLS
abbrev pub receiver_lines : Layout
receiver_lines =
    printed 8 receiver_lines_id
    ∷ zeros 8
    ∷ field 8
    ∷ field 8
    ∷ []

-- S8.5.8.1, Table 21: s; SE, LBC; CLS; ST
abbrev pub shut_down : Layout
shut_down =
    printed 7 (shut_down1_id / 2) ∷ field 1
    ∷ field 1 ∷ zeros 3 ∷ field 1 ∷ zeros 3
    ∷ field 8
    ∷ zeros 2 ∷ field 6
    ∷ []

-- S8.6.7, Table 29: f; AF
abbrev pub frame_assignment : Layout
frame_assignment =
    printed 5 (first_frames_id / 8) ∷ field 3
    ∷ zeros 8
    ∷ field 16
    ∷ []

-- S8.6.6, Table 26: a; LA, TOA, A
abbrev pub user_address : Layout
user_address =
    printed 4 (first_user_address_id / 16) ∷ field 4
    ∷ zeros 1 ∷ field 1 ∷ field 1 ∷ field 21
    ∷ []

-- S8.6.6, Table 27: UAE
abbrev pub address_enable : Layout
address_enable =
    printed 8 address_enable_id
    ∷ zeros 8
    ∷ field 16
    ∷ []

-- S8.4.5, Table 8: MDL, CID, REV
abbrev pub part_id : Layout
part_id =
    printed 8 part_id_id
    ∷ field 2 ∷ field 14
    ∷ field 8
    ∷ []
