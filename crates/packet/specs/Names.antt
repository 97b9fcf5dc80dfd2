-- Every packet ID by its name, and the two halves of a packet.
use Rattle.std.specs.Prelude.{ℕ, ◌/◌, ◌%◌, ◌^◌, Bool, ◌&&◌, List, [], ◌∷◌, leb}

-- S8.3.5, Table 1: byte 3 is the ID
abbrev pub id_of : ℕ → ℕ
id_of n = n / 2 ^ 24

-- Table 1: bytes 2 to 0 are the 24 data bits
abbrev pub data_of : ℕ → ℕ
data_of n = n % 2 ^ 24

-- whether an ID is one of those from the first to the last
abbrev pub among : ℕ → ℕ → ℕ → Bool
among first last id = leb first id && leb id last

-- ---- S8.3.7, Table 2: what the host sends

-- checksum (S8.4.6)
abbrev pub checksum_id : ℕ
checksum_id = 0x00

-- configuration (S8.4.4)
abbrev pub configuration_id : ℕ
configuration_id = 0x01

-- control (S8.4.7)
abbrev pub control_id : ℕ
control_id = 0x02

-- all frame mode (S8.8.3)
abbrev pub all_frame_mode_id : ℕ
all_frame_mode_id = 0x03

-- receiver line control (S8.5.7)
abbrev pub receiver_lines_id : ℕ
receiver_lines_id = 0x0F

-- receiver off (S8.5.4); the ten settings from here on go with any data bits
abbrev pub receiver_off_id : ℕ
receiver_off_id = 0x10

-- the first warm-up (S8.5.5.3)
abbrev pub warm_up1_id : ℕ
warm_up1_id = 0x11

-- the second warm-up
abbrev pub warm_up2_id : ℕ
warm_up2_id = 0x12

-- the third warm-up
abbrev pub warm_up3_id : ℕ
warm_up3_id = 0x13

-- the fourth warm-up
abbrev pub warm_up4_id : ℕ
warm_up4_id = 0x14

-- the fifth warm-up
abbrev pub warm_up5_id : ℕ
warm_up5_id = 0x15

-- sync at 3200 symbols/s (S8.5.6.2)
abbrev pub sync3200_id : ℕ
sync3200_id = 0x16

-- sync at 1600 symbols/s
abbrev pub sync1600_id : ℕ
sync1600_id = 0x17

-- data at 3200 symbols/s
abbrev pub data3200_id : ℕ
data3200_id = 0x18

-- data at 1600 symbols/s
abbrev pub data1600_id : ℕ
data1600_id = 0x19

-- shut-down 1 (S8.5.8.1)
abbrev pub shut_down1_id : ℕ
shut_down1_id = 0x1A

-- shut-down 2 (S8.5.8.1)
abbrev pub shut_down2_id : ℕ
shut_down2_id = 0x1B

-- the first of the special packets, which the decoder ignores
abbrev pub first_special_id : ℕ
first_special_id = 0x1C

-- the last of the special packets
abbrev pub last_special_id : ℕ
last_special_id = 0x1F

-- the first of the eight frame assignments (S8.6.7)
abbrev pub first_frames_id : ℕ
first_frames_id = 0x20

-- the last of the frame assignments
abbrev pub last_frames_id : ℕ
last_frames_id = 0x27

-- user address enable (S8.6.6)
abbrev pub address_enable_id : ℕ
address_enable_id = 0x78

-- the first of the sixteen user address assignments (S8.6.6)
abbrev pub first_user_address_id : ℕ
first_user_address_id = 0x80

-- the last of the user address assignments
abbrev pub last_user_address_id : ℕ
last_user_address_id = 0x8F

-- ---- S8.3.8, Table 3: what the decoder sends

-- address (S8.7.2)
abbrev pub address_id : ℕ
address_id = 0x01

-- the first word that a vector can be: the ID of a vector or message word is its word number (S8.7.3)
abbrev pub first_vector_id : ℕ
first_vector_id = 0x02

-- the first word that a message word can be (S8.7.8)
abbrev pub first_message_id : ℕ
first_message_id = 0x03

-- the last word of a frame: 01, "end by word 87"
abbrev pub last_word_id : ℕ
last_word_id = 87

-- status (S8.4.9)
abbrev pub status_id : ℕ
status_id = 0x7F

-- part ID (S8.4.5)
abbrev pub part_id_id : ℕ
part_id_id = 0xFF

-- every ID that has a name, in this order
abbrev pub all_ids : List ℕ
all_ids =
    checksum_id ∷ configuration_id ∷ control_id ∷ all_frame_mode_id ∷ receiver_lines_id ∷ receiver_off_id ∷ warm_up1_id ∷ warm_up2_id
    ∷ warm_up3_id ∷ warm_up4_id ∷ warm_up5_id ∷ sync3200_id ∷ sync1600_id ∷ data3200_id ∷ data1600_id ∷ shut_down1_id ∷ shut_down2_id
    ∷ first_special_id ∷ last_special_id ∷ first_frames_id ∷ last_frames_id ∷ address_enable_id ∷ first_user_address_id
    ∷ last_user_address_id ∷ address_id ∷ first_vector_id ∷ first_message_id ∷ last_word_id ∷ status_id ∷ part_id_id ∷ []
