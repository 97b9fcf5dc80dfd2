-- What the host may send (document 01, "Packets and the handshake").
use Rattle.std.specs.Prelude.{ℕ, Bool, not, ◌&&◌, [], ◌∷◌, eqb}
use Rattle.laws.specs.Choice.{some, every, implies}
use Rattle.laws.specs.Layouts.{shows}
use Rattle.refusal.specs.Told.{number_unless}
use Rattle.refusal.specs.declared.Refusal.TheVariants as refusals
use Rattle.packet.specs.Names.{id_of, among, configuration_id, control_id, all_frame_mode_id, receiver_lines_id}
use Rattle.packet.specs.Names.{shut_down1_id, shut_down2_id, first_special_id, last_special_id, first_frames_id}
use Rattle.packet.specs.Names.{last_frames_id, address_enable_id, first_user_address_id, last_user_address_id}
use Rattle.packet.specs.Tables.{configuration, control, all_frame_mode, receiver_lines, shut_down, frame_assignment, user_address, address_enable}

-- 01: "The host refuses to send IDs 04H to 0EH, 1CH to 1FH, 28H to 77H, 79H to 7FH, 90H to FFH"
abbrev pub never_sent : ℕ → Bool
never_sent id =
    some
    (among 0x04 0x0E id ∷ among first_special_id last_special_id id ∷ among 0x28 0x77 id ∷ among 0x79 0x7F id ∷ among 0x90 0xFF id ∷ [])

-- 01: "Bits that a table shows as 0 must be 0; 10H to 19H are sent with any data bits". The checksum's table shows none
abbrev pub zeros_right : ℕ → Bool
zeros_right n =
    every
    (implies (eqb (id_of n) configuration_id) (shows configuration n)
    ∷ implies (eqb (id_of n) control_id) (shows control n)
    ∷ implies (eqb (id_of n) all_frame_mode_id) (shows all_frame_mode n)
    ∷ implies (eqb (id_of n) receiver_lines_id) (shows receiver_lines n)
    ∷ implies (among shut_down1_id shut_down2_id (id_of n)) (shows shut_down n)
    ∷ implies (among first_frames_id last_frames_id (id_of n)) (shows frame_assignment n)
    ∷ implies (eqb (id_of n) address_enable_id) (shows address_enable n)
    ∷ implies (among first_user_address_id last_user_address_id (id_of n)) (shows user_address n)
    ∷ [])

-- whether the host may send these 32 bits
abbrev pub may_send : ℕ → Bool
may_send n = not (never_sent (id_of n)) && zeros_right n

-- 01's table: 7 for what is not to be sent
abbrev pub send_of : ℕ → ℕ
send_of n = number_unless refusals.Packet (may_send n)
