-- Reading what the decoder sends (document 01, "Packets and the handshake"; S8.4.5, S8.4.9, S8.7).
use Rattle.std.specs.Prelude.{ℕ, ◌+◌, ◌*◌, ◌/◌, ◌%◌, Bool, ◌&&◌, ◌||◌, List, leb, eqb, get_or, Result, Err}
use Rattle.laws.specs.Choice.{pick}
use Rattle.laws.specs.Layouts.{shows, fields_of}
use Rattle.refusal.specs.Told.{number_of, number_unless, kept}
use Rattle.refusal.specs.declared.Refusal.TheVariants as refusals
use Rattle.refusal.specs.declared.Refusal.{Refusal}
use Rattle.packet.specs.Reading.{unless}
use Rattle.packet.specs.Names.{id_of, among, first_message_id, last_word_id}
use Rattle.packet.specs.Tables.{part_id}
use Rattle.packet.specs.Fields.{number_by, fields_by, as_part_id}
use Rattle.packet.specs.HeardTables.{status, address, message}
use Rattle.packet.specs.declared.heard.PartIdRead.{PartIdRead}
use Rattle.packet.specs.declared.heard.Status.{Status}
use Rattle.packet.specs.declared.heard.StatusRead.{StatusRead}
use Rattle.packet.specs.declared.heard.Address.{Address}
use Rattle.packet.specs.declared.heard.AddressRead.{AddressRead}
use Rattle.packet.specs.declared.heard.Message.{Message}
use Rattle.packet.specs.declared.heard.MessageRead.{MessageRead}

-- Table 8. In every reader here the fields are 0 after a refusal
abbrev pub part_id_read : ℕ → PartIdRead
part_id_read n = record { number = number_by part_id n; fields = as_part_id (fields_by part_id n) }

-- Table 12
abbrev pub as_status : List ℕ → Status
as_status v =
    record {
      frame_valid = get_or v 0 0;
      frame = get_or v 1 0;
      synchronous = get_or v 2 0;
      low_battery = get_or v 3 0;
      cycle = get_or v 4 0;
      synchronous_update = get_or v 5 0;
      low_battery_update = get_or v 6 0;
      minute = get_or v 7 0;
      end_of_frame = get_or v 8 0;
      overflow = get_or v 9 0;
    }

-- a status packet's fields; 7 for another ID
abbrev pub status_read : ℕ → StatusRead
status_read n = record { number = number_by status n; fields = as_status (fields_by status n) }

-- S8.7.2: an address index is 00H to 0FH, or 80H to 8FH for a temporary address
abbrev pub is_index : ℕ → Bool
is_index index = leb index 0x0F || among 0x80 0x8F index

-- 01, "Fragments": an address number is "0 to 31, the last 16 temporary"
abbrev pub address_number : ℕ → ℕ
address_number index = index % 16 + 16 * (index / 0x80)

-- Table 30. "No vector word is sent for tone-only addresses" and WN "is invalid": it is not looked at then, and told as 0
abbrev pub as_address : List ℕ → Address
as_address v =
    record {
      priority = get_or v 0 0;
      phase = get_or v 1 0;
      long_address = get_or v 2 0;
      address = address_number (get_or v 3 0);
      tone_only = get_or v 4 0;
      vector = pick (eqb (get_or v 4 0) 1) 0 (get_or v 5 0);
    }

-- the kind is right, and the vector's word number no "field too large": S8.7.2, "2 to 87 decimal"
abbrev pub address_right : ℕ → Bool
address_right n = shows address n && (eqb (get_or (fields_of address n) 4 0) 1 || leb (get_or (fields_of address n) 5 0) last_word_id)

-- the index is one of an address
abbrev pub address_numbered : ℕ → Bool
address_numbered n = is_index (get_or (fields_of address n) 3 0)

-- 01's table: 7, then 8 for an index that is no address number
abbrev pub address_refusal : Bool → Bool → ℕ
address_refusal right numbered = pick right (number_unless refusals.Address numbered) (number_of refusals.Packet)

-- the same as the reader asks it
abbrev pub address_judged : ℕ → Result (Unit {0}) Refusal
address_judged n = pick (address_right n) (unless refusals.Address (address_numbered n)) (Err refusals.Packet)

-- the answer: the fields are told where neither is refused
abbrev pub address_read : ℕ → AddressRead
address_read n =
    record {
      number = address_refusal (address_right n) (address_numbered n);
      fields = as_address (fields_of address (kept (address_right n && address_numbered n) n));
    }

-- Table 40
abbrev pub as_message : List ℕ → Message
as_message v = record { word = get_or v 0 0; damaged = get_or v 1 0; phase = get_or v 2 0; bits = get_or v 3 0 }

-- S8.7.8: "ID = 03H to 57H"
abbrev pub is_message : ℕ → Bool
is_message n = among first_message_id last_word_id (id_of n)

-- a message packet's fields; 7 for another ID
abbrev pub message_read : ℕ → MessageRead
message_read n = record { number = number_unless refusals.Packet (is_message n); fields = as_message (fields_of message (kept (is_message n) n)) }
