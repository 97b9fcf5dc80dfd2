-- The fields of each packet that is both built and read, as numbers in its table's order; and what building one answers.
use Rattle.std.specs.Prelude.{ℕ, Bool, List, [], ◌∷◌, get_or}
use Rattle.laws.specs.Layouts.{Layout, fields_of, shows, fit, packed}
use Rattle.refusal.specs.Told.{number_unless, kept}
use Rattle.refusal.specs.declared.Refusal.TheVariants as refusals
use Rattle.packet.specs.declared.Built.{Built}
use Rattle.packet.specs.declared.Checksum.{Checksum}
use Rattle.packet.specs.declared.Configuration.{Configuration}
use Rattle.packet.specs.declared.Control.{Control}
use Rattle.packet.specs.declared.AllFrameMode.{AllFrameMode}
use Rattle.packet.specs.declared.ReceiverLines.{ReceiverLines}
use Rattle.packet.specs.declared.ShutDown.{ShutDown}
use Rattle.packet.specs.declared.FrameAssignment.{FrameAssignment}
use Rattle.packet.specs.declared.UserAddress.{UserAddress}
use Rattle.packet.specs.declared.AddressEnable.{AddressEnable}
use Rattle.packet.specs.declared.PartId.{PartId}

-- 01's table, 7, "a field too large"; else the packet
unfoldable pub built_of : Bool → ℕ → Built
built_of fits bits = record { number = number_unless refusals.Packet fits; packet = record { bits = kept fits bits } }

-- a packet as its table lays it out
abbrev pub built_by : Layout → List ℕ → Built
built_by row values = built_of (fit row values) (packed row values)

-- 01's table, 7: "not of that kind" or "a 0 bit set", so a bit that the packet's table prints is another
abbrev pub number_by : Layout → ℕ → ℕ
number_by row n = number_unless refusals.Packet (shows row n)

-- the numbers in the packet's fields; after a refusal each is 0
abbrev pub fields_by : Layout → ℕ → List ℕ
fields_by row n = fields_of row (kept (shows row n) n)

-- Table 9: a packet's fields as numbers
abbrev pub of_checksum : Checksum → List ℕ
of_checksum f = f.value ∷ []

-- Table 9: numbers as a packet's fields
abbrev pub as_checksum : List ℕ → Checksum
as_checksum v = record { value = get_or v 0 0 }

-- Table 5: a packet's fields as numbers
abbrev pub of_configuration : Configuration → List ℕ
of_configuration f =
    f.oscillator ∷ f.polarity ∷ f.synchronous_mode ∷ f.maximum_off_time ∷ f.clock_output_disable
    ∷ f.minute_timer ∷ f.low_battery_polarity ∷ []

-- Table 5: numbers as a packet's fields
abbrev pub as_configuration : List ℕ → Configuration
as_configuration v =
    record {
      oscillator = get_or v 0 0;
      polarity = get_or v 1 0;
      synchronous_mode = get_or v 2 0;
      maximum_off_time = get_or v 3 0;
      clock_output_disable = get_or v 4 0;
      minute_timer = get_or v 5 0;
      low_battery_polarity = get_or v 6 0;
    }

-- Table 11: a packet's fields as numbers
abbrev pub of_control : Control → List ℕ
of_control f = f.forced_frames ∷ f.single_phase ∷ f.phase ∷ f.block_information ∷ f.minute_timer_clear ∷ f.on ∷ []

-- Table 11: numbers as a packet's fields
abbrev pub as_control : List ℕ → Control
as_control v =
    record {
      forced_frames = get_or v 0 0;
      single_phase = get_or v 1 0;
      phase = get_or v 2 0;
      block_information = get_or v 3 0;
      minute_timer_clear = get_or v 4 0;
      on = get_or v 5 0;
    }

-- Table 56: a packet's fields as numbers
abbrev pub of_all_frame_mode : AllFrameMode → List ℕ
of_all_frame_mode f = f.decrement ∷ f.force ∷ f.decrement_temporary ∷ []

-- Table 56: numbers as a packet's fields
abbrev pub as_all_frame_mode : List ℕ → AllFrameMode
as_all_frame_mode v = record { decrement = get_or v 0 0; force = get_or v 1 0; decrement_temporary = get_or v 2 0 }

-- Table 19: a packet's fields as numbers
abbrev pub of_receiver_lines : ReceiverLines → List ℕ
of_receiver_lines f = f.forced ∷ f.settings ∷ []

-- Table 19: numbers as a packet's fields
abbrev pub as_receiver_lines : List ℕ → ReceiverLines
as_receiver_lines v = record { forced = get_or v 0 0; settings = get_or v 1 0 }

-- Table 21: a packet's fields as numbers
abbrev pub of_shut_down : ShutDown → List ℕ
of_shut_down f = f.setting ∷ f.enable ∷ f.low_battery_check ∷ f.lines ∷ f.time ∷ []

-- Table 21: numbers as a packet's fields
abbrev pub as_shut_down : List ℕ → ShutDown
as_shut_down v = record { setting = get_or v 0 0; enable = get_or v 1 0; low_battery_check = get_or v 2 0; lines = get_or v 3 0; time = get_or v 4 0 }

-- Table 29: a packet's fields as numbers
abbrev pub of_frame_assignment : FrameAssignment → List ℕ
of_frame_assignment f = f.range ∷ f.frames ∷ []

-- Table 29: numbers as a packet's fields
abbrev pub as_frame_assignment : List ℕ → FrameAssignment
as_frame_assignment v = record { range = get_or v 0 0; frames = get_or v 1 0 }

-- Table 26: a packet's fields as numbers
abbrev pub of_user_address : UserAddress → List ℕ
of_user_address f = f.location ∷ f.long_address ∷ f.tone_only ∷ f.word ∷ []

-- Table 26: numbers as a packet's fields
abbrev pub as_user_address : List ℕ → UserAddress
as_user_address v = record { location = get_or v 0 0; long_address = get_or v 1 0; tone_only = get_or v 2 0; word = get_or v 3 0 }

-- Table 27: a packet's fields as numbers
abbrev pub of_address_enable : AddressEnable → List ℕ
of_address_enable f = f.enabled ∷ []

-- Table 27: numbers as a packet's fields
abbrev pub as_address_enable : List ℕ → AddressEnable
as_address_enable v = record { enabled = get_or v 0 0 }

-- Table 8: a packet's fields as numbers
abbrev pub of_part_id : PartId → List ℕ
of_part_id f = f.model ∷ f.compatibility ∷ f.revision ∷ []

-- Table 8: numbers as a packet's fields
abbrev pub as_part_id : List ℕ → PartId
as_part_id v = record { model = get_or v 0 0; compatibility = get_or v 1 0; revision = get_or v 2 0 }
