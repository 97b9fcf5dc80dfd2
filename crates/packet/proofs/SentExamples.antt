-- Worked examples: packets as they are read back.
use mathlib.Core.Path.{◌≡◌, refl}
use Rattle.packet.specs.Tables.{control}
use Rattle.packet.specs.Fields.{built_of, built_by, of_control}
use Rattle.packet.specs.Sent.{checksum_read, configuration_read, control_read, all_frame_mode_read, receiver_lines_read}
use Rattle.packet.specs.Sent.{shut_down_read, frame_assignment_read, user_address_read, address_enable_read}

-- Table 9: CV
pub checksum_example : checksum_read 0x00ABCDEF ≡ record { number = 0; fields = record { value = 0xABCDEF } }
checksum_example = refl

-- Table 5: MTE alone
pub configuration_example : configuration_read 0x01000010
    ≡ record {
      number = 0;
      fields =
          record {
            oscillator = 0;
            polarity = 0;
            synchronous_mode = 0;
            maximum_off_time = 0;
            clock_output_disable = 0;
            minute_timer = 1;
            low_battery_polarity = 0;
          };
    }
configuration_example = refl

-- Table 5: OFD, SP, SME and LBP
pub configuration_fields_example : configuration_read 0x01020188
    ≡ record {
      number = 0;
      fields =
          record {
            oscillator = 2;
            polarity = 1;
            synchronous_mode = 1;
            maximum_off_time = 0;
            clock_output_disable = 0;
            minute_timer = 0;
            low_battery_polarity = 1;
          };
    }
configuration_fields_example = refl

-- Table 11: SPM, PS 2 and ON
pub control_example : control_read 0x02006001
    ≡ record { number = 0; fields = record { forced_frames = 0; single_phase = 1; phase = 2; block_information = 0; minute_timer_clear = 0; on = 1 } }
control_example = refl

-- Table 11: bit 15 set, which the table prints as 0
pub control_zero_bit_example : control_read 0x0200E001
    ≡ record { number = 7; fields = record { forced_frames = 0; single_phase = 0; phase = 0; block_information = 0; minute_timer_clear = 0; on = 0 } }
control_zero_bit_example = refl

-- Table 11: a phase too large for its place
pub control_too_large_example :
    built_by control (of_control (record { forced_frames = 0; single_phase = 1; phase = 4; block_information = 0; minute_timer_clear = 0; on = 1 }))
    ≡ record { number = 7; packet = record { bits = 0 } }
unfolding built_of
control_too_large_example = refl

-- Table 11: another kind's ID
pub other_kind_example : control_read 0x01000010
    ≡ record { number = 7; fields = record { forced_frames = 0; single_phase = 0; phase = 0; block_information = 0; minute_timer_clear = 0; on = 0 } }
other_kind_example = refl

-- Table 56: FAF alone
pub all_frame_mode_example : all_frame_mode_read 0x03400000 ≡ record { number = 0; fields = record { decrement = 0; force = 1; decrement_temporary = 0 } }
all_frame_mode_example = refl

-- Table 19: FRS for lines S7 and S0, CLS for S0
pub receiver_lines_example : receiver_lines_read 0x0F008101 ≡ record { number = 0; fields = record { forced = 0x81; settings = 0x01 } }
receiver_lines_example = refl

-- Table 21: shut-down 1, and shut-down 2 with nothing but its ID
pub shut_down_example : shut_down_read 0x1A88013F
    ≡ record { number = 0; fields = record { setting = 0; enable = 1; low_battery_check = 1; lines = 0x01; time = 0x3F } }
shut_down_example = refl

pub shut_down_2_example : shut_down_read 0x1B000000
    ≡ record { number = 0; fields = record { setting = 1; enable = 0; low_battery_check = 0; lines = 0; time = 0 } }
shut_down_2_example = refl

-- Table 29: frame 112 alone, and frame 15 alone (Table 28)
pub frame_112_example : frame_assignment_read 0x20000001 ≡ record { number = 0; fields = record { range = 0; frames = 1 } }
frame_112_example = refl

pub frame_15_example : frame_assignment_read 0x27008000 ≡ record { number = 0; fields = record { range = 7; frames = 0x8000 } }
frame_15_example = refl

-- Table 27: UAE
pub address_enable_example : address_enable_read 0x78008001 ≡ record { number = 0; fields = record { enabled = 0x8001 } }
address_enable_example = refl

-- Table 26: a word of a long address in the first location, and a tone-only one in the last
pub user_address_example : user_address_read 0x80400001 ≡ record { number = 0; fields = record { location = 0; long_address = 1; tone_only = 0; word = 1 } }
user_address_example = refl

pub tone_only_example : user_address_read 0x8F208001
    ≡ record { number = 0; fields = record { location = 15; long_address = 0; tone_only = 1; word = 0x8001 } }
tone_only_example = refl
