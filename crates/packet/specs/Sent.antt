-- Reading back what the host sends (document 01, "Packets and the handshake").
use Rattle.std.specs.Prelude.{ℕ}
use Rattle.packet.specs.Tables.{checksum, configuration, control, all_frame_mode, receiver_lines, shut_down, frame_assignment, user_address, address_enable}
use Rattle.packet.specs.Fields.{number_by, fields_by, as_checksum, as_configuration, as_control, as_all_frame_mode}
use Rattle.packet.specs.Fields.{as_receiver_lines, as_shut_down, as_frame_assignment, as_user_address, as_address_enable}
use Rattle.packet.specs.declared.sent.ChecksumRead.{ChecksumRead}
use Rattle.packet.specs.declared.sent.ConfigurationRead.{ConfigurationRead}
use Rattle.packet.specs.declared.sent.ControlRead.{ControlRead}
use Rattle.packet.specs.declared.sent.AllFrameModeRead.{AllFrameModeRead}
use Rattle.packet.specs.declared.sent.ReceiverLinesRead.{ReceiverLinesRead}
use Rattle.packet.specs.declared.sent.ShutDownRead.{ShutDownRead}
use Rattle.packet.specs.declared.sent.FrameAssignmentRead.{FrameAssignmentRead}
use Rattle.packet.specs.declared.sent.UserAddressRead.{UserAddressRead}
use Rattle.packet.specs.declared.sent.AddressEnableRead.{AddressEnableRead}

-- Table 9
abbrev pub checksum_read : ℕ → ChecksumRead
checksum_read n = record { number = number_by checksum n; fields = as_checksum (fields_by checksum n) }

-- Table 5
abbrev pub configuration_read : ℕ → ConfigurationRead
configuration_read n = record { number = number_by configuration n; fields = as_configuration (fields_by configuration n) }

-- Table 11
abbrev pub control_read : ℕ → ControlRead
control_read n = record { number = number_by control n; fields = as_control (fields_by control n) }

-- Table 56
abbrev pub all_frame_mode_read : ℕ → AllFrameModeRead
all_frame_mode_read n = record { number = number_by all_frame_mode n; fields = as_all_frame_mode (fields_by all_frame_mode n) }

-- Table 19
abbrev pub receiver_lines_read : ℕ → ReceiverLinesRead
receiver_lines_read n = record { number = number_by receiver_lines n; fields = as_receiver_lines (fields_by receiver_lines n) }

-- Table 21
abbrev pub shut_down_read : ℕ → ShutDownRead
shut_down_read n = record { number = number_by shut_down n; fields = as_shut_down (fields_by shut_down n) }

-- Table 29
abbrev pub frame_assignment_read : ℕ → FrameAssignmentRead
frame_assignment_read n = record { number = number_by frame_assignment n; fields = as_frame_assignment (fields_by frame_assignment n) }

-- Table 26
abbrev pub user_address_read : ℕ → UserAddressRead
user_address_read n = record { number = number_by user_address n; fields = as_user_address (fields_by user_address n) }

-- Table 27
abbrev pub address_enable_read : ℕ → AddressEnableRead
address_enable_read n = record { number = number_by address_enable n; fields = as_address_enable (fields_by address_enable n) }
