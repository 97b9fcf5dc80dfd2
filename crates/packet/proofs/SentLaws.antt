-- What document 01 promises of the packets that the host sends: fields and packets lead to each other.
use Prim.Native.Nat.{ℕ, ◌^◌, ◌<◌}
use mathlib.Core.Bool.{true}
use mathlib.Core.Path.{◌≡◌, refl}
use Rattle.laws.specs.Layouts.{shows, fit}
use Rattle.packet.proofs.Laws.{read_built, built_read}
use Rattle.packet.specs.Tables.{checksum, configuration, control, all_frame_mode, receiver_lines, shut_down, frame_assignment, user_address, address_enable}
use Rattle.packet.specs.Fields.{built_by, of_checksum, as_checksum, of_configuration, as_configuration, of_control}
use Rattle.packet.specs.Fields.{as_control, of_all_frame_mode, as_all_frame_mode, of_receiver_lines, as_receiver_lines}
use Rattle.packet.specs.Fields.{of_shut_down, as_shut_down, of_frame_assignment, as_frame_assignment, of_user_address}
use Rattle.packet.specs.Fields.{as_user_address, of_address_enable, as_address_enable}
use Rattle.packet.specs.declared.Checksum.{Checksum}
use Rattle.packet.specs.declared.Configuration.{Configuration}
use Rattle.packet.specs.declared.Control.{Control}
use Rattle.packet.specs.declared.AllFrameMode.{AllFrameMode}
use Rattle.packet.specs.declared.sent.ChecksumRead.{ChecksumRead}
use Rattle.packet.specs.declared.sent.ConfigurationRead.{ConfigurationRead}
use Rattle.packet.specs.declared.sent.ControlRead.{ControlRead}
use Rattle.packet.specs.declared.sent.AllFrameModeRead.{AllFrameModeRead}
use Rattle.packet.specs.Sent.{checksum_read, configuration_read, control_read, all_frame_mode_read, receiver_lines_read}
use Rattle.packet.specs.Sent.{shut_down_read, frame_assignment_read, user_address_read, address_enable_read}
use Rattle.packet.specs.declared.ReceiverLines.{ReceiverLines}
use Rattle.packet.specs.declared.ShutDown.{ShutDown}
use Rattle.packet.specs.declared.FrameAssignment.{FrameAssignment}
use Rattle.packet.specs.declared.AddressEnable.{AddressEnable}
use Rattle.packet.specs.declared.UserAddress.{UserAddress}
use Rattle.packet.specs.declared.sent.ReceiverLinesRead.{ReceiverLinesRead}
use Rattle.packet.specs.declared.sent.ShutDownRead.{ShutDownRead}
use Rattle.packet.specs.declared.sent.FrameAssignmentRead.{FrameAssignmentRead}
use Rattle.packet.specs.declared.sent.AddressEnableRead.{AddressEnableRead}
use Rattle.packet.specs.declared.sent.UserAddressRead.{UserAddressRead}

-- There and back: what was built from fields that fit is read as these fields.

-- the checksum packet (Table 9)
pub checksum_there_and_back : (f : Checksum) → fit checksum (of_checksum f) ≡ true
    → checksum_read (built_by checksum (of_checksum f)).packet.bits ≡ record { number = 0; fields = f }
checksum_there_and_back f = read_built {Answer = ChecksumRead} (λ number v. record { number = number; fields = as_checksum v }) checksum (of_checksum f) tt

-- the configuration packet (Table 5)
pub configuration_there_and_back : (f : Configuration) → fit configuration (of_configuration f) ≡ true
    → configuration_read (built_by configuration (of_configuration f)).packet.bits ≡ record { number = 0; fields = f }
configuration_there_and_back f =
    read_built {Answer = ConfigurationRead} (λ number v. record { number = number; fields = as_configuration v }) configuration (of_configuration f) tt

-- the control packet (Table 11)
pub control_there_and_back : (f : Control) → fit control (of_control f) ≡ true
    → control_read (built_by control (of_control f)).packet.bits ≡ record { number = 0; fields = f }
control_there_and_back f = read_built {Answer = ControlRead} (λ number v. record { number = number; fields = as_control v }) control (of_control f) tt

-- the all frame mode packet (Table 56)
pub all_frame_mode_there_and_back : (f : AllFrameMode) → fit all_frame_mode (of_all_frame_mode f) ≡ true
    → all_frame_mode_read (built_by all_frame_mode (of_all_frame_mode f)).packet.bits ≡ record { number = 0; fields = f }
all_frame_mode_there_and_back f =
    read_built {Answer = AllFrameModeRead} (λ number v. record { number = number; fields = as_all_frame_mode v }) all_frame_mode (of_all_frame_mode f) tt

-- the receiver line control packet (Table 19)
pub receiver_lines_there_and_back : (f : ReceiverLines) → fit receiver_lines (of_receiver_lines f) ≡ true
    → receiver_lines_read (built_by receiver_lines (of_receiver_lines f)).packet.bits ≡ record { number = 0; fields = f }
receiver_lines_there_and_back f =
    read_built {Answer = ReceiverLinesRead} (λ number v. record { number = number; fields = as_receiver_lines v }) receiver_lines (of_receiver_lines f) tt

-- the receiver shut-down packets (Table 21)
pub shut_down_there_and_back : (f : ShutDown) → fit shut_down (of_shut_down f) ≡ true
    → shut_down_read (built_by shut_down (of_shut_down f)).packet.bits ≡ record { number = 0; fields = f }
shut_down_there_and_back f = read_built {Answer = ShutDownRead} (λ number v. record { number = number; fields = as_shut_down v }) shut_down (of_shut_down f) tt

-- the frame assignment packets (Table 29)
pub frame_assignment_there_and_back : (f : FrameAssignment) → fit frame_assignment (of_frame_assignment f) ≡ true
    → frame_assignment_read (built_by frame_assignment (of_frame_assignment f)).packet.bits ≡ record { number = 0; fields = f }
frame_assignment_there_and_back f =
    read_built {Answer = FrameAssignmentRead} (λ number v. record { number = number; fields = as_frame_assignment v }) frame_assignment (of_frame_assignment f) tt

-- the user address enable packet (Table 27)
pub address_enable_there_and_back : (f : AddressEnable) → fit address_enable (of_address_enable f) ≡ true
    → address_enable_read (built_by address_enable (of_address_enable f)).packet.bits ≡ record { number = 0; fields = f }
address_enable_there_and_back f =
    read_built {Answer = AddressEnableRead} (λ number v. record { number = number; fields = as_address_enable v }) address_enable (of_address_enable f) tt

-- the user address assignment packets (Table 26)
pub user_address_there_and_back : (f : UserAddress) → fit user_address (of_user_address f) ≡ true
    → user_address_read (built_by user_address (of_user_address f)).packet.bits ≡ record { number = 0; fields = f }
user_address_there_and_back f =
    read_built {Answer = UserAddressRead} (λ number v. record { number = number; fields = as_user_address v }) user_address (of_user_address f) tt

-- Back and there: the fields that were read are built into the packet that they were read from.

-- the checksum packet (Table 9)
pub checksum_back_and_there : (n : ℕ) → n < 2 ^ 32 → shows checksum n ≡ true
    → built_by checksum (of_checksum (checksum_read n).fields) ≡ record { number = 0; packet = record { bits = n } }
checksum_back_and_there n h e = built_read checksum n tt h e refl

-- the configuration packet (Table 5)
pub configuration_back_and_there : (n : ℕ) → n < 2 ^ 32 → shows configuration n ≡ true
    → built_by configuration (of_configuration (configuration_read n).fields) ≡ record { number = 0; packet = record { bits = n } }
configuration_back_and_there n h e = built_read configuration n tt h e refl

-- the control packet (Table 11)
pub control_back_and_there : (n : ℕ) → n < 2 ^ 32 → shows control n ≡ true
    → built_by control (of_control (control_read n).fields) ≡ record { number = 0; packet = record { bits = n } }
control_back_and_there n h e = built_read control n tt h e refl

-- the all frame mode packet (Table 56)
pub all_frame_mode_back_and_there : (n : ℕ) → n < 2 ^ 32 → shows all_frame_mode n ≡ true
    → built_by all_frame_mode (of_all_frame_mode (all_frame_mode_read n).fields) ≡ record { number = 0; packet = record { bits = n } }
all_frame_mode_back_and_there n h e = built_read all_frame_mode n tt h e refl

-- the receiver line control packet (Table 19)
pub receiver_lines_back_and_there : (n : ℕ) → n < 2 ^ 32 → shows receiver_lines n ≡ true
    → built_by receiver_lines (of_receiver_lines (receiver_lines_read n).fields) ≡ record { number = 0; packet = record { bits = n } }
receiver_lines_back_and_there n h e = built_read receiver_lines n tt h e refl

-- the receiver shut-down packets (Table 21)
pub shut_down_back_and_there : (n : ℕ) → n < 2 ^ 32 → shows shut_down n ≡ true
    → built_by shut_down (of_shut_down (shut_down_read n).fields) ≡ record { number = 0; packet = record { bits = n } }
shut_down_back_and_there n h e = built_read shut_down n tt h e refl

-- the frame assignment packets (Table 29)
pub frame_assignment_back_and_there : (n : ℕ) → n < 2 ^ 32 → shows frame_assignment n ≡ true
    → built_by frame_assignment (of_frame_assignment (frame_assignment_read n).fields) ≡ record { number = 0; packet = record { bits = n } }
frame_assignment_back_and_there n h e = built_read frame_assignment n tt h e refl

-- the user address enable packet (Table 27)
pub address_enable_back_and_there : (n : ℕ) → n < 2 ^ 32 → shows address_enable n ≡ true
    → built_by address_enable (of_address_enable (address_enable_read n).fields) ≡ record { number = 0; packet = record { bits = n } }
address_enable_back_and_there n h e = built_read address_enable n tt h e refl

-- the user address assignment packets (Table 26)
pub user_address_back_and_there : (n : ℕ) → n < 2 ^ 32 → shows user_address n ≡ true
    → built_by user_address (of_user_address (user_address_read n).fields) ≡ record { number = 0; packet = record { bits = n } }
user_address_back_and_there n h e = built_read user_address n tt h e refl
