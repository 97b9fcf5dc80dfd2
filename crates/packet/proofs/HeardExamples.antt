-- Packets of the decoder worked out by hand from the data sheet's tables, and packets for which a premise of a law fails.
use Prim.Native.Nat.{ℕ}
use mathlib.Core.List.{[], ◌∷◌, map}
use mathlib.Core.Path.{◌≡◌, refl}
use Rattle.laws.specs.Layouts.{packed}
use Rattle.packet.specs.HeardTables.{status, address}
use Rattle.packet.specs.Heard.{part_id_read, status_read, address_read, message_read}
use Rattle.packet.proofs.HeardLaws.{of_status, of_address}

-- S8.4.5: model 0, compatibility 1, revision 6
pub part_id_example : part_id_read 0xFF000106 ≡ record { number = 0; fields = record { model = 0; compatibility = 1; revision = 6 } }
part_id_example = refl

-- Table 12: frame 77 of cycle 5, in step, at the end of the frame; all x bits set
pub status_example : status_read 0x7FCDB52E
    ≡ record {
      number = 0;
      fields =
          record {
            frame_valid = 1;
            frame = 77;
            synchronous = 1;
            low_battery = 0;
            cycle = 5;
            synchronous_update = 0;
            low_battery_update = 0;
            minute = 0;
            end_of_frame = 1;
            overflow = 0;
          };
    }
status_example = refl

-- Table 30: a priority call on phase C for the temporary address 3, its vector at word 14
pub address_example : address_read 0x01C0830E
    ≡ record { number = 0; fields = record { priority = 1; phase = 2; long_address = 0; address = 19; tone_only = 0; vector = 14 } }
address_example = refl

-- Table 30: the same address as tone-only, whose word number is not looked at
pub tone_only_example : address_read 0x01C083FF
    ≡ record { number = 0; fields = record { priority = 1; phase = 2; long_address = 0; address = 19; tone_only = 1; vector = 0 } }
tone_only_example = refl

-- the numbers of the refusals: index 10H is 8, word 88 is 7, both are 7, and so is another ID; words 0, 1 and 87 are none
pub address_numbers : map (λ (n : ℕ). (address_read n).number) (0x01C0100E ∷ 0x01C08358 ∷ 0x01C01058 ∷ 0x00C0830E ∷ 0x01C08300 ∷ 0x01C08301 ∷ 0x01C08357 ∷ [])
    ≡ 8 ∷ 7 ∷ 7 ∷ 7 ∷ 0 ∷ 0 ∷ 0 ∷ []
address_numbers = refl

-- Table 40: the last word of a frame, in error
pub message_example : message_read 0x57FFFFFF ≡ record { number = 0; fields = record { word = 87; damaged = 1; phase = 3; bits = 0x1FFFFF } }
message_example = refl

-- Table 40: words 2 and 88 hold no message
pub word_numbers : map (λ (n : ℕ). (message_read n).number) (0x02000000 ∷ 0x03000000 ∷ 0x57000000 ∷ 0x58000000 ∷ []) ≡ 7 ∷ 0 ∷ 0 ∷ 7 ∷ []
word_numbers = refl

-- Laid out again: a status with its x bits set comes back with them clear, which is why the law says "up to x bits"
pub status_again : packed status (of_status (status_read 0x7FCDB52E).fields) ≡ 0x7FCD8504
status_again = refl

-- Laid out again: a tone-only address loses the word number that was not looked at, so the law leaves it out
pub tone_only_again : packed address (of_address (address_read 0x01C083FF).fields) ≡ 0x01C08380
tone_only_again = refl

-- Laid out again: an index that is no address number is not told, so the law asks for one
pub no_index_again : packed address (of_address (address_read 0x01C0100E).fields) ≡ 0x01000000
no_index_again = refl
