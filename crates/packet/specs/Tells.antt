-- That the readers' questions and fields are told as the definitions tell them.
use Rattle.std.specs.Prelude.{ℕ, Bool, true, false, ◌&&◌, ◌≡◌, refl, Err}
use Rattle.laws.specs.Choice.{pick}
use Rattle.laws.specs.Layouts.{fields_of}
use Rattle.refusal.specs.Told.{number_unless, kept}
use Rattle.refusal.specs.declared.Refusal.{Refusal}
use Rattle.refusal.specs.declared.Refusal.TheVariants as refusals
use Rattle.packet.specs.HeardTables.{address, message}
use Rattle.packet.specs.Heard.{as_address, address_right, address_numbered, address_refusal, address_judged, address_read, as_message, is_message, message_read}
use Rattle.packet.specs.Vectors.{vector_of, is_vector, vector_read}
use Rattle.packet.specs.Reading.{unless, read_by, told_with}

-- one question: the fields are those of the packet, or of no bits
pub one_told : {A : Type 0} (fields : ℕ → A) (r : Refusal) (good : Bool) (n : ℕ)
    → told_with (fields 0) (read_by (unless r good) (fields n)) ≡ (number_unless r good, fields (kept good n))
one_told fields r true n = refl
one_told fields r false n = refl

-- two questions, one after the other
two_told : {A : Type 0} (fields : ℕ → A) (right numbered : Bool) (n : ℕ)
    → told_with (fields 0) (read_by (pick right (unless refusals.Address numbered) (Err refusals.Packet)) (fields n))
    ≡ (address_refusal right numbered, fields (kept (right && numbered) n))
two_told fields true true n = refl
two_told fields true false n = refl
two_told fields false numbered n = refl

-- what is told of 32 bits as an address packet is what `address_read` says
pub address_tells : (n : ℕ) → told_with (as_address (fields_of address 0)) (read_by (address_judged n) (as_address (fields_of address n)))
    ≡ ((address_read n).number, (address_read n).fields)
address_tells n = two_told (λ k. as_address (fields_of address k)) (address_right n) (address_numbered n) n

-- and of a message packet, `message_read`
pub message_tells : (n : ℕ) → told_with (as_message (fields_of message 0)) (read_by (unless refusals.Packet (is_message n)) (as_message (fields_of message n)))
    ≡ ((message_read n).number, (message_read n).fields)
message_tells n = one_told (λ k. as_message (fields_of message k)) refusals.Packet (is_message n) n

-- and of a vector packet, `vector_read`
pub vector_tells : (n : ℕ) → told_with (vector_of 0) (read_by (unless refusals.Packet (is_vector n)) (vector_of n))
    ≡ ((vector_read n).number, (vector_read n).fields)
vector_tells n = one_told vector_of refusals.Packet (is_vector n) n
