-- The mirror of the decoder: its register, and whether it is talking (document 01, "Packets and the handshake"; S8.4.2).
use Rattle.std.specs.Prelude.{ℕ, ◌^◌, Bool, not, ◌||◌, List, [], ◌∷◌, ltb, eqb, Result, Ok, Err}
use Rattle.std.specs.Int.Bits.{bit_xor}
use Rattle.laws.specs.Choice.{pick, bit_of}
use Rattle.laws.specs.Layouts.{shows}
use Rattle.refusal.specs.Told.{number_of, number_unless, kept}
use Rattle.refusal.specs.declared.Refusal.{Refusal}
use Rattle.refusal.specs.declared.Refusal.TheVariants.{State}
use Rattle.refusal.specs.declared.Refusal.TheVariants as refusals
use Rattle.packet.specs.Names.{id_of, data_of, among, checksum_id, first_special_id, last_special_id}
use Rattle.packet.specs.Tables.{checksum, part_id}
use Rattle.packet.specs.Fields.{built_by}
use Rattle.packet.specs.declared.Built.{Built}
use Rattle.mirror.specs.declared.Mirror.{Mirror}
use Rattle.mirror.specs.declared.Mirrored.{Mirrored}

-- whether a packet is a checksum (S8.4.6)
abbrev pub is_checksum : ℕ → Bool
is_checksum n = eqb (id_of n) checksum_id

-- whether a packet is one of 1CH to 1FH
abbrev pub is_special : ℕ → Bool
is_special n = among first_special_id last_special_id (id_of n)

-- "Any packet but checksum: register XOR its data bits (1CH to 1FH leave the register as it is)". "The ID byte is never part of the sum"
abbrev pub summed : ℕ → ℕ → ℕ
summed register n = pick (is_special n) register (bit_xor register (data_of n))

-- any number but 0 says that the decoder is talking
abbrev pub talks : Mirror → Bool
talks m = not (eqb m.talking 0)

-- "Checksum while talking: nothing." "Checksum while not talking: talking exactly if its bits equal the register"
abbrev pub after_checksum : Mirror → ℕ → Mirror
after_checksum m n = pick (talks m) m (record { register = m.register; talking = bit_of (eqb (data_of n) m.register) })

-- "Any packet but checksum: .., not talking"
abbrev pub after_other : Mirror → ℕ → Mirror
after_other m n = record { register = summed m.register n; talking = 0 }

-- "The mirror takes any 32 bits"
abbrev pub step_of : Mirror → ℕ → Mirror
step_of m n = pick (is_checksum n) (after_checksum m n) (after_other m n)

-- one packet after the other
unfoldable pub run_of : Mirror → List ℕ → Mirror
run_of m [] = m
run_of m (n ∷ ns) = run_of (step_of m n) ns

-- the XOR of the data bits of all packets in a list but checksums and 1CH to 1FH
unfoldable pub sum_of : List ℕ → ℕ
sum_of [] = 0
sum_of (n ∷ ns) = pick (is_checksum n || is_special n) (sum_of ns) (bit_xor (data_of n) (sum_of ns))

-- 01's table, 2: "register over 24 bits"
abbrev pub sound : Mirror → Bool
sound m = ltb m.register (2 ^ 24)

-- the answer to packets: after a 2 the mirror is as it was handed in
abbrev pub answered : Mirror → Mirror → Mirrored
answered m next = record { number = number_unless State (sound m); mirror = pick (sound m) next m }

-- how what the code answers is told: the mirror, or the refusal's number and the mirror as it was before
abbrev pub mirrored_as : Mirror → Result Mirror Refusal → Mirrored
mirrored_as before (Ok m) = record { number = 0; mirror = m }
mirrored_as before (Err r) = record { number = number_of r; mirror = before }

-- what is told beside the refusal of a reset, which is handed no mirror
abbrev pub fresh : Mirror
fresh = record { register = 0; talking = 0 }

-- "Reset: register = the 24 data bits of the part ID, not talking"; 7 for a packet that is no part ID
abbrev pub reset_by : ℕ → Mirrored
reset_by n = record { number = number_unless refusals.Packet (shows part_id n); mirror = record { register = kept (shows part_id n) (data_of n); talking = 0 } }

-- the host's closing checksum packet: the one that holds the register
abbrev pub closing_of : Mirror → Built
closing_of m = pick (sound m) (built_by checksum (m.register ∷ [])) (record { number = number_of State; packet = record { bits = 0 } })
