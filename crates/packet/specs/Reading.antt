-- How the readers' and the builders' answers are told.
use Rattle.std.specs.Prelude.{ℕ, Bool, Result, Ok, Err}
use Rattle.laws.specs.Choice.{pick}
use Rattle.refusal.specs.Told.{number_of}
use Rattle.refusal.specs.declared.Refusal.{Refusal}
use Rattle.packet.specs.declared.Packet.{Packet}
use Rattle.packet.specs.declared.Built.{Built}

-- one question of the code: nothing where the test holds, else a refusal
abbrev pub unless : Refusal → Bool → Result (Unit {0}) Refusal
unless r good = pick good (Ok tt) (Err r)

-- what reading answers: the fields, or the refusal of the packet
abbrev pub read_by : {A : Type 0} → Result (Unit {0}) Refusal → A → Result A Refusal
read_by (Ok fine) fields = Ok fields
read_by (Err r) fields = Err r

-- an answer as it is told: 0 and what is given, or the refusal's number and what is told beside it
abbrev pub told_with : {A : Type 0} → A → Result A Refusal → ℕ × A
told_with none (Ok a) = (0, a)
told_with none (Err r) = (number_of r, none)

-- the packet that was built, or the refusal's number and no bits
abbrev pub built_as : Result Packet Refusal → Built
built_as (Ok p) = record { number = 0; packet = p }
built_as (Err r) = record { number = number_of r; packet = record { bits = 0 } }
