-- What an address packet opens, in the pieces in which the code makes it.
use Rattle.std.specs.Prelude.{ℕ, List, eqb, cond, Result, is_some, unwrap_or}
use Rattle.laws.specs.Choice.{pick}
use Rattle.refusal.specs.declared.Refusal.{Refusal}
use Rattle.refusal.specs.Told.{number_told}
use Rattle.packet.specs.declared.heard.Address.{Address}
use Rattle.packet.specs.Heard.{address_judged}
use Rattle.packet.specs.Reading.{read_by}
use Rattle.call.specs.declared.Calls.{Calls}
use Rattle.call.specs.declared.opening.Opened.{Opened}
use Rattle.call.specs.Steps.{call_of, added}
use Rattle.call.specs.Answers.{address_in, telling, opening_of}

-- the records when a call was to be opened
abbrev pub opening_calls : Calls → Address → Calls
opening_calls s a = pick (eqb (number_told (opening_of s a)) 0) (added s (call_of a)) s

-- what an address packet says, or its own refusal: 7 before 8
abbrev pub address_result : ℕ → Result Address Refusal
address_result n = read_by (address_judged n) (address_in n)

-- the values of an address that is not refused: with the place of its call, if it opened one
abbrev pub opened_values : Opened → List ℕ
opened_values o = telling (cond (is_some o.call) 1 0) (unwrap_or o.call 0) o.fields
