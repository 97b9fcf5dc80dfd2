-- Ours keeps the table of calls, and a host that refuses all breaks it.
use Prim.Native.Nat.{ℕ}
use mathlib.Core.Bool.{Bool, true, false, not, ◌&&◌, ◌||◌}
use mathlib.Core.List.{List, [], ◌∷◌, map}
use mathlib.Core.Path.{◌≡◌, refl}
use native.Mathlib.Omega.{arith}
use lib.ListN.{take}
use Rattle.laws.specs.Choice.{pick}
use Rattle.laws.specs.Lists.{first_that, place_in, all, any_of, those, up_from}
use Rattle.refusal.specs.declared.Refusal.{Refusal}
use Rattle.refusal.specs.declared.Refusal.TheVariants as refusals
use Rattle.refusal.specs.Told.{number_of, order, refused, given, ask, number_told}
use Rattle.refusal.proofs.Laws.{number_positive, number_asked}
use Rattle.packet.specs.Heard.{address_right, address_numbered}
use Rattle.packet.specs.Vectors.{vector_of, is_vector}
use Rattle.call.specs.Calls.{opens, has_vector, sound}
use Rattle.call.specs.Words.{given_to, finished, is_held, is_lacked}
use Rattle.call.specs.Steps.{vector_fits}
use Rattle.call.specs.Answers.{message_in, is_short, is_for_vector, vector_call, open_of, opened_in, hear_of, heard_in, memory_after, end_of}
use Rattle.call.specs.Runs.{Event, addressed, heard, ended, State, after_all}
use Rattle.call.proofs.WordExamples.{start}
use Rattle.cases.specs.Demands.{Line, number_by}
use Rattle.cases.specs.CallDemands.{is_tone, is_open_key, is_full, is_marked, call_lines_for, CallHost, AsTheCallTable, our_calls}
use Rattle.cases.proofs.Kept.{is_part_of}

-- ---- ours keeps the table

-- the number of an address that is none of 2, 7 and 8: 14, then 12, and neither for a tone-only address
of_address : (tone again full : Bool) (toned opened : List ℕ)
    → number_told (pick tone (given toned) (ask again refusals.OutOfTurn (ask full refusals.Full (given opened))))
    ≡ pick (not tone && again) 14 (pick (not tone && full) 12 0)
of_address true again full toned opened = refl
of_address false true full toned opened = refl
of_address false false true toned opened = refl
of_address false false false toned opened = refl

-- the number of a vector or message packet that is neither 2 nor 7: 9, 10, 14, 17 and last 1, as a vector or as a word
of_packet : (marked vector has fits held lacked short : Bool) (taken offered : List ℕ)
    → number_told
    (ask marked refusals.Damaged
    (pick vector
    (ask (not has && not fits) refusals.Size (ask has refusals.OutOfTurn (ask short refusals.Room (given taken))))
    (ask (held && not lacked) refusals.OutOfTurn (ask (not held) refusals.NoCall (ask short refusals.Room (given offered))))))
    ≡ pick (not marked && (vector && not has) && not fits) 9
    (pick marked 10
    (pick ((vector && has) || (not vector && held && not lacked)) 14
    (pick (not vector && not held) 17
    (pick short 1 0))))
of_packet true vector has fits held lacked short taken offered = refl
of_packet false true true fits held lacked short taken offered = refl
of_packet false true false false held lacked short taken offered = refl
of_packet false true false true held lacked short taken offered = number_asked short refusals.Room (given taken) 0 refl
of_packet false false has fits true false short taken offered = refl
of_packet false false has fits true true short taken offered = number_asked short refusals.Room (given offered) 0 refl
of_packet false false has fits false lacked short taken offered = refl

-- each answer is the table's
pub calls_kept : AsTheCallTable our_calls
unfolding open_of hear_of end_of number_by
calls_kept s (addressed n) =
    number_asked (not (sound (opens s.calls))) refusals.State _ _
    (number_asked (not (address_right n)) refusals.Packet _ _
    (number_asked (not (address_numbered n)) refusals.Address _ _
    (of_address (is_tone n) (is_open_key s.calls n) (is_full s.calls) _ _)))
calls_kept s (heard n) =
    number_asked (not (sound (opens s.calls))) refusals.State _ _
    (number_asked (not (is_vector n)) refusals.Packet _ _
    (of_packet (is_marked n) (is_for_vector s.calls n) (has_vector (vector_call s.calls n)) (vector_fits (vector_call s.calls n) (vector_of n))
    (is_held (opens s.calls) (message_in n)) (is_lacked (opens s.calls) (message_in n) s.memory) (is_short s.memory) _ _))
calls_kept s ended =
    number_asked (not (sound (opens s.calls))) refusals.State _ _
    (number_asked (is_short s.memory) refusals.Room (given []) 0 refl)

-- the lines stand in the table's order: its numbers, some left out
pub call_lines_in_order : (s : State) (event : Event)
    → is_part_of (map {A = Line} {B = ℕ} (λ line. number_of line.refusal) (call_lines_for s event)) (map (map number_of) order) ≡ true
unfolding is_part_of any_of order
call_lines_in_order s (addressed n) = refl
call_lines_in_order s (heard n) = refl
call_lines_in_order s ended = refl

-- ---- "a host that refuses all"

-- every event is refused; which refusal it is, and the state then, may go by state and event
abbrev pub refuses_all_calls : (State → Event → Refusal) → (State → Event → State) → CallHost
refuses_all_calls why then = record { answer = λ s event. refused (why s event); next = then }

-- a host that refuses all breaks the table, which refuses nothing of an end of frame with no call open
pub refusing_breaks_call_table : (why : State → Event → Refusal) (then : State → Event → State) → AsTheCallTable (refuses_all_calls why then) → ⊥
unfolding number_by sound
refusing_breaks_call_table why then kept =
    let none : number_of (why start ended) ≡ 0 = kept start ended in
    omega (arith, number_positive (why start ended))

-- ---- examples, worked by hand from Tables 30, 31 and 40

-- phase A, address number 0, vector 7
abbrev address : Event
address = addressed 0x01000007

-- the vector for it: word 7, phase A, V 3, standard numeric; n 0, one word, and b 9: word 9
abbrev vector : Event
vector = heard 0x07030009

-- the same vector with b 7, its own word
abbrev bad_span : Event
bad_span = heard 0x07030007

-- the vector of the bad span, marked in error, which is bit 23
abbrev marked : Event
marked = heard 0x07830007

-- word 9 of phase A
abbrev word : Event
word = heard 0x09000901

-- word 10 of phase A, which is of no call
abbrev stray : Event
stray = heard 0x0A000A01

-- what the lines say of an event after a run
abbrev number_after : List Event → Event → ℕ
number_after events event = number_by (call_lines_for (after_all start events) event)

-- an address: it opens a call; a second one of its key is 14; with another ID it is 7
pub address_examples : number_after [] address ∷ number_after (address ∷ []) address ∷ number_after [] (addressed 0x02000007) ∷ [] ≡ 0 ∷ 14 ∷ 7 ∷ []
unfolding number_by after_all open_of opened_in hear_of heard_in memory_after given_to finished sound first_that place_in any_of those up_from all
address_examples = refl

-- a vector: it is taken; with no call it is 17; a second one is 14, also where its span is bad; a bad span is 9, and where it is marked in error 10
pub vector_examples :
    number_after (address ∷ []) vector ∷ number_after [] vector ∷ number_after (address ∷ vector ∷ []) vector ∷ number_after (address ∷ vector ∷ []) bad_span
    ∷ number_after (address ∷ []) bad_span ∷ number_after (address ∷ []) marked ∷ []
    ≡ 0 ∷ 17 ∷ 14 ∷ 14 ∷ 9 ∷ 10 ∷ []
unfolding number_by after_all open_of opened_in hear_of heard_in memory_after given_to finished sound first_that place_in any_of those up_from all
vector_examples = refl

-- a word: it is taken; again it is 14; one of no span is 17
pub word_examples :
    number_after (address ∷ vector ∷ []) word ∷ number_after (address ∷ vector ∷ word ∷ []) word ∷ number_after (address ∷ vector ∷ []) stray ∷ []
    ≡ 0 ∷ 14 ∷ 17 ∷ []
unfolding number_by after_all open_of opened_in hear_of heard_in memory_after given_to finished sound first_that place_in any_of those up_from all
word_examples = refl

-- an end of frame: it is taken; with a memory one word too short it is 1
pub end_examples :
    number_after (address ∷ vector ∷ []) ended ∷ number_by (call_lines_for (record { calls = start.calls; memory = take 679 start.memory }) ended) ∷ []
    ≡ 0 ∷ 1 ∷ []
unfolding number_by after_all open_of opened_in hear_of heard_in memory_after given_to finished sound first_that place_in any_of those up_from all
end_examples = refl
