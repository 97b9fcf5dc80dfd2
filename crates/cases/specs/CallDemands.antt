-- Demand 1 of calls: the lines of 01's table that tell of an address, of a vector or message packet and of an end of
-- frame, each with a test that stands by itself.
use Rattle.std.specs.Prelude.{ℕ, Bool, not, ◌&&◌, ◌||◌, List, [], ◌∷◌, ◌≡◌, leb, eqb, length}
use Rattle.refusal.specs.declared.Refusal.TheVariants as refusals
use Rattle.refusal.specs.Told.{Told, number_told}
use Rattle.packet.specs.Heard.{address_right, address_numbered}
use Rattle.packet.specs.Vectors.{vector_of, is_vector}
use Rattle.call.specs.declared.Calls.{Calls}
use Rattle.call.specs.Calls.{opens, has_vector, holds, sound}
use Rattle.call.specs.Words.{is_held, is_lacked}
use Rattle.call.specs.Steps.{vector_fits}
use Rattle.call.specs.Answers.{address_in, message_in, is_short, is_for_vector, vector_call}
use Rattle.call.specs.Runs.{Event, addressed, heard, ended, State, answer_to, after}
use Rattle.cases.specs.Demands.{Line, line, number_by}

-- ---- an address packet

-- S8.7.2: whether the address is tone-only, which brings no vector and opens no call
abbrev pub is_tone : ℕ → Bool
is_tone n = eqb (address_in n).tone_only 1

-- whether its key, phase and vector word number, is an open call's
abbrev pub is_open_key : Calls → ℕ → Bool
is_open_key s n = holds (address_in n).phase (address_in n).vector (opens s)

-- whether no call is free
abbrev pub is_full : Calls → Bool
is_full s = leb (length s.calls) (length (opens s))

-- ---- a vector or message packet

-- whether it is marked in error
abbrev pub is_marked : ℕ → Bool
is_marked n = not (eqb (message_in n).damaged 0)

-- whether it is the first vector for its call
abbrev pub is_first_vector : Calls → ℕ → Bool
is_first_vector s n = is_for_vector s n && not (has_vector (vector_call s n))

-- whether it is a vector for a call that has one
abbrev pub is_second_vector : Calls → ℕ → Bool
is_second_vector s n = is_for_vector s n && has_vector (vector_call s n)

-- whether it is a word that some call's span holds, and that all those calls have: "Vector places are looked at before spans"
abbrev pub is_word_again : Calls → List ℕ → ℕ → Bool
is_word_again s memory n = not (is_for_vector s n) && is_held (opens s) (message_in n) && not (is_lacked (opens s) (message_in n) memory)

-- whether it is neither a vector of a call nor a word of a call's span
abbrev pub is_of_no_call : Calls → ℕ → Bool
is_of_no_call s n = not (is_for_vector s n) && not (is_held (opens s) (message_in n))

-- ---- the table

-- the lines that tell of an event, in the table's order
abbrev pub call_lines_for : State → Event → List Line
call_lines_for s (addressed n) =
    -- "two open .. calls of one key; a call with phase over 3, vector word over 87 or a span outside the limits"
    line refusals.State (not (sound (opens s.calls)))
    -- "ID .. not of that kind, a field too large"
    ∷ line refusals.Packet (not (address_right n))
    -- "address number not 0 to 31"
    ∷ line refusals.Address (not (address_numbered n))
    -- "an open call's key again"
    ∷ line refusals.OutOfTurn (not (is_tone n) && is_open_key s.calls n)
    -- "no free .. call"
    ∷ line refusals.Full (not (is_tone n) && is_full s.calls)
    ∷ []
call_lines_for s (heard n) =
    line refusals.State (not (sound (opens s.calls)))
    -- "ID .. not of that kind"
    ∷ line refusals.Packet (not (is_vector n))
    -- "span outside the limits": "it is read only from an undamaged vector of a call still without one"
    ∷ line refusals.Size (not (is_marked n) && is_first_vector s.calls n && not (vector_fits (vector_call s.calls n) (vector_of n)))
    -- "marked in error"
    ∷ line refusals.Damaged (is_marked n)
    -- "a second vector for a call that has one, a word that came before"
    ∷ line refusals.OutOfTurn (is_second_vector s.calls n || is_word_again s.calls s.memory n)
    -- "vector or word of no call"
    ∷ line refusals.NoCall (is_of_no_call s.calls n)
    -- "a lent buffer is shorter than the answer needs"
    ∷ line refusals.Room (is_short s.memory)
    ∷ []
call_lines_for s ended =
    line refusals.State (not (sound (opens s.calls)))
    ∷ line refusals.Room (is_short s.memory)
    ∷ []

-- ---- the demand

-- a host of calls: what it answers in a state to an event, and its state then, which is the records and the lent memory
pub record CallHost : Type 0 where
  pub answer : State → Event → Told
  pub next : State → Event → State

-- each answer has the number of the first line that is given, and none where no line is
abbrev pub AsTheCallTable : CallHost → Type 0
AsTheCallTable host = (s : State) (event : Event) → number_told (host.answer s event) ≡ number_by (call_lines_for s event)

-- the host that the code is proved to be: `call` `open`, `hear` and `end_frame` answer so and leave this state
abbrev pub our_calls : CallHost
our_calls = record { answer = answer_to; next = after }
