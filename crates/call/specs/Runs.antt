-- A run: packets and ends of frame one after the other, with the state handed on.
use Rattle.std.specs.Prelude.{ℕ, Bool, true, false, not, ◌&&◌, List, [], ◌∷◌, ◌++◌, eqb}
use Rattle.laws.specs.Choice.{pick}
use Rattle.refusal.specs.Told.{Told, value_told}
use Rattle.call.specs.declared.Call.{Call}
use Rattle.call.specs.declared.Calls.{Calls}
use Rattle.call.specs.Words.{lacking}
use Rattle.call.specs.Steps.{call_of}
use Rattle.call.specs.Answers.{address_in, message_in, is_for_vector, open_of, opened_in, hear_of, hear_number, heard_in, memory_after, end_of, ended_in}

-- what comes: an address packet, a vector or message packet, an end of frame
pub data Event : Type 0 where
  addressed : ℕ → Event
  heard : ℕ → Event
  ended : Event

-- the state: the records and the lent memory
pub record State : Type 0 where
  pub calls : Calls
  pub memory : List ℕ

-- the answer to an event
abbrev pub answer_to : State → Event → Told
answer_to s (addressed n) = open_of s.calls n
answer_to s (heard n) = hear_of s.calls s.memory n
answer_to s ended = end_of s.calls s.memory

-- the state after it
abbrev pub after : State → Event → State
after s (addressed n) = record { calls = opened_in s.calls n; memory = s.memory }
after s (heard n) = record { calls = heard_in s.calls s.memory n; memory = memory_after s.calls s.memory n }
after s ended = record { calls = ended_in s.calls s.memory; memory = s.memory }

-- the answers of a run
unfoldable pub answers : State → List Event → List Told
answers s [] = []
answers s (event ∷ events) = answer_to s event ∷ answers (after s event) events

-- the state after a run
unfoldable pub after_all : State → List Event → State
after_all s [] = s
after_all s (event ∷ events) = after_all (after s event) events

-- ---- within one frame

-- whether a run has no end of frame in it
unfoldable pub is_in_frame : List Event → Bool
is_in_frame [] = true
is_in_frame (addressed n ∷ events) = is_in_frame events
is_in_frame (heard n ∷ events) = is_in_frame events
is_in_frame (ended ∷ events) = false

-- whether an event is a message word that is taken, of a phase and a word number
abbrev pub taken_at : State → Event → ℕ → ℕ → Bool
taken_at s (addressed n) phase word = false
taken_at s (heard n) phase word =
    eqb (hear_number s.calls s.memory n) 0 && not (is_for_vector s.calls n) && eqb (message_in n).phase phase && eqb (message_in n).word word
taken_at s ended phase word = false

-- the 21 bits of a message word
abbrev pub bits_in : Event → ℕ
bits_in (addressed n) = 0
bits_in (heard n) = (message_in n).bits
bits_in ended = 0

-- what came for a phase and a word number in a run: the bits of the first message word that was taken, if any came
unfoldable pub came_for : State → List Event → ℕ → ℕ → ℕ
came_for s [] phase word = lacking
came_for s (event ∷ events) phase word = pick (taken_at s event phase word) (bits_in event) (came_for (after s event) events phase word)

-- a call as it was opened, whether or not its vector has come since
abbrev pub unheard : Call → Call
unheard c =
    record {
      phase = c.phase;
      vector = c.vector;
      address = c.address;
      priority = c.priority;
      long_address = c.long_address;
      has_vector = 0;
      kind = 0;
      check = 0;
      start = 0;
      words = 0;
      area = 0;
    }

-- the call that an event opens, if it opens one
abbrev pub opened_now : State → Event → List Call
opened_now s (addressed n) = pick (eqb (value_told (open_of s.calls n) 0) 1) (call_of (address_in n) ∷ []) []
opened_now s (heard n) = []
opened_now s ended = []

-- the calls that a run opens, in the order opened
unfoldable pub opened_by : State → List Event → List Call
opened_by s [] = []
opened_by s (event ∷ events) = opened_now s event ++ opened_by (after s event) events

-- one row is in the order of another: it is that row with some left out
pub data Among : List Call → List Call → Type 0 where
  none : Among [] []
  kept : {c : Call} {xs ys : List Call} → Among xs ys → Among (c ∷ xs) (c ∷ ys)
  past : {c : Call} {xs ys : List Call} → Among xs ys → Among xs (c ∷ ys)
