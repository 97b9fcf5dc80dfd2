-- What is answered to packets and to an end of frame, a line a refusal, in the order of 01's table; and what records and lent memory are then.
use Rattle.std.specs.Prelude.{ℕ, ◌^◌, Bool, not, ◌&&◌, List, [], ◌∷◌, leb, ltb, eqb, length, get_or, replicate}
use Rattle.laws.specs.Choice.{pick}
use Rattle.laws.specs.Layouts.{fields_of}
use Rattle.laws.specs.Lists.{put}
use Rattle.refusal.specs.declared.Refusal.TheVariants as refusals
use Rattle.refusal.specs.Told.{Told, number_of, given, ask, number_told, value_told}
use Rattle.packet.specs.declared.heard.Address.{Address}
use Rattle.packet.specs.declared.heard.Message.{Message}
use Rattle.packet.specs.HeardTables as tables
use Rattle.packet.specs.Heard.{as_address, as_message, address_right, address_numbered}
use Rattle.packet.specs.declared.vectors.Vector.{Vector}
use Rattle.packet.specs.Vectors.{vector_of, is_vector}
use Rattle.call.specs.declared.Call.{Call}
use Rattle.call.specs.declared.Calls.{Calls}
use Rattle.call.specs.declared.CallOpened.{CallOpened}
use Rattle.call.specs.declared.CallOpening.{CallOpening}
use Rattle.call.specs.declared.CallHeard.{CallHeard}
use Rattle.call.specs.declared.CallHearing.{CallHearing}
use Rattle.call.specs.declared.FrameEnd.{FrameEnd}
use Rattle.call.specs.Calls.{blank, fresh, opens, has_vector, brings_words, find, holds, sound}
use Rattle.call.specs.Words.{lacking, memory_size, place_of, given_to, finished, is_held, is_lacked}
use Rattle.call.specs.Steps.{call_of, added, vector_fits, with_vector, next_area, changed, removed, listed, incomplete_in}

-- ---- an address packet

-- what it says (Table 30)
abbrev pub address_in : ℕ → Address
address_in n = as_address (fields_of tables.address n)

-- what is told of it: whether it opened a call, the place of that call, and what the packet says
abbrev pub telling : ℕ → ℕ → Address → List ℕ
telling opened place a =
    opened ∷ place ∷ a.priority ∷ a.phase ∷ a.long_address ∷ a.address ∷ a.tone_only ∷ a.vector ∷ []

-- 01's table: an open call's key again is 14, no free call 12
abbrev pub opening_of : Calls → Address → Told
opening_of s a =
    ask (holds a.phase a.vector (opens s)) refusals.OutOfTurn
    (ask (leb (length s.calls) (length (opens s))) refusals.Full
    (given (telling 1 (length (opens s)) a)))

-- the answer: 2, 7, 8, 14, 12. A tone-only address brings no vector (S8.7.2) and opens no call
unfoldable pub open_of : Calls → ℕ → Told
open_of s n =
    ask (not (sound (opens s))) refusals.State
    (ask (not (address_right n)) refusals.Packet
    (ask (not (address_numbered n)) refusals.Address
    (pick (eqb (address_in n).tone_only 1) (given (telling 0 0 (address_in n)))
    (opening_of s (address_in n)))))

-- the records then
unfoldable pub opened_in : Calls → ℕ → Calls
opened_in s n = pick (eqb (value_told (open_of s n) 0) 1) (added s (call_of (address_in n))) s

-- ---- a vector or message packet

-- its word number, its error mark, its phase and its 21 bits: the first three stand in one place in both (Tables 31 to 40)
abbrev pub message_in : ℕ → Message
message_in n = as_message (fields_of tables.message n)

-- whether the lent memory is too short
abbrev pub is_short : List ℕ → Bool
is_short memory = ltb (length memory) memory_size

-- 01's table, of a vector for a call: 9 where the call is still without one and the span is bad, 14 where the call has one, whatever the span, and last 1
abbrev pub vector_told : Calls → List ℕ → ℕ → Call → Vector → Told
vector_told s memory place c v =
    ask (not (has_vector c) && not (vector_fits c v)) refusals.Size
    (ask (has_vector c) refusals.OutOfTurn
    (ask (is_short memory) refusals.Room
    (given (1 ∷ place ∷ v.kind ∷ v.span.check ∷ pick (brings_words v.kind) 0 (2 ^ place) ∷ []))))

-- 01's table, of a message word: 14 "only if all that hold its place have it", 17, and last 1
abbrev pub word_told : Calls → List ℕ → Message → Told
word_told s memory m =
    ask (is_held (opens s) m && not (is_lacked (opens s) m memory)) refusals.OutOfTurn
    (ask (not (is_held (opens s) m)) refusals.NoCall
    (ask (is_short memory) refusals.Room
    (given (0 ∷ 0 ∷ 0 ∷ 0 ∷ finished (opens s) m memory ∷ []))))

module _ (s : Calls) (n : ℕ) where
  -- the place of the call whose vector it would be
  abbrev pub vector_place : ℕ
  vector_place = find (message_in n).phase (message_in n).word (opens s)

  -- 01: "The vector packet (same phase, that word number)": whether there is such a call
  abbrev pub is_for_vector : Bool
  is_for_vector = holds (message_in n).phase (message_in n).word (opens s)

  -- the call whose vector it would be
  abbrev pub vector_call : Call
  vector_call = get_or (opens s) vector_place blank

  -- the call whose vector it would be, when that has come
  abbrev pub vector_given : Call
  vector_given = with_vector vector_call (vector_of n) (next_area (opens s))

-- the answer: 2, 7, 10, and then, "Vector places are looked at before spans", as a vector or as a message word
unfoldable pub hear_of : Calls → List ℕ → ℕ → Told
hear_of s memory n =
    ask (not (sound (opens s))) refusals.State
    (ask (not (is_vector n)) refusals.Packet
    (ask (not (eqb (message_in n).damaged 0)) refusals.Damaged
    (pick (is_for_vector s n) (vector_told s memory (vector_place s n) (vector_call s n) (vector_of n))
    (word_told s memory (message_in n)))))

-- the number of the answer
abbrev pub hear_number : Calls → List ℕ → ℕ → ℕ
hear_number s memory n = number_told (hear_of s memory n)

-- the records then: "a bad span closes its call" (9); a vector that is taken gives its call its span; nothing else changes a record
unfoldable pub heard_in : Calls → List ℕ → ℕ → Calls
heard_in s memory n =
    pick (eqb (hear_number s memory n) (number_of refusals.Size)) (removed s (vector_place s n))
    (pick (eqb (hear_number s memory n) 0 && is_for_vector s n) (changed s (vector_place s n) (vector_given s n))
    s)

-- the lent memory then: a call whose vector was taken lacks all its words; a word that was taken has gone to the calls that lacked it
unfoldable pub memory_after : Calls → List ℕ → ℕ → List ℕ
memory_after s memory n =
    pick (eqb (hear_number s memory n) 0)
    (pick (is_for_vector s n) (put memory (place_of (vector_given s n)) (replicate (vector_given s n).words lacking))
    (given_to (opens s) (message_in n) memory))
    memory

-- ---- the end of the frame

-- the answer: 2, and last 1
unfoldable pub end_of : Calls → List ℕ → Told
end_of s memory =
    ask (not (sound (opens s))) refusals.State
    (ask (is_short memory) refusals.Room
    (given []))

-- 01: "End of frame .. lists those incomplete, in the order opened"
unfoldable pub ended_with : Calls → List ℕ → Calls
ended_with s memory = pick (eqb (number_told (end_of s memory)) 0) (listed (length s.calls) (incomplete_in (opens s) memory)) (fresh (length s.calls))

-- 01: "End of frame closes all calls": the records then
unfoldable pub ended_in : Calls → List ℕ → Calls
ended_in s memory = pick (eqb (number_told (end_of s memory)) 0) (fresh (length s.calls)) s

-- ---- the answers as they are told

-- what is told of an address packet
abbrev pub as_opened : Told → CallOpened
as_opened t =
    record {
      number = number_told t;
      opened = value_told t 0;
      call = value_told t 1;
      fields =
          record {
            priority = value_told t 2;
            phase = value_told t 3;
            long_address = value_told t 4;
            address = value_told t 5;
            tone_only = value_told t 6;
            vector = value_told t 7;
          };
    }

-- what is told of an address packet, with the records then
abbrev pub as_opening : Told → Calls → CallOpening
as_opening t s = record { answer = as_opened t; calls = s }

-- what is told of a vector or message packet
abbrev pub as_heard : Told → CallHeard
as_heard t =
    record {
      number = number_told t;
      is_vector = value_told t 0;
      call = value_told t 1;
      kind = value_told t 2;
      check = value_told t 3;
      completed = value_told t 4;
    }

-- what is told of a vector or message packet, with the records then
abbrev pub as_hearing : Told → Calls → CallHearing
as_hearing t s = record { answer = as_heard t; calls = s }

-- what is told of an end of frame: the calls that were incomplete, and the records then
abbrev pub as_end : Told → Calls → Calls → FrameEnd
as_end t missed s = record { number = number_told t; incomplete = missed; calls = s }
