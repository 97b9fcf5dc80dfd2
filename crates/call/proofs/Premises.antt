-- What each premise of the laws of calls is for: records for which a law fails without it. Worked by hand from Tables 31 and 40 and from 01.
use Prim.Native.Nat.{ℕ}
use mathlib.Core.Bool.{true, false}
use mathlib.Core.List.{[], ◌∷◌, ◌++◌, map}
use mathlib.Core.Path.{◌≡◌, refl}
use lib.ListN.{length, get_or, set, replicate}
use Rattle.laws.specs.Lists.{first_that, place_in, all, any_of, those, up_from}
use Rattle.refusal.specs.Told.{number_told}
use Rattle.call.specs.declared.Call.{Call}
use Rattle.call.specs.declared.Calls.{Calls}
use Rattle.call.specs.Calls.{blank, fresh, opens, is_of, find, sound}
use Rattle.call.specs.Words.{lacking, given_to, finished}
use Rattle.call.specs.Steps.{next_area, added, removed, listed}
use Rattle.call.specs.Answers.{open_of, opened_in, hear_of, heard_in, memory_after, hear_number, end_of, ended_with, ended_in}
use Rattle.call.specs.Runs.{State, addressed, heard, ended, answers, after, after_all}
use Rattle.call.proofs.Rows.{left}

-- a call of a key that awaits its vector
abbrev pub waits : ℕ → ℕ → Call
waits phase vector =
    record {
      phase = phase;
      vector = vector;
      address = 0;
      priority = 0;
      long_address = 0;
      has_vector = 0;
      kind = 0;
      check = 0;
      start = 0;
      words = 0;
      area = 0;
    }

-- a call of a key whose vector has come, a standard numeric one (V 3): where its words begin, how many they are, and their area
abbrev pub spans : ℕ → ℕ → ℕ → ℕ → ℕ → Call
spans phase vector start words area =
    record {
      phase = phase;
      vector = vector;
      address = 0;
      priority = 0;
      long_address = 0;
      has_vector = 1;
      kind = 3;
      check = 0;
      start = start;
      words = words;
      area = area;
    }

-- a call whose vector has come, a short message (V 2), which brings no words: the words that its record names all the same
abbrev pub brief : ℕ → ℕ → ℕ → ℕ → Call
brief phase vector start words =
    record {
      phase = phase;
      vector = vector;
      address = 0;
      priority = 0;
      long_address = 0;
      has_vector = 1;
      kind = 2;
      check = 0;
      start = start;
      words = words;
      area = 0;
    }

-- a call of phase A and vector 2 whose vector has come, of a kind, with no words
abbrev empty : ℕ → Call
empty kind =
    record {
      phase = 0;
      vector = 2;
      address = 0;
      priority = 0;
      long_address = 0;
      has_vector = 1;
      kind = kind;
      check = 0;
      start = 3;
      words = 0;
      area = 0;
    }

-- two records, so many of them open calls
abbrev two : ℕ → Call → Call → Calls
two size first second = record { size = size; calls = first ∷ second ∷ [] }

-- a state of them, with the memory that is lent
abbrev state : Calls → State
state s = record { calls = s; memory = replicate 680 lacking }

-- Table 31: word 2, phase A, V 3, K 0, one word, which is word 3
abbrev pub good : ℕ
good = 0x02030003

-- Table 31: the same with one word which is word 2, the vector's own: a bad span
abbrev pub bad : ℕ
bad = 0x02030002

-- ---- a sound row

-- two calls of one key: the first is found, though the other is the key's too
pub sound_needed : (find 0 2 (waits 0 2 ∷ spans 0 2 3 1 0 ∷ []) ≡ 0) × (is_of 0 2 (get_or (waits 0 2 ∷ spans 0 2 3 1 0 ∷ []) 1 blank) ≡ true)
unfolding first_that
sound_needed = (refl, refl)

-- with the vector of the first of two calls of one key there are still two, so that the row is not sound
pub sound_stays_not : sound (set (waits 0 2 ∷ spans 0 2 3 1 0 ∷ []) 0 (spans 0 2 3 1 1)) ≡ false
unfolding sound first_that
sound_stays_not = refl

-- every packet and the end of the frame are refused for records that are not sound, so that these stay as they are
pub unsound_stays : (after_all (state (two 2 (waits 0 2) (spans 0 2 3 1 0))) (heard good ∷ ended ∷ heard bad ∷ [])).calls ≡ two 2 (waits 0 2) (spans 0 2 3 1 0)
unfolding after_all hear_of heard_in memory_after end_of ended_in sound first_that
unsound_stays = refl

-- a key's second call, or one outside the limits, put after a row
pub alone_needed : sound ((waits 0 2 ∷ []) ++ waits 0 2 ∷ []) ∷ sound ((waits 0 2 ∷ []) ++ waits 4 2 ∷ []) ∷ sound ((waits 0 2 ∷ []) ++ waits 0 88 ∷ []) ∷ []
    ≡ false ∷ false ∷ false ∷ []
unfolding sound first_that
alone_needed = refl

-- a call changed that takes another's key, or a span outside the limits
pub key_needed : sound (set (waits 0 2 ∷ waits 1 2 ∷ []) 0 (waits 1 2)) ∷ sound (set (waits 0 2 ∷ waits 1 2 ∷ []) 0 (spans 0 2 2 1 0)) ∷ []
    ≡ false ∷ false ∷ []
unfolding sound first_that
key_needed = refl

-- 01's table, 2, "a span outside the limits": a vector that brings words (each of V 0 and V 3 to V 7) has a span of one word
-- or more, and one that brings none (V 1 and V 2) has none
pub no_words_outside : map (λ (kind : ℕ). sound (empty kind ∷ [])) (0 ∷ 1 ∷ 2 ∷ 3 ∷ 4 ∷ 5 ∷ 6 ∷ 7 ∷ [])
    ≡ false ∷ true ∷ true ∷ false ∷ false ∷ false ∷ false ∷ false ∷ []
unfolding sound first_that
no_words_outside = refl

-- such records are refused 2 by an address packet, a vector or message packet and an end of frame
pub no_words_refused :
    let s = two 1 (spans 0 2 3 0 0) blank in
    let memory = replicate 680 lacking in
    number_told (open_of s 0x01000005) ∷ hear_number s memory good ∷ hear_number s memory 0x03000005 ∷ number_told (end_of s memory) ∷ []
    ≡ 2 ∷ 2 ∷ 2 ∷ 2 ∷ []
unfolding open_of hear_of end_of sound first_that
no_words_refused = refl

-- ---- places

-- no record is free: a call that is added is lost
pub free_needed : opens (added (record { size = 1; calls = waits 0 2 ∷ [] }) (waits 1 2)) ≡ waits 0 2 ∷ []
free_needed = refl

-- the record is no open call: the last open one is lost
pub open_needed : opens (removed (two 1 (waits 0 2) (waits 1 2)) 1) ≡ []
open_needed = refl

-- a list longer than the records
pub room_needed : length (listed 1 (waits 0 2 ∷ waits 1 2 ∷ [])).calls ≡ 2
room_needed = refl

-- ---- calls that stay

-- the call of a vector changes, or is closed; the other stays, one place down, as it came after the closed one
pub other_needed : map opens
    ((after (state (two 2 (waits 0 2) (waits 1 2))) (heard good)).calls ∷ (after (state (two 2 (waits 0 2) (waits 1 2))) (heard bad)).calls ∷ [])
    ≡ (spans 0 2 3 1 0 ∷ waits 1 2 ∷ []) ∷ (waits 1 2 ∷ []) ∷ []
unfolding hear_of heard_in sound first_that those
other_needed = refl

-- a vector that is taken is told 0, one of a bad span 9: no other number changes a record
pub number_needed : map (hear_number (two 2 (waits 0 2) (waits 1 2)) (replicate 680 lacking)) (good ∷ bad ∷ []) ≡ 0 ∷ 9 ∷ []
unfolding hear_of sound first_that
number_needed = refl

-- the end of a frame closes a call that has its vector
pub frame_needed : opens (after (state (two 1 (spans 0 2 3 1 0) blank)) ended).calls ≡ []
unfolding end_of ended_in sound first_that
frame_needed = refl

-- ---- areas

-- a call left out that has its vector: the other's area is then not below the number of those with one
pub vector_needed : (next_area (left 0 (spans 0 2 3 1 0 ∷ spans 1 2 3 1 1 ∷ [])) ≡ 1)
    × ((get_or (left 0 (spans 0 2 3 1 0 ∷ spans 1 2 3 1 1 ∷ [])) 0 blank).area ≡ 1)
unfolding those
vector_needed = (refl, refl)

-- a vector that comes when a call with its vector was left out takes another's area
pub area_again : next_area (left 0 (spans 0 2 3 1 0 ∷ spans 1 2 3 1 1 ∷ waits 2 2 ∷ [])) ≡ 1
unfolding those
area_again = refl

-- ---- records for which they hold

-- an address packet (Table 30: phase A, address number 0, word 2), its vector, and word 3 with the bits 5: nothing is refused
pub taken_run : map number_told (answers (state (fresh 2)) (addressed 0x01000002 ∷ heard good ∷ heard 0x03000005 ∷ ended ∷ [])) ≡ 0 ∷ 0 ∷ 0 ∷ 0 ∷ []
unfolding answers open_of opened_in hear_of heard_in memory_after end_of ended_in sound first_that place_in up_from any_of those given_to finished all
taken_run = refl

-- the call of that run has its vector then
pub taken_calls : opens (after_all (state (fresh 2)) (addressed 0x01000002 ∷ heard good ∷ heard 0x03000005 ∷ [])).calls ≡ spans 0 2 3 1 0 ∷ []
unfolding after_all open_of opened_in hear_of heard_in memory_after sound first_that place_in up_from any_of those given_to finished all
taken_calls = refl

-- the end of the frame lists a call before its word has come, and not after
pub listed_calls :
    opens (ended_with (two 1 (spans 0 2 3 1 0) blank) (replicate 680 lacking))
    ∷ opens (ended_with (two 1 (spans 0 2 3 1 0) blank) (5 ∷ replicate 679 lacking)) ∷ []
    ≡ (spans 0 2 3 1 0 ∷ []) ∷ [] ∷ []
unfolding end_of ended_with sound first_that those all
listed_calls = refl
