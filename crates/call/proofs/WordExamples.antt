-- Worked examples: a group page whose words two calls share, and what each premise of the laws of words is for.
-- Packets worked by hand from Tables 30, 31 and 40.
use Prim.Native.Nat.{ℕ, ◌+◌, ◌/◌, ◌%◌, ◌^◌}
use mathlib.Core.Bool.{◌&&◌}
use mathlib.Core.List.{List, [], ◌∷◌, map}
use mathlib.Core.Path.{◌≡◌, refl}
use lib.ListN.{get_or, set, replicate}
use Rattle.laws.specs.Choice.{pick, bit_of}
use Rattle.laws.specs.Lists.{first_that, place_in, all, any_of, those, up_from}
use Rattle.refusal.specs.Told.{told, given}
use Rattle.packet.specs.declared.heard.Message.{Message}
use Rattle.call.specs.declared.Call.{Call}
use Rattle.call.specs.Calls.{blank, fresh, opens, numbers_of, sound}
use Rattle.call.specs.Words.{lacking, place_of, words_of, is_complete, lacks, given_to, finished}
use Rattle.call.specs.Answers.{open_of, opened_in, hear_of, heard_in, memory_after, end_of, ended_in}
use Rattle.call.specs.Runs.{Event, addressed, heard, ended, State, answers, after_all, came_for}
use Rattle.call.proofs.MemoryLaws.{goes_to}

-- ---- a group page

-- no call open, and memory as it was found
abbrev pub start : State
start = record { calls = fresh 8; memory = replicate 680 0 }

-- two addresses in phase 1, of vectors 3 and 4; the first vector, K 0, two words from 10 on
abbrev opening : List Event
opening = addressed 0x01200503 ∷ addressed 0x01200604 ∷ heard 0x0323008A ∷ []

-- word 11, the other vector, of the same words; word 11 again with other bits, and word 10 twice
abbrev later : List Event
later = heard 0x0B200ABC ∷ heard 0x0423008A ∷ heard 0x0B200111 ∷ heard 0x0A200123 ∷ heard 0x0A200123 ∷ []

-- 01: "A word goes to the calls that still lack it, and is refused 14 only if all that hold its place have it": the
-- last completes both, and a second one is refused
pub group_answers : answers (after_all start opening) later
    ≡ given (0 ∷ 0 ∷ 0 ∷ 0 ∷ 0 ∷ []) ∷ given (1 ∷ 1 ∷ 3 ∷ 0 ∷ 0 ∷ []) ∷ given (0 ∷ 0 ∷ 0 ∷ 0 ∷ 0 ∷ []) ∷ given (0 ∷ 0 ∷ 0 ∷ 0 ∷ 3 ∷ []) ∷ told 14 [] ∷ []
unfolding answers after_all open_of opened_in hear_of heard_in memory_after given_to finished sound first_that place_in any_of those up_from all
group_answers = refl

-- each has its own words, in the order of the message: word 10 goes to both, and what the first had of word 11 stays
pub group_words : map (λ (c : Call). words_of c (after_all (after_all start opening) later).memory) (opens (after_all (after_all start opening) later).calls)
    ≡ (0x123 ∷ 0xABC ∷ []) ∷ (0x123 ∷ 0x111 ∷ []) ∷ []
unfolding after_all open_of opened_in hear_of heard_in memory_after given_to finished sound first_that place_in any_of those up_from all
group_words = refl

-- ---- the premises of what a word is given

-- a call of phase 0 with or without its vector, by where its words begin, how many they are and their area
abbrev call_with : ℕ → ℕ → ℕ → ℕ → Call
call_with has start words area =
    record {
      phase = 0;
      vector = 3;
      address = 0;
      priority = 0;
      long_address = 0;
      has_vector = has;
      kind = 3;
      check = 0;
      start = start;
      words = words;
      area = area;
    }

-- a message word of phase 0 that is 7
abbrev seven_at : ℕ → Message
seven_at word = record { word = word; damaged = 0; phase = 0; bits = 7 }

-- one word given: the calls, the place of one and which of its words, the word's number; what stands there then, and what word-given says
abbrev GivenCase : Type 0
GivenCase = List Call × ℕ × ℕ × ℕ × ℕ × ℕ

-- such cases, with every premise and without each
unfoldable pub given_cases : List GivenCase
given_cases =
    (call_with 1 10 2 0 ∷ [], 0, 1, 11, 7, 7)
    -- two calls of one area
    ∷ (call_with 1 10 1 0 ∷ call_with 1 11 1 0 ∷ [], 0, 0, 11, 7, lacking)
    -- nine calls, each of an area of its own
    ∷ (map (λ (n : ℕ). call_with 1 (20 + n) 1 n) (0 ∷ 1 ∷ 2 ∷ 3 ∷ 4 ∷ 5 ∷ 6 ∷ 7 ∷ 8 ∷ []), 0, 0, 28, 7, lacking)
    -- more than 85 words
    ∷ (call_with 1 0 90 0 ∷ call_with 1 10 1 1 ∷ [], 1, 0, 85, 7, lacking)
    -- a span that is not in order: word 0 of a call whose vector has not come, and one after its words
    ∷ (call_with 0 10 1 0 ∷ [], 0, 0, 0, lacking, 7)
    ∷ (call_with 1 10 1 0 ∷ [], 0, 1, 0, lacking, 7)
    ∷ []

-- word-given: what stands there is not what it says wherever a premise fails
pub given_examples :
    map {A = GivenCase} {B = ℕ × ℕ}
    (λ t.
    let memory = replicate 680 lacking in
    let c = get_or t.0 t.1 blank in
    (get_or (given_to t.0 (seven_at t.3) memory) (place_of c + t.2) 0, pick (goes_to c t.2 (seven_at t.3) memory) 7 (get_or memory (place_of c + t.2) 0)))
    given_cases
    ≡ map {A = GivenCase} {B = ℕ × ℕ} (λ t. (t.4, t.5)) given_cases
unfolding given_cases given_to first_that place_in up_from
given_examples = refl

-- ---- the premises of what a word completes

-- one word: the calls, the place of one, the memory before; its bit, and what finished_bit says
abbrev FinishedCase : Type 0
FinishedCase = List Call × ℕ × List ℕ × ℕ × ℕ

-- such cases, with every premise and without each
unfoldable pub finished_cases : List FinishedCase
finished_cases =
    (call_with 1 85 1 0 ∷ call_with 1 85 1 1 ∷ [], 0, replicate 680 lacking, 1, 1)
    -- two calls of one area
    ∷ (call_with 1 85 1 0 ∷ call_with 1 85 1 0 ∷ [], 0, replicate 680 lacking, 0, 1)
    -- more than 85 words, of which one is lacking
    ∷ (call_with 1 0 90 0 ∷ call_with 1 85 1 1 ∷ [], 0, set (replicate 680 0) 85 lacking, 0, 1)
    ∷ []

-- finished_bit: the bit is not what it says wherever a premise fails
pub finished_examples :
    map {A = FinishedCase} {B = ℕ × ℕ}
    (λ t.
    let c = get_or t.0 t.1 blank in
    let m = seven_at 85 in
    (finished t.0 m t.2 / 2 ^ t.1 % 2, bit_of (lacks c m t.2 && is_complete c (given_to t.0 m t.2))))
    finished_cases
    ≡ map {A = FinishedCase} {B = ℕ × ℕ} (λ t. (t.3, t.4)) finished_cases
unfolding finished_cases finished given_to first_that place_in up_from all
finished_examples = refl

-- ---- over the end of a frame

-- the end of the frame, another call, its vector, of two words from 20 on, and word 20
abbrev next_frame : List Event
next_frame = ended ∷ addressed 0x01200503 ∷ heard 0x03230094 ∷ heard 0x14200456 ∷ []

-- words_came holds within a frame only: after its end the area is another call's
pub next_frame_words :
    let s = after_all start opening in
    let c = get_or (opens s.calls) 0 blank in
    words_of c (after_all s next_frame).memory ∷ map (came_for s next_frame c.phase) (numbers_of c) ∷ []
    ≡ (0x456 ∷ lacking ∷ []) ∷ (lacking ∷ lacking ∷ []) ∷ []
unfolding after_all came_for open_of opened_in hear_of heard_in memory_after end_of ended_in given_to finished sound first_that place_in any_of those up_from all
next_frame_words = refl
