-- The records of calls (document 01, "Calls in a frame"; its table, 2), in a row of any length.
use Rattle.std.specs.Prelude.{ℕ, suc, ◌+◌, ◌-◌, Bool, true, false, not, ◌&&◌, ◌||◌, List, [], ◌∷◌, leb, ltb, eqb, length, take, replicate, Option, Some, None}
use Rattle.laws.specs.Choice.{pick, bit_of}
use Rattle.laws.specs.Lists.{first_that, up_from}
use Rattle.packet.specs.Names.{last_word_id}
use Rattle.packet.specs.Vectors.{is_numeric, is_text}
use Rattle.call.specs.declared.Call.{Call}
use Rattle.call.specs.declared.Calls.{Calls}

-- 01: "At most 8 calls are open (house)"
abbrev pub most_calls : ℕ
most_calls = 8

-- 01: "The span, 1 to 85 words in all"
abbrev pub most_words : ℕ
most_words = 85

-- 01: the span must "end by word 87"
abbrev pub last_word : ℕ
last_word = last_word_id

-- a record that holds no call
abbrev pub blank : Call
blank = record { phase = 0; vector = 0; address = 0; priority = 0; long_address = 0; has_vector = 0; kind = 0; check = 0; start = 0; words = 0; area = 0 }

-- the records with no call open, so many of them
abbrev pub fresh : ℕ → Calls
fresh count = record { size = 0; calls = replicate count blank }

-- the open calls, in the order opened: the first records of the row, `size` of them
abbrev pub opens : Calls → List Call
opens s = take s.size s.calls

-- ---- one call

-- whether its vector has come
abbrev pub has_vector : Call → Bool
has_vector c = not (eqb c.has_vector 0)

-- whether its address is a long one
abbrev pub is_long : Call → Bool
is_long c = not (eqb c.long_address 0)

-- 01: "The span, 1 to 85 words in all, must lie after the vector (a long call's rest after its first word) and end by
-- word 87". The first word of a long call stands right after the vector; b, the start, is not looked at where there
-- is no rest
abbrev pub fits : Bool → ℕ → ℕ → ℕ → Bool
fits long vector start words =
    leb 1 words && leb words most_words && leb (vector + bit_of long) last_word
    && (eqb words (bit_of long) || (ltb (vector + bit_of long) start && leb (start + words) (last_word + 1 + bit_of long)))

-- the word numbers of the message words, in the order of the message. 01: "for a long address the first message word follows the vector"
abbrev pub numbers : Bool → ℕ → ℕ → ℕ → List ℕ
numbers true vector start words = take words (suc vector ∷ up_from start (words - 1))
numbers false vector start words = up_from start words

-- the word numbers of a call's message words; none before its vector has come
abbrev pub numbers_of : Call → List ℕ
numbers_of c = pick (has_vector c) (numbers (is_long c) c.vector c.start c.words) []

-- Tables 32 and 35: the vectors that bring message words; tone-only, short message and short instruction bring none
abbrev pub brings_words : ℕ → Bool
brings_words kind = is_numeric kind || is_text kind

-- whether the span of a call that has its vector is one for it: a vector that brings no words has a span of none
abbrev pub spanned : Call → Bool
spanned c = (not (brings_words c.kind) && eqb c.words 0) || fits (is_long c) c.vector c.start c.words

-- 01's table, 2: none of "phase over 3, vector word over 87 or a span outside the limits"
abbrev pub in_limits : Call → Bool
in_limits c = leb c.phase 3 && leb c.vector last_word && (not (has_vector c) || spanned c)

-- ---- a row of calls

-- 01: "An address packet opens a call under its phase and vector word number"
abbrev pub is_of : ℕ → ℕ → Call → Bool
is_of phase vector c = eqb c.phase phase && eqb c.vector vector

-- the place of a key's call; the row's length where it has none
abbrev pub find : ℕ → ℕ → List Call → ℕ
find phase vector row = first_that (is_of phase vector) row

-- whether a key has a call
abbrev pub holds : ℕ → ℕ → List Call → Bool
holds phase vector row = ltb (find phase vector row) (length row)

-- 01's table, 2, of the row: each call within its limits, and no two of one key
unfoldable pub sound : List Call → Bool
sound [] = true
sound (c ∷ row) = in_limits c && not (holds c.phase c.vector row) && sound row

-- ---- what a search answers

-- a value where a test holds, else none
abbrev pub if_so : {A : Type 0} → Bool → A → Option A
if_so so a = pick so (Some a) None

-- a place among so many, or none if it is past them
abbrev pub found : ℕ → ℕ → Option ℕ
found place count = if_so (ltb place count) place
