-- Worked examples: the frame of the data sheet's Tables 54 and 55, a bad span in a frame, a vector place in another
-- call's span, and what is refused. Packets worked by hand from Tables 30, 31, 36 and 40, answers from 01.
use Prim.Native.Nat.{ℕ}
use mathlib.Core.List.{List, [], ◌∷◌, ◌++◌, map}
use mathlib.Core.Path.{◌≡◌, refl}
use lib.ListN.{length, take, drop, replicate}
use Rattle.laws.specs.Lists.{first_that, place_in, all, any_of, those, up_from}
use Rattle.refusal.specs.Told.{Told, told, given, number_told}
use Rattle.call.specs.declared.Call.{Call}
use Rattle.call.specs.declared.Calls.{Calls}
use Rattle.call.specs.Calls.{blank, fresh, opens, sound}
use Rattle.call.specs.Words.{lacking, words_of, given_to, finished}
use Rattle.call.specs.Answers.{open_of, opened_in, hear_of, heard_in, memory_after, hear_number, end_of, ended_with, ended_in}
use Rattle.call.specs.Runs.{Event, addressed, heard, ended, answers, after_all}
use Rattle.call.proofs.Premises.{waits, spans, brief, good, bad}
use Rattle.call.proofs.WordExamples.{start}

-- ---- the frame of Tables 54 and 55 (S8.8.2), packet by packet; packets 4 and 5 are BIWs

-- the packets, with the words of Table 54's three messages made up: the word number, and after it the message's
abbrev sheet : List Event
sheet =
    -- 1 and 2, Table 30: phase A, address numbers 0 and 1, vectors 7 and 8
    addressed 0x01000007
    ∷ addressed 0x01000108
    -- 3, Table 36: word 7, phase A, V 5, alphanumeric; n 3 at bit 7 is 180H, and b 9: words 9, 10 and 11
    ∷ heard 0x07050189
    -- 6, Table 30: phase C is 2 at bit 21, 40H of byte 2, and LA 10H; address number 3, vector 10
    ∷ addressed 0x0150030A
    -- 7, Table 31: word 8, phase A, V 3, standard numeric; K 5 at bit 10 is 1400H, n 3, which is 4 words, 180H, and b 12, 0CH: words 12 to 15
    ∷ heard 0x0803158C
    -- 8 to 10, Table 40: words 9, 10 and 11 of phase A
    ∷ heard 0x09000901
    ∷ heard 0x0A000A01
    ∷ heard 0x0B000B01
    -- 11 to 14: words 12 to 15 of phase A
    ∷ heard 0x0C000C02
    ∷ heard 0x0D000D02
    ∷ heard 0x0E000E02
    ∷ heard 0x0F000F02
    -- 15, Table 36: word 10, phase C, 40H of byte 2, V 5; n 3, 180H, and b 14, 0EH: word 11, which follows the
    -- vector, then 14 and 15; of phase C, as 01 says of this row
    ∷ heard 0x0A45018E
    -- 16 to 18, Table 40: words 11, 14 and 15 of phase C
    ∷ heard 0x0B400B03
    ∷ heard 0x0E400E03
    ∷ heard 0x0F400F03
    ∷ []

-- the answers: each address opens the next call; each vector is its call's; packets 10, 14 and 18 complete the calls
-- 0, 1 and 2, told as 1, 2 and 4; and the end of the frame is not refused
pub sheet_answers : answers start (sheet ++ ended ∷ [])
    ≡ given (1 ∷ 0 ∷ 0 ∷ 0 ∷ 0 ∷ 0 ∷ 0 ∷ 7 ∷ [])
    ∷ given (1 ∷ 1 ∷ 0 ∷ 0 ∷ 0 ∷ 1 ∷ 0 ∷ 8 ∷ [])
    ∷ given (1 ∷ 0 ∷ 5 ∷ 0 ∷ 0 ∷ [])
    ∷ given (1 ∷ 2 ∷ 0 ∷ 2 ∷ 1 ∷ 3 ∷ 0 ∷ 10 ∷ [])
    ∷ given (1 ∷ 1 ∷ 3 ∷ 5 ∷ 0 ∷ [])
    ∷ given (0 ∷ 0 ∷ 0 ∷ 0 ∷ 0 ∷ [])
    ∷ given (0 ∷ 0 ∷ 0 ∷ 0 ∷ 0 ∷ [])
    ∷ given (0 ∷ 0 ∷ 0 ∷ 0 ∷ 1 ∷ [])
    ∷ given (0 ∷ 0 ∷ 0 ∷ 0 ∷ 0 ∷ [])
    ∷ given (0 ∷ 0 ∷ 0 ∷ 0 ∷ 0 ∷ [])
    ∷ given (0 ∷ 0 ∷ 0 ∷ 0 ∷ 0 ∷ [])
    ∷ given (0 ∷ 0 ∷ 0 ∷ 0 ∷ 2 ∷ [])
    ∷ given (1 ∷ 2 ∷ 5 ∷ 0 ∷ 0 ∷ [])
    ∷ given (0 ∷ 0 ∷ 0 ∷ 0 ∷ 0 ∷ [])
    ∷ given (0 ∷ 0 ∷ 0 ∷ 0 ∷ 0 ∷ [])
    ∷ given (0 ∷ 0 ∷ 0 ∷ 0 ∷ 4 ∷ [])
    ∷ given []
    ∷ []
unfolding answers open_of opened_in hear_of heard_in memory_after end_of given_to finished sound first_that place_in any_of those up_from all
sheet_answers = refl

-- the three pages' words, in the order of the message
pub sheet_words :
    let s = after_all start sheet in
    map (λ (c : Call). words_of c s.memory) (opens s.calls)
    ≡ (0x901 ∷ 0xA01 ∷ 0xB01 ∷ [])
    ∷ (0xC02 ∷ 0xD02 ∷ 0xE02 ∷ 0xF02 ∷ [])
    ∷ (0xB03 ∷ 0xE03 ∷ 0xF03 ∷ [])
    ∷ []
unfolding after_all open_of opened_in hear_of heard_in memory_after given_to finished sound first_that place_in any_of those up_from all
sheet_words = refl

-- the three pages' addresses, kinds and K
pub sheet_calls : map (λ (c : Call). c.address ∷ c.kind ∷ c.check ∷ []) (opens (after_all start sheet).calls)
    ≡ (0 ∷ 5 ∷ 0 ∷ []) ∷ (1 ∷ 3 ∷ 5 ∷ []) ∷ (3 ∷ 5 ∷ 0 ∷ []) ∷ []
unfolding after_all open_of opened_in hear_of heard_in memory_after given_to finished sound first_that place_in any_of those up_from all
sheet_calls = refl

-- at the end of the sheet's frame no call is incomplete, and after it none is open
pub sheet_end :
    let s = after_all start sheet in
    (ended_with s.calls s.memory ≡ fresh 8) × ((after_all start (sheet ++ ended ∷ [])).calls ≡ fresh 8)
unfolding after_all open_of opened_in hear_of heard_in memory_after end_of ended_with ended_in given_to finished sound first_that place_in any_of those up_from all
sheet_end = (refl, refl)

-- one packet before: the third page lacks its last word, and is the one that is listed
pub sheet_cut :
    let s = after_all start (take 15 sheet) in
    map (λ (c : Call). c.address ∷ words_of c s.memory) (opens (ended_with s.calls s.memory)) ≡ (3 ∷ 0xB03 ∷ 0xE03 ∷ lacking ∷ []) ∷ []
unfolding after_all open_of opened_in hear_of heard_in memory_after end_of ended_with given_to finished sound first_that place_in any_of those up_from all
sheet_cut = refl

-- ---- a bad span in a frame

-- three addresses (Table 30), numbers 4, 5 and 6: phase B, vector 20; phase A, vector 9; phase D, vector 5
abbrev three : List Event
three = addressed 0x01200414 ∷ addressed 0x01000509 ∷ addressed 0x01600605 ∷ []

-- the second one's vector (Table 31): V 3, one word from b 9 on, the vector's own word
abbrev badly : Event
badly = heard 0x09030009

-- number 7, phase A, vector 3, and number 8, phase C, vector 2; the third one's vector, V 3, n 1, two words from 7
-- on; the first one's, one word from 21 on; the last one's, V 2, a short message; and word 8 of phase D
abbrev afterwards : List Event
afterwards = addressed 0x01000703 ∷ addressed 0x01400802 ∷ heard 0x05630087 ∷ heard 0x14230015 ∷ heard 0x02420000 ∷ heard 0x08600111 ∷ []

-- 01: "a bad span closes its call", told 9; those after it are then one place lower; the short message completes its call, the fourth then, at once, told as 8
pub closed_answers : answers (after_all start three) (badly ∷ afterwards)
    ≡ told 9 []
    ∷ given (1 ∷ 2 ∷ 0 ∷ 0 ∷ 0 ∷ 7 ∷ 0 ∷ 3 ∷ [])
    ∷ given (1 ∷ 3 ∷ 0 ∷ 2 ∷ 0 ∷ 8 ∷ 0 ∷ 2 ∷ [])
    ∷ given (1 ∷ 1 ∷ 3 ∷ 0 ∷ 0 ∷ [])
    ∷ given (1 ∷ 0 ∷ 3 ∷ 0 ∷ 0 ∷ [])
    ∷ given (1 ∷ 3 ∷ 2 ∷ 0 ∷ 8 ∷ [])
    ∷ given (0 ∷ 0 ∷ 0 ∷ 0 ∷ 0 ∷ [])
    ∷ []
unfolding answers after_all open_of opened_in hear_of heard_in memory_after given_to finished sound first_that place_in any_of those up_from all
closed_answers = refl

-- 01: "lists those incomplete, in the order opened": the first, whose word has not come; the third, which has its
-- second word; the fourth, which awaits its vector; and not the fifth
pub closed_listed :
    let s = after_all (after_all start three) (badly ∷ afterwards) in
    map (λ (c : Call). c.address ∷ words_of c s.memory) (opens (ended_with s.calls s.memory))
    ≡ (4 ∷ lacking ∷ []) ∷ (6 ∷ lacking ∷ 0x111 ∷ []) ∷ (7 ∷ []) ∷ []
unfolding after_all open_of opened_in hear_of heard_in memory_after end_of ended_with given_to finished sound first_that place_in any_of those up_from all
closed_listed = refl

-- ---- a vector place in another call's span

-- phase A, vectors 2 and 4 (Table 30); the first one's vector (Table 31), V 3, n 2, three words from 3 on, which are words 3, 4 and 5
abbrev crossed : List Event
crossed = addressed 0x01000002 ∷ addressed 0x01000104 ∷ heard 0x02030103 ∷ []

-- word 4 twice, which as a vector is V 3 and one word, 6; and words 3, 5 and 6
abbrev crossing : List Event
crossing = heard 0x04030006 ∷ heard 0x04030006 ∷ heard 0x03000111 ∷ heard 0x05000222 ∷ heard 0x06000333 ∷ []

-- 01: "Vector places are looked at before spans": word 4 is the other's vector, and then its second, 14, though the
-- first call lacks word 4; the words complete the other alone, told as 2
pub crossed_answers : answers (after_all start crossed) crossing
    ≡ given (1 ∷ 1 ∷ 3 ∷ 0 ∷ 0 ∷ [])
    ∷ told 14 []
    ∷ given (0 ∷ 0 ∷ 0 ∷ 0 ∷ 0 ∷ [])
    ∷ given (0 ∷ 0 ∷ 0 ∷ 0 ∷ 0 ∷ [])
    ∷ given (0 ∷ 0 ∷ 0 ∷ 0 ∷ 2 ∷ [])
    ∷ []
unfolding answers after_all open_of opened_in hear_of heard_in memory_after given_to finished sound first_that place_in any_of those up_from all
crossed_answers = refl

-- the first call still lacks its second word then, and is the one that is listed
pub crossed_listed :
    let s = after_all (after_all start crossed) crossing in
    map (λ (c : Call). c.address ∷ words_of c s.memory) (opens (ended_with s.calls s.memory)) ≡ (0 ∷ 0x111 ∷ lacking ∷ 0x222 ∷ []) ∷ []
unfolding after_all open_of opened_in hear_of heard_in memory_after end_of ended_with given_to finished sound first_that place_in any_of those up_from all
crossed_listed = refl

-- ---- what is refused

-- records that hold these open calls, and one free record more
abbrev these : List Call → Calls
these row = record { size = length row; calls = row ++ blank ∷ [] }

-- records that hold these open calls, and no free record
abbrev full : List Call → Calls
full row = record { size = length row; calls = row }

-- a call of a long address that awaits its vector, of phase A
abbrev long_at : ℕ → Call
long_at vector =
    record { phase = 0; vector = vector; address = 0; priority = 0; long_address = 1; has_vector = 0; kind = 0; check = 0; start = 0; words = 0; area = 0 }

-- eight calls, of phase A and vectors 2 to 9
abbrev eight : List Call
eight = map (waits 0) (2 ∷ 3 ∷ 4 ∷ 5 ∷ 6 ∷ 7 ∷ 8 ∷ 9 ∷ [])

-- memory that is one word too short, with a first word
abbrev short : ℕ → List ℕ
short word = word ∷ replicate 678 lacking

-- memory that is long enough
abbrev enough : ℕ → List ℕ
enough word = word ∷ replicate 679 lacking

-- address packets, each with 01's number
unfoldable pub openings : List (Told × ℕ)
openings =
    (open_of (fresh 8) 0x01000002, 0)
    -- an open call at its limits, and over each: phase, vector word, a span on the vector
    ∷ (open_of (these (waits 3 87 ∷ [])) 0x01000002, 0)
    ∷ (open_of (these (waits 4 87 ∷ [])) 0x01000002, 2)
    ∷ (open_of (these (waits 3 88 ∷ [])) 0x01000002, 2)
    ∷ (open_of (these (spans 0 3 4 1 0 ∷ [])) 0x01000002, 0)
    ∷ (open_of (these (spans 0 3 3 1 0 ∷ [])) 0x01000002, 2)
    -- a span of no words, of a vector that brings words: it is outside the limits, whatever b is
    ∷ (open_of (these (spans 0 3 4 0 0 ∷ [])) 0x01000002, 2)
    -- a vector that brings no words has none, whatever b is; where its record names some all the same, they are held to the limits
    ∷ (open_of (these (brief 0 3 0 0 ∷ [])) 0x01000002, 0)
    ∷ (open_of (these (brief 0 87 88 0 ∷ [])) 0x01000002, 0)
    ∷ (open_of (these (brief 0 3 4 1 ∷ [])) 0x01000002, 0)
    ∷ (open_of (these (brief 0 3 3 1 ∷ [])) 0x01000002, 2)
    -- two calls of one key; of one phase alone, and of one vector alone, they may be
    ∷ (open_of (these (waits 1 3 ∷ waits 2 3 ∷ waits 1 3 ∷ [])) 0x01000002, 2)
    ∷ (open_of (these (waits 1 3 ∷ waits 2 3 ∷ waits 1 4 ∷ [])) 0x01000002, 0)
    -- a record after the open calls is not looked at
    ∷ (open_of (record { size = 1; calls = waits 0 3 ∷ waits 4 88 ∷ [] }) 0x01000002, 0)
    -- ID 02H; WN 87 and 88; an address index: 0FH, 10H, 7FH, 80H, 8FH, 90H
    ∷ (open_of (fresh 8) 0x02000002, 7)
    ∷ (open_of (fresh 8) 0x01000057, 0)
    ∷ (open_of (fresh 8) 0x01000058, 7)
    ∷ (open_of (fresh 8) 0x01000F02, 0)
    ∷ (open_of (fresh 8) 0x01001002, 8)
    ∷ (open_of (fresh 8) 0x01007F02, 8)
    ∷ (open_of (fresh 8) 0x01008002, 0)
    ∷ (open_of (fresh 8) 0x01008F02, 0)
    ∷ (open_of (fresh 8) 0x01009002, 8)
    -- an open call's key again, whatever the address; its vector in another phase, B, which is 20H of byte 2
    ∷ (open_of (these (waits 0 2 ∷ [])) 0x01000502, 14)
    ∷ (open_of (these (waits 0 2 ∷ [])) 0x01200502, 0)
    -- eight calls are open, and seven
    ∷ (open_of (full eight) 0x0100000A, 12)
    ∷ (open_of (these (drop 1 eight)) 0x0100000A, 0)
    -- a tone-only address, TOA 80H of byte 0, opens no call: not of an open call's key, not where none is free, and WN, here 127, is not looked at
    ∷ (open_of (full eight) 0x01000082, 0)
    ∷ (open_of (full eight) 0x010000FF, 0)
    -- the first question that refuses decides: 2, 7, 8, 14, 12
    ∷ (open_of (full (waits 0 88 ∷ [])) 0x02001058, 2)
    ∷ (open_of (full (waits 0 2 ∷ [])) 0x02001002, 7)
    ∷ (open_of (full (waits 0 2 ∷ [])) 0x01001058, 7)
    ∷ (open_of (full (waits 0 2 ∷ [])) 0x01001002, 8)
    ∷ (open_of (full (waits 0 2 ∷ [])) 0x01000002, 14)
    ∷ (open_of (full (waits 0 3 ∷ [])) 0x01000002, 12)
    ∷ []

-- the opening gives these answers
pub opening_examples : map {A = Told × ℕ} {B = ℕ} (λ row. number_told row.0) openings ≡ map {A = Told × ℕ} {B = ℕ} (λ row. row.1) openings
unfolding openings open_of sound first_that
opening_examples = refl

-- spans: a call that awaits its vector, and the vector, each with 01's number
unfoldable pub vectors : List (Call × ℕ × ℕ)
vectors =
    -- Table 36, V 5: n 0, no word; n 85, 2A80H, from 3 on, to 87; from 4 on, to 88
    (waits 0 2, 0x02050003, 9)
    ∷ (waits 0 2, 0x02052A83, 0)
    ∷ (waits 0 2, 0x02052A84, 9)
    -- Table 36, V 5: n 86, 2B00H, from 3 on, to 88; from 2 on, to 87, with the vector's own word; n 127, 3F80H
    ∷ (waits 0 2, 0x02052B03, 9)
    ∷ (waits 0 2, 0x02052B02, 9)
    ∷ (waits 0 2, 0x02053F83, 9)
    -- Table 31, V 3, n 0, one word: at the vector, before it, and right after it; b 0
    ∷ (waits 0 5, 0x05030005, 9)
    ∷ (waits 0 5, 0x05030004, 9)
    ∷ (waits 0 5, 0x05030006, 0)
    ∷ (waits 0 5, 0x05030000, 9)
    -- Table 31, V 3: one word at 87, and at 88; n 1, 80H, two words: from 86 on, and from 87 on
    ∷ (waits 0 2, 0x02030057, 0)
    ∷ (waits 0 2, 0x02030058, 9)
    ∷ (waits 0 2, 0x020300D6, 0)
    ∷ (waits 0 2, 0x020300D7, 9)
    -- of a long address two words are word 3 and the one at b: at 3, on the first; at 4, right after it; at 87, and at 88
    ∷ (long_at 2, 0x02030083, 9)
    ∷ (long_at 2, 0x02030084, 0)
    ∷ (long_at 2, 0x020300D7, 0)
    ∷ (long_at 2, 0x020300D8, 9)
    -- of a long address 85 words are word 3 and 84 from 4 on, to 87; n 86 are one more, to 88
    ∷ (long_at 2, 0x02052A84, 0)
    ∷ (long_at 2, 0x02052B04, 9)
    -- of a long address one word is word 3, whatever b is, here 0 and 2; no word
    ∷ (long_at 2, 0x02030000, 0)
    ∷ (long_at 2, 0x02030002, 0)
    ∷ (long_at 2, 0x02050004, 9)
    -- of a long address with vector 86: one word, which is word 87; with vector 87 no word follows
    ∷ (long_at 86, 0x56030000, 0)
    ∷ (long_at 87, 0x57030000, 9)
    ∷ (waits 0 87, 0x57030058, 9)
    -- V 2 and V 1 bring no words: their bits are no span
    ∷ (waits 0 87, 0x57020000, 0)
    ∷ (waits 0 87, 0x57010000, 0)
    ∷ (long_at 87, 0x57020000, 0)
    ∷ []

-- the vectors give these answers
pub vector_examples : map {A = Call × ℕ × ℕ} {B = ℕ} (λ t. hear_number (these (t.0 ∷ [])) (enough lacking) t.1) vectors
    ≡ map {A = Call × ℕ × ℕ} {B = ℕ} (λ t. t.2) vectors
unfolding vectors hear_of sound first_that
vector_examples = refl

-- vectors and message words, each with 01's number
unfoldable pub hearings : List (Told × ℕ)
hearings =
    -- a vector for the call that awaits it, and word 3 for the one whose span is word 3
    (hear_of (these (waits 0 2 ∷ [])) (enough lacking) good, 0)
    ∷ (hear_of (these (spans 0 2 3 1 0 ∷ [])) (enough lacking) 0x03000005, 0)
    -- another ID: 01H, 58H and 82H
    ∷ (hear_of (these (waits 0 2 ∷ [])) (enough lacking) 0x01030003, 7)
    ∷ (hear_of (these (waits 0 2 ∷ [])) (enough lacking) 0x58030003, 7)
    ∷ (hear_of (these (waits 0 2 ∷ [])) (enough lacking) 0x82030003, 7)
    -- marked in error, 80H of byte 2
    ∷ (hear_of (these (waits 0 2 ∷ [])) (enough lacking) 0x02830003, 10)
    ∷ (hear_of (these (spans 0 2 3 1 0 ∷ [])) (enough lacking) 0x03800005, 10)
    -- a second vector, also one whose span is bad: it is not read
    ∷ (hear_of (these (spans 0 2 3 1 0 ∷ [])) (enough lacking) good, 14)
    ∷ (hear_of (these (spans 0 2 3 1 0 ∷ [])) (enough lacking) bad, 14)
    -- a word that came before; of two calls, whose areas are words 0 and 85 of the memory, it is lacking to the second
    ∷ (hear_of (these (spans 0 2 3 1 0 ∷ [])) (enough 5) 0x03000005, 14)
    ∷ (hear_of (these (spans 0 2 4 1 0 ∷ spans 0 3 4 1 1 ∷ [])) (enough 5) 0x04000005, 0)
    ∷ (hear_of (these (spans 0 2 4 1 0 ∷ spans 0 3 4 1 1 ∷ [])) (replicate 680 5) 0x04000005, 14)
    -- a vector of no call: none is open, another phase's is, another vector word's is
    ∷ (hear_of (fresh 8) (enough lacking) good, 17)
    ∷ (hear_of (these (waits 1 2 ∷ [])) (enough lacking) good, 17)
    ∷ (hear_of (these (waits 0 3 ∷ [])) (enough lacking) good, 17)
    -- a word of no call: none is open, another phase's is, the span is another, the vector has not come, or brought no words
    ∷ (hear_of (fresh 8) (enough lacking) 0x03000005, 17)
    ∷ (hear_of (these (spans 1 2 3 1 0 ∷ [])) (enough lacking) 0x03000005, 17)
    ∷ (hear_of (these (spans 0 2 4 1 0 ∷ [])) (enough lacking) 0x03000005, 17)
    ∷ (hear_of (these (waits 0 2 ∷ [])) (enough lacking) 0x03000005, 17)
    ∷ (hear_of (these (brief 0 2 3 0 ∷ [])) (enough lacking) 0x03000005, 17)
    -- a word too few in the memory: a vector, and a message word
    ∷ (hear_of (these (waits 0 2 ∷ [])) (short lacking) good, 1)
    ∷ (hear_of (these (spans 0 2 3 1 0 ∷ [])) (short lacking) 0x03000005, 1)
    -- an open call whose vector brings words and whose span has none: a vector, and a message word
    ∷ (hear_of (these (spans 0 3 4 0 0 ∷ waits 0 2 ∷ [])) (enough lacking) good, 2)
    ∷ (hear_of (these (spans 0 3 4 0 0 ∷ spans 0 2 3 1 0 ∷ [])) (enough lacking) 0x03000005, 2)
    -- the first question that refuses decides, for a vector: 2, 7, 10, then 9 where its call has none yet and else 14, 1
    ∷ (hear_of (these (waits 0 88 ∷ waits 0 2 ∷ [])) (short lacking) 0x82830002, 2)
    ∷ (hear_of (these (waits 0 2 ∷ [])) (short lacking) 0x82830002, 7)
    ∷ (hear_of (these (waits 0 2 ∷ [])) (short lacking) 0x02830002, 10)
    ∷ (hear_of (these (waits 0 2 ∷ [])) (short lacking) bad, 9)
    ∷ (hear_of (these (spans 0 2 3 1 0 ∷ [])) (short lacking) 0x02830002, 10)
    ∷ (hear_of (these (spans 0 2 3 1 0 ∷ [])) (short lacking) bad, 14)
    -- the first question that refuses decides, for a message word: 2, 7, 10, 14, 17, 1
    ∷ (hear_of (these (waits 4 2 ∷ spans 0 2 3 1 0 ∷ [])) (short 5) 0x83800005, 2)
    ∷ (hear_of (these (spans 0 2 3 1 0 ∷ [])) (short 5) 0x83800005, 7)
    ∷ (hear_of (these (spans 0 2 3 1 0 ∷ [])) (short 5) 0x03800005, 10)
    ∷ (hear_of (these (spans 0 2 3 1 0 ∷ [])) (short 5) 0x03000005, 14)
    ∷ (hear_of (fresh 8) (short 5) 0x03800005, 10)
    ∷ (hear_of (fresh 8) (short 5) 0x03000005, 17)
    -- the end of the frame: 2, and last 1
    ∷ (end_of (these (waits 0 2 ∷ [])) (enough lacking), 0)
    ∷ (end_of (these (waits 0 88 ∷ [])) (enough lacking), 2)
    ∷ (end_of (these (spans 0 2 3 0 0 ∷ [])) (enough lacking), 2)
    ∷ (end_of (these (brief 0 2 3 0 ∷ [])) (enough lacking), 0)
    ∷ (end_of (these (waits 0 88 ∷ [])) (short lacking), 2)
    ∷ (end_of (these (waits 0 2 ∷ [])) (short lacking), 1)
    ∷ (end_of (fresh 8) (short lacking), 1)
    ∷ []

-- the hearing and the end of the frame give these answers
pub hearing_examples : map {A = Told × ℕ} {B = ℕ} (λ row. number_told row.0) hearings ≡ map {A = Told × ℕ} {B = ℕ} (λ row. row.1) hearings
unfolding hearings hear_of end_of sound first_that place_in any_of up_from given_to finished all
hearing_examples = refl

-- the span is read "only from an undamaged vector of a call still without one": where a damaged vector or a second
-- one has a bad span, the call stays; it is closed by 9 alone
pub unread_spans :
    map (λ (t : Calls × ℕ). opens (heard_in t.0 (enough lacking) t.1))
    ((these (waits 0 2 ∷ []), 0x02830002) ∷ (these (spans 0 2 3 1 0 ∷ []), bad) ∷ (these (waits 0 2 ∷ []), bad) ∷ [])
    ≡ (waits 0 2 ∷ []) ∷ (spans 0 2 3 1 0 ∷ []) ∷ [] ∷ []
unfolding hear_of heard_in sound first_that
unread_spans = refl
