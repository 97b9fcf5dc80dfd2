-- Worked examples: texts cut by hand from Tables 44, 45 and 60, what is refused, and what each premise of the laws is for.
use Rattle.std.proofs.Common.{◌≡◌, ℕ, ◌%◌, ◌<◌, true, false, List, [], ◌∷◌, ◌++◌, map, length, take, drop, replicate, refl, arith}
use mathlib.Core.List.{flatten}
use Rattle.laws.specs.Lists.{all, sum_by}
use Rattle.laws.specs.Numerals.{number, digits}
use Rattle.laws.specs.Texts.{bytes_of}
use Rattle.sums.specs.Sums.{whole, signature_of}
use Rattle.refusal.specs.Told.{Told, given, number_told}
use Rattle.fragment.specs.Fragments.{etx, head_for, cells_of, words_of, fragment_of, fragment_number_in, continued_in, without_fill, text_in, sum_in}
use Rattle.fragment.specs.Answers.{heading_of}
use Rattle.fragment.specs.declared.Marks.{Marks}
use Rattle.fragment.specs.Cutting.{sendable, message_of, room_for, fragment_at, fragments_from, cut}
use Rattle.fragment.specs.CutAnswers.{cut_of, words_after}
use Rattle.fragment.proofs.CutLaws.{accepted_told, texts, WellCut, well_cut}

-- N, R and M
abbrev numbers : ℕ → ℕ → ℕ → Marks
numbers n r m = record { message_number = n; retrieval = r; mail_drop = m }

-- ---- texts cut

-- "HI", N 5: 72 and 73 make 145, whose low seven bits are 17, so that S is 110. S and the text are a word of three cells, and no fill is needed.
-- The first word is 3 at i11 and 5 at i13, 00B800; the second 110, 72 at i7 and 73 at i14, 12646E. The groups B8H,
-- and 6EH, 64H, 12H make 412; K is 1023 - 412, 263H
pub one_fragment : cut (numbers 5 0 0) 85 (bytes_of "HI") ≡ (0x00BA63 ∷ 0x12646E ∷ []) ∷ []
unfolding cut fragments_from fragment_at fragment_of message_of words_of number sum_by
one_fragment = refl

-- the empty text, N 63, R and M set: two fills make 6, so that S is 121. 121, 3 at i7 and 3 at i14 are 00C1F9; all
-- bits of the first word above C are set, 1FF800.
-- The groups F8H, 1FH, and F9H, C1H make 721; K is 1023 - 721, 12EH
pub empty_fragment : cut (numbers 63 1 1) 2 [] ≡ (0x1FF92E ∷ 0x00C1F9 ∷ []) ∷ []
unfolding cut fragments_from fragment_at fragment_of message_of words_of number sum_by
empty_fragment = refl

-- "HELLO", N 5, in fragments of two words: 72, 69, 76, 76 and 79 make 372, whose low seven bits are 116, so that S is 11.
-- The first has F 3 and C 1: 00BC00, then 11, "H" and "E", 11640B; the groups BCH, and 0BH, 64H, 11H make 316; K is 707, 2C3H.
-- The second has F 0 and C 0: 00A000, then "L", "L" and "O", 13E64C; the groups A0H, and 4CH, E6H, 13H make 485; K is 538, 21AH
pub two_fragments : cut (numbers 5 0 0) 2 (bytes_of "HELLO") ≡ (0x00BEC3 ∷ 0x11640B ∷ []) ∷ (0x00A21A ∷ 0x13E64C ∷ []) ∷ []
unfolding cut fragments_from fragment_at fragment_of message_of words_of number sum_by
two_fragments = refl

-- what is told of the two fragments of "HELLO": 11, 72 and 69 make 152, of which 24 is left; 76, 76 and 79 make 231, of which 103 is left; both make 127
pub two_told : map heading_of (cut (numbers 5 0 0) 2 (bytes_of "HELLO"))
    ≡ given (1 ∷ 3 ∷ 5 ∷ 0 ∷ 0 ∷ 11 ∷ 24 ∷ 2 ∷ []) ∷ given (0 ∷ 0 ∷ 5 ∷ 0 ∷ 0 ∷ 0 ∷ 103 ∷ 3 ∷ []) ∷ []
unfolding cut fragments_from fragment_at fragment_of message_of heading_of cells_of words_of without_fill number digits sum_by all
two_told = refl

-- the texts of the two fragments joined are "HELLO", as the law says, whose premises hold here
pub two_joined : flatten (map text_in (cut (numbers 5 0 0) 2 (bytes_of "HELLO"))) ≡ bytes_of "HELLO"
unfolding sendable all
two_joined = texts {marks = numbers 5 0 0} {largest = 2} (record { numbers = refl; size = refl; short = omega arith; characters = refl })

-- the two fragments in lent words: those after them stay as they were
pub words_after_lem : words_after (numbers 5 0 0) 2 (bytes_of "HELLO") (1 ∷ 2 ∷ 3 ∷ 4 ∷ 5 ∷ 6 ∷ []) ≡ 0x00BEC3 ∷ 0x11640B ∷ 0x00A21A ∷ 0x13E64C ∷ 5 ∷ 6 ∷ []
unfolding cut_of cut fragments_from fragment_at fragment_of message_of words_of number sum_by sendable all flatten
words_after_lem = refl

-- a refusal leaves all lent words as they were
pub refused_leaves : words_after (numbers 5 0 0) 2 (bytes_of "HELLO") (1 ∷ 2 ∷ 3 ∷ []) ≡ 1 ∷ 2 ∷ 3 ∷ []
unfolding cut_of cut fragments_from fragment_at fragment_of message_of words_of number sum_by sendable all flatten
refused_leaves = refl

-- 13 characters, S and a fill are five words, each in a fragment of two
abbrev five : List (List ℕ)
five = cut (numbers 0 0 0) 2 (bytes_of "ABCDEFGHIJKLM")

-- F of the five fragments is 3, then 0, 1, 2 and 0 again
pub five_numbers : map fragment_number_in five ≡ 3 ∷ 0 ∷ 1 ∷ 2 ∷ 0 ∷ []
unfolding cut fragments_from fragment_at fragment_of message_of words_of number sum_by
five_numbers = refl

-- C of the five fragments is 1 in all but the last
pub five_continued : map continued_in five ≡ 1 ∷ 1 ∷ 1 ∷ 1 ∷ 0 ∷ []
unfolding cut fragments_from fragment_at fragment_of message_of words_of number sum_by
five_continued = refl

-- each of the five fragments has its part of the text
pub five_texts : map text_in five ≡ bytes_of "AB" ∷ bytes_of "CDE" ∷ bytes_of "FGH" ∷ bytes_of "IJK" ∷ bytes_of "LM" ∷ []
unfolding cut fragments_from fragment_at fragment_of message_of cells_of words_of without_fill number digits sum_by
five_texts = refl

-- in fragments of four words the last is the shortest that holds the rest
pub last_short : map length (cut (numbers 0 0 0) 4 (bytes_of "ABCDEFGHIJKLM")) ≡ 4 ∷ 3 ∷ []
unfolding cut fragments_from fragment_at fragment_of message_of words_of
last_short = refl

-- ---- how full the fragments are

-- "ABCDEFGHIJKLM" in fragments of two words is cut as 01 says: the law's premises hold here
pub five_well_cut : WellCut 2 (bytes_of "ABCDEFGHIJKLM") five
unfolding sendable all
five_well_cut = well_cut {marks = numbers 0 0 0} {largest = 2} (record { numbers = refl; size = refl; short = omega arith; characters = refl })

-- the room of two words, in a first fragment and in another, and that of 85: all but the last of those five have two or three characters
pub rooms : (room_for true 2 ≡ 2) × (room_for false 2 ≡ 3) × (room_for true 85 ≡ 251) × (room_for false 85 ≡ 252)
rooms = (refl, refl, refl, refl)

-- "HELLO!" in fragments of three words, cut by another writer: fill stands in the first one, where its "O" has room
abbrev loose : List (List ℕ)
loose =
    let characters = bytes_of "HELL" ++ etx ∷ bytes_of "O!" ++ etx ∷ [] in
    fragment_of true (head_for true 0 0 5 3 1) (signature_of characters ∷ take 5 characters)
    ∷ fragment_of false (head_for false 0 0 5 0 0) (drop 5 characters) ∷ []

-- both fragments of that writer are good, the first has the largest size, and their texts joined are the text
pub loose_read :
    (map (λ (words : List ℕ). number_told (heading_of words)) loose ≡ 0 ∷ 0 ∷ []) × (map length loose ≡ 3 ∷ 2 ∷ [])
    × (flatten (map text_in loose) ≡ bytes_of "HELLO!")
unfolding fragment_of heading_of cells_of words_of without_fill number digits sum_by all flatten
loose_read = (refl, refl, refl)

-- the first of those two fragments is not full: it has four characters and room for five
pub loose_refuted : WellCut 3 (bytes_of "HELLO!") loose → ⊥
unfolding fragment_of cells_of words_of without_fill number digits sum_by
loose_refuted w =
    let filling : ◌≡◌ {A = ℕ} 4 5 = (w.full 0 (omega arith)).filling in
    omega arith

-- "HI" in one fragment of three words, the last of which is fill: it is read, but two words hold the text
pub long_refuted : WellCut 3 (bytes_of "HI") (fragment_of true (head_for true 0 0 5 3 0) (110 ∷ bytes_of "HI" ++ replicate 3 etx) ∷ []) → ⊥
unfolding fragment_of cells_of words_of without_fill number digits sum_by
long_refuted w =
    let needed : 2 < 2 = w.shortest.needed 2 (omega arith) (omega arith) in
    omega arith

-- the longest text: 1,009 cells and two fills are 337 words, four fragments of 84 and one of one, with a first word each
pub longest : cut_of 342 (numbers 63 1 1) 85 (replicate 1008 65) ≡ given (5 ∷ 342 ∷ [])
unfolding sendable all
longest =
    accepted_told 342 (numbers 63 1 1) 85 (replicate 1008 65) (record { numbers = refl; size = refl; short = omega arith; characters = refl }) (omega arith)

-- ---- what is refused

-- texts to cut into so many words, each with 01's number
unfoldable pub cuts : List (Told × ℕ)
cuts =
    (cut_of 2 (numbers 63 1 1) 2 (bytes_of "HI"), 0)
    ∷ (cut_of 2 (numbers 0 0 0) 85 [], 0)
    -- N over 63, R and M over 1
    ∷ (cut_of 2 (numbers 64 0 0) 2 (bytes_of "HI"), 7)
    ∷ (cut_of 2 (numbers 5 2 0) 2 (bytes_of "HI"), 7)
    ∷ (cut_of 2 (numbers 5 0 2) 2 (bytes_of "HI"), 7)
    -- a largest fragment of one word, and of 86
    ∷ (cut_of 2 (numbers 5 0 0) 1 (bytes_of "HI"), 9)
    ∷ (cut_of 2 (numbers 5 0 0) 86 (bytes_of "HI"), 9)
    -- 1,009 characters
    ∷ (cut_of 400 (numbers 5 0 0) 85 (replicate 1009 65), 15)
    -- a character over 7FH, and ETX
    ∷ (cut_of 2 (numbers 5 0 0) 2 (0x80 ∷ []), 18)
    ∷ (cut_of 2 (numbers 5 0 0) 2 (72 ∷ 0x03 ∷ []), 18)
    -- two words and a buffer of one; three characters are a fragment more
    ∷ (cut_of 1 (numbers 5 0 0) 2 (bytes_of "HI"), 1)
    ∷ (cut_of 3 (numbers 5 0 0) 2 (bytes_of "HI!"), 1)
    ∷ (cut_of 3 (numbers 5 0 0) 3 (bytes_of "HI!"), 0)
    -- the first question that refuses decides
    ∷ (cut_of 0 (numbers 64 0 0) 86 (replicate 1009 0x03), 7)
    ∷ (cut_of 0 (numbers 5 0 0) 86 (replicate 1009 0x03), 9)
    ∷ (cut_of 0 (numbers 5 0 0) 2 (replicate 1009 0x03), 15)
    ∷ (cut_of 0 (numbers 5 0 0) 2 (0x03 ∷ []), 18)
    ∷ []

-- the writer gives these answers
pub cut_examples : map {A = Told × ℕ} {B = ℕ} (λ row. number_told row.0) cuts ≡ map {A = Told × ℕ} {B = ℕ} (λ row. row.1) cuts
unfolding cuts cut_of cut fragments_from fragment_at fragment_of message_of words_of flatten sendable all
cut_examples = refl

-- ---- what each premise of the laws is for; the length of a text is asked by 01 alone, and no law fails without it

-- ETX in the text is dropped with the fill
pub etx_dropped : flatten (map text_in (cut (numbers 5 0 0) 2 (65 ∷ 0x03 ∷ 66 ∷ []))) ≡ 65 ∷ 66 ∷ []
unfolding cut fragments_from fragment_at fragment_of message_of cells_of words_of without_fill number digits sum_by flatten
etx_dropped = refl

-- a character of eight bits: its highest is added to the cell after it, here the fill, which is 4 then and no fill
pub high_misread : flatten (map text_in (cut (numbers 5 0 0) 2 (0x80 ∷ []))) ≡ 0 ∷ 4 ∷ []
unfolding cut fragments_from fragment_at fragment_of message_of cells_of words_of without_fill number digits sum_by flatten
high_misread = refl

-- with a character of eight bits the sum is not 127: 124, 0 and 4 make 128
pub high_sum : sum_by whole (map sum_in (cut (numbers 5 0 0) 2 (0x80 ∷ []))) % 128 ≡ 0
unfolding cut fragments_from fragment_at fragment_of message_of cells_of words_of number digits sum_by
high_sum = refl

-- N of 64 is read as 0, and R as set
pub number_misread : heading_of (fragment_at (numbers 64 0 0) 2 (bytes_of "HI") 0) ≡ given (0 ∷ 3 ∷ 0 ∷ 1 ∷ 0 ∷ 110 ∷ 127 ∷ 2 ∷ [])
unfolding fragment_at fragment_of message_of heading_of cells_of words_of without_fill number digits sum_by all
number_misread = refl

-- fragments of one word hold nothing, and there are none
pub one_word : cut (numbers 5 0 0) 1 (bytes_of "HI") ≡ []
unfolding cut fragments_from
one_word = refl

-- a fragment of 86 words is not read
pub too_large : number_told (heading_of (fragment_at (numbers 5 0 0) 86 (replicate 254 65) 0)) ≡ 9
unfolding fragment_at fragment_of message_of heading_of words_of
too_large = refl

-- after the last fragment there is a first word alone
pub none_after : number_told (heading_of (fragment_at (numbers 5 0 0) 2 (bytes_of "HI") 1)) ≡ 9
unfolding fragment_at fragment_of message_of heading_of words_of
none_after = refl
