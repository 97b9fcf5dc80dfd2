-- Worked examples: 01's marked cases 10 to 12, pages worked by hand from Tables 39, 41, 42 and 60, what is refused, and what each premise of the laws is for.
use Prim.Native.Nat.{ℕ}
use Prim.Native.Char.{code}
use mathlib.Core.Bool.{true, false}
use mathlib.Core.List.{List, [], ◌∷◌, map}
use mathlib.Core.Path.{◌≡◌, refl, ap}
use native.Mathlib.Omega.{arith}
use lib.ListN.{take, replicate}
use Rattle.laws.specs.Lists.{place_in, all, last_after, sum_by}
use Rattle.laws.specs.Numerals.{number, digits}
use Rattle.laws.specs.Texts.{bytes_of}
use Rattle.refusal.specs.declared.Refusal.TheVariants as refusals
use Rattle.refusal.specs.Told.{Told, refused, given, number_told}
use Rattle.numeric.specs.declared.Numbering.{Numbering}
use Rattle.numeric.specs.Pages.{Set, standard_set, chinese_set, room_of, spaces_at_end, filled, words_with, check_of, page_of, text_in, in_set}
use Rattle.numeric.specs.Answers.{written_of, words_after, written_chosen, read_of, text_after, read_chosen, text_chosen}
use Rattle.numeric.proofs.Choices.{own_characters}
use Rattle.numeric.proofs.Spaces.{shown}
use Rattle.numeric.proofs.Laws.{usable_set, page_for, check_for, read_written}

-- ---- 01's cases, and the tables' captions

-- case 10: "0417", standard, K as 0
pub case_10 : words_with standard_set false (0 ∷ 0 ∷ 0 ∷ 0 ∷ []) (bytes_of "0417") ≡ 0x01C500 ∷ []
unfolding standard_set words_with place_in number digits
case_10 = refl

-- case 11: "417", so that the zero is not lost
pub case_11 : words_with standard_set false (0 ∷ 0 ∷ 0 ∷ 0 ∷ []) (bytes_of "417") ≡ 0x031C50 ∷ []
unfolding standard_set words_with place_in number digits
case_11 = refl

-- case 12: numbered, 2 words
pub case_12 : room_of true 2 ≡ 8
case_12 = refl

-- Table 41: "4, 10, 15, 20, 25, 31, 36, or 41 characters"
pub rooms : map (room_of false) (1 ∷ 2 ∷ 3 ∷ 4 ∷ 5 ∷ 6 ∷ 7 ∷ 8 ∷ []) ≡ 4 ∷ 10 ∷ 15 ∷ 20 ∷ 25 ∷ 31 ∷ 36 ∷ 41 ∷ []
rooms = refl

-- Table 42: "2, 8, 13, 18, 23, 29, 34, or 39 numeric characters"
pub rooms_numbered : map (room_of true) (1 ∷ 2 ∷ 3 ∷ 4 ∷ 5 ∷ 6 ∷ 7 ∷ 8 ∷ []) ≡ 2 ∷ 8 ∷ 13 ∷ 18 ∷ 23 ∷ 29 ∷ 34 ∷ 39 ∷ []
rooms_numbered = refl

-- ---- pages with their K

-- S, R and N
abbrev numbers : ℕ → ℕ → ℕ → Numbering
numbers s r n = record { message_number = n; retrieval = r; special_format = s }

-- S, R and N all 0
abbrev none : Numbering
none = numbers 0 0 0

-- "0417": the groups 00H, C5H and 01H make 198; 3 and 6 make 9; K is 54, 6 in the vector and 3 in the word
pub standard_example : written_of standard_set 1 3 none (bytes_of "0417") ≡ given (6 ∷ 1 ∷ [])
unfolding standard_set written_of page_of check_of words_with place_in number digits sum_by in_set all
standard_example = refl

-- the word of "0417", with K5 and K4
pub standard_words : page_of standard_set false (0 ∷ 0 ∷ 0 ∷ []) (bytes_of "0417") ≡ 0x01C503 ∷ []
unfolding standard_set page_of check_of words_with place_in number digits sum_by
standard_words = refl

-- what is read of that word
pub standard_read : read_of standard_set 4 3 6 (0x01C503 ∷ []) ≡ given (0 ∷ 0 ∷ 0 ∷ 4 ∷ 0 ∷ [])
unfolding standard_set read_of text_in number digits last_after sum_by all
standard_read = refl

-- what is read of the word with all bits after the characters set: the groups 00H, C5H and 1DH make 226; 3 and 34
-- make 37; K is 26, 10 in the vector and 1 in the word
pub left_over_example : read_of standard_set 4 3 10 (0x1DC501 ∷ []) ≡ given (0 ∷ 0 ∷ 0 ∷ 4 ∷ 0 ∷ [])
unfolding standard_set read_of text_in number digits last_after sum_by all
left_over_example = refl

-- the text of that word is the same
pub left_over_text : text_in standard_set false (0x1DC501 ∷ []) ≡ bytes_of "0417"
unfolding standard_set text_in number digits
left_over_text = refl

-- "0417" numbered, S and R set, N 5: two words, of which the first has N at i2, R at i8, S at i9 and the characters
-- from i10 on, and the second begins with the highest bit of "1";
-- the groups 14H, 03H, 05H and 8EH, 99H, 19H make 348, of which 92 is taken; 1 and 28 make 29; K is 34, 2 in the vector and 2 in the word
pub numbered_example : written_of standard_set 2 7 (numbers 1 1 5) (bytes_of "0417") ≡ given (2 ∷ 2 ∷ [])
unfolding standard_set written_of page_of check_of words_with place_in number digits sum_by in_set all
numbered_example = refl

-- the words of "0417" numbered
pub numbered_words : page_of standard_set true (1 ∷ 1 ∷ 5 ∷ []) (bytes_of "0417") ≡ 0x050316 ∷ 0x19998E ∷ []
unfolding standard_set page_of check_of words_with place_in number digits sum_by
numbered_words = refl

-- what is read of those words: four of the eight characters are spaces at the end
pub numbered_read : read_of standard_set 8 7 2 (0x050316 ∷ 0x19998E ∷ []) ≡ given (1 ∷ 1 ∷ 5 ∷ 8 ∷ 4 ∷ [])
unfolding standard_set read_of text_in number digits last_after sum_by all
numbered_read = refl

-- the text of those words with its spaces
pub numbered_text : text_in standard_set true (0x050316 ∷ 0x19998E ∷ []) ≡ bytes_of "0417    "
unfolding standard_set text_in number digits
numbered_text = refl

-- the text and its spaces are read back as the law says, whose premises hold here
pub numbered_back : text_in standard_set true (page_for standard_set 7 (numbers 1 1 5) (bytes_of "0417")) ≡ filled true (bytes_of "0417")
numbered_back =
    (read_written standard_set 2 8 7 (numbers 1 1 5) (bytes_of "0417") (usable_set false) (ap number_told numbered_example) (rw numbered_words (omega arith))).1

-- lent words after the page stay as they were
pub words_after_lem : words_after standard_set 3 none (bytes_of "0417") (7 ∷ 8 ∷ []) ≡ 0x01C503 ∷ 8 ∷ []
unfolding standard_set written_of page_of check_of words_with place_in number digits sum_by in_set all
words_after_lem = refl

-- lent bytes after the text stay as they were
pub bytes_after : text_after standard_set 3 6 (0x01C503 ∷ []) (bytes_of "abcdef") ≡ bytes_of "0417ef"
unfolding standard_set read_of text_in number digits sum_by all
bytes_after = refl

-- a refusal leaves all lent words as they were
pub refused_leaves : words_after standard_set 3 none (bytes_of "12345") (7 ∷ []) ≡ 7 ∷ []
unfolding standard_set written_of page_of check_of words_with place_in number digits sum_by in_set all
refused_leaves = refl

-- ---- 02, item 6: the option on, and the spaces at the end

-- "0B17" with the option on: 11 from i6, 1 from i10 and 7 from i14; the groups C0H, C6H and 01H make 391, of which 135 is taken; 2 and 7 make 9;
-- K is 54, 6 in the vector and 3 in the word
pub chinese_example : written_of chinese_set 1 3 none (bytes_of "0B17") ≡ given (6 ∷ 1 ∷ [])
unfolding chinese_set written_of page_of check_of words_with place_in number digits sum_by in_set all
chinese_example = refl

-- the word of "0B17", with K5 and K4
pub chinese_words : page_of chinese_set false (0 ∷ 0 ∷ 0 ∷ []) (bytes_of "0B17") ≡ 0x01C6C3 ∷ []
unfolding chinese_set page_of check_of words_with place_in number digits sum_by
chinese_words = refl

-- nothing in the word says by which set it was written: with the option off it is read as another text
pub both_readings : map (λ (set : Set). text_in set false (0x01C6C3 ∷ [])) (chinese_set ∷ standard_set ∷ []) ≡ bytes_of "0B17" ∷ bytes_of "0U17" ∷ []
unfolding chinese_set standard_set text_in number digits
both_readings = refl

-- the text is read back as the law says, whose premises hold here
pub chinese_back : text_in chinese_set false (page_for chinese_set 3 none (bytes_of "0B17")) ≡ filled false (bytes_of "0B17")
chinese_back = (read_written chinese_set 1 4 3 none (bytes_of "0B17") (usable_set true) (ap number_told chinese_example) (rw chinese_words (omega arith))).1

-- "0 4" with one space inside and one after it: 12 from i6, 4 from i10 and 12 from i14; the groups 00H, 13H and 03H make 22; K is 41, 9 in the vector
-- and 2 in the word; one space stands at the end
pub inner_space : read_of standard_set 4 3 9 (0x031302 ∷ []) ≡ given (0 ∷ 0 ∷ 0 ∷ 4 ∷ 1 ∷ [])
unfolding standard_set read_of text_in number digits last_after sum_by all
inner_space = refl

-- "B7" with the option on, two spaces of filling after it: 11 from i2, 7 from i6, 12 from i10 and from i14; the groups ECH, 31H and 03H make 288, of
-- which 32 is taken; K is 31, 15 in the vector and 1 in the word
pub filling_example : written_chosen 1 1 3 none (bytes_of "B7") ≡ given (15 ∷ 1 ∷ [])
unfolding chinese_set written_of page_of check_of words_with place_in number digits sum_by in_set all
filling_example = refl

-- what is read of the word of "B7": four characters, of which two are spaces at the end
pub filling_read : read_chosen 1 4 3 15 (0x0331ED ∷ []) ≡ given (0 ∷ 0 ∷ 0 ∷ 4 ∷ 2 ∷ [])
unfolding chinese_set read_of text_in number digits last_after sum_by all
filling_read = refl

-- the characters before them are the text, as the law says, whose premises hold here
pub filling_shown : take 2 (text_chosen 1 3 15 (0x0331ED ∷ []) (bytes_of "....")) ≡ bytes_of "B7"
unfolding chinese_set written_of page_of check_of words_with place_in number digits last_after read_of text_in sum_by in_set all
filling_shown = (own_characters 1 3 none (bytes_of "B7") (0 ∷ []) (bytes_of "....") refl (omega arith) refl).1

-- a page of spaces alone: the groups 30H, 33H and 03H make 102; 1 and 38 make 39; K is 24, 8 in the vector and 1 in the word; all its room is spaces
pub only_spaces : read_of chinese_set 4 3 8 (0x033331 ∷ []) ≡ given (0 ∷ 0 ∷ 0 ∷ 4 ∷ 4 ∷ [])
unfolding chinese_set read_of text_in number digits last_after sum_by all
only_spaces = refl

-- spaces within a text are not counted, and those of a text of spaces alone, or of none, are all
pub end_spaces : map spaces_at_end (bytes_of "04 17     " ∷ bytes_of "    " ∷ bytes_of "0 1" ∷ [] ∷ []) ≡ 5 ∷ 4 ∷ 0 ∷ 0 ∷ []
unfolding last_after
end_spaces = refl

-- ---- what is refused

-- pages to write, each with 01's number
unfoldable pub writes : List (Told × ℕ)
writes =
    -- the longest texts
    (written_of standard_set 8 3 none (replicate 41 (code "1")), 0)
    ∷ (written_of standard_set 8 4 none (replicate 41 (code "1")), 0)
    ∷ (written_of standard_set 8 7 (numbers 1 1 63) (replicate 39 (code "1")), 0)
    -- an alphanumeric vector; numbers that a page that is not numbered has no bits for; N over 63
    ∷ (written_of standard_set 8 5 none (bytes_of "1"), 7)
    ∷ (written_of standard_set 8 3 (numbers 0 0 1) (bytes_of "1"), 7)
    ∷ (written_of standard_set 8 7 (numbers 0 0 64) (bytes_of "1"), 7)
    -- one character more
    ∷ (written_of standard_set 8 3 none (replicate 42 (code "1")), 15)
    ∷ (written_of standard_set 8 7 none (replicate 40 (code "1")), 15)
    ∷ (written_of standard_set 8 3 none (bytes_of "1A"), 18)
    -- with the option on A to E are taken, and the five that they stand for are not
    ∷ (written_of chinese_set 8 3 none (bytes_of "0 ABCDE"), 0)
    ∷ (written_of chinese_set 8 3 none (bytes_of "1?"), 18)
    ∷ (written_of chinese_set 8 3 none (bytes_of "1U"), 18)
    ∷ (written_of chinese_set 8 3 none (bytes_of "1-"), 18)
    ∷ (written_of chinese_set 8 3 none (bytes_of "1]"), 18)
    ∷ (written_of chinese_set 8 3 none (bytes_of "1["), 18)
    -- the choice of set: the option off, on, and none
    ∷ (written_chosen 0 8 3 none (bytes_of "1-"), 0)
    ∷ (written_chosen 1 8 3 none (bytes_of "1C"), 0)
    ∷ (written_chosen 0 8 3 none (bytes_of "1C"), 18)
    ∷ (written_chosen 1 8 3 none (bytes_of "1-"), 18)
    ∷ (written_chosen 2 8 3 none (bytes_of "1"), 7)
    -- five characters are two words
    ∷ (written_of standard_set 1 3 none (bytes_of "12345"), 1)
    -- an empty text is one
    ∷ (written_of standard_set 0 3 none [], 1)
    -- the first question that refuses decides
    ∷ (written_chosen 2 0 3 none (replicate 42 (code "x")), 7)
    ∷ (written_of standard_set 0 5 none (replicate 42 (code "A")), 7)
    ∷ (written_of standard_set 0 3 none (replicate 42 (code "A")), 15)
    ∷ (written_of standard_set 0 3 none (bytes_of "A"), 18)
    ∷ []

-- the writer gives these answers
pub write_examples : map {A = Told × ℕ} {B = ℕ} (λ row. number_told row.0) writes ≡ map {A = Told × ℕ} {B = ℕ} (λ row. row.1) writes
unfolding writes standard_set chinese_set written_of page_of check_of words_with place_in number digits sum_by in_set all
write_examples = refl

-- pages to read, each with 01's number
unfoldable pub reads : List (Told × ℕ)
reads =
    (read_of standard_set 4 3 6 (0x01C503 ∷ []), 0)
    -- the choice of set: the option off, on, and none
    ∷ (read_chosen 0 4 3 6 (0x01C503 ∷ []), 0)
    ∷ (read_chosen 1 4 3 6 (0x01C503 ∷ []), 0)
    ∷ (read_chosen 2 4 3 6 (0x01C503 ∷ []), 7)
    -- an alphanumeric vector; K over 15
    ∷ (read_of standard_set 4 5 6 (0x01C503 ∷ []), 7)
    ∷ (read_of standard_set 4 3 16 (0x01C503 ∷ []), 7)
    -- no word, and nine
    ∷ (read_of standard_set 64 3 6 [], 9)
    ∷ (read_of standard_set 64 3 6 (replicate 9 0), 9)
    -- a word of 22 bits
    ∷ (read_of standard_set 4 3 6 (0x200000 ∷ []), 10)
    -- another K in the vector, in the word, and another character
    ∷ (read_of standard_set 4 3 7 (0x01C503 ∷ []), 11)
    ∷ (read_of standard_set 4 3 6 (0x01C502 ∷ []), 11)
    ∷ (read_of standard_set 4 3 6 (0x01C403 ∷ []), 11)
    -- four characters and a buffer of three
    ∷ (read_of standard_set 3 3 6 (0x01C503 ∷ []), 1)
    -- the first question that refuses decides
    ∷ (read_chosen 2 0 3 6 [], 7)
    ∷ (read_of standard_set 0 5 6 [], 7)
    ∷ (read_of standard_set 0 3 6 (replicate 9 0x200000), 9)
    ∷ (read_of standard_set 0 3 6 (0x200000 ∷ []), 10)
    ∷ (read_of standard_set 0 3 7 (0x01C503 ∷ []), 11)
    ∷ []

-- the reader gives these answers
pub read_examples : map {A = Told × ℕ} {B = ℕ} (λ row. number_told row.0) reads ≡ map {A = Told × ℕ} {B = ℕ} (λ row. row.1) reads
unfolding reads read_of sum_by all
read_examples = refl

-- ---- what each premise of the laws is for; a buffer too short, and a vector's type of another page, stand in `reads`

-- a space that the sender wrote at the end is counted with the filling, so that what is shown is not all that was written
pub own_space : (spaces_at_end (filled false (bytes_of "4 ")) ≡ 3) × (shown (filled false (bytes_of "4 ")) ≡ bytes_of "4")
unfolding last_after
own_space = (refl, refl)

-- a set without the space
abbrev spaceless : Set
spaceless = bytes_of "0123456789?U_-]["

-- the set without the space takes nine zeros
pub space_accepted : written_of spaceless 2 3 none (bytes_of "000000000") ≡ given (15 ∷ 2 ∷ [])
unfolding written_of page_of check_of words_with place_in number digits sum_by in_set all
space_accepted = refl

-- the words of nine zeros are those of ten: the code 16 of a space has run over
pub space_needed : map (page_of spaceless false (0 ∷ 0 ∷ 0 ∷ [])) (bytes_of "000000000" ∷ bytes_of "0000000000" ∷ []) ≡ (3 ∷ 0 ∷ []) ∷ (3 ∷ 0 ∷ []) ∷ []
unfolding page_of check_of words_with place_in number digits sum_by
space_needed = refl

-- nine zeros are read as ten
pub space_misread : text_in spaceless false (3 ∷ 0 ∷ []) ≡ bytes_of "0000000000"
unfolding text_in number digits
space_misread = refl

-- a set of seventeen characters
abbrev seventeen : Set
seventeen = bytes_of "0123456789?U[-] A"

-- the set of seventeen characters takes its last
pub sixteen_accepted : written_of seventeen 1 3 none (bytes_of "A") ≡ given (11 ∷ 1 ∷ [])
unfolding written_of page_of check_of words_with place_in number digits sum_by in_set all
sixteen_accepted = refl

-- the word of the last character is that of a zero and the last: its code 16 has run over
pub sixteen_needed : map (page_of seventeen false (0 ∷ 0 ∷ 0 ∷ [])) (bytes_of "A" ∷ bytes_of "0A" ∷ []) ≡ (0x040003 ∷ []) ∷ (0x040003 ∷ []) ∷ []
unfolding page_of check_of words_with place_in number digits sum_by
sixteen_needed = refl

-- the text that is read of that word is neither
pub sixteen_misread : text_in seventeen false (0x040003 ∷ []) ≡ bytes_of "0000"
unfolding text_in number digits
sixteen_misread = refl

-- the first sixteen of them, which are usable
abbrev space_last : Set
space_last = bytes_of "0123456789?U[-] "

-- a character that is not among them has the word of a zero and that character
pub character_needed : map (page_of space_last false (0 ∷ 0 ∷ 0 ∷ [])) (bytes_of "A" ∷ bytes_of "0A" ∷ []) ≡ (0x040003 ∷ []) ∷ (0x040003 ∷ []) ∷ []
unfolding page_of check_of words_with place_in number digits sum_by
character_needed = refl

-- both texts are misread alike
pub character_misread : text_in space_last false (0x040003 ∷ []) ≡ bytes_of "0000"
unfolding text_in number digits
character_misread = refl

-- a number too large for its bits runs over into the first character: "0" with S 24 has the word of the empty text
pub head_needed : page_of standard_set true (24 ∷ 0 ∷ 0 ∷ []) (bytes_of "0") ∷ page_of standard_set true (0 ∷ 0 ∷ 0 ∷ []) [] ∷ []
    ≡ (0x033000 ∷ []) ∷ (0x033000 ∷ []) ∷ []
unfolding standard_set page_of check_of words_with place_in number digits sum_by
head_needed = refl

-- S 24 is read as 0, and both characters as spaces
pub head_misread : read_of standard_set 2 7 12 (0x033000 ∷ []) ≡ given (0 ∷ 0 ∷ 0 ∷ 2 ∷ 2 ∷ [])
unfolding standard_set read_of text_in number digits last_after sum_by all
head_misread = refl

-- the zero after it is one of them
pub zero_misread : text_in standard_set true (0x033000 ∷ []) ≡ bytes_of "  "
unfolding standard_set text_in number digits
zero_misread = refl

-- a text too long has nine words, which are not read
pub short_needed : read_of standard_set 46 3 (check_for standard_set 3 none (replicate 42 (code "1"))) (page_for standard_set 3 none (replicate 42 (code "1")))
    ≡ refused refusals.Size
unfolding standard_set read_of page_of check_of words_with place_in number digits sum_by
short_needed = refl
