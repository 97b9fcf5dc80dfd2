-- Worked examples: fragments worked by hand from Tables 44, 45 and 60, what is refused, and what each premise of the laws is for.
use Rattle.std.proofs.Common.{◌≡◌, ℕ, true, false, List, [], ◌∷◌, map, replicate, refl, arith}
use Rattle.laws.specs.Lists.{all, sum_by}
use Rattle.laws.specs.Numerals.{number, digits}
use Rattle.laws.specs.Texts.{bytes_of}
use Rattle.refusal.specs.Told.{Told, given, number_told}
use Rattle.fragment.specs.Fragments.{cells_of, words_of, fragment_of, cells_after_head, without_fill, text_in, checked}
use Rattle.fragment.specs.Answers.{heading_of, read_of, read_after, text_of, text_after}
use Rattle.fragment.proofs.Laws.{fragment_told, first_reads, built_again}

-- ---- fragments with their K

-- "HI", N 5, in a first fragment, the only one: 3 at i11 and 5 at i13 make 00B800. Its cells are 110, which is S, 72
-- and 73: 6EH, 72 at i7 and 73 at i14 make 12646E.
-- The groups B8H, and 6EH, 64H, 12H make 184 and 228; 1023 - 412 is 611, 263H
abbrev hi : List ℕ
hi = 0x00BA63 ∷ 0x12646E ∷ []

pub hi_built : fragment_of true (0 ∷ 0 ∷ 5 ∷ 3 ∷ 0 ∷ []) (110 ∷ 72 ∷ 73 ∷ []) ≡ hi
unfolding fragment_of words_of number sum_by
hi_built = refl

-- what is told of "HI": 110, 72 and 73 make 255, whose low seven bits are 127
pub hi_told : heading_of hi ≡ given (0 ∷ 3 ∷ 5 ∷ 0 ∷ 0 ∷ 110 ∷ 127 ∷ 2 ∷ [])
unfolding heading_of cells_of without_fill digits sum_by all
hi_told = refl

-- the text of that fragment
pub hi_text : text_in hi ≡ bytes_of "HI"
unfolding cells_of without_fill digits
hi_text = refl

-- "A", fill, "B", in a later fragment, F 1, C 1, N 9: 1 at i10, 1 at i11 and 9 at i13 make 012C00; 65, 3 at i7 and 66 at i14 make 1081C1.
-- The groups 2CH, 01H, and C1H, 81H, 10H make 45 and 338; 1023 - 383 is 640, 280H
abbrev inside : List ℕ
inside = 0x012E80 ∷ 0x1081C1 ∷ []

pub inside_built : fragment_of false (9 ∷ 1 ∷ 1 ∷ []) (65 ∷ 3 ∷ 66 ∷ []) ≡ inside
unfolding fragment_of words_of number sum_by
inside_built = refl

-- fill is dropped where it stands, and is summed: 65, 3 and 66 make 134, whose low seven bits are 6
pub inside_told : heading_of inside ≡ given (1 ∷ 1 ∷ 9 ∷ 0 ∷ 0 ∷ 0 ∷ 6 ∷ 2 ∷ [])
unfolding heading_of cells_of without_fill digits sum_by all
inside_told = refl

pub inside_text : text_in inside ≡ bytes_of "AB"
unfolding cells_of without_fill digits
inside_text = refl

-- the same with fill at the end, 65, 66 and 3: 41H, 66 at i7 and 3 at i14 make 00E141. The groups 41H and E1H make 290; 1023 - 335 is 688, 2B0H
abbrev at_end : List ℕ
at_end = 0x012EB0 ∷ 0x00E141 ∷ []

-- with fill at the end the same is told, so that the place of fill is not told
pub at_end_told : heading_of at_end ≡ given (1 ∷ 1 ∷ 9 ∷ 0 ∷ 0 ∷ 0 ∷ 6 ∷ 2 ∷ [])
unfolding heading_of cells_of without_fill digits sum_by all
at_end_told = refl

-- with fill at the end the text is the same
pub at_end_text : text_in at_end ≡ bytes_of "AB"
unfolding cells_of without_fill digits
at_end_text = refl

-- U and V set, bits i19 and i20: 192C00, whose groups 2CH and 19H make 69; 1023 - 407 is 616, 268H
abbrev symbolic : List ℕ
symbolic = 0x192E68 ∷ 0x1081C1 ∷ []

-- U and V are not told
pub symbolic_told : heading_of symbolic ≡ given (1 ∷ 1 ∷ 9 ∷ 0 ∷ 0 ∷ 0 ∷ 6 ∷ 2 ∷ [])
unfolding heading_of cells_of without_fill digits sum_by all
symbolic_told = refl

-- R and M of a first fragment are, the same bits: no text, N 63, all of them set, make 1FF800; 121, which is S, and two fills make 00C1F9.
-- The groups F8H, 1FH, and F9H, C1H make 279 and 442; 1023 - 721 is 302, 12EH
abbrev empty : List ℕ
empty = 0x1FF92E ∷ 0x00C1F9 ∷ []

pub empty_told : heading_of empty ≡ given (0 ∷ 3 ∷ 63 ∷ 1 ∷ 1 ∷ 121 ∷ 127 ∷ 0 ∷ [])
unfolding heading_of cells_of without_fill digits sum_by all
empty_told = refl

-- a signature of 3 is no fill: ">>" is 124, and 127 - 124 is 3. 3, 62 at i7 and 62 at i14 make 0F9F03; the groups
-- 18H, and 03H, 9FH, 0FH make 24 and 177; 1023 - 201 is 822, 336H
abbrev signed : List ℕ
signed = 0x001B36 ∷ 0x0F9F03 ∷ []

pub signed_told : heading_of signed ≡ given (0 ∷ 3 ∷ 0 ∷ 0 ∷ 0 ∷ 3 ∷ 127 ∷ 2 ∷ [])
unfolding heading_of cells_of without_fill digits sum_by all
signed_told = refl

pub signed_text : text_in signed ≡ bytes_of ">>"
unfolding cells_of without_fill digits
signed_text = refl

-- lent bytes after the text stay as they were
pub bytes_after : read_after hi (bytes_of "abc") ≡ bytes_of "HIc"
unfolding read_of cells_of without_fill digits sum_by all
bytes_after = refl

-- a refusal leaves all lent bytes as they were
pub refused_leaves : read_after hi (bytes_of "a") ≡ bytes_of "a"
unfolding read_of cells_of without_fill digits sum_by all
refused_leaves = refl

-- the text alone is read of any words, also of one that has no K
pub text_alone : text_after (0x001800 ∷ 0x12646E ∷ []) (bytes_of "abc") ≡ bytes_of "HIc"
unfolding text_of cells_of without_fill digits
text_alone = refl

-- ---- what is refused

-- fragments to read into so many bytes, each with 01's number
unfoldable pub readings : List (Told × ℕ)
readings =
    (read_of 2 hi, 0)
    -- 85 words, of which all cells are 0
    ∷ (read_of 252 (0x0003FF ∷ replicate 84 0), 0)
    -- no word, one, and 86
    ∷ (read_of 0 [], 9)
    ∷ (read_of 0 (0x0003FF ∷ []), 9)
    ∷ (read_of 255 (0x0003FF ∷ replicate 85 0), 9)
    -- a word of 22 bits
    ∷ (read_of 2 (0x20BA63 ∷ 0x12646E ∷ []), 10)
    ∷ (read_of 2 (0x00BA63 ∷ 0x32646E ∷ []), 10)
    -- another K, another number above it, and another character
    ∷ (read_of 2 (0x00BA62 ∷ 0x12646E ∷ []), 11)
    ∷ (read_of 2 (0x00BE63 ∷ 0x12646E ∷ []), 11)
    ∷ (read_of 2 (0x00BA63 ∷ 0x12646F ∷ []), 11)
    -- two characters and a buffer of one; of three cells with fill two are to be stored
    ∷ (read_of 1 hi, 1)
    ∷ (read_of 2 inside, 0)
    -- the first question that refuses decides
    ∷ (read_of 0 (0x20BA62 ∷ []), 9)
    ∷ (read_of 0 (replicate 86 0x200000), 9)
    ∷ (read_of 0 (0x20BA62 ∷ 0x12646E ∷ []), 10)
    ∷ (read_of 0 (0x00BA62 ∷ 0x12646E ∷ []), 11)
    -- the heading alone, and the text alone
    ∷ (heading_of (0x20BA62 ∷ []), 9)
    ∷ (heading_of (0x20BA62 ∷ 0x12646E ∷ []), 10)
    ∷ (heading_of (0x00BA62 ∷ 0x12646E ∷ []), 11)
    ∷ (text_of 1 hi, 1)
    ∷ (text_of 2 hi, 0)
    ∷ []

-- the reader gives these answers
pub read_examples : map {A = Told × ℕ} {B = ℕ} (λ row. number_told row.0) readings ≡ map {A = Told × ℕ} {B = ℕ} (λ row. row.1) readings
unfolding readings heading_of read_of text_of cells_of without_fill digits sum_by all
read_examples = refl

-- ---- what each premise of the laws is for

-- cells that are not in threes: the word has a cell more
pub threes_needed : cells_of (words_of (110 ∷ 72 ∷ [])) ≡ 110 ∷ 72 ∷ 0 ∷ []
unfolding cells_of words_of number digits
threes_needed = refl

-- a cell of eight bits: its highest is added to the next
pub seven_needed : cells_of (words_of (124 ∷ 128 ∷ 3 ∷ [])) ≡ 124 ∷ 0 ∷ 4 ∷ []
unfolding cells_of words_of number digits
seven_needed = refl

-- a word of 22 bits: its highest is in no cell
pub intact_needed : words_of (cells_of (0x200000 ∷ [])) ≡ 0 ∷ []
unfolding cells_of words_of number digits
intact_needed = refl

-- no cell, and 255: one word, and 86
pub held_needed :
    map number_told (heading_of (fragment_of true (0 ∷ 0 ∷ 5 ∷ 3 ∷ 0 ∷ []) []) ∷ heading_of (fragment_of true (0 ∷ 0 ∷ 5 ∷ 3 ∷ 0 ∷ []) (replicate 255 65)) ∷ [])
    ≡ 9 ∷ 9 ∷ []
unfolding heading_of fragment_of words_of number sum_by
held_needed = refl

-- a number too few: K stands where C does
pub head_needed : checked (fragment_of false (0 ∷ 0 ∷ []) (0 ∷ 0 ∷ 0 ∷ [])) ≡ false
unfolding fragment_of words_of number sum_by
head_needed = refl

-- a number too large, N 64: it is read as R
pub fit_needed : heading_of (fragment_of true (0 ∷ 0 ∷ 64 ∷ 3 ∷ 0 ∷ []) (110 ∷ 72 ∷ 73 ∷ [])) ≡ given (0 ∷ 3 ∷ 0 ∷ 1 ∷ 0 ∷ 110 ∷ 127 ∷ 2 ∷ [])
unfolding heading_of fragment_of cells_of words_of without_fill number digits sum_by all
fit_needed = refl

-- F 3 in a later fragment: it is read as a first one
pub later_needed : heading_of (fragment_of false (9 ∷ 3 ∷ 1 ∷ []) (65 ∷ 3 ∷ 66 ∷ [])) ≡ given (1 ∷ 3 ∷ 9 ∷ 0 ∷ 0 ∷ 65 ∷ 6 ∷ 1 ∷ [])
unfolding heading_of fragment_of cells_of words_of without_fill number digits sum_by all
later_needed = refl

-- U and V set: the fragment made of what is told has them 0
pub without_needed : fragment_told (heading_of symbolic) (cells_after_head symbolic) ≡ inside
unfolding heading_of fragment_of cells_of words_of without_fill number digits sum_by all
without_needed = refl

-- a fragment with U and V 0 is made again, as the law says, whose premises hold here
pub inside_again : fragment_told (heading_of inside) (cells_after_head inside) ≡ inside
unfolding all sum_by
inside_again = built_again inside (record { size = refl; intact = refl; sum = refl }) (λ later. refl)

-- a fragment that is built is read, as the law says, whose premises hold here
pub hi_again : heading_of (fragment_of true (0 ∷ 0 ∷ 5 ∷ 3 ∷ 0 ∷ []) (110 ∷ 72 ∷ 73 ∷ [])) ≡ given (0 ∷ 3 ∷ 5 ∷ 0 ∷ 0 ∷ 110 ∷ 127 ∷ 2 ∷ [])
unfolding all sum_by without_fill
hi_again = (first_reads 0 0 5 0 (110 ∷ 72 ∷ 73 ∷ []) refl (record { threes = refl; least = omega arith; most = omega arith; seven = refl })).0
