-- Numeric pages (document 01, "Numeric pages"; 02, item 6; S8.7.8.2, Tables 39, 41 and 42). Every definition takes the set of characters.
use Rattle.std.specs.Prelude.{ℕ, ◌+◌, ◌-◌, ◌*◌, ◌/◌, ◌%◌, ◌^◌, Bool, true, false, ◌&&◌, List, [], ◌∷◌, ◌++◌, map, leb, ltb, eqb, length, replicate, get_or}
use Prim.Native.Char.{code}
use Rattle.laws.specs.Layouts.{Layout, field, size, fields_of, fit, packed}
use Rattle.laws.specs.Lists.{place_in, all, last_that}
use Rattle.laws.specs.Numerals.{number, digits}
use Rattle.laws.specs.Texts.{bytes_of}
use Rattle.packet.specs.VectorTables.{numbered_type}
use Rattle.packet.specs.Vectors.{is_numeric}
use Rattle.sums.specs.Sums.{six_bits}
use Rattle.sums.specs.Words.{word_bits}

-- a set of sixteen characters, each at the place of its code
abbrev pub Set : Type 0
Set = List ℕ

-- Table 39 with the option off; 01: "`?` stands for the spare code"
unfoldable pub standard_set : Set
standard_set = bytes_of "0123456789?U -]["

-- Table 39 with the option on; 02, item 6: "A to E stand for the codes of `?`, `U`, `-`, `]`, `[`"
unfoldable pub chinese_set : Set
chinese_set = bytes_of "0123456789AB CDE"

-- the set with the option on, or off
abbrev pub set_with : Bool → Set
set_with true = chinese_set
set_with false = standard_set

-- 02, item 6: "the choice of set as input": 0 for the option off, 1 for the option on
abbrev pub set_of : ℕ → Set
set_of set = set_with (eqb set 1)

-- 01's table, 7, "a field too large": whether a number chooses a set
abbrev pub is_set : ℕ → Bool
is_set set = leb set 1

-- 01: "w words (1 to 8)"
abbrev pub most_words : ℕ
most_words = 8

-- Tables 41 and 42: what stands before the first character, the highest bit first: S, R, N, and K5 with K4. A page
-- that is not numbered has no bits for S, R and N
abbrev pub head_of : Bool → Layout
head_of true = field 1 ∷ field 1 ∷ field 6 ∷ field 2 ∷ []
head_of false = field 0 ∷ field 0 ∷ field 0 ∷ field 2 ∷ []

-- 01: "Room for w words (1 to 8): (21w - 2) div 4 characters, or (21w - 10) div 4 when numbered"
abbrev pub room_of : Bool → ℕ → ℕ
room_of numbered words = (word_bits * words - size (head_of numbered)) / 4

-- 01: "the fewest words": as many as the head and the characters fill, the last perhaps in part
abbrev pub words_for : Bool → ℕ → ℕ
words_for numbered characters = (size (head_of numbered) + 4 * characters + (word_bits - 1)) / word_bits

-- 01: "Unused characters are spaces"
abbrev pub spaced : ℕ → List ℕ → List ℕ
spaced room text = text ++ replicate (room - length text) (code " ")

-- whether a character is a space
abbrev pub is_space : ℕ → Bool
is_space c = eqb c (code " ")

-- 02, item 6: "how many spaces stand at the end": each character that is none begins the count again
abbrev pub spaces_at_end : List ℕ → ℕ
spaces_at_end text = last_that is_space text

-- a text and its spaces, in as many words as the text needs
abbrev pub filled : Bool → List ℕ → List ℕ
filled numbered text = spaced (room_of numbered (words_for numbered (length text))) text

-- 01: "Characters are four bits, lowest bit first": the characters' bits as one number
abbrev pub codes_of : Set → List ℕ → ℕ
codes_of set text = number 16 (map (place_in set) text)

-- the page's bits as one number, i0 of the first word the lowest: the head, then the characters; "left-over bits 0"
abbrev pub row_of : Set → Bool → List ℕ → List ℕ → ℕ
row_of set numbered head text = packed (head_of numbered) head + 2 ^ size (head_of numbered) * codes_of set (filled numbered text)

-- the words of a page, with these numbers S, R, N and K5 with K4 in its head
unfoldable pub words_with : Set → Bool → List ℕ → List ℕ → List ℕ
words_with set numbered head text = digits (2 ^ word_bits) (words_for numbered (length text)) (row_of set numbered head text)

-- K of a page with these numbers S, R and N: "K as 0"
unfoldable pub check_of : Set → Bool → List ℕ → List ℕ → ℕ
check_of set numbered flags text = six_bits (words_with set numbered (flags ++ 0 ∷ []) text)

-- 01: "K0 to K3 stand in the vector"
abbrev pub in_vector : ℕ → ℕ
in_vector k = k % 16

-- K4 and K5, which stand in the first word
abbrev pub in_word : ℕ → ℕ
in_word k = k / 16

-- the words of a page as it is sent
unfoldable pub page_of : Set → Bool → List ℕ → List ℕ → List ℕ
page_of set numbered flags text = words_with set numbered (flags ++ in_word (check_of set numbered flags text) ∷ []) text

-- the numbers S, R, N and K5 with K4 in the first word of a page
abbrev pub head_in : Bool → List ℕ → List ℕ
head_in numbered words = fields_of (head_of numbered) (get_or words 0 0)

-- 01: "Reading gives all the room's characters"
unfoldable pub text_in : Set → Bool → List ℕ → List ℕ
text_in set numbered words =
    map (λ c. get_or set c 0) (digits 16 (room_of numbered (length words)) (number (2 ^ word_bits) words / 2 ^ size (head_of numbered)))

-- whether the vector's type V is that of a numbered page
abbrev pub is_numbered : ℕ → Bool
is_numbered kind = eqb kind numbered_type

-- 01's table, 18: whether every character is in the set
unfoldable pub in_set : Set → List ℕ → Bool
in_set set text = all (λ c. ltb (place_in set c) (length set)) text

-- 01's table, 7: whether the vector's type is that of a numeric page, and the numbers fit its head
abbrev pub headed : ℕ → List ℕ → Bool
headed kind flags = is_numeric kind && fit (head_of (is_numbered kind)) (flags ++ 0 ∷ [])

-- 01's table, 7: whether the vector's type is that of a numeric page, and its K is not over 15
abbrev pub vector_fits : ℕ → ℕ → Bool
vector_fits kind check = is_numeric kind && ltb check 16

-- 01's table, 9: whether a page has so many words
abbrev pub is_size : ℕ → Bool
is_size words = leb 1 words && leb words most_words

-- 01's table, 11: whether K as it came, K0 to K3 in the vector, K4 and K5 in the two lowest bits of the first word, is that of the words
abbrev pub checked : ℕ → List ℕ → Bool
checked check words = eqb (six_bits words) (check + 16 * (get_or words 0 0 % 4))
