-- Fragments of a text (document 01, "Fragments"; S8.7.8.3, Tables 43, 44 and 45).
use Rattle.std.specs.Prelude.{ℕ, ◌%◌, ◌^◌, Bool, true, false, ◌&&◌, List, [], ◌∷◌, ◌++◌, drop, ◌==◌, nat_le, slice_index}
use Rattle.laws.specs.Choice.{pick, bit_of}
use Rattle.laws.specs.Layouts.{Layout, field, unused, fields_of, packed}
use Rattle.laws.specs.Lists.{sum_by}
use Rattle.laws.specs.Numerals.{number, digits}
use Rattle.sums.specs.Sums.{whole, ten_bits}

-- 01: "a text of up to 1,008 characters", which is also the room of a chain's slot
abbrev pub most_characters : ℕ
most_characters = 1008

-- 01's table, 9: a fragment has "2 to 85 words"
abbrev pub is_size : ℕ → Bool
is_size words = nat_le 2 words && nat_le words 85

-- 01: "ETX (03H) is fill and never text"
abbrev pub etx : ℕ
etx = 0x03

-- Table 43: a character has seven bits. A cell is the place of one in a word, and holds the signature, a character of the text, or fill
abbrev pub cell_bits : ℕ
cell_bits = 7

-- 01: "F is 3 in a first fragment"
abbrev pub first_number : ℕ
first_number = 3

-- Tables 44 and 45, the first word, its highest bit first: M and R of a first fragment, where another has V and U
-- ("written 0 and not looked at"); N, F, C and K
abbrev pub head_of : Bool → Layout
head_of true = field 1 ∷ field 1 ∷ field 6 ∷ field 2 ∷ field 1 ∷ field 10 ∷ []
head_of false = unused 2 ∷ field 6 ∷ field 2 ∷ field 1 ∷ field 10 ∷ []

-- the numbers of a first word but K: M and R, where it is a first fragment's, N, F and C
abbrev pub head_for : Bool → ℕ → ℕ → ℕ → ℕ → ℕ → List ℕ
head_for first m r n f c = pick first (m ∷ r ∷ []) [] ++ n ∷ f ∷ c ∷ []

-- "every other word holds three": the cells of a word, its lowest bits first
abbrev pub cells_in : ℕ → List ℕ
cells_in word = digits (2 ^ cell_bits) 3 word

-- the cells of a row of words
unfoldable pub cells_of : List ℕ → List ℕ
cells_of [] = []
cells_of (word ∷ words) = cells_in word ++ cells_of words

-- a row of cells as words, three a word
unfoldable pub words_of : List ℕ → List ℕ
words_of [] = []
words_of (a ∷ []) = number (2 ^ cell_bits) (a ∷ []) ∷ []
words_of (a ∷ b ∷ []) = number (2 ^ cell_bits) (a ∷ b ∷ []) ∷ []
words_of (a ∷ b ∷ c ∷ cells) = number (2 ^ cell_bits) (a ∷ b ∷ c ∷ []) ∷ words_of cells

-- a fragment with K in its first word, after the other numbers of its head
abbrev pub fragment_with : Bool → List ℕ → ℕ → List ℕ → List ℕ
fragment_with first head k cells = packed (head_of first) (head ++ k ∷ []) ∷ words_of cells

-- a fragment as it is sent: K is the ten-bit sum of its words (S8.8.6), K as 0
unfoldable pub fragment_of : Bool → List ℕ → List ℕ → List ℕ
fragment_of first head cells = fragment_with first head (ten_bits (fragment_with first head 0 cells)) cells

-- ---- what is read from the words of a fragment

-- the first word; 0 where there is none
abbrev pub head_in : List ℕ → ℕ
head_in words = slice_index words 0

-- the numbers N, F, C and K, which every fragment has
abbrev pub numbers_in : List ℕ → List ℕ
numbers_in words = fields_of (head_of false) (head_in words)

-- N, the message number (S8.8.7)
abbrev pub message_number_in : List ℕ → ℕ
message_number_in words = slice_index (numbers_in words) 0

-- F, the fragment number (S8.8.5)
abbrev pub fragment_number_in : List ℕ → ℕ
fragment_number_in words = slice_index (numbers_in words) 1

-- C, "1 when more follows"
abbrev pub continued_in : List ℕ → ℕ
continued_in words = slice_index (numbers_in words) 2

-- K as it came
abbrev pub check_in : List ℕ → ℕ
check_in words = slice_index (numbers_in words) 3

-- whether a fragment is a first one
abbrev pub is_first : List ℕ → Bool
is_first words = fragment_number_in words == first_number

-- M of a first fragment; U and V are not looked at
abbrev pub mail_drop_in : List ℕ → ℕ
mail_drop_in words = pick (is_first words) (slice_index (fields_of (head_of true) (head_in words)) 0) 0

-- R of a first fragment
abbrev pub retrieval_in : List ℕ → ℕ
retrieval_in words = pick (is_first words) (slice_index (fields_of (head_of true) (head_in words)) 1) 0

-- the cells after the first word
abbrev pub cells_after_head : List ℕ → List ℕ
cells_after_head words = cells_of (drop 1 words)

-- 01: "The first fragment's second word starts with signature S"
abbrev pub signature_in : List ℕ → ℕ
signature_in words = pick (is_first words) (slice_index (cells_after_head words) 0) 0

-- the characters, fill among them: all cells, of a first fragment all after the signature
abbrev pub characters_in : List ℕ → List ℕ
characters_in words = drop (bit_of (is_first words)) (cells_after_head words)

-- 01: "the reader drops it wherever it stands"
unfoldable pub without_fill : List ℕ → List ℕ
without_fill [] = []
without_fill (c ∷ characters) = pick (c == etx) (without_fill characters) (c ∷ without_fill characters)

-- the text of a fragment
abbrev pub text_in : List ℕ → List ℕ
text_in words = without_fill (characters_in words)

-- all that is summed for the signature, S itself with it, modulo 128
abbrev pub sum_in : List ℕ → ℕ
sum_in words = sum_by whole (cells_after_head words) % 2 ^ cell_bits

-- 01's table, 11: whether K as it came is that of the words
abbrev pub checked : List ℕ → Bool
checked words = ten_bits words == check_in words
