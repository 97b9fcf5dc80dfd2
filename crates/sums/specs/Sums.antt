-- Message sums (S8.8.6, Table 60; document 01, "Numeric pages" and "Fragments").
use Rattle.std.specs.Prelude.{ℕ, ◌+◌, ◌-◌, ◌*◌, ◌/◌, ◌%◌, ◌^◌, List, [], ◌∷◌}
use Rattle.laws.specs.Layouts.{bits_at}
use Rattle.laws.specs.Lists.{sum_by}

-- Table 60: the three groups of a word, i0 to i7, i8 to i15 and i16 to i20, added. Higher bits are not looked at
abbrev pub groups_of : ℕ → ℕ
groups_of word = bits_at 0 8 word + bits_at 8 8 word + bits_at 16 5 word

-- S8.8.6: the groups of all words "are added to form a binary sum"
abbrev pub binary_sum : List ℕ → ℕ
binary_sum words = sum_by groups_of words

-- the 1's complement of the lowest bits, so many of them
abbrev pub complement : ℕ → ℕ → ℕ
complement wide n = 2 ^ wide - 1 - n % 2 ^ wide

-- 01: "K as 0": the words with the lowest bits of the first, which hold K, as 0
abbrev pub unkeyed : ℕ → List ℕ → List ℕ
unkeyed held [] = []
unkeyed held (first ∷ rest) = first / 2 ^ held * 2 ^ held ∷ rest

-- S8.8.6, both sums: K is taken of the words with K as 0, of which the first word holds so many bits; the binary sum
-- by a rule; the complement of so many bits of it
abbrev pub checksum : ℕ → (ℕ → ℕ) → ℕ → List ℕ → ℕ
checksum held rule wide words = complement wide (rule (binary_sum (unkeyed held words)))

-- 01: "low 8 bits, top two added to low six"
abbrev pub folded : ℕ → ℕ
folded sum = bits_at 6 2 sum + bits_at 0 6 sum

-- the sum as it is
abbrev pub whole : ℕ → ℕ
whole n = n

-- K of a numeric page, six bits; two of them stand in the first word (Tables 41 and 42)
abbrev pub six_bits : List ℕ → ℕ
six_bits words = checksum 2 folded 6 words

-- K of a fragment, ten bits; all of them stand in the first word (Tables 44 and 45)
abbrev pub ten_bits : List ℕ → ℕ
ten_bits words = checksum 10 whole 10 words

-- 01: "S is the low seven bits of the complemented sum of all characters of the message, fill included"
abbrev pub signature_of : List ℕ → ℕ
signature_of characters = complement 7 (sum_by whole characters)
