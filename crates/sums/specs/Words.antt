-- Message words as they come from the decoder (S8.7.8, Table 40).
use Rattle.std.specs.Prelude.{ℕ, ◌^◌, Bool, List}
use Rattle.laws.specs.Numerals.{are_digits}

-- a word has 21 bits
abbrev pub word_bits : ℕ
word_bits = 21

-- 01's table, 10: whether no word has more than 21 bits
abbrev pub undamaged : List ℕ → Bool
undamaged words = are_digits (2 ^ word_bits) words
