-- What a received word is mended to, and what is told of it.
use Rattle.std.specs.Prelude.{ℕ, not, ◌&&◌, List, [], ◌∷◌, ltb, eqb, length, Result}
use Rattle.std.specs.Int.Bits.{bit_xor}
use Rattle.laws.specs.Choice.{pick}
use Rattle.refusal.specs.declared.Refusal.{Refusal}
use Rattle.refusal.specs.declared.Refusal.TheVariants.{Room, BeyondRepair}
use Rattle.refusal.specs.Told.{Told, given, ask, number_told, value_told, told_by}
use Rattle.pocsag.specs.declared.Mended.{Mended}
use Rattle.pocsag.specs.Codewords.{remainder_of, is_even, bits_named, how_many, wrong_bits}

-- 02, item 5: "Of the 31 code bits at most two are changed": a word with the bits changed that have its remainder
abbrev pub changed : ℕ → ℕ
changed word = bit_xor word (bits_named (wrong_bits (remainder_of word)))

-- a word mended: 25 where it has a remainder that no one or two bits have; 02, item 5: "parity is then tested (wrong parity is 25)"; else the word,
-- and how many bits were changed
unfoldable pub mended_of : ℕ → Told
mended_of word =
    ask (not (eqb (remainder_of word) 0) && eqb (wrong_bits (remainder_of word)) 0) BeyondRepair
    (ask (not (is_even (changed word))) BeyondRepair
    (given (changed word ∷ how_many (wrong_bits (remainder_of word)) ∷ [])))

-- a word mended, with the number of its refusal: 0 or 25, the word, how many bits were changed
pub record MendedTold : Type 0 where
  pub number : ℕ
  pub word : ℕ
  pub bits : ℕ

-- a word as it is told: the number, the word, and how many of its bits were changed
abbrev pub as_mended : Told → MendedTold
as_mended t = record { number = number_told t; word = value_told t 0; bits = value_told t 1 }

-- the values of a word that was mended
abbrev pub mended_values : Mended → List ℕ
mended_values m = m.word ∷ m.bits ∷ []

-- how the code's answer is told
abbrev pub mended_by : Result Mended Refusal → Told
mended_by mended = told_by mended_values mended

-- the same as a word as it is told
abbrev pub mended_told : Result Mended Refusal → MendedTold
mended_told mended = as_mended (mended_by mended)

-- what stands in a word's place after mending: the word that it is mended to, and where it is beyond repair itself
abbrev pub word_mended : ℕ → ℕ
word_mended word = pick (eqb (number_told (mended_of word)) 0) (value_told (mended_of word) 0) word

-- what is told of a word of a row: how many bits were changed, or 25 where it is beyond repair
abbrev pub bits_told : ℕ → ℕ
bits_told word = pick (eqb (number_told (mended_of word)) 0) (value_told (mended_of word) 1) (number_told (mended_of word))

-- a row of words mended: 1 where fewer numbers are lent beside them
abbrev pub mends_row : List ℕ → List ℕ → Told
mends_row words bits = ask (ltb (length bits) (length words)) Room (given [])
