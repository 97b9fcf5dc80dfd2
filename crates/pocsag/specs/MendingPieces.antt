-- What the code has of its two tables: the remainder of a word is found part by part, and the wrong bits by the remainder.
use Rattle.std.specs.Prelude.{ℕ, ◌+◌, ◌*◌, ◌^◌, ◌<◌, List, ◌≡◌, length, get_or}
use Rattle.pocsag.specs.Codewords.{divided, wrong_bits}

-- a row has, from a place on, the remainders of the numbers below a bound times a power of x
abbrev pub PartRight : List ℕ → ℕ → ℕ → ℕ → Type 0
PartRight parts from bound power = (n : ℕ) → n < bound → get_or parts (from + n) 0 ≡ divided 21 (n * 2 ^ power)

-- a row of 160 has the remainders of four parts of a word
pub record PartsRight (parts : List ℕ) : Type 0 where
  pub size : length parts ≡ 160
  pub first : PartRight parts 0 32 10
  pub second : PartRight parts 32 32 15
  pub third : PartRight parts 64 32 20
  pub fourth : PartRight parts 96 64 25

-- the table of the wrong bits, and beside it the row of remainders
pub record TablesRight (table parts : List ℕ) : Type 0 where
  pub size : length table ≡ 1024
  pub entries : (remainder : ℕ) → get_or table remainder 0 ≡ wrong_bits remainder
  pub remainders : PartsRight parts
