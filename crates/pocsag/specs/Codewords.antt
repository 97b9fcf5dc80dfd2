-- The code of POCSAG (02, item 5; CCIR Radiopaging Code No. 1): which 32-bit words are sent, and what a received word is mended to.
use Rattle.std.specs.Prelude.{ℕ, zero, suc, ◌+◌, ◌*◌, ◌/◌, ◌%◌, ◌^◌, ◌<◌, Bool, ◌&&◌, ◌||◌, ◌≡◌, leb, ltb, eqb}
use Rattle.std.specs.Int.Bits.{bit_xor}
use Rattle.std.specs.Int.Count.{ones}
use Rattle.laws.specs.Choice.{pick}

-- 02, item 5: "The code's generator is x^10 + x^9 + x^8 + x^6 + x^5 + x^3 + 1". A polynomial is the number whose bit k is the coefficient of x^k
abbrev pub generator : ℕ
generator = 2 ^ 10 + 2 ^ 9 + 2 ^ 8 + 2 ^ 6 + 2 ^ 5 + 2 ^ 3 + 2 ^ 0

-- one step of dividing a polynomial by the generator: where x^(10 + k) is there, the generator times x^k is taken away. Coefficients are taken away by xor
abbrev pub taken_away : ℕ → ℕ → ℕ
taken_away k p = pick (eqb (p / 2 ^ (10 + k) % 2) 1) (bit_xor p (generator * 2 ^ k)) p

-- the division, from the highest of so many powers from x^10 on down to x^10: what is left over
unfoldable pub divided : ℕ → ℕ → ℕ
divided zero p = p
divided (suc k) p = divided k (taken_away k p)

-- the remainder of a word: that of its 31 code bits, which are all but the lowest
abbrev pub remainder_of : ℕ → ℕ
remainder_of word = divided 21 (word / 2)

-- 02, item 5: "an even parity bit behind": whether the ones of a word, the parity bit with them, are even in number
abbrev pub is_even : ℕ → Bool
is_even word = eqb (ones word % 2) 0

-- whether a word is one that is sent: 32 bits, the code bits a multiple of the generator, and even
abbrev pub is_sent : ℕ → Bool
is_sent word = ltb word (2 ^ 32) && eqb (remainder_of word) 0 && is_even word

-- 21 bits and the ten after them that make a multiple of the generator of all 31
abbrev pub checked_bits : ℕ → ℕ
checked_bits bits = bits * 2 ^ 10 + divided 21 (bits * 2 ^ 10)

-- the word that is sent for 21 bits: they, the ten after them, and the parity bit
abbrev pub sent_word : ℕ → ℕ
sent_word bits = checked_bits bits * 2 + ones (checked_bits bits) % 2

-- ---- wrong bits

-- a code bit of a word by its place, 1 to 31; 0, the place of the parity bit, names no bit
abbrev pub bit_at : ℕ → ℕ
bit_at place = 2 ^ place / 2 * 2

-- an entry names two places in one number, the first and 32 times the second: the bits at them
abbrev pub bits_named : ℕ → ℕ
bits_named entry = bit_xor (bit_at (entry % 32)) (bit_at (entry / 32))

-- 02, item 5: "the one or two wrong bits among 31": whether an entry names one bit, or two with the lower first
abbrev pub names_bits : ℕ → Bool
names_bits entry = leb 1 (entry % 32) && (eqb (entry / 32) 0 || ltb (entry % 32) (entry / 32))

-- how many bits an entry names
abbrev pub how_many : ℕ → ℕ
how_many entry = pick (eqb entry 0) 0 (pick (eqb (entry / 32) 0) 1 2)

-- whether an entry names one or two bits that have a remainder
abbrev pub has_remainder : ℕ → ℕ → Bool
has_remainder remainder entry = names_bits entry && eqb (remainder_of (bits_named entry)) remainder

-- the last entry, up to a number, that names one or two bits with a remainder; 0 where none does
unfoldable pub named_up_to : ℕ → ℕ → ℕ
named_up_to zero remainder = 0
named_up_to (suc n) remainder = pick (has_remainder remainder (suc n)) (suc n) (named_up_to n remainder)

-- 02, item 5: "gives for each remainder the one or two wrong bits among 31, or none": 0 stands for none
abbrev pub wrong_bits : ℕ → ℕ
wrong_bits remainder = named_up_to 1023 remainder

-- ---- words that come with wrong bits

-- a word with the code bits at two places changed; 0 names no bit, so that at most two of the 31 code bits are changed
abbrev pub flipped : ℕ → ℕ → ℕ → ℕ
flipped a b word = bit_xor word (bit_xor (bit_at a) (bit_at b))

-- a received word is a sent one with at most two of its 31 code bits wrong
pub record Near (sent word : ℕ) : Type 0 where
  pub first : ℕ
  pub second : ℕ
  pub first_within : first < 32
  pub second_within : second < 32
  pub received : word ≡ flipped first second sent
