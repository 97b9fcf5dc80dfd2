-- What holds of every reading under way: each byte so far was one with which some correct text goes on. No public contract
-- names it: it is asked of the function that reads on after the letter.
use Rattle.std.specs.Prelude.{ℕ, zero, suc, ◌/◌, Bool, true, ◌≡◌, ◌⊎◌}
use Rattle.capcode.specs.declared.reading.Reading.{Reading}
use Rattle.capcode.specs.Reads.{head_goes_on, letter_goes_on, address_goes_on}

-- a number of so many digits of which a test held at each digit
abbrev pub Digits : (ℕ → ℕ → Bool) → ℕ → ℕ → Type 0
Digits goes_on zero number = number ≡ 0
Digits goes_on (suc n) number = (goes_on (suc n) number ≡ true) × Digits goes_on n (number / 10)

-- what holds of every reading under way
pub record Sound (s : Reading) : Type 0 where
  pub head : Digits head_goes_on s.before s.number
  pub letter : (s.letter ≡ 0) ⊎ (letter_goes_on s.before s.letter ≡ true)
  pub address : Digits address_goes_on s.after s.address
