-- A row of digits as a number, the lowest digit first. A row of bits, or of groups of bits, that the data sheet sends lowest bit first is such a number.
use Rattle.std.specs.Prelude.{ℕ, zero, suc, ◌+◌, ◌*◌, ◌/◌, ◌%◌, Bool, List, [], ◌∷◌, ltb}
use Rattle.laws.specs.Lists.{all}

-- the number that a row of digits makes
unfoldable pub number : ℕ → List ℕ → ℕ
number base [] = 0
number base (digit ∷ row) = digit + base * number base row

-- so many digits of a number, from the lowest on
unfoldable pub digits : ℕ → ℕ → ℕ → List ℕ
digits base zero n = []
digits base (suc count) n = n % base ∷ digits base count (n / base)

-- whether every number of a row is a digit
abbrev pub are_digits : ℕ → List ℕ → Bool
are_digits base row = all (λ digit. ltb digit base) row
