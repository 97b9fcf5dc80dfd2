-- A test and what it decides.
use Rattle.std.specs.Prelude.{ℕ, Bool, true, false, not, ◌&&◌, ◌||◌, List, [], ◌∷◌}

-- the first of two values where the test holds, else the second
abbrev pub pick {ℓ} : {A : Type ℓ} → Bool → A → A → A
pick true a b = a
pick false a b = b

-- a test as a bit
abbrev pub bit_of : Bool → ℕ
bit_of true = 1
bit_of false = 0

-- whether one of the tests holds, where those asked so far are carried along
abbrev pub some_after : Bool → List Bool → Bool
some_after so [] = so
some_after so (test ∷ tests) = some_after (so || test) tests

-- whether one of the tests holds
abbrev pub some : List Bool → Bool
some tests = some_after false tests

-- whether each of the tests holds, where those asked so far are carried along
abbrev pub every_after : Bool → List Bool → Bool
every_after so [] = so
every_after so (test ∷ tests) = every_after (so && test) tests

-- whether each of the tests holds
abbrev pub every : List Bool → Bool
every tests = every_after true tests

-- where the first test holds, the second does
abbrev pub implies : Bool → Bool → Bool
implies a b = not a || b
