-- A CAPCODE as text (document 01, "CAPCODE text"; the house form of S8.6.2).
use Rattle.std.specs.Prelude.{ℕ, zero, suc, ◌+◌, ◌/◌, ◌%◌, ◌^◌, ◌<◌, true, ◌||◌, ◌≡◌, List, [], ◌∷◌, ◌++◌, leb, eqb}
use Prim.Native.Char.{code}
use Rattle.laws.specs.Choice.{pick}
use Rattle.capcode.specs.declared.Capcode.{Capcode}
use Rattle.capcode.specs.Assigned.{standard, framed, fields_fit}

-- the last n decimal digits of a number as bytes, highest first; zeros are written
unfoldable pub digits : ℕ → ℕ → List ℕ
digits zero number = []
digits (suc n) number = digits n (number / 10) ++ (code "0" + number % 10) ∷ []

-- 01: "An address up to 2031614 is seven digits; a larger one is ten"
abbrev pub last_of_seven : ℕ
last_of_seven = 2031614

-- how many digits an address is written with
abbrev pub width_of : ℕ → ℕ
width_of address = pick (leb address last_of_seven) 7 10

-- 01: A to L "an optional pager collapse digit 0 to 5, but never 4 (no digit means 4)"; U to Z "three frame digits 000 to 127, a collapse digit 0 to 5"
abbrev pub head_of : Capcode → List ℕ
head_of c =
    pick (standard c.letter)
    (pick (eqb c.collapse 4) [] (digits 1 c.collapse))
    (digits 3 c.frame ++ digits 1 c.collapse)

-- how many digits those are
abbrev pub head_width : Capcode → ℕ
head_width c = pick (standard c.letter) (pick (eqb c.collapse 4) 0 1) 4

-- 01: .. "the letter, the address"
unfoldable pub text_of : Capcode → List ℕ
text_of c = head_of c ++ c.letter ∷ digits (width_of c.address) c.address

-- a CAPCODE that a text could have: a letter A to L or U to Z, a frame and a collapse that fit it, an address of ten digits at most
pub record Sayable (c : Capcode) : Type 0 where
  pub letter : (standard c.letter || framed c.letter) ≡ true
  pub fields : fields_fit c ≡ true
  pub address : c.address < 10 ^ 10
