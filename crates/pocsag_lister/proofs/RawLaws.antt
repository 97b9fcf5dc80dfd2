-- An input of bytes: what is found is its words, four bytes to each.
use Prim.Native.Nat.{ℕ, ◌+◌, ◌*◌, ◌<◌}
use mathlib.Core.Bool.{true}
use mathlib.Core.List.{List, [], ◌∷◌, map}
use mathlib.Core.Path.{◌≡◌, refl, ap}
use native.Mathlib.Omega.{arith}
use lib.Dec.{ltb}
use borrow.Author.Tests.{ltb-true}
use Rattle.laws.specs.Lists.{all}
use Rattle.laws.specs.Numerals.{are_digits}
use Rattle.laws.proofs.Tests.{first_of, second_of}
use Rattle.pocsag_lister.specs.declared.Token.{Token}
use Rattle.pocsag_lister.specs.Inputs.{Found, word_found}
use Rattle.pocsag_lister.specs.RawWords.{shifted_byte, taken_raw, words_in}
use Rattle.pocsag_lister.specs.Collecting.{found_in}

-- four bytes push out whatever was there before them
four_bytes : (value a b c d : ℕ) → a < 256 → b < 256 → c < 256
    → shifted_byte (shifted_byte (shifted_byte (shifted_byte value a) b) c) d ≡ ((a * 256 + b) * 256 + c) * 256 + d
four_bytes value a b c d small-a small-b small-c = omega arith

-- the same, by recursion on the bytes
raw_from : (bytes : List ℕ) (t : Token) → t.count ≡ 0 → are_digits 256 bytes ≡ true → found_in taken_raw t bytes ≡ map word_found (words_in bytes)
unfolding found_in words_in all
raw_from [] t none small = refl
raw_from (a ∷ []) t none small = rw none
raw_from (a ∷ b ∷ []) t none small = rw none
raw_from (a ∷ b ∷ c ∷ []) t none small = rw none
raw_from (a ∷ b ∷ c ∷ d ∷ bytes) t none small =
    let after-a = second_of (ltb a 256) _ small in
    let after-b = second_of (ltb b 256) _ after-a in
    let after-c = second_of (ltb c 256) _ after-b in
    let value = four_bytes t.value a b c d (ltb-true a 256 (first_of (ltb a 256) _ small)) (ltb-true b 256 (first_of (ltb b 256) _ after-a))
    (ltb-true c 256 (first_of (ltb c 256) _ after-b)) in
    rw (none, value) (ap (λ (row : List Found). word_found (((a * 256 + b) * 256 + c) * 256 + d) ∷ row)
    (raw_from bytes _ refl (second_of (ltb d 256) _ after-c)))

-- what is found in bytes, from the first byte of a word on
pub raw_found : (t : Token) (bytes : List ℕ) → t.count ≡ 0 → are_digits 256 bytes ≡ true → found_in taken_raw t bytes ≡ map word_found (words_in bytes)
raw_found t bytes = raw_from bytes t
