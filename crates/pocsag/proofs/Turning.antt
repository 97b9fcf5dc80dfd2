-- Message bits in the other order: as the code turns them, bit by bit, and that they are turned back by being turned again.
use Prim.Native.Nat.{ℕ, zero, suc, ◌+◌, ◌-◌, ◌*◌, ◌/◌, ◌%◌, ◌^◌, ◌≤◌, ◌<◌}
use mathlib.Core.Bool.{Bool, true, ◌&&◌}
use mathlib.Core.List.{List, [], ◌∷◌, ◌++◌, append-nil}
use mathlib.Core.Path.{◌≡◌, refl, sym, ap, ◌∙◌}
use native.Mathlib.Nat.{add-zero, mod-eq_of_lt}
use native.Mathlib.Omega.{arith}
use lib.Dec.{ltb}
use lib.ListN.{length}
use lib.Pow.{pow-add, pow_mono}
use Rattle.laws.specs.Lists.{all}
use Rattle.laws.specs.Numerals.{number, digits, are_digits}
use Rattle.laws.proofs.Numerals.{length_digits, digits_are, number_below, digits_number, number_digits}
use Rattle.laws.proofs.Tests.{first_of, second_of}
use Rattle.pocsag.specs.Batches.{turned_row, turned}

-- so many bits, from the lowest on, each put below those before it
unfoldable pub poured : ℕ → ℕ → ℕ → ℕ
poured zero row bits = row
poured (suc n) row bits = poured n (2 * row + bits % 2) (bits / 2)

-- that is the bits in the other order
poured_row : (n : ℕ) (row : List ℕ) (bits : ℕ) → poured n (number 2 row) bits ≡ number 2 (turned_row row (digits 2 n bits))
unfolding poured turned_row digits number
poured_row zero row bits = refl
poured_row (suc n) row bits =
    let below : 2 * number 2 row + bits % 2 ≡ bits % 2 + 2 * number 2 row = omega arith in
    rw below (poured_row n (bits % 2 ∷ row) (bits / 2))

-- at first nothing is turned, and twenty bits are still to come
pub pours : (bits : ℕ) → poured 20 0 bits ≡ turned bits
unfolding number
pours bits = poured_row 20 [] bits

-- one bit more
pub pours_on : (left row bits : ℕ) → 0 < left → poured left row bits ≡ poured (left - 1) (2 * row + bits % 2) (bits / 2)
unfolding poured
pours_on zero row bits some = absurd (omega arith)
pours_on (suc left) row bits some = let one : suc left - 1 ≡ left = omega arith in rw one

-- what was turned has so many bits
pub pours_small : (left row bits : ℕ) → 0 < left → left ≤ 20 → row < 2 ^ (20 - left) → 2 * row + bits % 2 < 2 ^ (20 - (left - 1))
pours_small left row bits some most small =
    let more : 20 - (left - 1) ≡ 1 + (20 - left) = omega arith in
    rw (more, pow-add 2 1 (20 - left)) (omega (arith, small))

-- it has twenty bits at most
pub pours_most : (left row : ℕ) → left ≤ 20 → row < 2 ^ (20 - left) → row < 2 ^ 20
pours_most left row most small =
    let room : 2 ^ (20 - left) ≤ 2 ^ 20 = pow_mono {i = 20 - left} {j = 20} (omega arith) in
    omega (arith, small, room)

-- ---- turned twice

-- a row that is turned onto another, and turned again
twice_row : (a b c : List ℕ) → turned_row a (turned_row b c) ≡ turned_row (c ++ a) b
unfolding turned_row
twice_row a b [] = refl
twice_row a b (x ∷ c) = twice_row a (x ∷ b) c

-- a row that is turned twice is as it was
turned_back : (row : List ℕ) → turned_row [] (turned_row [] row) ≡ row
unfolding turned_row
turned_back row = twice_row [] [] row ∙ append-nil row

-- turned rows have as many numbers
turned_length : (row bits : List ℕ) → length (turned_row row bits) ≡ length row + length bits
unfolding turned_row
turned_length row [] = sym (add-zero (length row))
turned_length row (bit ∷ bits) = turned_length (bit ∷ row) bits ∙ omega arith

-- bits that are turned are bits
turned_bits : (row bits : List ℕ) → are_digits 2 row ≡ true → are_digits 2 bits ≡ true → are_digits 2 (turned_row row bits) ≡ true
unfolding turned_row all
turned_bits row [] so more = so
turned_bits row (bit ∷ bits) so more =
    let first = first_of (ltb bit 2) (are_digits 2 bits) more in
    turned_bits (bit ∷ row) bits (both (ltb bit 2) (are_digits 2 row) first so) (second_of (ltb bit 2) (are_digits 2 bits) more)
  where
    both : (a b : Bool) → a ≡ true → b ≡ true → (a && b) ≡ true
    both a b e f = rw (e, f)

-- twenty bits of a number, turned
abbrev row_of : ℕ → List ℕ
row_of bits = turned_row [] (digits 2 20 bits)

-- they are twenty
row_size : (bits : ℕ) → length (row_of bits) ≡ 20
row_size bits = turned_length [] (digits 2 20 bits) ∙ rw (length_digits 2 20 bits)

-- they are bits
row_bits : (bits : ℕ) → are_digits 2 (row_of bits) ≡ true
unfolding all
row_bits bits = turned_bits [] (digits 2 20 bits) refl (digits_are 2 20 bits (omega arith))

-- what is turned has twenty bits
pub turned_small : (bits : ℕ) → turned bits < 2 ^ 20
turned_small bits = rw (row_size bits) at (number_below 2 (row_of bits) (row_bits bits))

-- turned twice, bits are as they were
pub turned_twice : (bits : ℕ) → bits < 2 ^ 20 → turned (turned bits) ≡ bits
turned_twice bits small =
    let again : digits 2 20 (number 2 (row_of bits)) ≡ row_of bits =
    ap (λ (n : ℕ). digits 2 n (number 2 (row_of bits))) (sym (row_size bits)) ∙ digits_number 2 (row_of bits) (row_bits bits) in
    ap (λ (row : List ℕ). number 2 (turned_row [] row)) again
    ∙ ap (number 2) (turned_back (digits 2 20 bits))
    ∙ number_digits 2 20 bits (omega arith)
    ∙ mod-eq_of_lt small
