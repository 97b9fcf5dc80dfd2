-- Division by the generator: it goes through xor, leaves ten bits of 31, and leaves ten bits as they are.
use Prim.Native.Nat.{ℕ, zero, suc, ◌+◌, ◌*◌, ◌/◌, ◌%◌, ◌^◌, ◌≤◌, ◌<◌}
use mathlib.Core.List.{List}
use mathlib.Core.Path.{◌≡◌, refl, sym, ap, ◌∙◌}
use native.Mathlib.Nat.{div-eq_of_lt, mod-lt, add-mul, mul_assoc}
use native.Mathlib.Omega.{arith}
use lib.Bits.{bit_xor, xor_shr, xor_mod, xor_shifted}
use lib.Dec.{eqb}
use lib.ListN.{get_or}
use lib.Pow.{pow-add, pow_pos, shl_lt, pow_mono, shl-shr, shr-shr, shr_lt, split}
use Rattle.laws.specs.Choice.{pick}
use Rattle.laws.proofs.Xor.{xor_assoc, xor_comm, xor_self, xor_zero_l}
use Rattle.pocsag.specs.Codewords.{generator, taken_away, divided, remainder_of}
use Rattle.pocsag.specs.MendingPieces.{PartRight}

-- a bit of a xor is the xor of the bits
bit_of_xor : (a b k : ℕ) → bit_xor a b / 2 ^ k % 2 ≡ bit_xor (a / 2 ^ k % 2) (b / 2 ^ k % 2)
bit_of_xor a b k = rw (xor_shr a b k) (xor_mod (a / 2 ^ k) (b / 2 ^ k) 1)

-- what is taken away for one bit, 0 or 1, of each of two polynomials, is what is taken away for their xor
taken_by : (a b g x y : ℕ) → x < 2 → y < 2
    → pick (eqb (bit_xor x y) 1) (bit_xor (bit_xor a b) g) (bit_xor a b) ≡ bit_xor (pick (eqb x 1) (bit_xor a g) a) (pick (eqb y 1) (bit_xor b g) b)
taken_by a b g zero zero hx hy = refl
taken_by a b g zero (suc zero) hx hy = xor_assoc a b g
taken_by a b g (suc zero) zero hx hy = xor_assoc a b g ∙ rw (xor_comm b g) (sym (xor_assoc a g b))
taken_by a b g (suc zero) (suc zero) hx hy =
    sym (xor_assoc a g (bit_xor b g) ∙ rw (xor_comm b g, ← xor_assoc g g b, xor_self g) (ap (bit_xor a) (xor_zero_l b)))
taken_by a b g (suc (suc x)) y hx hy = absurd (omega arith)
taken_by a b g zero (suc (suc y)) hx hy = absurd (omega arith)
taken_by a b g (suc zero) (suc (suc y)) hx hy = absurd (omega arith)

-- a step of the division goes through xor
taken_xor : (k a b : ℕ) → taken_away k (bit_xor a b) ≡ bit_xor (taken_away k a) (taken_away k b)
taken_xor k a b =
    rw (bit_of_xor a b (10 + k))
    (taken_by a b (generator * 2 ^ k) (a / 2 ^ (10 + k) % 2) (b / 2 ^ (10 + k) % 2) (omega arith) (omega arith))

-- the division goes through xor: the remainder of a xor is the xor of the remainders
pub divided_xor : (n a b : ℕ) → divided n (bit_xor a b) ≡ bit_xor (divided n a) (divided n b)
unfolding divided
divided_xor zero a b = refl
divided_xor (suc k) a b = rw (taken_xor k a b) (divided_xor k (taken_away k a) (taken_away k b))

-- ten bits have no power from x^10 on, so that they are left as they are
pub divided_small : (n p : ℕ) → p < 2 ^ 10 → divided n p ≡ p
unfolding divided
divided_small zero p small = refl
divided_small (suc k) p small =
    let more : 2 ^ 10 ≤ 2 ^ (10 + k) = pow_mono {i = 10} (omega arith) in
    let far : p < 2 ^ (10 + k) = omega (arith, small, more) in
    let none : p / 2 ^ (10 + k) ≡ 0 = div-eq_of_lt far in
    rw none (divided_small k p small)

-- a number of which nothing is left after so many bits has no more bits
no_higher : (n k : ℕ) → n / 2 ^ k ≡ 0 → n < 2 ^ k
no_higher n k none =
    let whole : 0 * 2 ^ k + n % 2 ^ k ≡ n = rw none at (split n k) in
    omega (arith, whole, mod-lt n (pow_pos k))

-- the generator times x^k has the power x^(10 + k), and none above it
generator_top : (k : ℕ) → generator * 2 ^ k / 2 ^ (10 + k) ≡ 1
generator_top k =
    let sum : 10 + k ≡ k + 10 = omega arith in
    rw (sum, ← shr-shr (generator * 2 ^ k) k 10, shl-shr generator k)

-- after a step the highest power is gone
taken_lower : (k p : ℕ) → p < 2 ^ (1 + (10 + k)) → taken_away k p < 2 ^ (10 + k)
taken_lower k p below = by_top (p / 2 ^ (10 + k)) refl (shr_lt 1 (10 + k) below)
  where
    by_top : (q : ℕ) → p / 2 ^ (10 + k) ≡ q → q < 2 → pick (eqb (q % 2) 1) (bit_xor p (generator * 2 ^ k)) p < 2 ^ (10 + k)
    by_top zero e two = no_higher p (10 + k) e
    by_top (suc zero) e two =
        no_higher (bit_xor p (generator * 2 ^ k)) (10 + k) (rw (xor_shr p (generator * 2 ^ k) (10 + k), e, generator_top k))
    by_top (suc (suc q)) e two = absurd (omega arith)

-- what is left has ten bits
pub divided_lower : (n p : ℕ) → p < 2 ^ (10 + n) → divided n p < 2 ^ 10
unfolding divided
divided_lower zero p below = below
divided_lower (suc k) p below =
    let more : 10 + suc k ≡ 1 + (10 + k) = omega arith in
    divided_lower k (taken_away k p) (taken_lower k p (rw more at below))

-- ---- a number by its parts

-- what a number has from a bit on, without what is below it, is a part of so many bits there, and what it has after them
part : (n k j : ℕ) → n / 2 ^ k * 2 ^ k ≡ bit_xor (n / 2 ^ (k + j) * 2 ^ (k + j)) (n / 2 ^ k % 2 ^ j * 2 ^ k)
part n k j =
    let size : k + j ≡ j + k = omega arith in
    let low : n / 2 ^ k % 2 ^ j * 2 ^ k < 2 ^ (k + j) = rw size (shl_lt j k (mod-lt (n / 2 ^ k) (pow_pos j))) in
    let whole : n / 2 ^ k ≡ n / 2 ^ (k + j) * 2 ^ j + n / 2 ^ k % 2 ^ j = sym (split (n / 2 ^ k) j) ∙ rw (shr-shr n k j) in
    ap (λ (m : ℕ). m * 2 ^ k) whole
    ∙ add-mul (n / 2 ^ (k + j) * 2 ^ j) (n / 2 ^ k % 2 ^ j) (2 ^ k)
    ∙ rw (mul_assoc (n / 2 ^ (k + j)) (2 ^ j) (2 ^ k), ← pow-add 2 j k, ← size) (sym (xor_shifted (n / 2 ^ (k + j)) (k + j) (n / 2 ^ k % 2 ^ j * 2 ^ k) low))

-- the remainder of a part and of what comes after it
part_divided : (n k j : ℕ)
    → divided 21 (n / 2 ^ k * 2 ^ k) ≡ bit_xor (divided 21 (n / 2 ^ (k + j) * 2 ^ (k + j))) (divided 21 (n / 2 ^ k % 2 ^ j * 2 ^ k))
part_divided n k j = ap (divided 21) (part n k j) ∙ divided_xor 21 (n / 2 ^ (k + j) * 2 ^ (k + j)) (n / 2 ^ k % 2 ^ j * 2 ^ k)

-- five numbers put together in the other order
other_order : (a b c d e : ℕ) → bit_xor (bit_xor (bit_xor (bit_xor a b) c) d) e ≡ bit_xor (bit_xor (bit_xor (bit_xor e d) c) b) a
other_order a b c d e =
    xor_comm (bit_xor (bit_xor (bit_xor a b) c) d) e
    ∙ ap (bit_xor e) (xor_comm (bit_xor (bit_xor a b) c) d ∙ ap (bit_xor d) (xor_comm (bit_xor a b) c ∙ ap (bit_xor c) (xor_comm a b)))
    ∙ sym (xor_assoc e d (bit_xor c (bit_xor b a)))
    ∙ sym (xor_assoc (bit_xor e d) c (bit_xor b a))
    ∙ sym (xor_assoc (bit_xor (bit_xor e d) c) b a)

-- a remainder is the xor of the lowest ten bits and the remainders of the parts after them
pub in_parts : (n : ℕ)
    → bit_xor (bit_xor (bit_xor (bit_xor (n % 2 ^ 10) (divided 21 (n / 2 ^ 10 % 2 ^ 5 * 2 ^ 10))) (divided 21 (n / 2 ^ 15 % 2 ^ 5 * 2 ^ 15)))
    (divided 21 (n / 2 ^ 20 % 2 ^ 5 * 2 ^ 20))) (divided 21 (n / 2 ^ 25 * 2 ^ 25))
    ≡ divided 21 n
in_parts n =
    let lowest : n % 2 ^ 10 < 2 ^ 10 = mod-lt n (pow_pos 10) in
    let after : divided 21 n ≡ bit_xor (divided 21 (n / 2 ^ 10 * 2 ^ 10)) (n % 2 ^ 10) =
    ap (divided 21) (sym (split n 10) ∙ sym (xor_shifted (n / 2 ^ 10) 10 (n % 2 ^ 10) lowest))
    ∙ divided_xor 21 (n / 2 ^ 10 * 2 ^ 10) (n % 2 ^ 10)
    ∙ ap (bit_xor (divided 21 (n / 2 ^ 10 * 2 ^ 10))) (divided_small 21 (n % 2 ^ 10) lowest) in
    other_order (n % 2 ^ 10) (divided 21 (n / 2 ^ 10 % 2 ^ 5 * 2 ^ 10)) (divided 21 (n / 2 ^ 15 % 2 ^ 5 * 2 ^ 15))
    (divided 21 (n / 2 ^ 20 % 2 ^ 5 * 2 ^ 20)) (divided 21 (n / 2 ^ 25 * 2 ^ 25))
    ∙ sym (after ∙ rw (part_divided n 10 5, part_divided n 15 5, part_divided n 20 5))

-- a remainder in a row of them is small
pub part_small : (parts : List ℕ) (from bound power wide n : ℕ) → PartRight parts from bound power → n < bound → n < 2 ^ wide → wide + power ≤ 31
    → get_or parts (from + n) 0 < 2 ^ 10
part_small parts from bound power wide n right within small fits =
    let below : n * 2 ^ power < 2 ^ (wide + power) = shl_lt wide power small in
    let room : 2 ^ (wide + power) ≤ 2 ^ 31 = pow_mono {i = wide + power} fits in
    rw (right n within) (divided_lower 21 (n * 2 ^ power) (omega (arith, below, room)))

-- the remainder of a word has ten bits
pub remainder_small : (word : ℕ) → word < 2 ^ 32 → remainder_of word < 1024
remainder_small word below = divided_lower 21 (word / 2) (omega arith)
