-- A number as its lowest bit and the rest, and how many of its bits are set.
use Prim.Native.Nat.{ℕ, zero, suc, ◌+◌, ◌*◌, ◌/◌, ◌%◌, ◌^◌, ◌≤◌, ◌<◌, max}
use mathlib.Core.Bool.{Bool, true, false, ◌||◌}
use mathlib.Core.Path.{◌≡◌, refl, sym, ap, ◌∙◌}
use native.Mathlib.Nat.{pow-succ', div-div-eq-div-mul, one-mul}
use native.Mathlib.Omega.{arith}
use mir.Val.{bool_byte}
use lib.Arith.{bin_ind, lt-one}
use lib.Bits.{bit_or, bit_xor, or_step, xor_add_and, xor_shifted, xor_shr, xor_mod}
use lib.Count.{ones, ones_in, ones_step, ones_cat}
use Rattle.laws.specs.Choice.{bit_of}

-- a bit and the rest, apart again
pub lowest : (bit : Bool) (rest : ℕ) → (bit_of bit + 2 * rest) % 2 ≡ bit_of bit
lowest true rest = omega arith
lowest false rest = omega arith

pub without_lowest : (bit : Bool) (rest : ℕ) → (bit_of bit + 2 * rest) / 2 ≡ rest
without_lowest true rest = omega arith
without_lowest false rest = omega arith

-- of a bit and the rest, the bit above the lowest is the rest's
pub higher : (bit : Bool) (rest j : ℕ) → (bit_of bit + 2 * rest) / 2 ^ suc j ≡ rest / 2 ^ j
higher bit rest j = rw (pow-succ', ← div-div-eq-div-mul, without_lowest)

-- a test as the number that the code makes of it
pub as_bit : (b : Bool) → bool_byte b ≡ bit_of b
as_bit true = refl
as_bit false = refl

-- a bit is 0 or 1
pub bit_le : (bit : Bool) → bit_of bit ≤ 1
bit_le true = omega arith
bit_le false = omega arith

-- a test holds where its bit is 1
pub set_bit : (bit : Bool) → bit_of bit ≡ 1 → bit ≡ true
set_bit true h = refl
set_bit false h = absurd (omega arith)

-- the bits set are the lowest, if set, and those of the rest
pub ones_of_lem : (bit : Bool) (rest : ℕ) → ones (bit_of bit + 2 * rest) ≡ bit_of bit + ones rest
ones_of_lem bit rest = ones_step (bit_of bit + 2 * rest) ∙ rw (lowest, without_lowest)

-- the larger of two bits is set where one of them is
larger_bit : (a b : Bool) → max (bit_of a) (bit_of b) ≡ bit_of (a || b)
larger_bit true true = refl
larger_bit true false = refl
larger_bit false true = refl
larger_bit false false = refl

-- "or" goes bit by bit
pub or_of : (a b : Bool) (m n : ℕ) → bit_or (bit_of a + 2 * m) (bit_of b + 2 * n) ≡ bit_of (a || b) + 2 * bit_or m n
or_of a b m n =
    or_step (bit_of a + 2 * m) (bit_of b + 2 * n)
    ∙ rw (lowest a, lowest b, without_lowest a, without_lowest b, larger_bit)
    (omega arith)

-- ---- how many bits are set

-- a number of so many bits has its ones among them; the ones of a number that is written out are computed so
pub ones_within : (k n : ℕ) → n < 2 ^ k → ones n ≡ ones_in k n
unfolding ones ones_in
ones_within zero n below = rw (lt-one below)
ones_within (suc k) n below =
    let half : n / 2 < 2 ^ k = let double : 2 ^ suc k ≡ 2 * 2 ^ k = pow-succ' 2 k in omega (arith, below, double) in
    ones_step n ∙ ap (λ (rest : ℕ). n % 2 + rest) (ones_within k (n / 2) half)

-- the ones of a xor are odd in number exactly if those of both numbers together are
pub ones_xor : (a b : ℕ) → ones (bit_xor a b) % 2 ≡ (ones a + ones b) % 2
unfolding ones
ones_xor =
    bin_ind (λ (n : ℕ). (b : ℕ) → ones (bit_xor n b) % 2 ≡ (ones n + ones b) % 2) (λ b. omega arith)
    (λ n rest b. rw (ones_step (bit_xor n b), ones_step n, ones_step b, xor_shr n b 1, xor_mod n b 1)
    (omega (arith, rest (b / 2), xor_add_and (n % 2) (b % 2))))

-- a bit above all others is one more
pub ones_above : (k n : ℕ) → n < 2 ^ k → ones (bit_xor (2 ^ k) n) ≡ suc (ones n)
unfolding ones
ones_above k n below =
    ap (λ (power : ℕ). ones (bit_xor power n)) (sym (one-mul (2 ^ k))) ∙ ap ones (xor_shifted 1 k n below) ∙ ones_cat k 1 n below ∙ omega arith
