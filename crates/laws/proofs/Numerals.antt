-- Laws of digits, for every base: a row of digits and the number it makes lead to each other, and each digit stands where its power says.
use Prim.Native.Nat.{ℕ, zero, suc, ◌+◌, ◌-◌, ◌*◌, ◌/◌, ◌%◌, ◌^◌, ◌≤◌, ◌<◌}
use mathlib.Core.Bool.{true}
use mathlib.Core.List.{List, [], ◌∷◌}
use mathlib.Core.Path.{◌≡◌, refl, sym, ap, ap₂, ◌∙◌}
use native.Mathlib.Nat.{add_comm, add-mul-div_left, add-mul-mod_self_left, div-div-eq-div-mul, div-eq_of_lt, div-one}
use native.Mathlib.Nat.{mod-eq_of_lt, mod-lt, mod-one, mul_comm, mul-suc, mul-zero, one-le-pow, pow-suc, pow-succ'}
use native.Mathlib.Nat.{pow-zero, zero-add, zero-div, zero-mod}
use native.Mathlib.Numerals.{add-one, towards_suc}
use native.Mathlib.Omega.{arith}
use borrow.Author.Tests.{lt-ltb, ltb-true}
use lib.Arith.{digits_lt, mod-mul}
use lib.Dec.{ltb}
use lib.ListN.{length, drop, get_or}
use lib.Pow.{field, mod-mod-pow, pow-add}
use Rattle.laws.specs.Layouts.{bits_at}
use Rattle.laws.specs.Lists.{all}
use Rattle.laws.specs.Numerals.{number, digits, are_digits}
use Rattle.laws.proofs.Layouts.{bits_above, bits_are}
use Rattle.laws.proofs.Tests.{first_of, second_of}

-- as many digits as were asked for
pub length_digits : (b n x : ℕ) → length (digits b n x) ≡ n
unfolding digits
length_digits b zero x = refl
length_digits b (suc n) x = ap suc (length_digits b n (x / b))

-- the digits of a number are digits
pub digits_are : (b n x : ℕ) → 0 < b → are_digits b (digits b n x) ≡ true
unfolding digits all
digits_are b zero x h = refl
digits_are b (suc n) x h = rw (lt-ltb (x % b) b (mod-lt x h)) (digits_are b n (x / b) h)

-- so many digits of a number make the number, up to their power
pub number_digits : (b n x : ℕ) → 0 < b → number b (digits b n x) ≡ x % b ^ n
unfolding number digits
number_digits b zero x h = sym (rw (pow-zero b) (mod-one x))
number_digits b (suc n) x h =
    rw (number_digits b n (x / b) h, mul_comm b _, add_comm (x % b) _, pow-suc b n)
    (sym (mod-mul x (one-le-pow n b h) h))

-- a digit of a number
pub digits_at : (b n x k : ℕ) → k < n → get_or (digits b n x) k 0 ≡ x / b ^ k % b
unfolding digits
digits_at b zero x k h = absurd (omega arith)
digits_at b (suc n) x zero h = rw (pow-zero b, div-one x)
digits_at b (suc n) x (suc k) h = digits_at b n (x / b) k (omega arith) ∙ rw (div-div-eq-div-mul x b (b ^ k), ← pow-succ' b k)

-- of a row of digits the first is one
first_digit : (b d : ℕ) (row : List ℕ) → are_digits b (d ∷ row) ≡ true → d < b
unfolding all
first_digit b d row e = ltb-true d b (first_of (ltb d b) (are_digits b row) e)

-- of a row of digits the others are digits as well
other_digits : (b d : ℕ) (row : List ℕ) → are_digits b (d ∷ row) ≡ true → are_digits b row ≡ true
unfolding all
other_digits b d row e = second_of (ltb d b) (are_digits b row) e

-- of a digit and the digits above it, the digit
lowest : (b d n : ℕ) → d < b → (d + b * n) % b ≡ d
lowest b d n h = add-mul-mod_self_left d b n ∙ mod-eq_of_lt h

-- of a digit and the digits above it, those above it
without_lowest : (b d n : ℕ) → d < b → (d + b * n) / b ≡ n
without_lowest b d n h = add-mul-div_left d n (omega arith) ∙ rw (div-eq_of_lt h, zero-add)

-- of a digit and the digits above it, those above a power are those above the power that is one lower
a_digit_less : (b d n k : ℕ) → d < b → (d + b * n) / b ^ suc k ≡ n / b ^ k
a_digit_less b d n k h = rw (pow-succ' b k, ← div-div-eq-div-mul (d + b * n) b (b ^ k), without_lowest b d n h)

-- the digits of the number that a row makes are the row
pub digits_number : (b : ℕ) (row : List ℕ) → are_digits b row ≡ true → digits b (length row) (number b row) ≡ row
unfolding number digits
digits_number b [] e = refl
digits_number b (d ∷ row) e =
    let h = first_digit b d row e in
    ap₂ ◌∷◌ (lowest b d (number b row) h) (rw (without_lowest b d (number b row) h) (digits_number b row (other_digits b d row e)))

-- so many digits of a number do not depend on what is above their power
pub digits_low : (b n x : ℕ) → 0 < b → digits b n (x % b ^ n) ≡ digits b n x
digits_low b n x h = rw (length_digits b n x, number_digits b n x h) at (digits_number b (digits b n x) (digits_are b n x h))

-- a row's number is below the power of its length
pub number_below : (b : ℕ) (row : List ℕ) → are_digits b row ≡ true → number b row < b ^ length row
unfolding number
number_below b [] e = rw (pow-zero b) (omega arith)
number_below b (d ∷ row) e =
    rw (add_comm d _, mul_comm b _, pow-suc b (length row))
    (digits_lt (number_below b row (other_digits b d row e)) (first_digit b d row e))

-- a row's number without its lowest digits, so many, is the number of the row without them
pub number_drop : (b : ℕ) (row : List ℕ) (k : ℕ) → are_digits b row ≡ true → number b row / b ^ k ≡ number b (drop k row)
unfolding number
number_drop b row zero e = rw (pow-zero b) (div-one (number b row))
number_drop b [] (suc k) e = zero-div (b ^ suc k)
number_drop b (d ∷ row) (suc k) e =
    rw (a_digit_less b d (number b row) k (first_digit b d row e))
    (number_drop b row k (other_digits b d row e))

-- the lowest digit of what is left is the row's digit at that place, 0 after the row's end
pub digit_at : (b : ℕ) (row : List ℕ) (k : ℕ) → are_digits b row ≡ true → number b row / b ^ k % b ≡ get_or row k 0
unfolding number
digit_at b [] k e = rw (zero-div (b ^ k)) (zero-mod b)
digit_at b (d ∷ row) zero e = rw (pow-zero b, div-one (d + b * number b row)) (lowest b d (number b row) (first_digit b d row e))
digit_at b (d ∷ row) (suc k) e =
    rw (a_digit_less b d (number b row) k (first_digit b d row e))
    (digit_at b row k (other_digits b d row e))

-- a power of a power
pub pow_mul : (b m n : ℕ) → (b ^ m) ^ n ≡ b ^ (m * n)
pow_mul b m zero = rw (mul-zero m, pow-zero b) (pow-zero (b ^ m))
pow_mul b m (suc n) = rw (pow-suc (b ^ m) n, pow_mul b m n, mul-suc m n) (sym (pow-add b (m * n) m))

-- the lowest bits of a number are enough to look at
low_bits : (place wide more n : ℕ) → bits_at place wide (n % 2 ^ (more + wide + place)) ≡ bits_at place wide n
low_bits place wide more n =
    rw (bits_are place wide (n % 2 ^ (more + wide + place)), bits_are place wide n, field n (more + wide) place)
    (mod-mod-pow (n / 2 ^ place) more wide)

-- where each digit has so many bits, a digit's bits stand at its own place
pub digit_bits : (size : ℕ) (row : List ℕ) (k place wide : ℕ) → are_digits (2 ^ size) row ≡ true → place + wide ≤ size
    → bits_at (size * k + place) wide (number (2 ^ size) row) ≡ bits_at place wide (get_or row k 0)
digit_bits size row k place wide e h =
    let n = number (2 ^ size) row in
    let parts : size - (wide + place) + wide + place ≡ size = omega arith in
    bits_above (size * k) place wide n
    ∙ rw (← pow_mul 2 size k)
    (sym (low_bits place wide (size - (wide + place)) (n / (2 ^ size) ^ k))
    ∙ rw (parts, digit_at (2 ^ size) row k e))

-- the digits of a number from a place on: the one there, and those after it
pub digits_next : (b count n i : ℕ) → i < count → digits b (count - i) (n / b ^ i) ≡ n / b ^ i % b ∷ digits b (count - (i + 1)) (n / b ^ (i + 1))
unfolding digits
digits_next b count n i more =
    let left : count - i ≡ suc (count - (i + 1)) = omega arith in
    let above : n / b ^ i / b ≡ n / b ^ (i + 1) = div-div-eq-div-mul n (b ^ i) b ∙ rw (add-one, pow-suc) in
    rw (left, above)

-- so many numbers of a row from a place on, 0 after its end
abbrev pub window : List ℕ → ℕ → ℕ → List ℕ
window row k zero = []
window row k (suc n) = get_or row k 0 ∷ window row (suc k) n

-- so many digits of a row's number from a place on are the row's own
pub digits_from : (b : ℕ) (row : List ℕ) (k n : ℕ) → are_digits b row ≡ true → digits b n (number b row / b ^ k) ≡ window row k n
unfolding digits
digits_from b row k zero e = refl
digits_from b row k (suc n) e =
    ap₂ ◌∷◌ (digit_at b row k e)
    (rw (div-div-eq-div-mul (number b row) (b ^ k) b, ← pow-suc b k) (digits_from b row (suc k) n e))

-- so many digits of a row from a place on make the number that stands there, up to their power
pub number_from : (b : ℕ) (row : List ℕ) (k n : ℕ) → 0 < b → are_digits b row ≡ true → number b (window row k n) ≡ number b row / b ^ k % b ^ n
number_from b row k n h e = rw (← digits_from b row k n e) (number_digits b n (number b row / b ^ k) h)

-- six of them, one by one
pub six_from : (b : ℕ) (row : List ℕ) (k : ℕ) → 0 < b → are_digits b row ≡ true
    → number b (get_or row k 0 ∷ get_or row (k + 1) 0 ∷ get_or row (k + 2) 0 ∷ get_or row (k + 3) 0 ∷ get_or row (k + 4) 0 ∷ get_or row (k + 5) 0 ∷ [])
    ≡ number b row / b ^ k % b ^ 6
six_from b row k h e = simp towards_suc (number_from b row k 6 h e)
