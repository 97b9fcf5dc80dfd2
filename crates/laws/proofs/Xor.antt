-- The laws of xor, for all numbers. What the library has of them is passed on, so that all stand in one place.
use Prim.Native.Nat.{ℕ, ◌/◌, ◌%◌}
use mathlib.Core.Bool.{Bool}
use mathlib.Core.Logic.{⊎_elim}
use mathlib.Core.Path.{◌≡◌, refl, sym, ap, ◌∙◌}
use native.Mathlib.Omega.{arith}
use borrow.Author.Tests.{eqb-true, eqb-false, eq-eqb, ne_eqb}
use lib.Arith.{bin_ind}
use lib.Bits.{bit_xor, differ, xor_step, xor_shr, xor_mod}
use lib.Dec.{eqb, eqb→eq}
use Rattle.laws.proofs.Counting.{all_below, of_all_below}
use Rattle.laws.proofs.Tests.{decided}
pub use lib.Bits.{xor_comm, xor_self, xor_zero_l, xor_zero_r, xor_lt}

-- whether three bits may be taken together either way
abbrev either_way : ℕ → ℕ → ℕ → Bool
either_way x y z = eqb (differ (bit_xor x y) z) (differ x (bit_xor y z))

-- three bits may be taken together either way, as is computed for all bits
bits_assoc : (x y z : ℕ) → differ (bit_xor (x % 2) (y % 2)) (z % 2) ≡ differ (x % 2) (bit_xor (y % 2) (z % 2))
bits_assoc x y z =
    let at_x = of_all_below (λ a. all_below (λ b. all_below (either_way a b) 2) 2) 2 tt (x % 2) (omega arith) in
    let at_y = of_all_below (λ b. all_below (either_way (x % 2) b) 2) 2 at_x (y % 2) (omega arith) in
    eqb→eq _ _ (of_all_below (either_way (x % 2) (y % 2)) 2 at_y (z % 2) (omega arith))

-- three numbers may be taken together either way
pub xor_assoc : (a b c : ℕ) → bit_xor (bit_xor a b) c ≡ bit_xor a (bit_xor b c)
xor_assoc =
    bin_ind (λ (n : ℕ). (b c : ℕ) → bit_xor (bit_xor n b) c ≡ bit_xor n (bit_xor b c)) (λ b c. refl)
    (λ n rest b c. xor_step (bit_xor n b) c
    ∙ rw (xor_shr n b 1, xor_mod n b 1, rest (b / 2) (c / 2), bits_assoc n b c, ← xor_shr b c 1, ← xor_mod b c 1)
    (sym (xor_step n (bit_xor b c))))

-- what is put in twice is out again
pub xor_cancel : (a b : ℕ) → bit_xor (bit_xor a b) b ≡ a
xor_cancel a b = xor_assoc a b b ∙ rw xor_self (xor_zero_r a)

-- what is put in twice is out again, also where it is put in first
pub xor_back : (a b : ℕ) → bit_xor a (bit_xor a b) ≡ b
xor_back a b = sym (xor_assoc a a b) ∙ rw (xor_self a)

-- of three numbers the first two may change places
pub xor_swap : (a b c : ℕ) → bit_xor a (bit_xor b c) ≡ bit_xor b (bit_xor a c)
xor_swap a b c = sym (xor_assoc a b c) ∙ ap (λ (x : ℕ). bit_xor x c) (xor_comm a b) ∙ xor_assoc b a c

-- of three numbers the last two may change places
pub xor_last : (a b c : ℕ) → bit_xor (bit_xor a b) c ≡ bit_xor (bit_xor a c) b
xor_last a b c = xor_assoc a b c ∙ ap (bit_xor a) (xor_comm b c) ∙ sym (xor_assoc a c b)

-- what is put in twice is out again, with another number between
pub xor_across : (a b c : ℕ) → bit_xor a (bit_xor b (bit_xor a c)) ≡ bit_xor b c
xor_across a b c = xor_swap a b (bit_xor a c) ∙ ap (bit_xor b) (xor_back a c)

-- with the same number put into both, two numbers are alike exactly if they were before
pub xor_apart : (a b c : ℕ) → eqb (bit_xor a b) (bit_xor a c) ≡ eqb b c
xor_apart a b c =
    ⊎_elim
    (λ same. eq-eqb _ _ (ap (bit_xor a) (eqb-true b c same)) ∙ sym same)
    (λ other. ne_eqb _ _ (λ e. eqb-false b c other (sym (xor_back a b) ∙ ap (bit_xor a) e ∙ xor_back a c)) ∙ sym other)
    (decided (eqb b c))
