-- Heads of pages: how many bits, and what the numbers in them make.
use Prim.Native.Nat.{ℕ, ◌+◌, ◌*◌, ◌^◌, ◌≤◌, ◌<◌}
use mathlib.Core.Bool.{Bool, true, false, ◌&&◌, false≢true}
use mathlib.Core.List.{[], ◌∷◌}
use mathlib.Core.Path.{◌≡◌, refl}
use native.Mathlib.Omega.{arith}
use borrow.Author.Tests.{ltb-true}
use lib.Dec.{ltb}
use Rattle.laws.specs.Layouts.{field, size, fit, packed}
use Rattle.laws.proofs.Layouts.{packed_last}
use Rattle.laws.proofs.Tests.{first_of}
use Rattle.numeric.specs.Pages.{head_of}

-- a head has 2 bits or 10
pub head_small : (numbered : Bool) → size (head_of numbered) ≤ 10
head_small true = omega arith
head_small false = omega arith

-- a head is below 1024
pub head_power : (numbered : Bool) → 2 ^ size (head_of numbered) ≤ 1024
head_power true = omega arith
head_power false = omega arith

-- of three tests that hold, each does
three_of : (a b c : Bool) → (a && b && c && true) ≡ true → (a ≡ true) × (b ≡ true) × (c ≡ true)
three_of true true true e = (refl, refl, refl)
three_of true true false e = absurd (false≢true e)
three_of true false c e = absurd (false≢true e)
three_of false b c e = absurd (false≢true e)

module _ (s r n : ℕ) where
  -- S, R and N are each below the power of their bits
  flags_below : (u v : ℕ) → fit (field u ∷ field u ∷ field v ∷ field 2 ∷ []) (s ∷ r ∷ n ∷ 0 ∷ []) ≡ true → (s < 2 ^ u) × (r < 2 ^ u) × (n < 2 ^ v)
  flags_below u v e =
      let each = three_of (ltb s (2 ^ u)) (ltb r (2 ^ u)) (ltb n (2 ^ v)) e in
      (ltb-true s (2 ^ u) each.0, ltb-true r (2 ^ u) each.1, ltb-true n (2 ^ v) each.2)

  -- in either head
  pub flags_small : (numbered : Bool) → fit (head_of numbered) (s ∷ r ∷ n ∷ 0 ∷ []) ≡ true → (s < 2) × (r < 2) × (n < 64)
  flags_small true e = flags_below 1 6 e
  flags_small false e = let below = flags_below 0 0 e in omega arith

  -- a head is its numbers, each times the weight of its place
  pub head_is : (numbered : Bool) → fit (head_of numbered) (s ∷ r ∷ n ∷ 0 ∷ []) ≡ true
      → packed (head_of numbered) (s ∷ r ∷ n ∷ 0 ∷ []) ≡ s * 512 + r * 256 + n * 4
  head_is true e =
      let three = first_of (ltb s 2 && ltb r 2 && ltb n 64) true e in
      let two = first_of (ltb s 2 && ltb r 2) (ltb n 64) three in
      let one = first_of (ltb s 2) (ltb r 2) two in
      let below = flags_below 1 6 e in
      omega (
        arith,
        packed_last (field 1 ∷ field 1 ∷ field 6 ∷ []) (s ∷ r ∷ n ∷ []) 2 0 tt tt three (omega arith),
        packed_last (field 1 ∷ field 1 ∷ []) (s ∷ r ∷ []) 6 n tt tt two below.2,
        packed_last (field 1 ∷ []) (s ∷ []) 1 r tt tt one below.1,
        packed_last [] [] 1 s tt tt refl below.0,
      )
  head_is false e =
      let below = flags_below 0 0 e in
      let no-s : s ≡ 0 = omega arith in
      let no-r : r ≡ 0 = omega arith in
      let no-n : n ≡ 0 = omega arith in
      rw (no-s, no-r, no-n)
