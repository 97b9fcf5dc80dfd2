-- Masks and counts of any set of frames: bit by bit, in ranges of sixteen, merged, and repeated.
use Prim.Native.Nat.{ℕ, zero, suc, ◌+◌, ◌-◌, ◌*◌, ◌/◌, ◌%◌, ◌^◌, ◌≤◌, ◌<◌}
use mathlib.Core.Bool.{◌||◌}
use mathlib.Core.List.{List, [], ◌∷◌, ◌++◌}
use mathlib.Core.Path.{◌≡◌, refl, sym, ap, ◌∙◌}
use native.Mathlib.Nat.{add-zero, suc-add, add-suc, zero-add, one-mul, mul_assoc, div-one, pow-succ'}
use native.Mathlib.Numerals.{add-one}
use native.Mathlib.Omega.{arith}
use lib.Bits.{bit_or}
use lib.Count.{ones, ones-le}
use lib.ListN.{length, take, get_or}
use lib.Seq.{take-suc}
use Rattle.laws.specs.Choice.{bit_of}
use Rattle.laws.proofs.Bits.{lowest, higher, bit_le, ones_of_lem, or_of}
use Rattle.frames.specs.Listening.{Frameset, mask_from, count_from, masks_of, ones_of}
use Rattle.frames.specs.Repeating.{alternating}

module _ (frames : Frameset) where
  -- a mask of n frames has n bits
  mask_lt : (first n : ℕ) → mask_from frames first n < 2 ^ n
  unfolding mask_from
  mask_lt first zero = omega arith
  mask_lt first (suc n) = rw pow-succ' (omega (arith, mask_lt (suc first) n, bit_le (frames first)))

  -- bit j of a mask is the frame first + j
  pub mask_bit : (first n j : ℕ) → j < n → mask_from frames first n / 2 ^ j % 2 ≡ bit_of (frames (first + j))
  unfolding mask_from
  mask_bit first zero j h = absurd (omega arith)
  mask_bit first (suc n) zero h = rw (div-one, lowest, add-zero)
  mask_bit first (suc n) (suc j) h = rw (higher, mask_bit (suc first) n j (omega arith), suc-add, add-suc)

  -- the frames set are the frames counted
  mask_ones : (first n : ℕ) → ones (mask_from frames first n) ≡ count_from frames first n
  unfolding mask_from count_from ones
  mask_ones first zero = refl
  mask_ones first (suc n) = rw (ones_of_lem, mask_ones (suc first) n)

  -- of no frames none is counted
  count_none : (first : ℕ) → count_from frames first 0 ≡ 0
  unfolding count_from
  count_none first = refl

  -- a count goes on where it stopped
  count_split : (first m n : ℕ) → count_from frames first (m + n) ≡ count_from frames first m + count_from frames (first + m) n
  unfolding count_from
  count_split first zero n = simp (zero-add, add-zero)
  count_split first (suc m) n = rw (suc-add, count_split (suc first) m n, add-suc, suc-add) (omega arith)

  -- a mask goes on where it stopped
  mask_split : (first m n : ℕ) → mask_from frames first (m + n) ≡ mask_from frames first m + 2 ^ m * mask_from frames (first + m) n
  unfolding mask_from
  mask_split first zero n = simp (zero-add, add-zero, one-mul)
  mask_split first (suc m) n = rw (suc-add, mask_split (suc first) m n, add-suc, suc-add, pow-succ', mul_assoc) (omega arith)

-- the masks of two sets are merged by "or"
pub mask_or : (p q : Frameset) (first n : ℕ) → mask_from (λ f. p f || q f) first n ≡ bit_or (mask_from p first n) (mask_from q first n)
unfolding mask_from
mask_or p q first zero = refl
mask_or p q first (suc n) = rw (or_of, mask_or p q (suc first) n)

-- ---- the ranges of sixteen

-- the masks of the first 16 n frames, the highest sixteen first
abbrev pub ranges : Frameset → ℕ → List ℕ
ranges frames zero = []
ranges frames (suc n) = mask_from frames (16 * n) 16 ∷ ranges frames n

-- the i-th of these masks
pub range_at : (frames : Frameset) (n i : ℕ) → i < n → get_or (ranges frames n) i 0 ≡ mask_from frames (16 * (n - suc i)) 16
range_at frames zero i h = absurd (omega arith)
range_at frames (suc n) zero h = ap (λ (k : ℕ). mask_from frames (16 * k) 16) (omega arith)
range_at frames (suc n) (suc i) h = range_at frames n i (omega arith) ∙ ap (λ (k : ℕ). mask_from frames (16 * k) 16) (omega arith)

-- the bits of these masks, counted
pub range_ones : (frames : Frameset) (n : ℕ) → ones_of (ranges frames n) ≡ count_from frames 0 (16 * n)
unfolding ones_of
range_ones frames zero = sym (count_none frames 0)
range_ones frames (suc n) =
    let next : 16 * suc n ≡ 16 * n + 16 = omega arith in
    rw (mask_ones, range_ones frames n, next, count_split frames 0 (16 * n) 16, zero-add) (omega arith)

-- one mask more
ones_append : (masks : List ℕ) (mask : ℕ) → ones_of (masks ++ mask ∷ []) ≡ ones_of masks + ones mask
unfolding ones_of
ones_append [] mask = omega arith
ones_append (m ∷ masks) mask = rw (ones_append masks mask) (omega arith)

pub ones_more : (masks : List ℕ) (i : ℕ) → i < length masks → ones_of (take i masks) + ones (get_or masks i 0) ≡ ones_of (take (i + 1) masks)
ones_more masks i h = rw (add-one, take-suc masks i 0, ones_append)

-- a mask more has sixteen bits at most, and is counted
pub mask_more : (masks : List ℕ) (i count mask : ℕ) → i < length masks → mask ≡ get_or masks i 0 → mask < 2 ^ 16
    → (count ≤ 16 * i) × (count ≡ ones_of (take i masks)) → (count + ones mask ≤ 16 * (i + 1)) × (count + ones mask ≡ ones_of (take (i + 1) masks))
mask_more masks i count mask within is fits so-far =
    let most : ones mask ≤ 16 = ones-le 16 mask fits in
    (omega (arith, most, so-far.0), rw (so-far.1, is) (ones_more masks i within))

-- ---- frames that repeat

-- the set repeats after 32 frames
abbrev pub Repeats : Frameset → Type 0
Repeats frames = (f : ℕ) → frames (32 + f) ≡ frames f

module _ (frames : Frameset) (repeats : Repeats frames) where
  -- after any number of 32 frames it is as it was
  again : (n f : ℕ) → frames (32 * n + f) ≡ frames f
  again zero f = ap frames (omega arith)
  again (suc n) f = ap frames (omega arith) ∙ repeats (32 * n + f) ∙ again n f

  -- the masks of frames that repeat are as they were after any number of 32 frames
  mask_again : (k first n : ℕ) → mask_from frames (32 * k + first) n ≡ mask_from frames first n
  unfolding mask_from
  mask_again k first zero = refl
  mask_again k first (suc n) = rw (again k first, ← add-suc, mask_again k (suc first) n)

  -- the masks of frames that repeat are two ranges in turn
  range_again : (n : ℕ) → ranges frames (2 * n) ≡ alternating (mask_from frames 16 16) (mask_from frames 0 16) n
  range_again zero = refl
  range_again (suc n) =
      let pair : 2 * suc n ≡ suc (suc (2 * n)) = omega arith in
      let odd : 16 * suc (2 * n) ≡ 32 * n + 16 = omega arith in
      let even : 16 * (2 * n) ≡ 32 * n + 0 = omega arith in
      rw (pair, odd, even, mask_again n 16 16, mask_again n 0 16, range_again n)

  -- so the masks follow from the mask of the first 32 frames
  pub repeated : alternating (mask_from frames 0 32 / 65536) (mask_from frames 0 32 % 65536) 4 ≡ masks_of frames
  repeated =
      let whole : mask_from frames 0 32 ≡ mask_from frames 0 16 + 65536 * mask_from frames 16 16 = mask_split frames 0 16 16 in
      let below : mask_from frames 0 16 < 65536 = mask_lt frames 0 16 in
      let high : mask_from frames 0 32 / 65536 ≡ mask_from frames 16 16 = omega arith in
      let low : mask_from frames 0 32 % 65536 ≡ mask_from frames 0 16 = omega arith in
      rw (high, low) (sym (range_again 4))
