-- With a collapse of at most 5 the frames listened to repeat after 32 (S8.6.7): how the code holds them. No public contract
-- names these.
use Rattle.std.specs.Prelude.{ℕ, zero, suc, List, [], ◌∷◌}

-- the first 32 frames as a mask, for base frame 0 and the collapses 0 to 5: every frame, every second, fourth, eighth, sixteenth, and one
abbrev pub combs : List ℕ
combs = 0xFFFF_FFFF ∷ 0x5555_5555 ∷ 0x1111_1111 ∷ 0x0101_0101 ∷ 0x0001_0001 ∷ 0x0000_0001 ∷ []

-- n times 32 frames, the highest first: the mask of the higher sixteen and of the lower sixteen in turn
abbrev pub alternating : ℕ → ℕ → ℕ → List ℕ
alternating high low zero = []
alternating high low (suc n) = high ∷ low ∷ alternating high low n
