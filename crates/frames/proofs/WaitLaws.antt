-- What the wait promises.
use Prim.Native.Nat.{ℕ, ◌+◌, ◌-◌, ◌%◌, ◌≤◌}
use mathlib.Core.List.{[], ◌∷◌}
use mathlib.Core.Logic.{⊎_elim}
use mathlib.Core.Path.{◌≡◌, refl, sym, ap}
use borrow.Author.Tests.{le-leb, eqb-true, eqb-false}
use lib.Dec.{eqb}
use native.Mathlib.Omega.{arith}
use Rattle.laws.proofs.Tests.{decided}
use Rattle.refusal.specs.declared.Refusal.TheVariants.{Packet}
use Rattle.refusal.specs.Told.{given, refused}
use Rattle.refusal.proofs.Laws.{given_not_refused, refused_tells}
use Rattle.std.specs.Prelude.{Result, Ok, Err}
use Rattle.refusal.specs.declared.Refusal.{Refusal}
use Rattle.frames.specs.Listening.{last_frame}
use Rattle.frames.specs.Waiting.{wait_of, waited, told_awaited}

-- two waits that are told alike are the same
pub awaited_tells : (a b : Result ℕ Refusal) → told_awaited a ≡ told_awaited b → a ≡ b
awaited_tells (Ok x) (Ok y) e = cc
awaited_tells (Ok x) (Err s) e = absurd (given_not_refused _ s e)
awaited_tells (Err r) (Ok y) e = absurd (given_not_refused _ r (sym e))
awaited_tells (Err r) (Err s) e = ap Err (refused_tells r s e)

-- the wait as the code works it, without a case for the present frame
pub wait_sum : (from to : ℕ) → from ≤ last_frame → to ≤ last_frame → (to + 127 - from) % 128 + 1 ≡ wait_of from to
wait_sum from to f t =
    ⊎_elim
    (λ same. let here = eqb-true to from same in rw same (omega arith))
    (λ other. let elsewhere = eqb-false to from other in rw other (omega arith))
    (decided (eqb to from))

-- S8.8.4, "the next occurrence": within a cycle the wait is given; it is 1 to 128 frames, so many frames after the present
-- one the designated one comes, and not sooner
pub wait_reaches : (from to : ℕ) → from ≤ last_frame → to ≤ last_frame
    → (frames : ℕ) × (waited from to ≡ given (frames ∷ [])) × (1 ≤ frames) × (frames ≤ 128) × ((from + frames) % 128 ≡ to)
    × ((other : ℕ) → 1 ≤ other → (from + other) % 128 ≡ to → frames ≤ other)
unfolding waited
wait_reaches from to f t = (
  (to + 127 - from) % 128 + 1,
  simp (le-leb _ _ f, le-leb _ _ t, wait_sum from to f t),
  omega arith,
  omega arith,
  omega arith,
  λ other after there. omega arith,
)

-- from frame 13 to itself, to a later one and to the one before it; from the last frame of a cycle to the first
pub waits_worked : waited 13 13 ∷ waited 13 45 ∷ waited 13 12 ∷ waited 127 0 ∷ []
    ≡ given (128 ∷ []) ∷ given (32 ∷ []) ∷ given (127 ∷ []) ∷ given (1 ∷ []) ∷ []
unfolding waited
waits_worked = refl

-- the premises of `wait_reaches` are needed: with a frame over 127 there is no wait
pub last_frame_needed : waited 128 13 ∷ waited 13 128 ∷ [] ≡ refused Packet ∷ refused Packet ∷ []
unfolding waited
last_frame_needed = refl
