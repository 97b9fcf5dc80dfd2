-- 01's table, 2, call by call as the code asks it.
use Prim.Native.Nat.{ℕ, zero, suc}
use mathlib.Core.Bool.{Bool, true, false, not, ◌&&◌}
use mathlib.Core.List.{List, [], ◌∷◌}
use mathlib.Core.Logic.{⊎_elim}
use mathlib.Core.Path.{◌≡◌, refl}
use lib.ListN.{drop}
use Rattle.laws.proofs.Tests.{decided, not_both, second_of}
use Rattle.call.specs.declared.Call.{Call}
use Rattle.call.specs.Calls.{in_limits, holds, sound}

-- a call whose key is met again spoils the row
spoils : (good met rest : Bool) → met ≡ true → (good && not met && rest) ≡ false
spoils true met rest again = rw again
spoils false met rest again = refl

-- a call within its limits whose key is not met again leaves the answer to the rest
leaves : (good met rest : Bool) → good ≡ true → met ≡ false → (good && not met && rest) ≡ rest
leaves good met rest sane alone = rw (sane, alone)

-- a call, and the later ones
module _ (c : Call) (later : List Call) where
  -- a call that is not within its limits: the row is not sound
  pub unsound : in_limits c ≡ false → sound (c ∷ later) ≡ false
  unfolding sound
  unsound bad = rw bad

  -- a call whose key has a later call: the row is not sound
  pub twice : holds c.phase c.vector later ≡ true → sound (c ∷ later) ≡ false
  unfolding sound
  twice met = spoils (in_limits c) (holds c.phase c.vector later) (sound later) met

  -- where its key has none, the row is sound if the later ones are
  pub alone : in_limits c ≡ true → holds c.phase c.vector later ≡ false → sound (c ∷ later) ≡ sound later
  unfolding sound
  alone good none = leaves (in_limits c) (holds c.phase c.vector later) (sound later) good none

-- a part of a sound row is sound
sound_part : (row : List Call) (k : ℕ) → sound row ≡ true → sound (drop k row) ≡ true
unfolding sound
sound_part row zero good = good
sound_part [] (suc k) good = refl
sound_part (c ∷ row) (suc k) good =
    sound_part row k (second_of (in_limits c && not (holds c.phase c.vector row)) (sound row) good)

-- a part that is not sound spoils the row
pub spoiled : (row : List Call) (k : ℕ) → sound (drop k row) ≡ false → sound row ≡ false
spoiled row k bad =
    ⊎_elim
    (λ good. absurd (not_both (sound (drop k row)) (sound_part row k good) bad))
    (λ wrong. wrong)
    (decided (sound row))
