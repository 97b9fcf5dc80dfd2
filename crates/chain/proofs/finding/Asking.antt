-- 01's table, 2, slot by slot as the code asks it.
use Prim.Native.Nat.{ℕ, ◌+◌, ◌<◌}
use mathlib.Core.Bool.{Bool, true, false, not, ◌&&◌}
use mathlib.Core.List.{List}
use mathlib.Core.Path.{◌≡◌, refl, ap}
use borrow.Author.Tests.{eq-eqb, ne_eqb}
use lib.ListN.{length, get_or, drop}
use Rattle.chain.specs.declared.Chain.{Chain}
use Rattle.chain.specs.Chains.{blank, is_open, is_sound, holds, sound}
use Rattle.chain.proofs.Records.{sound_from}

-- an open slot whose key is met again spoils the row
spoils : (good opened met rest : Bool) → opened ≡ true → met ≡ true → (good && not (opened && met) && rest) ≡ false
spoils true opened met rest is again = rw (is, again)
spoils false opened met rest is again = refl

-- a sound slot whose key is not met again leaves the answer to the rest
leaves : (good opened met rest : Bool) → good ≡ true → (opened && met) ≡ false → (good && not (opened && met) && rest) ≡ rest
leaves good opened met rest sane alone = rw (sane, alone)

module _ (row : List Chain) (slot : ℕ) (within : slot < length row) where
  -- the record of the slot
  abbrev pub here : Chain
  here = get_or row slot blank

  -- whether its key is found again
  abbrev pub met : Bool
  met = holds here.address here.message_number (drop (slot + 1) row)

  -- a slot that is not sound: the row is not
  pub unsound : is_sound here ≡ false → sound (drop slot row) ≡ false
  unsound bad = rw (sound_from row slot within, bad)

  -- a closed slot has no key: those after it are still to be asked
  pub closed : is_sound here ≡ true → here.is_open ≡ 0 → sound (drop slot row) ≡ sound (drop (slot + 1) row)
  closed good shut =
      rw (sound_from row slot within) (leaves (is_sound here) (is_open here) met (sound (drop (slot + 1) row)) good (rw (eq-eqb here.is_open 0 shut)))

  -- an open slot whose key is found after it: the row is not sound
  pub twice : (here.is_open ≡ 0 → ⊥) → met ≡ true → sound (drop slot row) ≡ false
  twice opened found =
      rw (sound_from row slot within)
      (spoils (is_sound here) (is_open here) met (sound (drop (slot + 1) row)) (ap not (ne_eqb here.is_open 0 opened)) found)

  -- an open slot whose key is not found after it: those after it are still to be asked
  pub alone : is_sound here ≡ true → (here.is_open ≡ 0 → ⊥) → met ≡ false → sound (drop slot row) ≡ sound (drop (slot + 1) row)
  alone good opened none =
      rw (sound_from row slot within)
      (leaves (is_sound here) (is_open here) met (sound (drop (slot + 1) row)) good (rw (ne_eqb here.is_open 0 opened, none)))
