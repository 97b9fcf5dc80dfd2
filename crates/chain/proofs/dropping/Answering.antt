-- The answer to a drop, by where its search ended.
use Prim.Native.Nat.{ℕ, ◌<◌}
use mathlib.Core.Bool.{Bool, true, false, not}
use mathlib.Core.List.{List, []}
use mathlib.Core.Path.{◌≡◌, refl}
use borrow.Author.Tests.{ltb-true}
use lib.ListN.{length}
use Rattle.std.specs.Prelude.{Option, Some, None, IfOk}
use Rattle.std.specs.Option.{ok_or}
use Rattle.laws.specs.Choice.{pick}
use Rattle.refusal.specs.declared.Refusal.TheVariants.{NoChain}
use Rattle.refusal.specs.Told.{given, ask, told_by}
use Rattle.chain.specs.declared.Chain.{Chain}
use Rattle.chain.specs.Chains.{found, find, holds}

module _ (row : List Chain) (address n : ℕ) where
  -- 13, or the slot of the key's chain
  pub searched : (slot : Option ℕ) → slot ≡ found row (find address n row)
      → (told_by (λ slot. []) (ok_or slot NoChain) ≡ ask (not (holds address n row)) NoChain (given []))
      × IfOk (ok_or slot NoChain) (λ slot. (slot ≡ find address n row) × (slot < length row))
  searched slot is = rw is (by_test (holds address n row) refl)
    where
      by_test : (held : Bool) → holds address n row ≡ held
          → (told_by (λ slot. []) (ok_or (pick held (Some (find address n row)) None) NoChain) ≡ ask (not held) NoChain (given []))
          × IfOk (ok_or (pick held (Some (find address n row)) None) NoChain) (λ slot. (slot ≡ find address n row) × (slot < length row))
      by_test true there = (refl, (refl, ltb-true (find address n row) (length row) there))
      by_test false none = (refl, tt)
