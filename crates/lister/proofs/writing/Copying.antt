-- A text written at the start of a buffer, or refused.
use Prim.Native.Nat.{ℕ, ◌≤◌, ◌<◌}
use mathlib.Core.Path.{◌≡◌}
use mathlib.Core.List.{List}
use native.Mathlib.Omega.{arith}
use lib.ListN.{length}
use borrow.Author.Tests.{lt-ltb, le-ltb}
use Rattle.std.specs.Prelude.{Ok, Err}
use Rattle.refusal.specs.declared.Refusal.TheVariants.{Room}
use Rattle.lister.specs.Texts.{Answered, Wrote}

module _ (buffer text : List ℕ) where
  -- a buffer that is shorter than the text
  pub room_lacks : length buffer < length text → Answered buffer text (Err Room) buffer
  room_lacks short = record { tells = rw (lt-ltb _ _ short); holds = rw (lt-ltb _ _ short) }

  -- a buffer in which it was written
  pub room_there : (n : ℕ) (after : List ℕ) → length text ≤ length buffer → Wrote buffer 0 text n after → Answered buffer text (Ok n) after
  room_there n after fits w =
      let long : n ≡ length text = omega (arith, w.ends) in
      record { tells = rw (le-ltb _ _ fits, long); holds = rw (le-ltb _ _ fits) w.holds }
