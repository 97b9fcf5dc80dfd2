-- What is written, piece by piece.
use Prim.Native.Nat.{ℕ, ◌≤◌, ◌<◌}
use mathlib.Core.Bool.{Bool, true, false, ◌&&◌}
use mathlib.Core.Path.{◌≡◌, refl, sym, ◌∙◌}
use mathlib.Core.List.{List, [], ◌∷◌, ◌++◌, append-nil}
use native.Mathlib.Omega.{arith}
use lib.Dec.{leb}
use lib.ListN.{length, length-append}
use borrow.Author.Tests.{ne_eqb}
use Rattle.laws.proofs.Writing.{put_nothing, put_after}
use Rattle.std.specs.Prelude.{Result}
use Rattle.refusal.specs.declared.Refusal.{Refusal}
use Rattle.lister.specs.Stands.{stand}
use Rattle.lister.specs.Texts.{Answered, Wrote}
use Rattle.lister.specs.Verdicts.{verdict_of}
use Rattle.lister.specs.Lines.{shown_byte}
use Rattle.lister.specs.Portions.{kept, held_bytes, held_shown, writes, closed_text, closes}

-- the same text by another name
pub wrote_same : (buffer : List ℕ) (place : ℕ) (text other : List ℕ) (end : ℕ) (after : List ℕ) → text ≡ other
    → Wrote buffer place text end after → Wrote buffer place other end after
wrote_same buffer place text other end after e w = rw e at w

-- nothing written
pub wrote_none : (buffer : List ℕ) (place : ℕ) → Wrote buffer place [] place buffer
wrote_none buffer place = record { ends = omega arith; holds = sym (put_nothing buffer place) }

-- a text, and one right after it
pub wrote_then : (buffer : List ℕ) (place : ℕ) (text more : List ℕ) (middle end : ℕ) (between after : List ℕ)
    → place ≤ length buffer → Wrote buffer place text middle between → Wrote between middle more end after → Wrote buffer place (text ++ more) end after
wrote_then buffer place text more middle end between after within first second =
    record {
      ends = omega (arith, first.ends, second.ends, length-append text more);
      holds = second.holds ∙ rw (first.holds, first.ends) (put_after buffer text more place within);
    }

module _ (byte : ℕ) where
  -- any other printable byte
  pub shown_plain : (byte ≡ 92 → ⊥) → (leb 32 byte && leb byte 126) ≡ true → byte ∷ [] ≡ shown_byte byte
  shown_plain other e = rw (ne_eqb byte 92 other, e)

-- a carriage return that was held back is shown as four bytes
pub held_length : (held : Bool) → length (held_shown held) ≤ 4
held_length true = omega arith
held_length false = omega arith

module _ (text : List ℕ) (held : Bool) (byte : ℕ) where
  -- what a line feed writes
  pub writes_line : byte ≡ 10 → verdict_of text ≡ writes (stand text held) byte
  unfolding writes
  writes_line e = rw e

  -- a carriage return
  pub writes_held : byte ≡ 13 → held_shown held ≡ writes (stand text held) byte
  unfolding writes
  writes_held e = rw e (sym (append-nil (held_shown held)))

  -- any other byte
  pub writes_byte : (byte ≡ 10 → ⊥) → (byte ≡ 13 → ⊥) → held_shown held ++ shown_byte byte ≡ writes (stand text held) byte
  unfolding writes
  writes_byte no_feed no_return = rw (ne_eqb byte 10 no_feed, ne_eqb byte 13 no_return)

module _ (text : List ℕ) (held : Bool) (whole : List ℕ) (is_whole : whole ≡ kept (text ++ held_bytes held)) where
  -- nothing is closed where no byte is kept
  pub closes_none : whole ≡ [] → [] ≡ closes (stand text held)
  unfolding closes
  closes_none none = rw (← is_whole, none)

  -- the end of a line that has a byte
  pub closes_some : 0 < length whole → held_shown held ++ verdict_of whole ≡ closes (stand text held)
  unfolding closes
  closes_some some = rw (← is_whole) (by_bytes whole some)
    where
      by_bytes : (whole : List ℕ) → 0 < length whole → held_shown held ++ verdict_of whole ≡ closed_text whole held
      by_bytes [] some = absurd (omega arith)
      by_bytes (b ∷ whole) some = refl

-- the same text, answered by another name
pub answered_same : (buffer text other : List ℕ) (written : Result ℕ Refusal) (after : List ℕ) → text ≡ other
    → Answered buffer text written after → Answered buffer other written after
answered_same buffer text other written after e a = rw e at a
