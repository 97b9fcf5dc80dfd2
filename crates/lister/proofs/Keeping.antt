-- What is kept of a line, byte by byte.
use Prim.Native.Nat.{ℕ, ◌+◌, ◌≤◌, ◌<◌}
use mathlib.Core.Bool.{Bool, true, false}
use mathlib.Core.Path.{◌≡◌, sym, ◌∙◌}
use mathlib.Core.List.{List, [], ◌∷◌, ◌++◌, append-nil}
use native.Mathlib.Numerals.{add-one}
use native.Mathlib.Omega.{arith}
use lib.ListN.{length, take, set, length-take, length-append}
use lib.Seq.{take_all, take-append-le, take-suc-set, length-take-le}
use borrow.Author.Tests.{ne_eqb}
use Rattle.laws.proofs.Writing.{take_joined}
use Rattle.lister.specs.Stands.{stand, fresh}
use Rattle.lister.specs.Portions.{kept, held_bytes, next}

module _ (line : List ℕ) (count : ℕ) (sixteen : length line ≡ 16) where
  -- of a full line one byte more changes nothing
  pub keep_full : (byte : ℕ) → 16 ≤ count → take count line ≡ kept (take count line ++ byte ∷ [])
  unfolding kept
  keep_full byte full =
      let all : take count line ≡ line = take_all count line (omega arith) in
      rw all (sym (take-append-le 16 line (byte ∷ []) (omega arith) ∙ take_all 16 line (omega arith)))

  -- a byte more of a line that is not full
  pub keep_more : (byte : ℕ) → count < 16 → take (count + 1) (set line count byte) ≡ kept (take count line ++ byte ∷ [])
  unfolding kept
  keep_more byte room =
      let within : count < length line = omega arith in
      let few : length (take count line ++ byte ∷ []) ≤ 16 =
      omega (arith, length-append (take count line) (byte ∷ []), length-take-le count line (omega arith)) in
      rw add-one (take-suc-set line count byte within ∙ sym (take_all 16 (take count line ++ byte ∷ []) few))

  -- what is kept is kept
  pub keep_none : take count line ≡ kept (take count line ++ [])
  unfolding kept
  keep_none = rw append-nil (sym (take_all 16 (take count line) (omega (arith, length-take count line))))

module _ (text : List ℕ) (held : Bool) (byte : ℕ) where
  -- where the listing stands after a line feed
  pub next_line : byte ≡ 10 → fresh ≡ next (stand text held) byte
  unfolding next
  next_line feed = rw feed

  -- where the listing stands after a carriage return
  pub next_held : (before : List ℕ) → byte ≡ 13 → before ≡ kept (text ++ held_bytes held) → stand before true ≡ next (stand text held) byte
  unfolding next
  next_held before return e = rw (return, e)

  -- where the listing stands after any other byte
  pub next_kept : (before after : List ℕ) → (byte ≡ 10 → ⊥) → (byte ≡ 13 → ⊥)
      → before ≡ kept (text ++ held_bytes held) → after ≡ kept (before ++ byte ∷ [])
      → stand after false ≡ next (stand text held) byte
  unfolding next kept
  next_kept before after no_feed no_return e f =
      let joined : after ≡ kept (text ++ held_bytes held ++ byte ∷ []) = f ∙ rw e (take_joined 16 (text ++ held_bytes held) (byte ∷ [])) in
      rw (ne_eqb byte 10 no_feed, ne_eqb byte 13 no_return, joined)
