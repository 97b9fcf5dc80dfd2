-- A byte that the listing shows as it is, where no carriage return is held back.
use Prim.Native.Nat.{ℕ, ◌+◌, ◌≤◌, ◌<◌}
use mathlib.Core.Bool.{Bool, true, false, not, ◌&&◌}
use mathlib.Core.Path.{◌≡◌, refl, sym, ◌∙◌}
use mathlib.Core.List.{List, [], ◌∷◌, ◌++◌}
use native.Mathlib.Omega.{arith}
use lib.Dec.{leb, eqb}
use lib.ListN.{length, set}
use borrow.Author.Tests.{leb-true, eq-eqb}
use Rattle.laws.proofs.Tests.{first_of, second_of}
use Rattle.laws.proofs.Writing.{put_one}
use Rattle.lister.specs.Stands.{stand, kept_of}
use Rattle.lister.specs.declared.Fed.{Fed}
use Rattle.lister.specs.declared.Lister.{Lister}
use Rattle.lister.specs.Portions.{kept, as_it_is, writes, next, FedByte}
use Rattle.lister.proofs.Writes.{shown_plain, writes_byte}
use Rattle.lister.proofs.Keeping.{keep_none, next_kept}

-- what is not is false
pub is_not : (held : Bool) → not held ≡ true → held ≡ false
is_not true e = sym e
is_not false e = refl

module _ (byte : ℕ) (e : as_it_is byte ≡ true) where
  printable : (leb 32 byte && leb byte 126) ≡ true
  printable = first_of (leb 32 byte && leb byte 126) (not (eqb byte 92)) e

  from_32 : 32 ≤ byte
  from_32 = leb-true 32 byte (first_of (leb 32 byte) (leb byte 126) printable)

  no_slash : byte ≡ 92 → ⊥
  no_slash slash =
      let other : eqb byte 92 ≡ false = is_not (eqb byte 92) (second_of (leb 32 byte && leb byte 126) (not (eqb byte 92)) e) in
      let same : eqb byte 92 ≡ true = eq-eqb byte 92 slash in
      let no : ◌≡◌ {A = ℕ} 0 1 = cc in
      absurd (omega arith)

  no_feed : byte ≡ 10 → ⊥
  no_feed feed = omega (arith, from_32)

  no_return : byte ≡ 13 → ⊥
  no_return return = omega (arith, from_32)

  -- a byte that is shown as it is writes itself
  pub writes_itself : (text : List ℕ) → byte ∷ [] ≡ writes (stand text false) byte
  writes_itself text = shown_plain byte no_slash printable ∙ writes_byte text false byte no_feed no_return

  -- the line keeps a byte that is shown as it is
  pub stands_after : (text after : List ℕ) → text ≡ kept (text ++ []) → after ≡ kept (text ++ byte ∷ []) → stand after false ≡ next (stand text false) byte
  stands_after text after same more = next_kept text false byte text after no_feed no_return same more

-- the whole of what it does
pub fed_as_it_is : (before : Fed) (buffer : List ℕ) (byte : ℕ) (lister : Lister)
    → length before.lister.line ≡ 16 → before.written < length buffer → (as_it_is byte && not before.lister.held) ≡ true
    → kept_of lister ≡ kept (kept_of before.lister ++ byte ∷ []) → lister.held ≡ before.lister.held
    → FedByte before buffer byte (record {
      lister = lister;
      taken = before.taken + 1;
      written = before.written + 1;
    }) (set buffer before.written byte)
fed_as_it_is before buffer byte lister sixteen within plain more same =
    let e : as_it_is byte ≡ true = first_of (as_it_is byte) (not before.lister.held) plain in
    let none : before.lister.held ≡ false = is_not before.lister.held (second_of (as_it_is byte) (not before.lister.held) plain) in
    let text = kept_of before.lister in
    record {
      taken = refl;
      stands = rw (same, none) (stands_after byte e text (kept_of lister) (keep_none before.lister.line before.lister.count sixteen) more);
      wrote = rw (none, ← writes_itself byte e text) (record { ends = refl; holds = put_one buffer before.written byte within });
    }
