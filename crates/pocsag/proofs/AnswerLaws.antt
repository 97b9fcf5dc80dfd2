-- An answer's telling is its own: one telling, one answer to `read` and to `read_as`.
use Rattle.std.specs.Prelude.{Result}
use Prim.Native.Nat.{ℕ}
use mathlib.Core.List.{List}
use mathlib.Core.Path.{◌≡◌, ap}
use lib.ListN.{get_or}
use Rattle.refusal.specs.declared.Refusal.{Refusal}
use Rattle.refusal.specs.Told.{told_by}
use Rattle.refusal.proofs.Laws.{told_by_tells}
use Rattle.pocsag.specs.declared.TextRead.{TextRead}
use Rattle.pocsag.specs.Texts.{text_values}

-- two texts with the same values are the same
values_tell : (a b : TextRead) → text_values a ≡ text_values b → a ≡ b
values_tell a b e = ap (λ (values : List ℕ). record { characters = get_or values 0 0; fill_at_end = get_or values 1 0 }) e

-- one telling, one answer to `read` and to `read_as`
pub text_tells : (a b : Result TextRead Refusal) → told_by text_values a ≡ told_by text_values b → a ≡ b
text_tells a b = told_by_tells text_values values_tell a b
