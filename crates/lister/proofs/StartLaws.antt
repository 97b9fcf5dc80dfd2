-- An answer to a text that was written, or refused, is one answer.
use Prim.Native.Nat.{ℕ, ◌≤◌}
use mathlib.Core.Bool.{Bool, true, false}
use mathlib.Core.Path.{◌≡◌, refl, sym, ap, ◌∙◌}
use mathlib.Core.List.{List, [], ◌∷◌}
use native.Mathlib.Omega.{arith}
use lib.Dec.{ltb}
use lib.ListN.{length, get_or}
use borrow.Author.Tests.{ltb-false, le-ltb}
use Rattle.std.specs.Prelude.{Result, Ok, Err}
use Rattle.refusal.specs.declared.Refusal.{Refusal}
use Rattle.refusal.specs.declared.Refusal.TheVariants.{Room}
use Rattle.refusal.specs.Told.{given, ask}
use Rattle.refusal.proofs.Laws.{told_values, given_not_refused, refused_tells}
use Rattle.lister.specs.Texts.{header, told_written, Answered}

-- a length or a refusal is told as itself alone
pub written_tells : (a b : Result ℕ Refusal) → told_written a ≡ told_written b → a ≡ b
written_tells (Ok n) (Ok m) e = ap (λ (k : ℕ). Ok k) (ap (λ (values : List ℕ). get_or values 0 0) (ap told_values e))
written_tells (Ok n) (Err r) e = absurd (given_not_refused (n ∷ []) r e)
written_tells (Err r) (Ok m) e = absurd (given_not_refused (m ∷ []) r (sym e))
written_tells (Err r) (Err q) e = ap (λ (k : Refusal). Err k) (refused_tells r q e)

-- a length that is told lies within the buffer
pub told_within : (buffer text : List ℕ) (written : Result ℕ Refusal) (after : List ℕ) (n : ℕ)
    → Answered buffer text written after → written ≡ Ok n → n ≤ length buffer
told_within buffer text written after n a e = by_test (ltb (length buffer) (length text)) refl (ap told_written (sym e) ∙ a.tells)
  where
    by_test : (b : Bool) → ltb (length buffer) (length text) ≡ b → given (n ∷ []) ≡ ask b Room (given (length text ∷ [])) → n ≤ length buffer
    by_test true h f = absurd (given_not_refused (n ∷ []) Room f)
    by_test false h f =
        let same : n ≡ length text = ap (λ (values : List ℕ). get_or values 0 0) (ap told_values f) in
        omega (arith, ltb-false (length buffer) (length text) h)

-- `close` and `title` have one answer, and leave one buffer
pub answered_one : (buffer text : List ℕ) (a b : Result ℕ Refusal) (after other : List ℕ) → Answered buffer text a after
    → Answered buffer text b other → (a ≡ b) × (after ≡ other)
answered_one buffer text a b after other p q = (written_tells a b (p.tells ∙ sym q.tells), p.holds ∙ sym q.holds)

-- the first line has 42 bytes
pub title_length : length header ≡ 42
unfolding header
title_length = refl

-- a text for which there is room is written
pub answered_ok : (buffer text : List ℕ) (answer : Result ℕ Refusal) (after : List ℕ) → length text ≤ length buffer
    → Answered buffer text answer after → answer ≡ Ok (length text)
answered_ok buffer text answer after fits a =
    let given : told_written answer ≡ told_written (Ok (length text)) = rw (le-ltb _ _ fits) at a.tells in
    written_tells answer (Ok (length text)) given
