-- A text that is too long, and what is kept of it.
use Prim.Native.Nat.{ℕ, suc, ◌≤◌, ◌<◌}
use mathlib.Core.Bool.{Bool, true, false}
use mathlib.Core.Path.{◌≡◌, refl, sym, ap, ◌∙◌}
use mathlib.Core.List.{List, [], ◌∷◌, ◌++◌}
use native.Mathlib.Omega.{arith}
use lib.Dec.{leb}
use lib.ListN.{length, take, drop, take-append-drop}
use lib.Seq.{take_all, take-take, length-take-le}
use borrow.Author.Tests.{leb-true, leb-false}
use Rattle.refusal.specs.declared.Refusal.{Refusal}
use Rattle.refusal.specs.Told.{Told, refused_at}
use Rattle.std.specs.Prelude.{Result, Ok, Err}
use Rattle.capcode.specs.declared.Capcode.{Capcode}
use Rattle.capcode.specs.Reads.{form_of, fault_at, read_by, read_of}
use Rattle.capcode.proofs.Faults.{fault_within}
use Rattle.capcode.proofs.Laws.{said_length}
use Rattle.capcode.proofs.Places.{first_wrong, place_upto}
use Rattle.lister.specs.Verdicts.{line_feed, verdict_by, verdict_of}
use Rattle.lister.specs.Portions.{kept}

-- a text that is refused at a place within its first sixteen bytes
pub record RefusedEarly (text : List ℕ) : Type 0 where
  pub place : ℕ
  pub early : place ≤ 15
  pub tells : read_of text ≡ refused_at (fault_at text place) place

-- a text of sixteen bytes or more is not in the form, and goes wrong within its first sixteen bytes
pub too_long : (text : List ℕ) → 16 ≤ length text → RefusedEarly text
too_long text long = by_form (form_of text) refl
  where
    by_form : (form : Result Capcode ℕ) → form_of text ≡ form → RefusedEarly text
    by_form (Ok c) e = absurd (omega (arith, said_length text c e))
    by_form (Err place) e = record { place = place; early = place_upto text place e; tells = ap (read_by text) e }

-- sixteen bytes that go wrong at a place go wrong there whatever follows them
wrong_on : (text : List ℕ) (place : ℕ) → 16 < length text → form_of (take 16 text) ≡ Err place → form_of text ≡ Err place
wrong_on text place long e =
    let early = place_upto (take 16 text) place e in
    let within : place < length (take 16 text) = omega (arith, length-take-le 16 text (omega arith)) in
    let parts : take (suc place) (take 16 text) ++ drop (suc place) text ≡ text =
    ap (λ (l : List ℕ). l ++ drop (suc place) text) (take-take (suc place) 16 text (omega arith)) ∙ take-append-drop (suc place) text in
    ap form_of (sym parts) ∙ (first_wrong (take 16 text) place e).there within (drop (suc place) text)

-- the sixteen bytes that are kept of a text are read as the whole text is
pub kept_read : (text : List ℕ) → read_of (kept text) ≡ read_of text
unfolding kept
kept_read text = by_length (leb (length text) 16) refl
  where
    by_form : 16 < length text → (form : Result Capcode ℕ) → form_of (take 16 text) ≡ form → read_by (take 16 text) form ≡ read_of text
    by_form long (Ok c) e = absurd (omega (arith, said_length (take 16 text) c e, length-take-le 16 text (omega arith)))
    by_form long (Err place) e =
        let early = place_upto (take 16 text) place e in
        ap (λ (r : Refusal). refused_at r place) (fault_within text 16 place (omega arith) (omega arith)) ∙ sym (ap (read_by text) (wrong_on text place long e))

    by_length : (short : Bool) → leb (length text) 16 ≡ short → read_of (take 16 text) ≡ read_of text
    by_length true e = ap read_of (take_all 16 text (leb-true (length text) 16 e))
    by_length false e = by_form (leb-false (length text) 16 e) (form_of (take 16 text)) refl

-- the listing shows the same after the bytes that are kept as after the whole text
pub kept_verdict : (text : List ℕ) → verdict_of (kept text) ≡ verdict_of text
unfolding verdict_of
kept_verdict text = ap (λ (answer : Told). verdict_by answer ++ line_feed ∷ []) (kept_read text)
