-- A verdict as it is told, and what it says of its text.
use Prim.Native.Nat.{ℕ, ◌-◌}
use mathlib.Core.Bool.{Bool, true, false}
use mathlib.Core.Path.{◌≡◌, refl, sym, ap, ◌∙◌}
use mathlib.Core.List.{List, [], ◌∷◌, ◌++◌}
use native.Mathlib.Omega.{arith}
use borrow.Author.Tests.{eqb-true}
use lib.Dec.{eqb}
use lib.ListN.{length, replicate, length-append}
use lib.Seq.{take_at}
use Rattle.laws.specs.Choice.{pick}
use Rattle.refusal.specs.Told.{Told, number_told}
use Rattle.capcode.specs.Reads.{read_of}
use Rattle.lister.specs.declared.Padded.{Padded}
use Rattle.lister.specs.declared.line_end.Verdict.{Verdict}
use Rattle.lister.specs.Texts.{Wrote}
use Rattle.lister.specs.Verdicts.{line_feed, verdict_by, verdict_of, padded, verdict_as, stands_after}
use Rattle.lister.proofs.line_end.LineEnds.{word, put_padded, Ended}

-- a refused text: what was written after the word is in its place, and so many bytes stand after the text
pub refused_told : (answer : Told) (more : List ℕ) (size : ℕ) (bytes : List ℕ) → Ended answer more → Wrote (padded word) 9 more size bytes
    → Verdict.Refused (record { bytes = bytes; size = size }) ≡ verdict_as answer
refused_told answer more size bytes ended wrote =
    let ends : size ≡ length (verdict_by answer ++ line_feed ∷ []) = wrote.ends ∙ sym (length-append word more) ∙ ap length ended.reads in
    let holds : bytes ≡ padded (verdict_by answer ++ line_feed ∷ []) =
    wrote.holds ∙ put_padded word more (omega (arith, ended.few)) ∙ ap padded ended.reads in
    rw (ended.refuses, ends, holds)

-- the bytes that a verdict tells are those that stand after the text
told_bytes : (answer : Told) → stands_after (verdict_as answer) ≡ verdict_by answer ++ line_feed ∷ []
told_bytes answer = by_test (eqb (number_told answer) 0) (verdict_by answer ++ line_feed ∷ [])
  where
    by_test : (accepted : Bool) (end : List ℕ)
        → stands_after (pick accepted (Verdict.Accepted end) (Verdict.Refused (record { bytes = padded end; size = length end }))) ≡ end
    by_test true end = refl
    by_test false end = take_at end (replicate (15 - length end) 0) (length end) refl

module _ (text : List ℕ) (v : Verdict) (told : v ≡ verdict_as (read_of text)) where
  -- the bytes that stand after the text
  pub end_of : stands_after v ≡ verdict_of text
  unfolding verdict_of
  end_of = ap stands_after told ∙ told_bytes (read_of text)

  -- an accepted text is one that is read
  pub number_of : (end : List ℕ) → v ≡ Verdict.Accepted end → number_told (read_of text) ≡ 0
  number_of end is = eqb-true (number_told (read_of text)) 0 (by_test (eqb (number_told (read_of text)) 0) _ _ (sym is ∙ told))
    where
      by_test : (accepted : Bool) (other : List ℕ) (ending : Padded 15) → Verdict.Accepted end ≡ pick accepted (Verdict.Accepted other) (Verdict.Refused ending)
          → accepted ≡ true
      by_test true other ending e = refl
      by_test false other ending e = cc
