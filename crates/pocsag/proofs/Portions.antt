-- Words heard in portions: `hear`, given the rest of the words again and again, tells the pages of the run.
use Prim.Native.Nat.{ℕ, suc, ◌+◌}
use mathlib.Core.Bool.{Bool, true, false, not, ◌&&◌}
use mathlib.Core.List.{List, [], ◌∷◌, ◌++◌, append_assoc}
use mathlib.Core.Logic.{⊎_elim}
use mathlib.Core.Path.{◌≡◌, refl, sym, ap, ◌∙◌}
use native.Mathlib.Omega.{arith}
use lib.Dec.{eqb}
use lib.ListN.{length, take, drop}
use Rattle.laws.specs.Choice.{pick}
use Rattle.laws.proofs.Tests.{decided, not_both}
use Rattle.pocsag.specs.declared.Meaning.{Meaning}
use Rattle.pocsag.specs.declared.Meaning.TheVariants as means
use Rattle.pocsag.specs.declared.PocsagReader.{PocsagReader}
use Rattle.pocsag.specs.declared.PocsagPage.{PocsagPage}
use Rattle.pocsag.specs.declared.PocsagHeard.{PocsagHeard}
use Rattle.pocsag.specs.Batches.{StepTold}
use Rattle.pocsag.specs.Mending.{mended_of, as_mended}
use Rattle.pocsag.specs.Batches.{meaning_of, page_ended, lent_after}
use Rattle.pocsag.specs.Hearing.{step_of, stored_of, tells, heard_at, after, heard_of, lent_heard}
use Rattle.pocsag.specs.Runs.{Ended, pages_in, reader_in, memory_in, numbers_in}
use Rattle.pocsag.proofs.Rows.{stored_length, heard_told, heard_silent, lent_told, lent_silent}

-- a page that was told, with its message words in the lent memory; nothing where none was
abbrev pub told : PocsagPage → List ℕ → List Ended
told page memory = pick (eqb page.is_ended 0) [] (record { page = page; message = take page.words memory } ∷ [])

-- a word at which a page ends leaves the lent memory as it was
end_stores_nothing : (r : PocsagReader) (meaning : Meaning) (lent : List ℕ) → eqb (page_ended (length lent) r meaning).is_ended 0 ≡ false
    → lent_after r meaning lent ≡ lent
end_stores_nothing r means.Sync lent ended = refl
end_stores_nothing r means.SyncDamaged lent ended = refl
end_stores_nothing r means.SyncMissing lent ended = refl
end_stores_nothing r means.SyncEarly lent ended = refl
end_stores_nothing r means.Damaged lent ended = refl
end_stores_nothing r means.Idle lent ended = refl
end_stores_nothing r (means.Address address function) lent ended = refl
end_stores_nothing r (means.Message bits) lent ended = absurd (not_both true refl ended)

-- one word of a run: what is told of it, and the run after it
one_word : (r : PocsagReader) (lent : List ℕ) (word : ℕ) (words : List ℕ)
    → pages_in r lent (word ∷ words)
    ≡ told (step_of (length lent) r word).page (stored_of r word lent) ++ pages_in (step_of (length lent) r word).reader (stored_of r word lent) words
unfolding pages_in
one_word r lent word words =
    by_end (eqb (step_of (length lent) r word).page.is_ended 0) (step_of (length lent) r word).page _
    (end_stores_nothing r (meaning_of r.left (as_mended (mended_of word))) lent)
  where
    by_end : (none : Bool) (page : PocsagPage) (later : List Ended) → (none ≡ false → stored_of r word lent ≡ lent)
        → pick none later (record { page = page; message = take page.words lent } ∷ later)
        ≡ pick none [] (record { page = page; message = take page.words (stored_of r word lent) } ∷ []) ++ later
    by_end true page later same = refl
    by_end false page later same = ap (λ (row : List ℕ). record { page = page; message = take page.words row } ∷ later) (sym (same refl))

-- a word that has nothing to tell ends no page
silent_none : (s : StepTold) (memory : List ℕ) → tells s ≡ false → told s.page memory ≡ []
silent_none s memory = by_tests (eqb s.number 0) (eqb s.page.is_ended 0) _
  where
    by_tests : (a b : Bool) (page : List Ended) → not (a && b) ≡ false → pick b [] page ≡ []
    by_tests true true page e = refl
    by_tests true false page e = absurd (not_both true refl e)
    by_tests false b page e = absurd (not_both true refl e)

-- after a row that was heard, the pages of the run are the one that was told, if any, and those of the words that were not taken
pub heard_pages : (words : List ℕ) (r : PocsagReader) (lent : List ℕ)
    → pages_in r lent words
    ≡ told (heard_of (length lent) r words).page (lent_heard r lent words)
    ++ pages_in (heard_of (length lent) r words).reader (lent_heard r lent words) (drop (heard_of (length lent) r words).taken words)
unfolding heard_of lent_heard pages_in
heard_pages [] r lent = refl
heard_pages (word ∷ words) r lent =
    ⊎_elim
    (λ here.
    one_word r lent word words
    ∙ sym
    (ap (λ (h : PocsagHeard). ran h (lent_heard r lent (word ∷ words))) (heard_told (length lent) r word words here)
    ∙ ap (ran (heard_at (step_of (length lent) r word))) (lent_told r lent word words here)))
    (λ here.
    let next = (step_of (length lent) r word).reader in
    let stored = stored_of r word lent in
    let same : length stored ≡ length lent = stored_length r (meaning_of r.left (as_mended (mended_of word))) lent in
    let later = heard_of (length lent) next words in
    let fewer : words_after_lem (1 + later.taken) ≡ drop later.taken words = one_fewer later.taken in
    one_word r lent word words
    ∙ ap (λ (row : List Ended). row ++ pages_in next stored words) (silent_none (step_of (length lent) r word) stored here)
    ∙ heard_pages words next stored
    ∙ ap (λ (n : ℕ). told (heard_of n next words).page (lent_heard next stored words)
    ++ pages_in (heard_of n next words).reader (lent_heard next stored words) (drop (heard_of n next words).taken words)) same
    ∙ ap (λ (row : List ℕ). told later.page (lent_heard next stored words) ++ pages_in later.reader (lent_heard next stored words) row) (sym fewer)
    ∙ sym
    (ap (λ (h : PocsagHeard). ran h (lent_heard r lent (word ∷ words))) (heard_silent (length lent) r word words here)
    ∙ ap (ran (after 1 later)) (lent_silent r lent word words here)))
    (decided (tells (step_of (length lent) r word)))
  where
    words_after_lem : ℕ → List ℕ
    words_after_lem n = drop n (word ∷ words)

    ran : PocsagHeard → List ℕ → List Ended
    ran h memory = told h.page memory ++ pages_in h.reader memory (drop h.taken (word ∷ words))

    one_fewer : (n : ℕ) → words_after_lem (1 + n) ≡ drop n words
    one_fewer n = let next : 1 + n ≡ suc n = omega arith in rw next

-- a row that is divided anywhere: the pages, the numbers and where the reading stands are those of the undivided row
pub divided_alike : (first second : List ℕ) (r : PocsagReader) (lent : List ℕ) → let reader = reader_in r lent first in let memory = memory_in r lent first in
    (pages_in r lent (first ++ second) ≡ pages_in r lent first ++ pages_in reader memory second)
    × (numbers_in r lent (first ++ second) ≡ numbers_in r lent first ++ numbers_in reader memory second)
    × (reader_in r lent (first ++ second) ≡ reader_in reader memory second) × (memory_in r lent (first ++ second) ≡ memory_in reader memory second)
unfolding pages_in numbers_in reader_in memory_in
divided_alike [] second r lent = (refl, refl, refl, refl)
divided_alike (word ∷ first) second r lent =
    let s = step_of (length lent) r word in
    let stored = stored_of r word lent in
    let later = divided_alike first second s.reader stored in (
      one_word r lent word (first ++ second)
          ∙ ap (λ (row : List Ended). told s.page stored ++ row) later.0
          ∙ sym (append_assoc (told s.page stored) (pages_in s.reader stored first) _)
          ∙ ap (λ (row : List Ended). row ++ pages_in (reader_in s.reader stored first) (memory_in s.reader stored first) second)
          (sym (one_word r lent word first)),
      ap (λ (row : List ℕ). s.number ∷ row) later.1,
      later.2,
      later.3,
    )
