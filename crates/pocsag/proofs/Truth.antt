-- A page that is handed out is what the words said: nothing is left out of it, nothing is put into it, and no word of it was beyond repair.
use Prim.Native.Nat.{ℕ, ◌+◌, ◌-◌, ◌≤◌, ◌<◌}
use mathlib.Core.Bool.{Bool, true, false, not, ◌&&◌, ◌||◌}
use mathlib.Core.List.{List, [], ◌∷◌, ◌++◌}
use mathlib.Core.Path.{◌≡◌, refl, sym, ap, ◌∙◌}
use native.Mathlib.Numerals.{add-one}
use native.Mathlib.Omega.{arith}
use borrow.Author.Tests.{eq-eqb, ltb-true}
use lib.Dec.{ltb, eqb}
use lib.ListN.{length, take, set, length-set}
use lib.Seq.{get_or-set_same, take-suc, take-set-le}
use Rattle.laws.specs.Choice.{pick}
use Rattle.laws.proofs.Tests.{not_both}
use Rattle.refusal.specs.declared.Refusal.TheVariants as refusals
use Rattle.refusal.specs.Told.{given}
use Rattle.refusal.proofs.Laws.{passed}
use Rattle.pocsag.specs.declared.Meaning.{Meaning}
use Rattle.pocsag.specs.declared.Meaning.TheVariants as means
use Rattle.pocsag.specs.declared.PocsagReader.{PocsagReader}
use Rattle.pocsag.specs.Mending.{mended_of, as_mended}
use Rattle.pocsag.specs.Batches.{is_whole, meaning_of, no_page, page_number, page_with, page_of, page_ended}
use Rattle.pocsag.specs.Batches.{faulty_at, moved_to, grown_at, reader_after, lent_after}
use Rattle.pocsag.specs.Hearing.{step_of, stored_of}
use Rattle.pocsag.specs.Runs.{Ended, pages_in, Said, nothing, whole, said_more, said_after, pages_said, Truthful}
use Rattle.pocsag.proofs.Rows.{stored_length}

-- where a page is open and whole, the lent memory has what the words said of it
pub Truly : Said → PocsagReader → List ℕ → Type 0
Truly said r lent = is_whole r ≡ true → (said ≡ whole r.address r.function (take r.words lent)) × (r.words ≤ length lent)

-- a page with a fault is not whole
faulty_not : (is_open fault : ℕ) → eqb fault 0 ≡ false → (not (eqb is_open 0) && eqb fault 0) ≡ false
faulty_not is_open fault is = rw is (and-false (not (eqb is_open 0)))
  where
    and-false : (b : Bool) → (b && false) ≡ false
    and-false true = refl
    and-false false = refl

-- a word beyond repair leaves no page whole
damaged_truly : (left : ℕ) (r : PocsagReader) (lent : List ℕ) (so : Bool) → is_whole r ≡ so
    → Truly nothing (pick so (faulty_at left 25 r) (moved_to left r)) lent
unfolding Truly
damaged_truly left r lent true is claims = absurd (not_both _ claims (faulty_not r.is_open 25 refl))
damaged_truly left r lent false is claims = absurd (not_both (is_whole r) claims is)

-- a message word is added to what was said, or the page is no longer whole
message_truly : (said : Said) (left bits message : ℕ) (r : PocsagReader) (lent : List ℕ) (so room : Bool) → is_whole r ≡ so → ltb r.words (length lent) ≡ room
    → Truly said r lent
    → Truly (said_more said message) (pick so (pick room (grown_at left bits r) (faulty_at left 15 r)) (moved_to left r))
    (pick (so && room) (set lent r.words message) lent)
unfolding Truly
message_truly said left bits message r lent true true is fits true-so-far claims =
    let within : r.words < length lent = ltb-true r.words (length lent) fits in
    let more : take (r.words + 1) (set lent r.words message) ≡ take r.words lent ++ message ∷ [] =
    rw (add-one r.words)
    (take-suc (set lent r.words message) r.words 0 (simp length-set within)
    ∙ rw (take-set-le r.words lent r.words message (omega arith), get_or-set_same lent r.words message 0 within)) in (
      ap (λ (s : Said). said_more s message) (true-so-far is).0
          ∙ ap (whole r.address r.function) (sym more),
      simp length-set (omega (arith, within)),
    )
message_truly said left bits message r lent true false is fits true-so-far claims = absurd (not_both _ claims (faulty_not r.is_open 15 refl))
message_truly said left bits message r lent false room is fits true-so-far claims = absurd (not_both (is_whole r) claims is)

-- each word keeps it so
pub truly_on : (said : Said) (r : PocsagReader) (lent : List ℕ) (bits : ℕ) (meaning : Meaning) → Truly said r lent
    → Truly (said_after said meaning) (reader_after (length lent) bits r meaning) (lent_after r meaning lent)
unfolding Truly
truly_on said r lent bits means.Sync so = so
truly_on said r lent bits means.SyncDamaged so = λ claims. absurd (not_both false claims refl)
truly_on said r lent bits means.SyncMissing so = λ claims. absurd (not_both false claims refl)
truly_on said r lent bits means.SyncEarly so = λ claims. absurd (not_both false claims refl)
truly_on said r lent bits means.Damaged so = damaged_truly (r.left - 1) r lent (is_whole r) refl
truly_on said r lent bits means.Idle so = λ claims. absurd (not_both false claims refl)
truly_on said r lent bits (means.Address address function) so = λ claims. (refl, omega arith)
truly_on said r lent bits (means.Message message) so =
    message_truly said (r.left - 1) bits message r lent (is_whole r) (ltb r.words (length lent)) refl refl so

-- an open page that ends and is handed out is whole
ended_whole : (heard : Bool) (room : ℕ) (r : PocsagReader) → eqb r.is_open 0 ≡ false → page_number heard room r ≡ 0 → is_whole r ≡ true
ended_whole heard room r begun none =
    let fault = passed (not (eqb r.fault 0) && not (eqb r.fault 15)) refusals.BeyondRepair _ none in
    let end = passed (not heard) refusals.NoSync _ fault.1 in
    let long = passed (eqb r.fault 15 || ltb room r.words) refusals.TooLong (given []) end.1 in
    rw (begun, no_fault (eqb r.fault 0) (eqb r.fault 15) fault.0 (first_fails (eqb r.fault 15) (ltb room r.words) long.0))
  where
    first_fails : (a b : Bool) → (a || b) ≡ false → a ≡ false
    first_fails false b e = refl
    first_fails true b e = e

    no_fault : (a b : Bool) → (not a && not b) ≡ false → b ≡ false → a ≡ true
    no_fault true b e f = refl
    no_fault false b e f = absurd (not_both (not b) (rw f) e)

-- a page that is handed out is what was said of it
page_said : (said : Said) (heard : Bool) (r : PocsagReader) (lent : List ℕ) → Truly said r lent
    → eqb (page_of heard (length lent) r).is_ended 0 ≡ false → (page_of heard (length lent) r).number ≡ 0
    → let page = page_of heard (length lent) r in said ≡ whole page.address page.function (take page.words lent)
unfolding Truly
page_said said heard r lent so = by_open (eqb r.is_open 0) refl
  where
    by_open : (none : Bool) → eqb r.is_open 0 ≡ none
        → let page = pick none no_page (page_with (page_number heard (length lent) r) r) in
        eqb page.is_ended 0 ≡ false → page.number ≡ 0 → said ≡ whole page.address page.function (take page.words lent)
    by_open true e ended none = absurd (not_both true refl ended)
    by_open false e ended none = (so (ended_whole heard (length lent) r e none)).0

-- whatever word ended it
handed_said : (said : Said) (r : PocsagReader) (lent : List ℕ) (meaning : Meaning) → Truly said r lent
    → eqb (page_ended (length lent) r meaning).is_ended 0 ≡ false → (page_ended (length lent) r meaning).number ≡ 0
    → let page = page_ended (length lent) r meaning in said ≡ whole page.address page.function (take page.words lent)
handed_said said r lent means.Sync so ended none = absurd (not_both true refl ended)
handed_said said r lent means.SyncDamaged so ended none = page_said said false r lent so ended none
handed_said said r lent means.SyncMissing so ended none = page_said said false r lent so ended none
handed_said said r lent means.SyncEarly so ended none = page_said said false r lent so ended none
handed_said said r lent means.Damaged so ended none = absurd (not_both true refl ended)
handed_said said r lent means.Idle so ended none = page_said said true r lent so ended none
handed_said said r lent (means.Address address function) so ended none = page_said said true r lent so ended none
handed_said said r lent (means.Message bits) so ended none = absurd (not_both true refl ended)

-- each page of a run that is handed out is what the words said, wherever the run begins with the truth
pub run_truthful : (words : List ℕ) (said : Said) (r : PocsagReader) (lent : List ℕ) → Truly said r lent
    → Truthful (pages_in r lent words) (pages_said said (length lent) r words)
unfolding pages_in pages_said
run_truthful [] said r lent so = tt
run_truthful (word ∷ words) said r lent so =
    let meaning = meaning_of r.left (as_mended (mended_of word)) in
    let next = (step_of (length lent) r word).reader in
    let after = truly_on said r lent (as_mended (mended_of word)).bits meaning so in
    let later : Truthful (pages_in next (stored_of r word lent) words) (pages_said (said_after said meaning) (length lent) next words) =
    rw (stored_length r meaning lent) at (run_truthful words (said_after said meaning) next (stored_of r word lent) after) in
    with_page (eqb (page_ended (length lent) r meaning).is_ended 0)
    (record { page = page_ended (length lent) r meaning; message = take (page_ended (length lent) r meaning).words lent }) said _ _ later
    (handed_said said r lent meaning so)
  where
    with_page : (none : Bool) (ended : Ended) (said : Said) (pages : List Ended) (row : List Said) → Truthful pages row
        → (none ≡ false → ended.page.number ≡ 0 → said ≡ whole ended.page.address ended.page.function ended.message)
        → Truthful (pick none pages (ended ∷ pages)) (pick none row (said ∷ row))
    with_page true ended said pages row later here = later
    with_page false ended said pages row later here = (here refl, later)

-- with no page open, as at the start, nothing has been said
pub truth_starts : (r : PocsagReader) (lent : List ℕ) → r.is_open ≡ 0 → Truly nothing r lent
unfolding Truly
truth_starts r lent closed claims = absurd (not_both (is_whole r) claims (rw (eq-eqb r.is_open 0 closed)))
