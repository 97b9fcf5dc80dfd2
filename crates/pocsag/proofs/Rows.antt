-- Rows of words: one word after the other, and rows divided anywhere.
use Prim.Native.Nat.{ℕ, suc, ◌+◌, ◌≤◌, ◌<◌}
use mathlib.Core.Bool.{Bool, true, false, ◌&&◌}
use mathlib.Core.List.{List, [], ◌∷◌}
use mathlib.Core.Path.{◌≡◌, refl, sym, ap, ◌∙◌}
use native.Mathlib.Nat.{add_assoc, add-zero, zero-add}
use native.Mathlib.Numerals.{add-one}
use native.Mathlib.Omega.{arith}
use lib.Dec.{ltb}
use lib.ListN.{length, get_or, drop, set, length-set, drop_of_length-le}
use lib.Seq.{drop-cons}
use Rattle.laws.specs.Choice.{pick}
use Rattle.pocsag.specs.declared.Meaning.{Meaning}
use Rattle.pocsag.specs.declared.Meaning.TheVariants as means
use Rattle.pocsag.specs.declared.PocsagReader.{PocsagReader}
use Rattle.pocsag.specs.declared.PocsagHeard.{PocsagHeard}
use Rattle.pocsag.specs.Batches.{no_page, is_whole, meaning_of, lent_after}
use Rattle.pocsag.specs.Mending.{mended_of, as_mended}
use Rattle.pocsag.specs.Hearing.{step_of, stored_of, tells, heard_at, silent, after, heard_of, lent_heard}

-- a word keeps the lent memory's length
pub stored_length : (r : PocsagReader) (m : Meaning) (lent : List ℕ) → length (lent_after r m lent) ≡ length lent
stored_length r means.Sync lent = refl
stored_length r means.SyncDamaged lent = refl
stored_length r means.SyncMissing lent = refl
stored_length r means.SyncEarly lent = refl
stored_length r means.Damaged lent = refl
stored_length r means.Idle lent = refl
stored_length r (means.Address address function) lent = refl
stored_length r (means.Message bits) lent = by_room (is_whole r && ltb r.words (length lent))
  where
    by_room : (room : Bool) → length (pick room (set lent r.words bits) lent) ≡ length lent
    by_room true = simp length-set refl
    by_room false = refl

-- where a row of words stands after some of them, none of which had anything to tell
pub record Silent (reader : PocsagReader) (before words : List ℕ) (state : PocsagReader) (lent : List ℕ) (taken : ℕ) : Type 0 where
  pub few : taken ≤ length words
  pub same : length lent ≡ length before
  pub told : after taken (heard_of (length before) state (drop taken words)) ≡ heard_of (length before) reader words
  pub kept : lent_heard state lent (drop taken words) ≡ lent_heard reader before words

-- at first none is taken
pub silence_starts : (reader : PocsagReader) (before words : List ℕ) → Silent reader before words reader before 0
silence_starts reader before words =
    record { few = omega arith; same = refl; told = after_none (heard_of (length before) reader words); kept = refl }
  where
    after_none : (h : PocsagHeard) → after 0 h ≡ h
    after_none h = ap (λ (n : ℕ). record { number = h.number; taken = n; page = h.page; reader = h.reader }) (zero-add h.taken)

-- one word more before an answer
after_more : (n : ℕ) (h : PocsagHeard) → after n (after 1 h) ≡ after (n + 1) h
after_more n h = ap (λ (n : ℕ). record { number = h.number; taken = n; page = h.page; reader = h.reader }) (sym (add_assoc n 1 h.taken))

module _ (room : ℕ) (r : PocsagReader) (word : ℕ) (words : List ℕ) where
  -- a word that has something to tell ends the row
  pub heard_told : tells (step_of room r word) ≡ true → heard_of room r (word ∷ words) ≡ heard_at (step_of room r word)
  unfolding heard_of
  heard_told here = rw here

  -- after another the row goes on
  pub heard_silent : tells (step_of room r word) ≡ false → heard_of room r (word ∷ words) ≡ after 1 (heard_of room (step_of room r word).reader words)
  unfolding heard_of
  heard_silent here = rw here

module _ (r : PocsagReader) (lent : List ℕ) (word : ℕ) (words : List ℕ) where
  -- the lent memory after a word that has something to tell
  pub lent_told : tells (step_of (length lent) r word) ≡ true → lent_heard r lent (word ∷ words) ≡ stored_of r word lent
  unfolding lent_heard
  lent_told here = rw here

  -- and after another
  pub lent_silent : tells (step_of (length lent) r word) ≡ false
      → lent_heard r lent (word ∷ words) ≡ lent_heard (step_of (length lent) r word).reader (stored_of r word lent) words
  unfolding lent_heard
  lent_silent here = rw here

module _ (reader : PocsagReader) (before words : List ℕ) (state : PocsagReader) (lent : List ℕ) (taken : ℕ)
    (more : taken < length words) (so : Silent reader before words state lent taken) where
  -- the words from the next on
  next : drop taken words ≡ get_or words taken 0 ∷ drop (suc taken) words
  next = drop-cons words taken 0 more

  -- a word that has something to tell ends the row
  pub tells_here : tells (step_of (length lent) state (get_or words taken 0)) ≡ true
      → (after taken (heard_at (step_of (length lent) state (get_or words taken 0))) ≡ heard_of (length before) reader words)
      × (stored_of state (get_or words taken 0) lent ≡ lent_heard reader before words)
  tells_here here =
      let word = get_or words taken 0 in
      let rest = drop (suc taken) words in
      let told : heard_of (length lent) state (drop taken words) ≡ heard_at (step_of (length lent) state word) =
      ap (heard_of (length lent) state) next ∙ heard_told (length lent) state word rest here in (
        ap (after taken) (sym told ∙ ap (λ (n : ℕ). heard_of n state (drop taken words)) so.same) ∙ so.told,
        sym (lent_told state lent word rest here) ∙ ap (lent_heard state lent) (sym next) ∙ so.kept,
      )

  -- after a word that has nothing to tell the row goes on
  pub silence_goes_on : tells (step_of (length lent) state (get_or words taken 0)) ≡ false
      → Silent reader before words (step_of (length lent) state (get_or words taken 0)).reader (stored_of state (get_or words taken 0) lent) (taken + 1)
  silence_goes_on here =
      let word = get_or words taken 0 in
      let rest = drop (suc taken) words in
      let after-word = (step_of (length lent) state word).reader in
      let one_more : drop (taken + 1) words ≡ rest = ap (λ (n : ℕ). drop n words) (add-one taken) in
      let told : heard_of (length lent) state (drop taken words) ≡ after 1 (heard_of (length lent) after-word rest) =
      ap (heard_of (length lent) state) next ∙ heard_silent (length lent) state word rest here in
      record {
        few = omega arith;
        same = stored_length state (meaning_of state.left (as_mended (mended_of word))) lent ∙ so.same;
        told =
            ap (λ (row : List ℕ). after (taken + 1) (heard_of (length before) after-word row)) one_more
            ∙ ap (λ (n : ℕ). after (taken + 1) (heard_of n after-word rest)) (sym so.same)
            ∙ sym (after_more taken (heard_of (length lent) after-word rest))
            ∙ ap (after taken) (sym told ∙ ap (λ (n : ℕ). heard_of n state (drop taken words)) so.same)
            ∙ so.told;
        kept =
            ap (lent_heard after-word (stored_of state word lent)) one_more
            ∙ sym (lent_silent state lent word rest here)
            ∙ ap (lent_heard state lent) (sym next)
            ∙ so.kept;
      }

-- the answer after so many words, none of which had anything to tell
abbrev pub heard_nothing : ℕ → PocsagReader → PocsagHeard
heard_nothing taken state = record { number = 0; taken = taken; page = no_page; reader = state }

-- at the end of the row none had anything to tell
pub silence_ends : (reader : PocsagReader) (before words : List ℕ) (state : PocsagReader) (lent : List ℕ) (taken : ℕ)
    → length words ≤ taken → Silent reader before words state lent taken
    → (heard_nothing taken state ≡ heard_of (length before) reader words) × (lent ≡ lent_heard reader before words)
unfolding heard_of lent_heard
silence_ends reader before words state lent taken end so =
    let none : drop taken words ≡ [] = drop_of_length-le words end in
    let all : heard_nothing taken state ≡ after taken (silent state) = ap (λ (n : ℕ). heard_nothing n state) (sym (add-zero taken)) in
    (all ∙ ap (λ (row : List ℕ). after taken (heard_of (length before) state row)) (sym none) ∙ so.told, ap (lent_heard state lent) (sym none) ∙ so.kept)
