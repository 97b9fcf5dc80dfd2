-- The words of a portion, byte by byte; how many bytes are taken, and how many words they make.
use Prim.Native.Nat.{ℕ, suc, ◌+◌, ◌-◌, ◌≤◌, ◌<◌}
use mathlib.Core.List.{List, [], ◌∷◌}
use mathlib.Core.Path.{◌≡◌, refl, sym, ap, ◌∙◌}
use mathlib.Core.Logic.{⊎_elim}
use Rattle.std.specs.Prelude.{Option, Some, None, Ok, Err}
use native.Mathlib.Numerals.{add-one}
use native.Mathlib.Omega.{arith}
use lib.Dec.{eqb}
use lib.ListN.{length, get_or, drop, set, length-set, drop_of_length-le}
use lib.Seq.{drop-cons}
use borrow.Author.Tests.{eqb-false, eq-eqb, ne_eqb}
use Rattle.laws.proofs.Tests.{decided}
use Rattle.laws.specs.Lists.{put}
use Rattle.laws.proofs.Writing.{put_nothing, put_next}
use Rattle.pocsag_lister.specs.declared.Token.{Token}
use Rattle.pocsag_lister.specs.declared.WrongRun.{WrongRun}
use Rattle.pocsag_lister.specs.declared.Collected.{Collected}
use Rattle.pocsag_lister.specs.Collecting.{Taking, Words, no_words, wrong_words, byte_before, word_before, found_before, words_of, as_collected, collected_at}
use Rattle.pocsag_lister.specs.Inputs.{Found}

-- the answer, where so many bytes were taken before these words, and made so many words
abbrev pub after : ℕ → ℕ → Words → Collected
after taken count w = record { token = w.token; taken = taken + w.taken; count = count + length w.words; wrong = w.wrong }

-- the same answer by other numbers
same_numbers : (t : Token) (wrong : Option WrongRun) (taken taken' count count' : ℕ) → taken ≡ taken' → count ≡ count'
    → ◌≡◌ {A = Collected} (record { token = t; taken = taken; count = count; wrong = wrong }) (record { token = t; taken = taken'; count = count'; wrong = wrong })
same_numbers t wrong taken taken' count count' e f = rw (e, f)

module _ (take : Taking) (room : ℕ) (t : Token) (byte : ℕ) (bytes : List ℕ) where
  -- with no room no byte is taken
  pub of_none : room ≡ 0 → words_of take room t (byte ∷ bytes) ≡ no_words t
  unfolding words_of
  of_none full = rw (eq-eqb room 0 full)

  -- a run that is no word is the last that is taken
  pub of_wrong : (wrong : WrongRun) → 0 < room → (take t byte).found ≡ Some (Err wrong)
      → words_of take room t (byte ∷ bytes) ≡ wrong_words (take t byte).token wrong
  unfolding words_of
  of_wrong wrong some found = rw (ne_eqb room 0 (λ none. omega arith), found)

  -- a byte that makes a word takes a place
  pub of_word : (word : ℕ) → 0 < room → (take t byte).found ≡ Some (Ok word)
      → words_of take room t (byte ∷ bytes) ≡ word_before word (words_of take (room - 1) (take t byte).token bytes)
  unfolding words_of
  of_word word some found = rw (ne_eqb room 0 (λ none. omega arith), found)

  -- any other byte takes none
  pub of_byte : 0 < room → (take t byte).found ≡ None
      → words_of take room t (byte ∷ bytes) ≡ byte_before (words_of take room (take t byte).token bytes)
  unfolding words_of
  of_byte some found = rw (ne_eqb room 0 (λ none. omega arith), found)

-- where the words of a portion stand after some of its bytes
pub record Collecting (take : Taking) (start : Token) (input before : List ℕ) (t : Token) (taken count : ℕ) (row : List ℕ) : Type 0 where
  pub few : taken ≤ length input
  pub fits : count ≤ length row
  pub same : length row ≡ length before
  pub told : after taken count (words_of take (length row - count) t (drop taken input)) ≡ as_collected (words_of take (length before) start input)
  pub kept : put row count (words_of take (length row - count) t (drop taken input)).words ≡ put before 0 (words_of take (length before) start input).words

-- at first no byte is taken
pub collecting_starts : (take : Taking) (start : Token) (input before : List ℕ) → Collecting take start input before start 0 0 before
collecting_starts take start input before =
    let whole : length before - 0 ≡ length before = omega arith in
    let w = words_of take (length before) start input in
    record {
      few = omega arith;
      fits = omega arith;
      same = refl;
      told = rw whole (same_numbers w.token w.wrong (0 + w.taken) w.taken (0 + length w.words) (length w.words) (omega arith) (omega arith));
      kept = rw whole;
    }

module _ (take : Taking) (start : Token) (input before : List ℕ) (t : Token) (taken count : ℕ) (row : List ℕ)
    (so : Collecting take start input before t taken count row) where
  -- where no byte is taken after those, the answer is what they made
  stopped : words_of take (length row - count) t (drop taken input) ≡ no_words t
      → (collected_at t taken count ≡ as_collected (words_of take (length before) start input))
      × (row ≡ put before 0 (words_of take (length before) start input).words)
  stopped none = (
    same_numbers t _ taken (taken + 0) count (count + 0) (omega arith) (omega arith) ∙ ap (after taken count) (sym none) ∙ so.told,
    sym (put_nothing row count) ∙ ap (λ (w : Words). put row count w.words) (sym none) ∙ so.kept,
  )

  -- the end of the portion
  pub collecting_ends : length input ≤ taken
      → (collected_at t taken count ≡ as_collected (words_of take (length before) start input))
      × (row ≡ put before 0 (words_of take (length before) start input).words)
  unfolding words_of
  collecting_ends end = stopped (ap (words_of take (length row - count) t) (drop_of_length-le input end))

  module _ (more : taken < length input) where
    -- the bytes from the next on
    next : drop taken input ≡ get_or input taken 0 ∷ drop (suc taken) input
    next = drop-cons input taken 0 more

    -- a row that is full
    pub collecting_full : length row ≤ count
        → (collected_at t taken count ≡ as_collected (words_of take (length before) start input))
        × (row ≡ put before 0 (words_of take (length before) start input).words)
    collecting_full full =
        stopped
        (ap (words_of take (length row - count) t) next
        ∙ of_none take (length row - count) t (get_or input taken 0) (drop (suc taken) input) (omega arith))

    module _ (some : count < length row) where
      -- a run that is no word
      pub collecting-wrong : (wrong : WrongRun) → (take t (get_or input taken 0)).found ≡ Some (Err wrong)
          → (◌≡◌ {A = Collected} (record { token = (take t (get_or input taken 0)).token; taken = taken + 1; count = count; wrong = Some wrong })
          (as_collected (words_of take (length before) start input)))
          × (row ≡ put before 0 (words_of take (length before) start input).words)
      collecting-wrong wrong found =
          let s = take t (get_or input taken 0) in
          let last : words_of take (length row - count) t (drop taken input) ≡ wrong_words s.token wrong =
          ap (words_of take (length row - count) t) next
          ∙ of_wrong take (length row - count) t (get_or input taken 0) (drop (suc taken) input) wrong (omega arith) found in (
            same_numbers s.token (Some wrong) (taken + 1) (taken + 1) count (count + 0) refl (omega arith) ∙ ap (after taken count) (sym last) ∙ so.told,
            sym (put_nothing row count) ∙ ap (λ (w : Words). put row count w.words) (sym last) ∙ so.kept,
          )

      -- a word
      pub collecting-word : (word : ℕ) → (take t (get_or input taken 0)).found ≡ Some (Ok word)
          → Collecting take start input before (take t (get_or input taken 0)).token (taken + 1) (count + 1)
          (set row count word)
      collecting-word word found =
          let s = take t (get_or input taken 0) in
          let rest = drop (suc taken) input in
          let w = words_of take (length row - count - 1) s.token rest in
          let here : words_of take (length row - count) t (drop taken input) ≡ word_before word w =
          ap (words_of take (length row - count) t) next ∙ of_word take (length row - count) t (get_or input taken 0) rest word (omega arith) found in
          let long : length (set row count word) ≡ length row = simp length-set in
          let left : words_of take (length (set row count word) - (count + 1)) s.token (drop (taken + 1) input) ≡ w =
          ap (λ (n : ℕ). words_of take n s.token (drop (taken + 1) input)) (omega arith)
          ∙ ap (λ (n : ℕ). words_of take (length row - count - 1) s.token (drop n input)) (add-one taken) in
          record {
            few = omega arith;
            fits = omega arith;
            same = long ∙ so.same;
            told =
                ap (after (taken + 1) (count + 1)) left
                ∙ same_numbers w.token w.wrong (taken + 1 + w.taken) (taken + (1 + w.taken)) (count + 1 + length w.words) (count + length (word ∷ w.words))
                (omega arith) (omega arith)
                ∙ ap (after taken count) (sym here)
                ∙ so.told;
            kept =
                ap (λ (v : Words). put (set row count word) (count + 1) v.words) left
                ∙ ap (λ (n : ℕ). put (set row count word) n w.words) (add-one count)
                ∙ put_next row w.words count word some
                ∙ ap (λ (v : Words). put row count v.words) (sym here)
                ∙ so.kept;
          }

      -- a byte that makes no word
      pub collecting-byte : (take t (get_or input taken 0)).found ≡ None
          → Collecting take start input before (take t (get_or input taken 0)).token (taken + 1) count row
      collecting-byte none =
          let s = take t (get_or input taken 0) in
          let rest = drop (suc taken) input in
          let w = words_of take (length row - count) s.token rest in
          let here : words_of take (length row - count) t (drop taken input) ≡ byte_before w =
          ap (words_of take (length row - count) t) next ∙ of_byte take (length row - count) t (get_or input taken 0) rest (omega arith) none in
          let left : words_of take (length row - count) s.token (drop (taken + 1) input) ≡ w =
          ap (λ (n : ℕ). words_of take (length row - count) s.token (drop n input)) (add-one taken) in
          record {
            few = omega arith;
            fits = so.fits;
            same = so.same;
            told =
                ap (after (taken + 1) count) left
                ∙ same_numbers w.token w.wrong (taken + 1 + w.taken) (taken + (1 + w.taken)) (count + length w.words) (count + length w.words)
                (omega arith) refl
                ∙ ap (after taken count) (sym here)
                ∙ so.told;
            kept =
                ap (λ (v : Words). put row count v.words) left
                ∙ ap (λ (v : Words). put row count v.words) (sym here)
                ∙ so.kept;
          }

-- ---- how much is taken

-- what a byte finishes takes no more than there is, and makes no more words than there is room for
found_fits : (t : Token) (found : Option Found) (fewer same : Words) (size room : ℕ) → (1 + fewer.taken ≤ size) × (1 + length fewer.words ≤ room)
    → (1 + same.taken ≤ size) × (length same.words ≤ room)
    → ((found_before t found fewer same).taken ≤ size) × (length (found_before t found fewer same).words ≤ room)
found_fits t (Some (Ok word)) fewer same size room less more = (less.0, omega (arith, less.1))
found_fits t (Some (Err wrong)) fewer same size room less more = (omega (arith, less.0), omega arith)
found_fits t None fewer same size room less more = more

-- and takes a byte
found_some : (t : Token) (found : Option Found) (fewer same : Words) → 0 < (found_before t found fewer same).taken
found_some t (Some (Ok word)) fewer same = omega arith
found_some t (Some (Err wrong)) fewer same = omega arith
found_some t None fewer same = omega arith

-- no more bytes are taken than there are, and they make no more words than there is room for
pub words_fit : (take : Taking) (room : ℕ) (t : Token) (bytes : List ℕ)
    → ((words_of take room t bytes).taken ≤ length bytes) × (length (words_of take room t bytes).words ≤ room)
unfolding words_of
words_fit take room t [] = (omega arith, omega arith)
words_fit take room t (byte ∷ bytes) =
    let s = take t byte in
    let made = words_fit take (room - 1) s.token bytes in
    let other = words_fit take room s.token bytes in
    ⊎_elim
    (λ full. rw full (omega arith, omega arith))
    (λ free.
    let some : room ≡ 0 → ⊥ = eqb-false room 0 free in
    rw free
    (found_fits s.token s.found (words_of take (room - 1) s.token bytes) (words_of take room s.token bytes) (length (byte ∷ bytes)) room
    (omega (arith, made.0), omega (arith, made.1)) (omega (arith, other.0), other.1)))
    (decided (eqb room 0))

-- a byte is taken where there is one, and room for a word
pub words_some : (take : Taking) (room : ℕ) (t : Token) (bytes : List ℕ) → 0 < room → 0 < length bytes → 0 < (words_of take room t bytes).taken
unfolding words_of
words_some take room t [] some more = more
words_some take room t (byte ∷ bytes) some more =
    let s = take t byte in
    rw (ne_eqb room 0 (λ none. omega arith))
    (found_some s.token s.found (words_of take (room - 1) s.token bytes) (words_of take room s.token bytes))
