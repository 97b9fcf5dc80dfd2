-- The end of a frame: the incomplete calls are listed one by one, and the lines of the answer, as the code asks them.
use Prim.Native.Nat.{ℕ, ◌+◌, ◌≤◌, ◌<◌}
use mathlib.Core.Bool.{Bool, true, false, not}
use mathlib.Core.List.{List, [], ◌∷◌, ◌++◌, append-nil}
use mathlib.Core.Path.{◌≡◌, refl, sym, ap, ◌∙◌}
use native.Mathlib.Nat.{zero-add}
use native.Mathlib.Numerals.{add-one}
use native.Mathlib.Omega.{arith}
use borrow.Author.Tests.{lt-ltb, le-ltb}
use lib.ListN.{length, get_or, take, length-append}
use lib.Seq.{length-take-le, take-suc, take_all}
use Rattle.laws.specs.Choice.{pick}
use Rattle.laws.specs.Lists.{those}
use Rattle.laws.proofs.Lists.{those_snoc, those_most}
use Rattle.laws.proofs.Writing.{put_one, put_on}
use Rattle.refusal.specs.declared.Refusal.{Refusal}
use Rattle.refusal.specs.declared.Refusal.TheVariants.{Room, State}
use Rattle.refusal.specs.Told.{refused, given, number_told, number_of}
use Rattle.refusal.proofs.Laws.{number_some}
use Rattle.call.specs.declared.Call.{Call}
use Rattle.call.specs.declared.Calls.{Calls}
use Rattle.call.specs.Calls.{blank, fresh, opens, sound}
use Rattle.call.specs.Words.{memory_size, is_complete}
use Rattle.call.specs.Steps.{added, listed, incomplete_in}
use Rattle.call.specs.Answers.{end_of, ended_with, ended_in, as_end}
use Rattle.call.proofs.Rows.{listed_length}

-- ---- the incomplete calls

-- calls that are listed, with one more, are listed with it as the last
pub listed_more : (count : ℕ) (row : List Call) (c : Call) → length row < count → added (listed count row) c ≡ listed count (row ++ c ∷ [])
listed_more count row c free =
    let records = (fresh count).calls in
    let size : length row + 1 ≡ length (row ++ c ∷ []) = sym (length-append row (c ∷ [])) in
    let stored =
    put_one (listed count row).calls (length row) c (omega (arith, listed_length count row (omega arith)))
    ∙ put_on records (listed count row).calls row (c ∷ []) 0 (length row) (omega arith) refl (sym (zero-add (length row))) in
    λ k. record { size = size k; calls = stored k }

-- before any call has been asked, none is listed
pub incomplete_none : (count : ℕ) (memory : List ℕ) → fresh count ≡ listed count (incomplete_in [] memory)
unfolding those
incomplete_none count memory = refl

module _ (row : List Call) (memory : List ℕ) (i : ℕ) where
  -- the incomplete ones of the first calls are at most as many
  pub incomplete_few : i ≤ length row → length (incomplete_in (take i row) memory) ≤ i
  incomplete_few within =
      omega (arith, those_most (λ (c : Call). not (is_complete c memory)) (take i row), length-take-le i row within)

  -- a turn: the call after those that were asked is listed, unless it is complete
  pub incomplete_turn : (count : ℕ) → length row ≤ count → i < length row
      → let found = listed count (incomplete_in (take i row) memory) in
      pick (is_complete (get_or row i blank) memory) found (added found (get_or row i blank)) ≡ listed count (incomplete_in (take (i + 1) row) memory)
  incomplete_turn count most within =
      let there = get_or row i blank in
      let before = incomplete_in (take i row) memory in
      by_test (is_complete there memory) there before (omega (arith, incomplete_few (omega arith)))
      ∙ ap (listed count)
      (sym (those_snoc (λ (c : Call). not (is_complete c memory)) (take i row) there)
      ∙ ap (λ (calls : List Call). incomplete_in calls memory) (rw (add-one i) (sym (take-suc row i blank within))))
    where
      by_test : (complete : Bool) (there : Call) (before : List Call) → length before < count
          → pick complete (listed count before) (added (listed count before) there) ≡ listed count (before ++ pick (not complete) (there ∷ []) [])
      by_test true there before free = rw (append-nil before)
      by_test false there before free = listed_more count before there free

  -- when all have been asked, all that are incomplete are listed
  pub incomplete_done : length row ≤ i → incomplete_in (take i row) memory ≡ incomplete_in row memory
  incomplete_done done = ap (λ (calls : List Call). incomplete_in calls memory) (take_all i row done)

-- ---- the lines of the answer

module _ (s : Calls) (memory : List ℕ) where
  -- where nothing is refused, the incomplete calls are listed, and no call is open then
  pub ended_good : length s.calls ≡ 8 → 0 ≡ number_told (end_of s memory)
      → record { number = 0; incomplete = listed 8 (incomplete_in (opens s) memory); calls = fresh 8 } ≡ as_end (end_of s memory) (ended_with s memory) (ended_in s memory)
  unfolding ended_with ended_in
  ended_good many none = rw (many, ← none)

  -- where it is refused, none is listed, and the records stay
  pub ended_refused : (r : Refusal) → length s.calls ≡ 8 → number_of r ≡ number_told (end_of s memory)
      → record { number = number_of r; incomplete = fresh 8; calls = s } ≡ as_end (end_of s memory) (ended_with s memory) (ended_in s memory)
  unfolding ended_with ended_in
  ended_refused r many is = rw (many, ← is, number_some r)

  -- 2: the records are not sound
  pub end_unsound : sound (opens s) ≡ false → end_of s memory ≡ refused State
  unfolding end_of
  end_unsound bad = rw bad

  module _ (right : sound (opens s) ≡ true) where
    -- 1: the memory is too short
    pub end_short : length memory < memory_size → end_of s memory ≡ refused Room
    unfolding end_of
    end_short few = rw (right, lt-ltb (length memory) memory_size few)

    -- where it is long enough nothing is refused
    pub end_good : memory_size ≤ length memory → end_of s memory ≡ given []
    unfolding end_of
    end_good room = rw (right, le-ltb (length memory) memory_size room)
