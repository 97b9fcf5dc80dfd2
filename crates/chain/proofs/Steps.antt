-- What a good fragment does to a row of chains (document 01, "A good first fragment closes .."), before any answer is told.
use Prim.Native.Nat.{ℕ, ◌≤◌, ◌<◌}
use mathlib.Core.Bool.{true, false, not}
use mathlib.Core.List.{List}
use mathlib.Core.Logic.{⊎_elim}
use mathlib.Core.Path.{◌≡◌, refl, sym, ◌∙◌}
use native.Mathlib.Omega.{arith}
use lib.ListN.{length, get_or, set, length-set}
use lib.Seq.{get_or-set_same, get_or-set_other, set_out}
use Rattle.laws.proofs.Searches.{first_most, found_by}
use Rattle.laws.proofs.Tests.{decided, not_both}
use Rattle.fragment.specs.declared.FragmentHeading.{FragmentHeading}
use Rattle.chain.specs.declared.Chain.{Chain}
use Rattle.chain.specs.Chains.{blank, is_open, is_of, find, first_free, sound}
use Rattle.chain.specs.Steps.{is_first, record_after, fate, unbegun, older_slot, cleared, slot_for, chain_before, fate_of, row_after}
use Rattle.chain.specs.Answers.{known}
use Rattle.chain.proofs.Records.{is_of_lem, closed_of_none, held, not_found, found_at}
use Rattle.chain.proofs.Fates.{record_slot, record_key}
use Rattle.chain.proofs.Stores.{set_sound, clear_sound, cleared_of_none, free_closed, free_cleared, OtherKey}
use Rattle.chain.proofs.Stores.{Kept, kept_same, kept_on, kept_set, other_found}

module _ (row : List Chain) (address : ℕ) (h : FragmentHeading) where
  -- ---- the slot

  -- a fragment's slot is one of the row, or none
  pub slot_most : slot_for row address h ≤ length row
  slot_most =
      ⊎_elim
      (λ first. rw first (rw length-set at (first_most (λ c. not (is_open c)) (set row (older_slot row address h) blank))))
      (λ later. rw later (first_most (is_of address h.message_number) row))
      (decided (is_first h))

  -- a fragment whose key is open has a slot: a first one closes its key's chain, and that slot is free then; a later one stays in it
  pub known_has_slot : known row address h ≡ true → slot_for row address h < length row
  known_has_slot is =
      let older = (held address h.message_number row is).0 in
      let here = get_or-set_same row (older_slot row address h) blank blank older in
      let free = found_by (λ c. not (is_open c)) (set row (older_slot row address h) blank) blank (older_slot row address h) (simp length-set older) (rw here) in
      ⊎_elim (λ first. rw first (omega arith)) (λ later. rw later older) (decided (is_first h))

  -- the row keeps its length, with the older chain closed
  pub cleared_length : length (cleared row address h) ≡ length row
  cleared_length = ⊎_elim (λ first. rw first (simp length-set)) (λ later. rw later) (decided (is_first h))

  -- the row keeps its length with the record that the fragment leaves
  pub after_length : length (row_after row address h) ≡ length row
  after_length = simp length-set cleared_length

  -- the chain of a first fragment is one that is not begun, and that of a later one stands in the row
  pub before_first : is_first h ≡ true → chain_before row address h ≡ unbegun address h.message_number
  before_first first = rw first

  -- the chain of a later fragment stands at the slot of its key
  pub before_later : is_first h ≡ false → chain_before row address h ≡ get_or row (find address h.message_number row) blank
  before_later later = rw later

  -- the chain before is open and of its key where the fragment is a first one, or finds one
  pub before_of : (is_first h ≡ false → known row address h ≡ true)
      → (is_open (chain_before row address h) ≡ true) × ((chain_before row address h).address ≡ address)
      × ((chain_before row address h).message_number ≡ h.message_number)
  before_of has =
      ⊎_elim
      (λ first. rw first (refl, refl, refl))
      (λ later.
      let k = (is_of_lem address h.message_number (get_or row (older_slot row address h) blank)).0 (held address h.message_number row (has later)).1 in
      rw later (k.opened, k.same_address, k.same_message))
      (decided (is_first h))

  -- ---- the row stays sound

  module _ (good : sound row ≡ true) where
    -- the row is sound with the older chain of its key closed
    pub cleared_sound : sound (cleared row address h) ≡ true
    cleared_sound = ⊎_elim (λ first. rw first (clear_sound row (older_slot row address h) good)) (λ later. rw later good) (decided (is_first h))

    -- no other slot than the fragment's is of its key
    pub alone : (j : ℕ) → (j ≡ slot_for row address h → ⊥) → is_of address h.message_number (get_or (cleared row address h) j blank) ≡ false
    alone j other =
        ⊎_elim
        (λ first. rw first (cleared_of_none row address h.message_number good j))
        (λ later.
        rw later
        (⊎_elim
        (λ is. absurd (rw later at other (sym (found_at row good address h.message_number j is))))
        (λ none. none)
        (decided (is_of address h.message_number (get_or row j blank)))))
        (decided (is_first h))

    module _ (small : address ≤ 31) (message : h.message_number ≤ 63) (has : is_first h ≡ false → known row address h ≡ true) where
      -- the row is sound with the record that the fragment leaves
      pub after-sound : sound (row_after row address h) ≡ true
      after-sound =
          let before = before_of has in
          set_sound (cleared row address h) (slot_for row address h) (record_after (fate_of row address h)) cleared_sound
          (record_slot (chain_before row address h) h (rw before.1 small) (rw before.2 message))
          (λ is j other.
          let key = record_key (chain_before row address h) h is in
          rw (key.0 ∙ before.1, key.1 ∙ before.2) (alone j other))

    -- where the fragment leaves a record that is all zero, the key's chain is closed, and nothing else changed
    pub closes : record_after (fate_of row address h) ≡ blank → row_after row address h ≡ set row (older_slot row address h) blank
    closes shut =
        rw shut
        (⊎_elim
        (λ first. rw first (free_cleared (set row (older_slot row address h) blank) (clear_sound row (older_slot row address h) good)))
        (λ later. rw later)
        (decided (is_first h)))

  -- where there is no slot, nothing changes
  pub full_stays : slot_for row address h ≡ length row → row_after row address h ≡ row
  full_stays full =
      let none : known row address h ≡ false = ⊎_elim (λ is. absurd (omega (arith, known_has_slot is))) (λ none. none) (decided (known row address h)) in
      let older = not_found address h.message_number row none in
      let out = cleared_length in
      set_out (cleared row address h) (slot_for row address h) (record_after (fate_of row address h)) (omega arith)
      ∙ ⊎_elim (λ first. rw first (set_out row (older_slot row address h) blank (omega arith))) (λ later. rw later) (decided (is_first h))

  -- ---- other keys

  -- a fragment changes nothing of another key
  pub others_kept : (whose n : ℕ) → OtherKey whose n address h.message_number → Kept whose n row (row_after row address h)
  others_kept whose n other = ⊎_elim as_first as-later (decided (is_first h))
    where
      leaves : (c : Chain) → c.address ≡ address → c.message_number ≡ h.message_number → is_of whose n (record_after (fate c h)) ≡ false
      leaves c here message =
          ⊎_elim
          (λ is.
          let key = (is_of_lem whose n (record_after (fate c h))).0 is in
          let own = record_key c h key.opened in
          absurd (other (sym key.same_address ∙ own.0 ∙ here) (sym key.same_message ∙ own.1 ∙ message)))
          (λ none. none)
          (decided (is_of whose n (record_after (fate c h))))

      was : is_of whose n (get_or row (older_slot row address h) blank) ≡ false
      was = other_found whose n row address h.message_number other

      as_first : is_first h ≡ true → Kept whose n row (row_after row address h)
      as_first first =
          let without = set row (older_slot row address h) blank in
          rw first
          (kept_on whose n row without _
          (kept_set whose n row (older_slot row address h) blank was refl)
          (kept_set whose n without (first_free without) _ (closed_of_none whose n (get_or without (first_free without) blank) (free_closed without))
          (leaves (unbegun address h.message_number) refl refl)))

      as-later : is_first h ≡ false → Kept whose n row (row_after row address h)
      as-later later =
          rw later
          (⊎_elim
          (λ is.
          let k = (is_of_lem address h.message_number (get_or row (older_slot row address h) blank)).0 (held address h.message_number row is).1 in
          kept_set whose n row (older_slot row address h) _ was
          (leaves (get_or row (older_slot row address h) blank) k.same_address k.same_message))
          (λ none.
          let out = not_found address h.message_number row none in
          rw (set_out row (older_slot row address h) (record_after (fate (get_or row (older_slot row address h) blank) h)) (omega arith))
          (kept_same whose n row))
          (decided (known row address h)))

  -- the slot of another key's chain is not the fragment's
  pub slot_other : (whose n i : ℕ) → OtherKey whose n address h.message_number → is_of whose n (get_or row i blank) ≡ true → i ≡ slot_for row address h → ⊥
  slot_other whose n i other is here = ⊎_elim as_first as-later (decided (is_first h))
    where
      not-older : i ≡ older_slot row address h → ⊥
      not-older e = not_both (is_of whose n (get_or row i blank)) is (rw e (other_found whose n row address h.message_number other))

      as_first : is_first h ≡ true → ⊥
      as_first first =
          let without = set row (older_slot row address h) blank in
          let free : i ≡ first_free without = rw first at here in
          let same = get_or-set_other row (older_slot row address h) i blank blank not-older in
          let opened : is_open (get_or without i blank) ≡ true = rw same ((is_of_lem whose n (get_or row i blank)).0 is).opened in
          not_both (is_open (get_or without i blank)) opened (rw free (free_closed without))

      as-later : is_first h ≡ false → ⊥
      as-later later = not-older (rw later at here)
