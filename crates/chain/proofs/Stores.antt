-- One slot changed: the row stays sound, and chains of other keys stay as they were.
use Prim.Native.Nat.{ℕ, ◌<◌}
use mathlib.Core.Bool.{true, false, not, false≢true}
use mathlib.Core.List.{List}
use mathlib.Core.Logic.{◌⊎◌, inl, inr, ⊎_elim}
use mathlib.Core.Path.{◌≡◌, refl, sym, ap, ◌∙◌}
use native.Mathlib.Omega.{arith}
use borrow.Author.Tests.{eqb-true, eqb-false, ltb-true, ltb-false, not-true}
use lib.Dec.{ltb, eqb}
use lib.ListN.{length, get_or, set, length-set, get_or-eq_default}
use lib.Seq.{get_or-set_same, get_or-set_other, set-get_or}
use Rattle.laws.proofs.Searches.{first_passes, found_alike}
use Rattle.laws.proofs.Tests.{decided, not_both}
use Rattle.chain.specs.declared.Chain.{Chain}
use Rattle.chain.specs.Chains.{blank, is_open, is_of, find, holds, first_free, sound}
use Rattle.chain.proofs.Records.{Slot, blank_slot, is_of_lem, Apart, Sound, sound_row, found_at, held, not_found, none_holds, closed_blank}

-- ---- the row stays sound

-- a chain that is not of another's key has another key than that
apart_back : (a b : Chain) → is_open a ≡ true
    → (is_open b ≡ true → is_of b.address b.message_number a ≡ false)
    → is_of a.address a.message_number b ≡ false
apart_back a b is other = ⊎_elim (λ same. absurd (both same)) (λ no_other. no_other) (decided (is_of a.address a.message_number b))
  where
    both : is_of a.address a.message_number b ≡ true → ⊥
    both same =
        let k = (is_of_lem a.address a.message_number b).0 same in
        not_both (is_of b.address b.message_number a)
        ((is_of_lem b.address b.message_number a).1 (record { opened = is; same_address = sym k.same_address; same_message = sym k.same_message }))
        (other k.opened)

module _ (row : List Chain) (i : ℕ) (c : Chain) where
  -- a sound record put into a sound row, where no other slot is of its key
  pub set_sound : sound row ≡ true → Slot c
      → (is_open c ≡ true → (j : ℕ) → (j ≡ i → ⊥) → is_of c.address c.message_number (get_or row j blank) ≡ false)
      → sound (set row i c) ≡ true
  set_sound good here alone = (sound_row (set row i c)).1 (record { slots = slots-after; apart = apart-after })
    where
      before : Sound row
      before = (sound_row row).0 good

      slots-after : (j : ℕ) → j < length (set row i c) → Slot (get_or (set row i c) j blank)
      slots-after j within =
          let inside : j < length row = rw length-set at within in
          ⊎_elim
          (λ same. let is : j ≡ i = eqb-true j i same in rw (is, get_or-set_same row i c blank (omega arith)) here)
          (λ other. rw (get_or-set_other row i j c blank (eqb-false j i other)) (before.slots j inside))
          (decided (eqb j i))

      apart-after : Apart (set row i c)
      apart-after j k less within is =
          let inside : k < length row = rw length-set at within in
          ⊎_elim
          (λ same.
          let last : k ≡ i = eqb-true k i same in
          let not_first : j ≡ i → ⊥ = λ e. omega arith in
          let there : get_or (set row i c) k blank ≡ c = ap (λ (m : ℕ). get_or (set row i c) m blank) last ∙ get_or-set_same row i c blank (omega arith) in
          let first = get_or-set_other row i j c blank not_first in
          rw (there, first) (apart_back (get_or row j blank) c (rw first at is) (λ opened. alone opened j not_first)))
          (λ other.
          let there = get_or-set_other row i k c blank (eqb-false k i other) in
          ⊎_elim
          (λ same.
          let first : j ≡ i = eqb-true j i same in
          let here : get_or (set row i c) j blank ≡ c = ap (λ (m : ℕ). get_or (set row i c) m blank) first ∙ get_or-set_same row i c blank (omega arith) in
          rw (here, there) (alone (rw here at is) k (eqb-false k i other)))
          (λ neither.
          let first = get_or-set_other row i j c blank (eqb-false j i neither) in
          rw (first, there) (before.apart j k less inside (rw first at is)))
          (decided (eqb j i)))
          (decided (eqb k i))

-- a sound row is sound with a slot closed
pub clear_sound : (row : List Chain) (i : ℕ) → sound row ≡ true → sound (set row i blank) ≡ true
clear_sound row i good = set_sound row i blank good blank_slot (λ is. absurd (false≢true is))

-- the record of a slot that is closed is all zero then, also past the row, where nothing is
pub zero_there : (row : List Chain) (i : ℕ) → get_or (set row i blank) i blank ≡ blank
zero_there row i =
    ⊎_elim
    (λ within. get_or-set_same row i blank blank (ltb-true i (length row) within))
    (λ out. get_or-eq_default (set row i blank) blank (simp length-set (ltb-false i (length row) out)))
    (decided (ltb i (length row)))

-- ---- a key's chain closed

module _ (row : List Chain) (address n : ℕ) (good : sound row ≡ true) where
  -- with a key's chain closed no slot is of the key
  pub cleared_of_none : (i : ℕ) → is_of address n (get_or (set row (find address n row) blank) i blank) ≡ false
  cleared_of_none i =
      ⊎_elim
      (λ same.
      let is : i ≡ find address n row = eqb-true i (find address n row) same in
      ⊎_elim
      (λ within. rw (is, get_or-set_same row (find address n row) blank blank (ltb-true (find address n row) (length row) within)))
      (λ out.
      let most = ltb-false (find address n row) (length row) out in
      rw (get_or-eq_default (set row (find address n row) blank) blank {n = i} (simp length-set (omega arith))))
      (decided (ltb (find address n row) (length row))))
      (λ other.
      let apart = eqb-false i (find address n row) other in
      rw (get_or-set_other row (find address n row) i blank blank apart)
      (⊎_elim (λ is. absurd (apart (sym (found_at row good address n i is)))) (λ none. none) (decided (is_of address n (get_or row i blank)))))
      (decided (eqb i (find address n row)))

  -- with its chain closed a key has no open chain
  pub cleared_holds_none : holds address n (set row (find address n row) blank) ≡ false
  cleared_holds_none = none_holds address n (set row (find address n row) blank) (λ i within. cleared_of_none i)

  -- with its chain closed none is found for a key
  pub cleared_not_found : find address n (set row (find address n row) blank) ≡ length row
  cleared_not_found = not_found address n (set row (find address n row) blank) cleared_holds_none ∙ length-set row (find address n row) blank

-- ---- a free slot

module _ (row : List Chain) where
  -- the slot that is found free is closed; one past the row too
  pub free_closed : is_open (get_or row (first_free row) blank) ≡ false
  free_closed =
      ⊎_elim
      (λ within. not-true (is_open (get_or row (first_free row) blank))
      (first_passes (λ c. not (is_open c)) row blank (ltb-true (first_free row) (length row) within)))
      (λ out. rw (get_or-eq_default row blank (ltb-false (first_free row) (length row) out)))
      (decided (ltb (first_free row) (length row)))

  -- to close a slot that is free changes nothing
  pub free_cleared : sound row ≡ true → set row (first_free row) blank ≡ row
  free_cleared good = ap (set row (first_free row)) (sym (closed_blank row good (first_free row) free_closed)) ∙ set-get_or row (first_free row) blank

-- ---- other keys

-- two keys that differ, in their address numbers or in N
abbrev pub OtherKey : ℕ → ℕ → ℕ → ℕ → Type 0
OtherKey whose n address number = whose ≡ address → n ≡ number → ⊥

-- of a key nothing changed: the rows are as long, and each slot's record stayed, or is not the key's and was not
pub record Kept (address n : ℕ) (row after : List Chain) : Type 0 where
  pub long : length after ≡ length row
  pub each : (i : ℕ) → (get_or after i blank ≡ get_or row i blank) ⊎ ((is_of address n (get_or row i blank) ≡ false) × (is_of address n (get_or after i blank) ≡ false))

module _ (address n : ℕ) where
  -- of a row that is as it was nothing of a key changed
  pub kept_same : (row : List Chain) → Kept address n row row
  kept_same row = record { long = refl; each = λ i. inl refl }

  -- where neither of two changes changed anything of a key, both together did not
  pub kept_on : (row middle after : List Chain) → Kept address n row middle → Kept address n middle after → Kept address n row after
  kept_on row middle after first second =
      record { long = second.long ∙ first.long; each = λ i. joined i (first.each i) (second.each i) }
    where
      joined : (i : ℕ)
          → (get_or middle i blank ≡ get_or row i blank) ⊎ ((is_of address n (get_or row i blank) ≡ false) × (is_of address n (get_or middle i blank) ≡ false))
          → (get_or after i blank ≡ get_or middle i blank) ⊎ ((is_of address n (get_or middle i blank) ≡ false) × (is_of address n (get_or after i blank) ≡ false))
          → (get_or after i blank ≡ get_or row i blank) ⊎ ((is_of address n (get_or row i blank) ≡ false) × (is_of address n (get_or after i blank) ≡ false))
      joined i (inl a) (inl b) = inl (b ∙ a)
      joined i (inl a) (inr b) = inr (rw a at b.0, b.1)
      joined i (inr a) (inl b) = inr (a.0, rw b a.1)
      joined i (inr a) (inr b) = inr (a.0, b.1)

  -- a slot that is not the key's and was not changes nothing of the key
  pub kept_set : (row : List Chain) (i : ℕ) (c : Chain) → is_of address n (get_or row i blank) ≡ false
      → is_of address n c ≡ false → Kept address n row (set row i c)
  kept_set row i c was is = record { long = length-set row i c; each = at_each }
    where
      at_each : (j : ℕ)
          → (get_or (set row i c) j blank ≡ get_or row j blank)
          ⊎ ((is_of address n (get_or row j blank) ≡ false) × (is_of address n (get_or (set row i c) j blank) ≡ false))
      at_each j =
          ⊎_elim
          (λ same.
          let here : j ≡ i = eqb-true j i same in
          ⊎_elim
          (λ within. inr (rw here was, rw (here, get_or-set_same row i c blank (ltb-true i (length row) within)) is))
          (λ out.
          let most = ltb-false i (length row) out in
          inl (get_or-eq_default (set row i c) blank {n = j} (simp length-set (omega arith)) ∙ sym (get_or-eq_default row blank {n = j} (omega arith))))
          (decided (ltb i (length row))))
          (λ other. inl (get_or-set_other row i j c blank (eqb-false j i other)))
          (decided (eqb j i))

  module _ (row after : List Chain) (kept : Kept address n row after) where
    -- where nothing of a key changed, its chain is as it was
    pub kept_chain : (i : ℕ) → is_of address n (get_or row i blank) ≡ true → get_or after i blank ≡ get_or row i blank
    kept_chain i is = ⊎_elim (λ same. same) (λ none. absurd (not_both (is_of address n (get_or row i blank)) is none.0)) (kept.each i)

    -- where nothing of a key changed, its chain is found where it was, or none is
    pub kept_find : find address n after ≡ find address n row
    kept_find =
        found_alike (is_of address n) after row blank kept.long
        (λ i within. ⊎_elim (λ same. ap (is_of address n) same) (λ none. none.1 ∙ sym none.0) (kept.each i))

  -- the slot of another key's chain, or none: not of this one
  pub other_found : (row : List Chain) (theirs number : ℕ) → OtherKey address n theirs number
      → is_of address n (get_or row (find theirs number row) blank) ≡ false
  other_found row theirs number other =
      ⊎_elim
      (λ is.
      let key = (is_of_lem theirs number (get_or row (find theirs number row) blank)).0 (held theirs number row is).1 in
      ⊎_elim
      (λ ours.
      let own = (is_of_lem address n (get_or row (find theirs number row) blank)).0 ours in
      absurd (other (sym own.same_address ∙ key.same_address) (sym own.same_message ∙ key.same_message)))
      (λ none. none)
      (decided (is_of address n (get_or row (find theirs number row) blank))))
      (λ none. let out = not_found theirs number row none in rw (get_or-eq_default row blank {n = find theirs number row} (omega arith)))
      (decided (holds theirs number row))
