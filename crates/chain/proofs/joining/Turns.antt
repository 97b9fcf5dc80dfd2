-- Where a fragment goes, what is told of it there, and what records and buffer are then.
use Prim.Native.Nat.{ℕ, ◌+◌, ◌≤◌, ◌<◌}
use mathlib.Core.Bool.{Bool, true, false}
use mathlib.Core.List.{List, [], ◌∷◌}
use mathlib.Core.Path.{◌≡◌, refl, sym, ap, ap₂, ◌∙◌}
use native.Mathlib.Omega.{arith}
use borrow.Author.Tests.{eq-eqb, ne_eqb}
use lib.ListN.{length, set}
use Rattle.std.specs.Prelude.{Result, Some, Ok, Err}
use Rattle.laws.specs.Choice.{pick, bit_of}
use Rattle.laws.specs.Lists.{put}
use Rattle.refusal.specs.declared.Refusal.{Refusal}
use Rattle.refusal.specs.declared.Refusal.TheVariants.{Full, NoChain}
use Rattle.refusal.specs.Told.{told, refused, ask, number_of, number_told}
use Rattle.fragment.specs.Fragments.{text_in}
use Rattle.fragment.specs.declared.FragmentHeading.{FragmentHeading}
use Rattle.chain.specs.declared.Chain.{Chain}
use Rattle.chain.specs.declared.Lost.{Lost}
use Rattle.chain.specs.Steps.{heading_in, Fate, lost, grows, whole, fate, characters_after, record_after}
use Rattle.chain.specs.Steps.{cleared, slot_for, chain_before, fate_of, row_after, end_place}
use Rattle.chain.specs.Answers.{known, full, told_of}
use Rattle.chain.specs.Chains.{found}
use Rattle.chain.proofs.Fates.{fate_by}
use Rattle.chain.proofs.finding.Found.{found_slot, found_alike}
use Rattle.chain.proofs.Steps.{cleared_length}
use Rattle.chain.specs.FateAnswers.{fate_number, as_fate}
use Rattle.chain.specs.declared.joining.Turn.{Turn}
use Rattle.chain.specs.declared.joining.Refused.{Refused}
use Rattle.chain.specs.JoiningPieces.{orphan, goes, turn_of, settled, taken_of, join_of, joined_row, joined_bytes}

-- a chain that is not lost has room for the text
pub has_room : (c : Chain) (h : FragmentHeading) → fate_number (fate c h) ≡ 0 → characters_after c h ≤ 1008
has_room c h =
    fate_by c h (λ f. fate_number f ≡ 0 → characters_after c h ≤ 1008)
    (λ late none. absurd (omega arith)) (λ turn over none. absurd (omega arith)) (λ turn fits ends wrong none. absurd (omega arith))
    (λ taken on none. taken.fits)
    (λ taken ends none. taken.fits)

-- a chain that goes on or is whole is not lost
pub not_lost : (t : Turn) (f : Fate) (u : Unit {0}) → Ok u ≡ settled t f → fate_number f ≡ 0
not_lost t (lost r) u is = absurd (cc)
not_lost t (grows c) u is = refl
not_lost t whole u is = refl

-- its fragment is not refused
pub settles : (t : Turn) (f : Fate) (c : Chain) → Ok c ≡ as_fate f → Ok tt ≡ settled t f
settles t (lost r) c is = absurd (cc)
settles t (grows d) c is = refl
settles t whole c is = refl

-- the fragment of a chain that is lost is
pub settles_lost : (t : Turn) (f : Fate) (l : Lost) (x : Result (Unit {0}) Refused) → Err l ≡ as_fate f
    → x ≡ Err (record { refusal = l.refusal; lost = t.known }) → x ≡ settled t f
settles_lost t (lost r) l x is e = let same : l ≡ record { refusal = r; chain = record_after (lost r) } = cc in e ∙ rw same
settles_lost t (grows d) l x is e = absurd (cc)
settles_lost t whole l x is e = absurd (cc)

-- the record that it leaves then
pub kept_record : (f : Fate) (c : Chain) → Ok c ≡ as_fate f → c ≡ record_after f
kept_record (lost r) c is = absurd (cc)
kept_record (grows d) c is = cc
kept_record whole c is = cc

-- the record that a chain leaves that is lost
pub lost_record : (f : Fate) (l : Lost) → Err l ≡ as_fate f → l.chain ≡ record_after f
lost_record (lost r) l is = let same : l ≡ record { refusal = r; chain = record_after (lost r) } = cc in ap (λ (m : Lost). m.chain) same
lost_record (grows d) l is = absurd (cc)
lost_record whole l is = absurd (cc)

module _ (row : List Chain) (address : ℕ) (h : FragmentHeading) where
  -- a fragment that goes somewhere has a chain to go on with
  pub turned : (t : Turn) → Ok t ≡ turn_of row address h → (orphan row address h ≡ false) × (t ≡ goes row address h)
  turned t = by_orphan (orphan row address h)
    where
      by_orphan : (is : Bool) → Ok t ≡ pick is (Err NoChain) (Ok (goes row address h)) → (is ≡ false) × (t ≡ goes row address h)
      by_orphan true is = absurd (cc)
      by_orphan false is = (refl, cc)

  -- one that goes nowhere has none
  pub not_turned : (r : Refusal) → Err r ≡ turn_of row address h → (orphan row address h ≡ true) × (r ≡ NoChain)
  not_turned r = by_orphan (orphan row address h)
    where
      by_orphan : (is : Bool) → Err r ≡ pick is (Err NoChain) (Ok (goes row address h)) → (is ≡ true) × (r ≡ NoChain)
      by_orphan true is = (refl, cc)
      by_orphan false is = absurd (cc)

  -- what is told of a chain that is not lost
  pub told_taken : fate_number (fate_of row address h) ≡ 0
      → told_of row address h (fate_of row address h) ≡ ask (full row address h) Full (taken_of (goes row address h) (slot_for row address h) h)
  told_taken =
      fate_by (chain_before row address h) h
      (λ f. fate_number f ≡ 0 → told_of row address h f ≡ ask (full row address h) Full (taken_of (goes row address h) (slot_for row address h) h))
      (λ late none. absurd (omega arith)) (λ turn over none. absurd (omega arith)) (λ turn fits ends wrong none. absurd (omega arith))
      (λ taken on none. rw on)
      (λ taken ends none. rw ends)

  module _ (is : orphan row address h ≡ false) where
    -- 14, 15, 16: the chain is lost
    pub join_lost : (r : Refused) → Err r ≡ settled (goes row address h) (fate_of row address h)
        → join_of row address h ≡ told (number_of r.refusal) (bit_of r.lost ∷ [])
    join_lost r gone = rw is (by_fate (fate_of row address h) gone)
      where
        by_fate : (f : Fate) → Err r ≡ settled (goes row address h) f → told_of row address h f ≡ told (number_of r.refusal) (bit_of r.lost ∷ [])
        by_fate (lost q) gone = let same : r ≡ record { refusal = q; lost = known row address h } = cc in rw same
        by_fate (grows c) gone = absurd (cc)
        by_fate whole gone = absurd (cc)

    module _ (none : fate_number (fate_of row address h) ≡ 0) where
      -- 12: no slot is free
      pub join_full : slot_for row address h ≡ length row → join_of row address h ≡ refused Full
      join_full there = rw (is, told_taken none, eq-eqb (slot_for row address h) (length row) there)

      -- where a slot is free, the fragment is taken
      pub join_taken : (slot_for row address h ≡ length row → ⊥)
          → join_of row address h ≡ taken_of (goes row address h) (slot_for row address h) h
      join_taken there = rw (is, told_taken none, ne_eqb (slot_for row address h) (length row) there)

-- the slot that a fragment goes to, in the records after it was looked for
pub place_of : (row after : List Chain) (address : ℕ) (h : FragmentHeading) (t : Turn) → Ok t ≡ turn_of row address h → after ≡ cleared row address h
    → t.slot ≡ found after (slot_for row address h)
place_of row after address h t turns is =
    ap (λ (u : Turn). u.slot) (turned row address h t turns).1
    ∙ found_alike row after (slot_for row address h) (sym (ap length is ∙ cleared_length row address h))

-- the records are those after the fragment, once its slot has the record that its chain leaves
pub stored : (row after exit : List Chain) (address : ℕ) (h : FragmentHeading) (t : Turn) → Ok t ≡ turn_of row address h
    → after ≡ cleared row address h
    → ((place : ℕ) → t.slot ≡ found after place → exit ≡ set after place (record_after (fate t.chain h))) → exit ≡ joined_row row address h
stored row after exit address h t turns is stores =
    stores (slot_for row address h) (place_of row after address h t turns is)
    ∙ ap₂ (λ (r : List Chain) (u : Turn). set r (slot_for row address h) (record_after (fate u.chain h))) is (turned row address h t turns).1
    ∙ ap (λ (b : Bool). pick b row (row_after row address h)) (sym (turned row address h t turns).0)

-- a fragment that is taken in a slot
pub record Lands (row : List Chain) (address : ℕ) (h : FragmentHeading) (t : Turn) (slot : ℕ) : Type 0 where
  pub alone : orphan row address h ≡ false
  pub there : t ≡ goes row address h
  pub place : slot ≡ slot_for row address h
  pub within : slot < length row
  pub none : fate_number (fate_of row address h) ≡ 0
  pub fits : t.chain.characters + h.characters ≤ 1008

-- where a fragment goes that has a slot, and whose chain is not lost
pub lands : (row : List Chain) (address : ℕ) (h : FragmentHeading) (t : Turn) (u : Unit {0}) (slot : ℕ) → Ok t ≡ turn_of row address h → t.slot ≡ Some slot
    → Ok u ≡ settled t (fate t.chain h) → Lands row address h t slot
lands row address h t u slot turns is kept =
    let both = turned row address h t turns in
    let at = found_slot row (slot_for row address h) slot (sym is ∙ ap (λ (u : Turn). u.slot) both.1) in
    let none = not_lost (goes row address h) (fate_of row address h) u (kept ∙ ap (λ (v : Turn). settled v (fate v.chain h)) both.1) in
    record {
      alone = both.0;
      there = both.1;
      place = at.0;
      within = at.1;
      none = none;
      fits = rw both.1 (has_room (chain_before row address h) h none);
    }

module _ (row : List Chain) (address : ℕ) (words buffer : List ℕ) (h : FragmentHeading) (is : h ≡ heading_in words) where
  -- a good fragment that is refused writes nothing
  pub writes_none : (number_told (join_of row address h) ≡ 0 → ⊥) → buffer ≡ joined_bytes row address words buffer
  writes_none some =
      rw (ne_eqb (number_told (join_of row address (heading_in words))) 0
      (λ none. some (ap (λ (f : FragmentHeading). number_told (join_of row address f)) is ∙ none)))

  -- a good fragment that is not refused writes its text
  pub writes_text : (exit : List ℕ) → number_told (join_of row address h) ≡ 0 → exit ≡ put buffer (end_place row address h) (text_in words)
      → exit ≡ joined_bytes row address words buffer
  writes_text exit none written =
      written
      ∙ rw (eq-eqb (number_told (join_of row address (heading_in words))) 0 (ap (λ (f : FragmentHeading). number_told (join_of row address f)) (sym is) ∙ none))
      (ap (λ (f : FragmentHeading). put buffer (end_place row address f) (text_in words)) is)
