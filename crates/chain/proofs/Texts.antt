-- What document 01 promises of the lent bytes: a fragment writes its text at its chain's end and nothing else, and a text is handed out as it came.
use Prim.Native.Nat.{ℕ, ◌+◌, ◌*◌, ◌≤◌}
use mathlib.Core.Bool.{true, false}
use mathlib.Core.List.{List, ◌++◌}
use mathlib.Core.Logic.{◌⊎◌, inl, inr, ⊎_elim}
use mathlib.Core.Path.{◌≡◌, refl, ap}
use native.Mathlib.Nat.{zero-add}
use native.Mathlib.Omega.{arith}
use borrow.Author.Tests.{eqb-true, eqb-false, ltb-true, ltb-false, ne_eqb}
use lib.Dec.{ltb, eqb}
use lib.ListN.{length, get_or, take, drop}
use Rattle.laws.specs.Lists.{put}
use Rattle.laws.proofs.Tests.{decided}
use Rattle.laws.proofs.Writing.{length_put, put_grows, put_keeps_before, put_keeps_after}
use Rattle.refusal.specs.declared.Refusal.TheVariants as refusals
use Rattle.refusal.specs.Told.{Told, given, ask, number_told, value_told}
use Rattle.fragment.specs.Fragments.{text_in}
use Rattle.fragment.specs.declared.FragmentHeading.{FragmentHeading}
use Rattle.chain.specs.declared.Chain.{Chain}
use Rattle.chain.specs.Chains.{blank, is_of}
use Rattle.chain.specs.Steps.{heading_in, is_first, goes_on, characters_after, slot_for, chain_before, end_place}
use Rattle.chain.specs.Answers.{full, told_of, step_of, buffer_after, as_answer}
use Rattle.chain.specs.Runs.{text_at}
use Rattle.chain.proofs.Records.{is_of_lem, open_limits}
use Rattle.chain.proofs.Fates.{fate_by}
use Rattle.chain.proofs.Stores.{OtherKey}
use Rattle.chain.proofs.Steps.{slot_other}
use Rattle.chain.proofs.Laws.{Accepted, accepted, told_on, told_whole, when_each}

module _ (row : List Chain) (address : ℕ) (words buffer : List ℕ) where
  -- ---- what is written

  -- 01: "Unless said, .. lent memory stay as they were": a refused fragment writes nothing
  pub refused_writes_nothing : (number_told (step_of (length buffer) row address words) ≡ 0 → ⊥) → buffer_after row address words buffer ≡ buffer
  unfolding buffer_after
  refused_writes_nothing some = rw (ne_eqb (number_told (step_of (length buffer) row address words)) 0 some)

  module _ (a : Accepted (length buffer) row address words) where
    -- 01: "A fragment writes only its text, at its chain's end"
    pub writes_at_end : buffer_after row address words buffer ≡ put buffer (end_place row address (heading_in words)) (text_in words)
    unfolding buffer_after
    writes_at_end = rw ((accepted (length buffer) row address words).1 a)

    -- the end of the fragment's text is within its slot
    pub within_slot : end_place row address (heading_in words) + length (text_in words) ≤ (slot_for row address (heading_in words) + 1) * 1008
    within_slot = omega (arith, a.taken.fits)

    -- the fragment's slot is within the lent bytes
    pub slot_within : (slot_for row address (heading_in words) + 1) * 1008 ≤ length buffer
    slot_within = omega (arith, a.free, a.heard.room)

    -- ---- the text

    -- the text of the chain is then its text before, and the fragment's; before a first one it has none
    pub text_grows : let slot = slot_for row address (heading_in words) in
        let c = chain_before row address (heading_in words) in
        text_at (buffer_after row address words buffer) slot (characters_after c (heading_in words)) ≡ text_at buffer slot c.characters ++ text_in words
    text_grows =
        rw writes_at_end
        (put_grows buffer (text_in words) (slot_for row address (heading_in words) * 1008)
        (chain_before row address (heading_in words)).characters (omega (arith, within_slot, slot_within)))

    -- the text of a first fragment's chain is the fragment's alone
    pub text_begins : is_first (heading_in words) ≡ true
        → text_at (buffer_after row address words buffer) (slot_for row address (heading_in words)) (length (text_in words)) ≡ text_in words
    text_begins first =
        let none : (chain_before row address (heading_in words)).characters ≡ 0 = rw first in
        rw (none, zero-add) at text_grows

  -- the lent bytes are as many as before
  pub buffer_length : length (buffer_after row address words buffer) ≡ length buffer
  buffer_length =
      ⊎_elim
      (λ none.
      let a = (accepted (length buffer) row address words).0 (eqb-true (number_told (step_of (length buffer) row address words)) 0 none) in
      rw (writes_at_end a) (length_put buffer (text_in words) (end_place row address (heading_in words)) (omega (arith, within_slot a, slot_within a))))
      (λ some. rw (refused_writes_nothing (eqb-false (number_told (step_of (length buffer) row address words)) 0 some)))
      (decided (eqb (number_told (step_of (length buffer) row address words)) 0))

  -- 01: "No fragment changes the text .. of another key's chain"
  pub other_text : (whose n i : ℕ) → OtherKey whose n address (heading_in words).message_number → is_of whose n (get_or row i blank) ≡ true
      → text_at (buffer_after row address words buffer) i (get_or row i blank).characters ≡ text_at buffer i (get_or row i blank).characters
  other_text whose n i other is =
      ⊎_elim
      (λ none. rw (writes_at_end (taken none)) (apart (taken none)))
      (λ some. rw (refused_writes_nothing (eqb-false (number_told (step_of (length buffer) row address words)) 0 some)))
      (decided (eqb (number_told (step_of (length buffer) row address words)) 0))
    where
      taken : eqb (number_told (step_of (length buffer) row address words)) 0 ≡ true → Accepted (length buffer) row address words
      taken none = (accepted (length buffer) row address words).0 (eqb-true (number_told (step_of (length buffer) row address words)) 0 none)

      apart : Accepted (length buffer) row address words
          → take (get_or row i blank).characters (drop (i * 1008) (put buffer (end_place row address (heading_in words)) (text_in words)))
          ≡ take (get_or row i blank).characters (drop (i * 1008) buffer)
      apart a =
          let most = (open_limits row a.heard.right i ((is_of_lem whose n (get_or row i blank)).0 is).opened).of_characters in
          let not-here = slot_other row address (heading_in words) whose n i other is in
          let ends = within_slot a in
          let inside = slot_within a in
          ⊎_elim
          (λ lower. let before = ltb-true i (slot_for row address (heading_in words)) lower in put_keeps_before buffer
          (text_in words) (end_place row address (heading_in words)) (get_or row i blank).characters (i * 1008)
          (omega arith) (omega arith))
          (λ higher.
          let above = ltb-false i (slot_for row address (heading_in words)) higher in
          ap (take (get_or row i blank).characters)
          (put_keeps_after buffer (text_in words) (end_place row address (heading_in words)) (i * 1008) (omega arith) (omega arith)))
          (decided (ltb i (slot_for row address (heading_in words))))

  -- ---- a text handed out

  -- what is told as whole is accepted, and is a last fragment
  pub whole_accepted : (as_answer (step_of (length buffer) row address words)).complete ≡ 1
      → Accepted (length buffer) row address words × (goes_on (heading_in words) ≡ false)
  unfolding step_of
  whole_accepted e =
      let none = ⊎_elim (λ none. none) (λ zero. absurd (omega arith)) plain in
      let a = (accepted (length buffer) row address words).0 none in (
        a,
        ⊎_elim
            (λ on. absurd (omega (arith, ap (λ (t : Told). value_told t 4) (told_on (length buffer) row address words a on))))
            (λ ends. ends) (decided (goes_on (heading_in words))),
      )
    where
      h : FragmentHeading
      h = heading_in words

      asked : (values : List ℕ) → let t = ask (full row address h) refusals.Full (given values) in (number_told t ≡ 0) ⊎ (value_told t 4 ≡ 0)
      asked values = ⊎_elim (λ is. rw is (inr refl)) (λ none. rw none (inl refl)) (decided (full row address h))

      plain : let t = step_of (length buffer) row address words in (number_told t ≡ 0) ⊎ (value_told t 4 ≡ 0)
      plain =
          when_each (length buffer) row address words (λ t. (number_told t ≡ 0) ⊎ (value_told t 4 ≡ 0)) _ (inr refl)
          (inr refl) (inr refl) (inr refl) (inr refl) (inr refl) (inr refl)
          (fate_by (chain_before row address h) h (λ f. (number_told (told_of row address h f) ≡ 0) ⊎ (value_told (told_of row address h f) 4 ≡ 0))
          (λ late. inr refl) (λ turn over. inr refl) (λ turn fits ends wrong. inr refl)
          (λ t on. asked _)
          (λ t ends. asked _))

  -- 01: "The last one hands out the text as a part of the lent buffer": the part that is told is the chain's text and the fragment's
  pub handed_out : let answer = as_answer (step_of (length buffer) row address words) in
      answer.complete ≡ 1
      → take answer.characters (drop answer.place (buffer_after row address words buffer))
      ≡ text_at buffer answer.slot (chain_before row address (heading_in words)).characters ++ text_in words
  handed_out e =
      let last = whole_accepted e in
      rw (told_whole (length buffer) row address words last.0 last.1) (text_grows last.0)
