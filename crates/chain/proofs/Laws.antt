-- What document 01 promises of a fragment: what is accepted, that the records stay sound, and that other keys' chains stay.
use Prim.Native.Nat.{ℕ, ◌*◌, ◌≤◌, ◌<◌}
use mathlib.Core.Bool.{Bool, true, false, not, ◌&&◌, ◌||◌}
use mathlib.Core.List.{List, [], ◌∷◌}
use mathlib.Core.Logic.{◌↔◌, ⊎_elim}
use mathlib.Core.Path.{◌≡◌, refl, sym, ap, ◌∙◌}
use native.Mathlib.Omega.{arith}
use borrow.Author.Tests.{eqb-true, eqb-false, ne_eqb, le-leb, leb-true, le-ltb, ltb-false, not-false}
use lib.Dec.{leb, ltb, eqb}
use lib.ListN.{length, get_or, set}
use lib.Seq.{get_or-set_same}
use Rattle.laws.specs.Choice.{bit_of}
use Rattle.laws.proofs.Searches.{none_before}
use Rattle.laws.proofs.Tests.{decided, not_both}
use Rattle.sums.specs.Words.{undamaged}
use Rattle.refusal.specs.declared.Refusal.{Refusal}
use Rattle.refusal.specs.declared.Refusal.TheVariants as refusals
use Rattle.refusal.specs.Told.{Told, told, refused, given, ask, number_told, value_told}
use Rattle.refusal.proofs.Laws.{passed, passed_test}
use Rattle.fragment.specs.Fragments.{is_size, checked}
use Rattle.fragment.proofs.Laws.{Good}
use Rattle.fragment.specs.declared.FragmentHeading.{FragmentHeading}
use Rattle.chain.specs.declared.Chain.{Chain}
use Rattle.chain.specs.Chains.{blank, is_open, is_address, is_of, find, sound}
use Rattle.chain.specs.Steps.{heading_in, is_first, goes_on, record_after, cleared, slot_for, chain_before, fate_of, row_after, grown}
use Rattle.chain.specs.Answers.{known, beginning, handing_out, full, told_of, when_heard, step_of, touches, chains_after}
use Rattle.chain.proofs.Records.{closed_blank, is_of_lem, found_at}
use Rattle.chain.proofs.Fates.{message_small, Taken, fate_by, goes_on_lem, is_whole}
use Rattle.chain.proofs.Stores.{zero_there, cleared_not_found, free_closed, OtherKey, Kept, kept_same, kept_chain, kept_find}
use Rattle.chain.proofs.Steps.{slot_most, known_has_slot, after_length, cleared_length, before_of, after-sound, closes, full_stays, others_kept}

-- ---- what is asked before a chain is touched

-- the numbers of an answer that tells of a chain: none, or 12, 14 and above; the others are refused before
abbrev pub of_chain : ℕ → Bool
of_chain n = leb 14 n || eqb n 0 || eqb n 12

-- whether an answer tells of a chain
abbrev tells_of_chain : Told → Bool
tells_of_chain t = of_chain (number_told t)

-- where no fragment but a first one comes without an open chain, a later one has its chain
has_chain : (first open-key : Bool) → (not first && not open-key) ≡ false → first ≡ false → open-key ≡ true
has_chain true open-key e later = absurd (not_both true refl later)
has_chain false true e later = refl
has_chain false false e later = sym e

module _ (lent : ℕ) (row : List Chain) (address : ℕ) (words : List ℕ) where
  -- room for the row's text, a sound row, an address number, a good fragment, and a chain for one that is not a first
  pub record Heard : Type 0 where
    pub room : length row * 1008 ≤ lent
    pub right : sound row ≡ true
    pub small : address ≤ 31
    pub good : Good words
    pub has : is_first (heading_in words) ≡ false → known row address (heading_in words) ≡ true

  -- what holds of the refusals of these questions, and of what follows them, holds of the answer
  pub when_each : (P : Told → Type 0) (rest : Told)
      → P (refused refusals.Room) → P (refused refusals.State) → P (refused refusals.Address)
      → P (refused refusals.Size) → P (refused refusals.Damaged) → P (refused refusals.Checksum)
      → P (refused refusals.NoChain)
      → P rest → P (when_heard lent row address words rest)
  when_each P rest room state number size damaged sum chain then =
      either (ltb lent (length row * 1008)) refusals.Room _ room
      (either (not (sound row)) refusals.State _ state
      (either (not (is_address address)) refusals.Address _ number
      (either (not (is_size (length words))) refusals.Size _ size
      (either (not (undamaged words)) refusals.Damaged _ damaged
      (either (not (checked words)) refusals.Checksum _ sum
      (either (not (is_first (heading_in words)) && not (known row address (heading_in words))) refusals.NoChain rest chain then))))))
    where
      either : (test : Bool) (r : Refusal) (t : Told) → P (refused r) → P t → P (ask test r t)
      either true r t refusal here = refusal
      either false r t refusal here = here

  -- a fragment that is heard passes all these questions
  heard_passes : (rest : Told) → Heard → when_heard lent row address words rest ≡ rest
  heard_passes rest a =
      rw (le-ltb lent (length row * 1008) a.room, a.right, le-leb address 31 a.small, a.good.size, a.good.intact, a.good.sum)
      (⊎_elim (λ first. rw first) (λ later. rw later (rw (a.has later))) (decided (is_first (heading_in words))))

  -- all these questions are passed only by a fragment that is heard
  passed_heard : (rest : Told) → of_chain (number_told (when_heard lent row address words rest)) ≡ true → Heard
  passed_heard rest e =
      let room = passed_test tells_of_chain (ltb lent (length row * 1008)) refusals.Room _ refl e in
      let state = passed_test tells_of_chain (not (sound row)) refusals.State _ refl room.1 in
      let number = passed_test tells_of_chain (not (is_address address)) refusals.Address _ refl state.1 in
      let size = passed_test tells_of_chain (not (is_size (length words))) refusals.Size _ refl number.1 in
      let damaged = passed_test tells_of_chain (not (undamaged words)) refusals.Damaged _ refl size.1 in
      let sum = passed_test tells_of_chain (not (checked words)) refusals.Checksum _ refl damaged.1 in
      let chain = passed_test tells_of_chain (not (is_first (heading_in words)) && not (known row address (heading_in words))) refusals.NoChain _ refl sum.1 in
      record {
        room = ltb-false lent (length row * 1008) room.0;
        right = not-false _ state.0;
        small = leb-true address 31 (not-false _ number.0);
        good = record { size = not-false _ size.0; intact = not-false _ damaged.0; sum = not-false _ sum.0 };
        has = has_chain (is_first (heading_in words)) (known row address (heading_in words)) chain.0;
      }

  -- a chain is touched exactly if the fragment is heard
  pub touched : (touches lent row address words ≡ true) ↔ Heard
  touched = (
    λ e. passed_heard (given []) (rw (eqb-true (number_told (when_heard lent row address words (given []))) 0 e)),
    λ a. rw (heard_passes (given []) a),
  )

  -- what holds of the records where the fragment is heard, and of the records as they were, holds of the records after it
  pub chains_by : (P : List Chain → Type 0) → (Heard → P (row_after row address (heading_in words))) → P row → P (chains_after lent row address words)
  unfolding chains_after
  chains_by P there else = ⊎_elim (λ is. rw is (there (touched.0 is))) (λ none. rw none else) (decided (touches lent row address words))

  -- the records where a chain is touched, as an equation
  pub chains_heard : Heard → chains_after lent row address words ≡ row_after row address (heading_in words)
  unfolding chains_after
  chains_heard a = rw (touched.1 a)

  -- the answer to a fragment that is heard is what is told of the chain
  pub step_heard : Heard → step_of lent row address words ≡ told_of row address (heading_in words) (fate_of row address (heading_in words))
  unfolding step_of
  step_heard a = heard_passes _ a

  -- an answer of a chain is told where one is touched
  pub of_chain_lem : of_chain (number_told (step_of lent row address words)) ≡ true → Heard
  unfolding step_of
  of_chain_lem e = passed_heard _ e

  -- ---- the records stay sound

  -- a fragment leaves a sound row sound, a refused one too
  pub stays_sound : sound row ≡ true → sound (chains_after lent row address words) ≡ true
  stays_sound right =
      chains_by (λ r. sound r ≡ true)
      (λ a. after-sound row address (heading_in words) a.right a.small (message_small words) a.has)
      right

  -- a fragment leaves a row as long as it was
  pub chains_length : length (chains_after lent row address words) ≡ length row
  chains_length = chains_by (λ r. length r ≡ length row) (λ a. after_length row address (heading_in words)) refl

  -- 01: "A closed slot's record is all zero"
  pub closed_is_zero : sound row ≡ true → (i : ℕ)
      → is_open (get_or (chains_after lent row address words) i blank) ≡ false
      → get_or (chains_after lent row address words) i blank ≡ blank
  closed_is_zero right i shut = closed_blank (chains_after lent row address words) (stays_sound right) i shut

  -- ---- other keys

  -- 01: "No fragment changes the text, length or next F of another key's chain": of another key nothing changes
  pub others_stay : (whose n : ℕ) → OtherKey whose n address (heading_in words).message_number → Kept whose n row (chains_after lent row address words)
  others_stay whose n other =
      chains_by (Kept whose n row) (λ a. others_kept row address (heading_in words) whose n other) (kept_same whose n row)

  -- the record of another key's chain stays
  pub other_record : (whose n i : ℕ) → OtherKey whose n address (heading_in words).message_number → is_of whose n (get_or row i blank) ≡ true
      → get_or (chains_after lent row address words) i blank ≡ get_or row i blank
  other_record whose n i other is = kept_chain whose n row (chains_after lent row address words) (others_stay whose n other) i is

  -- no chain of another key appears or goes
  pub other_slot : (whose n : ℕ) → OtherKey whose n address (heading_in words).message_number
      → find whose n (chains_after lent row address words) ≡ find whose n row
  other_slot whose n other = kept_find whose n row (chains_after lent row address words) (others_stay whose n other)

  -- ---- what is accepted

  -- nothing is refused: the chain takes the fragment, and there is a slot for it
  pub record Accepted : Type 0 where
    pub heard : Heard
    pub taken : Taken (chain_before row address (heading_in words)) (heading_in words)
    pub free : slot_for row address (heading_in words) < length row

  -- what is told of a fragment that goes on
  pub told_on : Accepted → goes_on (heading_in words) ≡ true → step_of lent row address words ≡ given (beginning row address (heading_in words) [])
  told_on a on =
      step_heard a.heard
      ∙ rw (goes_on_lem (chain_before row address (heading_in words)) (heading_in words) a.taken on)
      (rw (ne_eqb (slot_for row address (heading_in words)) (length row) (λ e. omega (arith, a.free))))

  -- what is told of a fragment that ends its text
  pub told_whole : Accepted → goes_on (heading_in words) ≡ false
      → step_of lent row address words ≡ given (beginning row address (heading_in words) (handing_out row address (heading_in words)))
  told_whole a ends =
      step_heard a.heard
      ∙ rw (is_whole (chain_before row address (heading_in words)) (heading_in words) a.taken ends)
      (rw (ne_eqb (slot_for row address (heading_in words)) (length row) (λ e. omega (arith, a.free))))

  -- what is told of a fragment that is accepted: whether a first one closed an older chain of its key, and whether it is a first one
  pub beginning_told : Accepted
      → (value_told (step_of lent row address words) 0 ≡ bit_of (is_first (heading_in words) && known row address (heading_in words)))
      × (value_told (step_of lent row address words) 1 ≡ bit_of (is_first (heading_in words)))
  beginning_told a =
      ⊎_elim (λ on. rw (told_on a on) (refl, refl)) (λ ends. rw (told_whole a ends) (refl, refl)) (decided (goes_on (heading_in words)))

  -- nothing is refused exactly if the fragment is accepted
  pub accepted : (number_told (step_of lent row address words) ≡ 0) ↔ Accepted
  accepted = (there, back)
    where
      h : FragmentHeading
      h = heading_in words

      given-slot : (rest : Told) → number_told (ask (full row address h) refusals.Full rest) ≡ 0 → slot_for row address h < length row
      given-slot rest e =
          let apart = eqb-false (slot_for row address h) (length row) (passed (full row address h) refusals.Full rest e).0 in
          omega (arith, slot_most row address h, apart)

      both : number_told (told_of row address h (fate_of row address h)) ≡ 0 → Taken (chain_before row address h) h × (slot_for row address h < length row)
      both =
          fate_by (chain_before row address h) h
          (λ f. number_told (told_of row address h f) ≡ 0 → Taken (chain_before row address h) h × (slot_for row address h < length row))
          (λ late e. absurd (omega arith)) (λ turn over e. absurd (omega arith)) (λ turn fits ends wrong e. absurd (omega arith))
          (λ t on e. (t, given-slot _ e))
          (λ t ends e. (t, given-slot _ e))

      there : number_told (step_of lent row address words) ≡ 0 → Accepted
      there e =
          let heard = of_chain_lem (rw e) in
          let chain = both (rw (step_heard heard) at e) in
          record { heard = heard; taken = chain.0; free = chain.1 }

      back : Accepted → number_told (step_of lent row address words) ≡ 0
      back a = ⊎_elim (λ on. rw (told_on a on)) (λ ends. rw (told_whole a ends)) (decided (goes_on (heading_in words)))

  -- ---- what a refusal does

  -- 12 is never told of a fragment whose key is open
  pub known_not_full : known row address (heading_in words) ≡ true → full row address (heading_in words) ≡ false
  known_not_full is = ne_eqb (slot_for row address (heading_in words)) (length row) (λ e. omega (arith, known_has_slot row address (heading_in words) is))

  -- a refusal under 14 leaves the records as they were: 12 too, since a first fragment whose key is open finds a slot
  pub refused_stays : (number_told (step_of lent row address words) ≡ 0 → ⊥)
      → number_told (step_of lent row address words) < 14 → chains_after lent row address words ≡ row
  refused_stays some early =
      chains_by (λ r. r ≡ row) (λ a. unchanged (rw (step_heard a) at some) (rw (step_heard a) at early)) refl
    where
      h : FragmentHeading
      h = heading_in words

      without : (values : List ℕ) → (number_told (ask (full row address h) refusals.Full (given values)) ≡ 0 → ⊥) → row_after row address h ≡ row
      without values some =
          ⊎_elim
          (λ is. full_stays row address h (eqb-true (slot_for row address h) (length row) is))
          (λ none. absurd (some (rw none)))
          (decided (full row address h))

      unchanged : (number_told (told_of row address h (fate_of row address h)) ≡ 0 → ⊥)
          → number_told (told_of row address h (fate_of row address h)) < 14 → row_after row address h ≡ row
      unchanged =
          fate_by (chain_before row address h) h
          (λ f. (number_told (told_of row address h f) ≡ 0 → ⊥) → number_told (told_of row address h f) < 14 → row_after row address h ≡ row)
          (λ late some early. absurd (omega arith)) (λ turn over some early. absurd (omega arith)) (λ turn fits ends wrong some early. absurd (omega arith))
          (λ t on some early. without _ some)
          (λ t ends some early. without _ some)

  -- no number is over 16, so that the refusals from 14 on are 14, 15 and 16
  pub number_most : number_told (step_of lent row address words) ≤ 16
  unfolding step_of
  number_most =
      when_each (λ t. number_told t ≤ 16) _ (omega arith) (omega arith) (omega arith) (omega arith) (omega arith) (omega arith) (omega arith)
      (fate_by (chain_before row address h) h (λ f. number_told (told_of row address h f) ≤ 16)
      (λ late. omega arith) (λ turn over. omega arith) (λ turn fits ends wrong. omega arith)
      (λ t on. asked _)
      (λ t ends. asked _))
    where
      h : FragmentHeading
      h = heading_in words

      asked : (values : List ℕ) → number_told (ask (full row address h) refusals.Full (given values)) ≤ 16
      asked values = ⊎_elim (λ is. rw is (omega arith)) (λ none. rw none (omega arith)) (decided (full row address h))

  -- 14, 15 and 16 are told of a chain that is touched
  lost_heard : 14 ≤ number_told (step_of lent row address words) → Heard
  lost_heard late = of_chain_lem (rw (le-leb 14 (number_told (step_of lent row address words)) late))

  -- with 14, 15 and 16 the key's chain is closed, if it was open, and nothing else changes; the answer tells whether it was
  pub lost_closes : 14 ≤ number_told (step_of lent row address words)
      → (chains_after lent row address words ≡ set row (find address (heading_in words).message_number row) blank)
      × (step_of lent row address words ≡ told (number_told (step_of lent row address words)) (bit_of (known row address (heading_in words)) ∷ []))
  lost_closes late =
      let heard = lost_heard late in
      let is = step_heard heard in
      let both = lost-fate (rw is at late) in
      (chains_heard heard ∙ closes row address h heard.right both.0, rw is both.1)
    where
      h : FragmentHeading
      h = heading_in words

      not_late : (values : List ℕ) → 14 ≤ number_told (ask (full row address h) refusals.Full (given values)) → ⊥
      not_late values late =
          ⊎_elim (λ is. let no_more = rw is at late in omega arith) (λ none. let no_more = rw none at late in omega arith) (decided (full row address h))

      lost-fate : 14 ≤ number_told (told_of row address h (fate_of row address h))
          → (record_after (fate_of row address h) ≡ blank)
          × (told_of row address h (fate_of row address h) ≡ told (number_told (told_of row address h (fate_of row address h))) (bit_of (known row address h) ∷ []))
      lost-fate =
          fate_by (chain_before row address h) h
          (λ f. 14 ≤ number_told (told_of row address h f)
          → (record_after f ≡ blank) × (told_of row address h f ≡ told (number_told (told_of row address h f)) (bit_of (known row address h) ∷ [])))
          (λ late e. (refl, refl)) (λ turn over e. (refl, refl)) (λ turn fits ends wrong e. (refl, refl))
          (λ t on e. absurd (not_late _ e))
          (λ t ends e. absurd (not_late _ e))

  -- a text handed out closes its chain in the same way
  pub whole_closes : Accepted → goes_on (heading_in words) ≡ false
      → chains_after lent row address words ≡ set row (find address (heading_in words).message_number row) blank
  whole_closes a ends =
      chains_heard a.heard
      ∙ closes row address (heading_in words) a.heard.right (rw (is_whole (chain_before row address (heading_in words)) (heading_in words) a.taken ends))

  -- after 14, 15 or 16 no chain of the key is open
  pub lost_not_found : 14 ≤ number_told (step_of lent row address words)
      → find address (heading_in words).message_number (chains_after lent row address words) ≡ length row
  lost_not_found late =
      let heard = lost_heard late in
      rw (lost_closes late).0 (cleared_not_found row address (heading_in words).message_number heard.right)

  -- after 14, 15 or 16 the record of the chain's slot is all zero
  pub lost_zero : 14 ≤ number_told (step_of lent row address words)
      → get_or (chains_after lent row address words) (find address (heading_in words).message_number row) blank ≡ blank
  lost_zero late = rw (lost_closes late).0 (zero_there row (find address (heading_in words).message_number row))

  -- after a text handed out no chain of the key is open
  pub whole_not_found : Accepted → goes_on (heading_in words) ≡ false
      → find address (heading_in words).message_number (chains_after lent row address words) ≡ length row
  whole_not_found a ends = rw (whole_closes a ends) (cleared_not_found row address (heading_in words).message_number a.heard.right)

  -- after a text handed out the record of the slot that is told is all zero
  pub whole_zero : Accepted → goes_on (heading_in words) ≡ false
      → get_or (chains_after lent row address words) (slot_for row address (heading_in words)) blank ≡ blank
  whole_zero a ends =
      rw (chains_heard a.heard, is_whole (chain_before row address (heading_in words)) (heading_in words) a.taken ends)
      (zero_there (cleared row address (heading_in words)) (slot_for row address (heading_in words)))

  -- ---- a chain begun, or gone on with

  module _ (a : Accepted) where
    -- 01: "takes the lowest-numbered free slot": with its key's older chain closed, the slot of a first fragment is free and every lower one is open
    pub takes_lowest : is_first (heading_in words) ≡ true
        → let older = set row (find address (heading_in words).message_number row) blank in
        let slot = slot_for row address (heading_in words) in
        (slot < length row) × (is_open (get_or older slot blank) ≡ false) × ((k : ℕ) → k < slot → is_open (get_or older k blank) ≡ true)
    takes_lowest first =
        let older = set row (find address (heading_in words).message_number row) blank in
        let free : slot_for row address (heading_in words) < length row = a.free in
        rw first
        (rw first at free, free_closed older, λ k before. not-false (is_open (get_or older k blank)) (none_before (λ c. not (is_open c)) older blank k before))

    -- a later fragment stays in its chain's slot
    pub stays_there : is_first (heading_in words) ≡ false → slot_for row address (heading_in words) ≡ find address (heading_in words).message_number row
    stays_there later = rw later

    -- where more follows, the record of the slot is then the chain's, grown by the fragment
    pub grows_on : goes_on (heading_in words) ≡ true
        → let c = chain_before row address (heading_in words) in
        let slot = slot_for row address (heading_in words) in
        (get_or (chains_after lent row address words) slot blank ≡ grown c (heading_in words))
        × (find address (heading_in words).message_number (chains_after lent row address words) ≡ slot)
    grows_on on =
        let c = chain_before row address (heading_in words) in
        let slot = slot_for row address (heading_in words) in
        let before = before_of row address (heading_in words) a.heard.has in
        let here : get_or (chains_after lent row address words) slot blank ≡ grown c (heading_in words) =
        ap (λ (r : List Chain). get_or r slot blank) (chains_heard a.heard)
        ∙ rw (goes_on_lem c (heading_in words) a.taken on)
        (get_or-set_same (cleared row address (heading_in words)) slot (grown c (heading_in words)) blank
        (rw (cleared_length row address (heading_in words)) a.free)) in
        let key =
        (is_of_lem address (heading_in words).message_number (grown c (heading_in words))).1
        (record { opened = refl; same_address = before.1; same_message = before.2 }) in
        (here, found_at (chains_after lent row address words) (stays_sound a.heard.right) address (heading_in words).message_number slot (rw here key))
