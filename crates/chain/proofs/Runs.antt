-- What document 01 promises of a drop, and of a run of fragments and drops.
use Prim.Native.Nat.{ℕ, ◌≤◌}
use mathlib.Core.Bool.{true, not}
use mathlib.Core.List.{List, [], ◌∷◌}
use mathlib.Core.Logic.{◌↔◌, ⊎_elim}
use mathlib.Core.Path.{◌≡◌, refl, ◌∙◌}
use borrow.Author.Tests.{ne_eqb, le-leb, leb-true, not-false}
use lib.Dec.{eqb}
use lib.ListN.{length, get_or, set, length-set}
use Rattle.laws.proofs.Tests.{decided}
use Rattle.refusal.specs.declared.Refusal.TheVariants as refusals
use Rattle.refusal.specs.Told.{given, number_told}
use Rattle.refusal.proofs.Laws.{passed}
use Rattle.chain.specs.declared.Chain.{Chain}
use Rattle.chain.specs.Chains.{blank, is_address, is_message, is_of, find, holds, sound, fresh}
use Rattle.chain.specs.Steps.{heading_in}
use Rattle.chain.specs.Answers.{drop_of, dropped_from}
use Rattle.chain.specs.Runs.{Event, came, dropped, State, after, after_all, text_at}
use Rattle.chain.proofs.Records.{fresh_sound}
use Rattle.chain.proofs.Stores.{clear_sound, zero_there, cleared_not_found, OtherKey, Kept, kept_same, kept_set, kept_chain, kept_find, other_found}
use Rattle.chain.proofs.Laws.{stays_sound, chains_length, other_record, other_slot}
use Rattle.chain.proofs.Texts.{buffer_length, other_text}

-- ---- a drop

module _ (row : List Chain) (address n : ℕ) where
  -- a sound row, N and an address number, and an open chain of that key
  pub record Droppable : Type 0 where
    pub right : sound row ≡ true
    pub message : n ≤ 63
    pub small : address ≤ 31
    pub is_open : holds address n row ≡ true

  -- nothing is refused exactly if the chain can be dropped so
  pub drop_accepted : (number_told (drop_of row address n) ≡ 0) ↔ Droppable
  unfolding drop_of
  drop_accepted = (there, back)
    where
      there : number_told (drop_of row address n) ≡ 0 → Droppable
      there e =
          let state = passed (not (sound row)) refusals.State _ e in
          let packet = passed (not (is_message n)) refusals.Packet _ state.1 in
          let number = passed (not (is_address address)) refusals.Address _ packet.1 in
          let chain = passed (not (holds address n row)) refusals.NoChain (given []) number.1 in
          record {
            right = not-false _ state.0;
            message = leb-true n 63 (not-false _ packet.0);
            small = leb-true address 31 (not-false _ number.0);
            is_open = not-false _ chain.0;
          }

      back : Droppable → number_told (drop_of row address n) ≡ 0
      back a = rw (a.right, le-leb n 63 a.message, le-leb address 31 a.small, a.is_open)

  -- 01: "A caller may drop a chain": its slot is closed, and nothing else changes
  pub drop_closes : Droppable → dropped_from row address n ≡ set row (find address n row) blank
  drop_closes a = rw (drop_accepted.1 a)

  -- after a drop no chain of the key is open
  pub drop_not_found : Droppable → find address n (dropped_from row address n) ≡ length row
  drop_not_found a = rw (drop_closes a) (cleared_not_found row address n a.right)

  -- after a drop the record of the chain's slot is all zero
  pub drop_zero : Droppable → get_or (dropped_from row address n) (find address n row) blank ≡ blank
  drop_zero a = rw (drop_closes a) (zero_there row (find address n row))

  -- a refused drop changes nothing
  pub drop_refused : (number_told (drop_of row address n) ≡ 0 → ⊥) → dropped_from row address n ≡ row
  drop_refused some = rw (ne_eqb (number_told (drop_of row address n)) 0 some)

  -- the records after a drop
  drop_by : (P : List Chain → Type 0) → P (set row (find address n row) blank) → P row → P (dropped_from row address n)
  drop_by P there else = ⊎_elim (λ is. rw is there) (λ some. rw some else) (decided (eqb (number_told (drop_of row address n)) 0))

  -- a drop leaves a sound row sound, a refused one too
  pub drop_sound : sound row ≡ true → sound (dropped_from row address n) ≡ true
  drop_sound right = drop_by (λ r. sound r ≡ true) (clear_sound row (find address n row) right) right

  -- a drop leaves a row as long as it was
  pub drop_length : length (dropped_from row address n) ≡ length row
  drop_length = drop_by (λ r. length r ≡ length row) (length-set row (find address n row) blank) refl

  -- a drop changes nothing of another key
  pub drop_others : (whose number : ℕ) → OtherKey whose number address n → Kept whose number row (dropped_from row address n)
  drop_others whose number other =
      drop_by (Kept whose number row)
      (kept_set whose number row (find address n row) blank (other_found whose number row address n other) refl)
      (kept_same whose number row)

  -- a drop of one key leaves the record of another key's chain
  pub drop_other_record : (whose number i : ℕ) → OtherKey whose number address n
      → is_of whose number (get_or row i blank) ≡ true → get_or (dropped_from row address n) i blank ≡ get_or row i blank
  drop_other_record whose number i other is = kept_chain whose number row (dropped_from row address n) (drop_others whose number other) i is

  -- with a drop of one key no chain of another appears or goes
  pub drop_other_slot : (whose number : ℕ) → OtherKey whose number address n → find whose number (dropped_from row address n) ≡ find whose number row
  drop_other_slot whose number other = kept_find whose number row (dropped_from row address n) (drop_others whose number other)

-- ---- a run

-- an event leaves sound records sound
pub event_sound : (s : State) (event : Event) → sound s.chains ≡ true → sound (after s event).chains ≡ true
event_sound s (came address words) right = stays_sound (length s.bytes) s.chains address words right
event_sound s (dropped address n) right = drop_sound s.chains address n right

-- a run keeps sound records sound
pub run_sound : (s : State) (events : List Event) → sound s.chains ≡ true → sound (after_all s events).chains ≡ true
unfolding after_all
run_sound s [] right = right
run_sound s (event ∷ events) right = run_sound (after s event) events (event_sound s event right)

-- a run that begins with closed slots has sound records after each event
pub fresh_run_sound : (count : ℕ) (bytes : List ℕ) (events : List Event)
    → sound (after_all (record { chains = fresh count; bytes = bytes }) events).chains ≡ true
fresh_run_sound count bytes events = run_sound (record { chains = fresh count; bytes = bytes }) events (fresh_sound count)

-- an event leaves as many slots and as many lent bytes
pub event_length : (s : State) (event : Event) → (length (after s event).chains ≡ length s.chains) × (length (after s event).bytes ≡ length s.bytes)
event_length s (came address words) = (chains_length (length s.bytes) s.chains address words, buffer_length s.chains address words s.bytes)
event_length s (dropped address n) = (drop_length s.chains address n, refl)

-- a run keeps the number of records and of bytes
pub run_length : (s : State) (events : List Event)
    → (length (after_all s events).chains ≡ length s.chains) × (length (after_all s events).bytes ≡ length s.bytes)
unfolding after_all
run_length s [] = (refl, refl)
run_length s (event ∷ events) =
    let one = event_length s event in
    let rest = run_length (after s event) events in
    (rest.0 ∙ one.0, rest.1 ∙ one.1)

-- ---- a run of other keys

-- an event that is not a key's: a fragment for another, or a drop of another
abbrev pub Others : ℕ → ℕ → Event → Type 0
Others whose n (came address words) = OtherKey whose n address (heading_in words).message_number
Others whose n (dropped address number) = OtherKey whose n address number

-- with an event of another key a key's chain stays in its slot, and where it has none it gets none
pub other_slot_of : (s : State) (event : Event) (whose n : ℕ) → Others whose n event → find whose n (after s event).chains ≡ find whose n s.chains
other_slot_of s (came address words) whose n other = other_slot (length s.bytes) s.chains address words whose n other
other_slot_of s (dropped address number) whose n other = drop_other_slot s.chains address number whose n other

-- a run of events that are all of another key
unfoldable pub AllOthers : ℕ → ℕ → List Event → Type 0
AllOthers whose n [] = Unit
AllOthers whose n (event ∷ events) = Others whose n event × AllOthers whose n events

-- that a slot's record and its text are in one state what they are in another
pub record Same (i : ℕ) (before then : State) : Type 0 where
  pub same_record : get_or then.chains i blank ≡ get_or before.chains i blank
  pub same_text : text_at then.bytes i (get_or before.chains i blank).characters ≡ text_at before.bytes i (get_or before.chains i blank).characters

-- an event leaves the record and the text of another key's chain
pub event_others : (s : State) (event : Event) (whose n i : ℕ) → Others whose n event
    → is_of whose n (get_or s.chains i blank) ≡ true → Same i s (after s event)
event_others s (came address words) whose n i other is =
    record {
      same_record = other_record (length s.bytes) s.chains address words whose n i other is;
      same_text = other_text s.chains address words s.bytes whose n i other is;
    }
event_others s (dropped address number) whose n i other is =
    record { same_record = drop_other_record s.chains address number whose n i other is; same_text = refl }

-- a run of any length of other keys' events leaves a key's chain and its text
pub run_others : (s : State) (events : List Event) (whose n i : ℕ) → AllOthers whose n events
    → is_of whose n (get_or s.chains i blank) ≡ true → Same i s (after_all s events)
unfolding after_all AllOthers
run_others s [] whose n i others is = record { same_record = refl; same_text = refl }
run_others s (event ∷ events) whose n i others is =
    let one = event_others s event whose n i others.0 is in
    let rest = run_others (after s event) events whose n i others.1 (rw one.same_record is) in
    record {
      same_record = rest.same_record ∙ one.same_record;
      same_text = (rw one.same_record at rest.same_text) ∙ one.same_text;
    }
