-- What a state holds of a message, and what each arrival makes of it.
use Prim.Native.Nat.{ℕ, suc, ◌+◌, ◌*◌, ◌≤◌, ◌<◌}
use mathlib.Core.Bool.{true, false, not}
use mathlib.Core.List.{List, [], ◌++◌}
use mathlib.Core.Logic.{⊎_elim}
use mathlib.Core.Path.{◌≡◌, refl, sym, ap, ap₂, ◌∙◌}
use native.Mathlib.Omega.{arith}
use borrow.Author.Tests.{eqb-true, eqb-false, eq-eqb, ne_eqb, leb-false, ltb-true, lt-ltb, le-ltb, not-true}
use lib.Dec.{leb, ltb, eqb}
use lib.ListN.{length, get_or}
use lib.Seq.{set_out}
use Rattle.laws.proofs.Tests.{decided, not_both, first_of, second_of, other_of}
use Rattle.refusal.specs.declared.Refusal.TheVariants.{OutOfTurn}
use Rattle.refusal.specs.Told.{Told, number_told}
use Rattle.fragment.specs.Fragments.{text_in}
use Rattle.fragment.specs.Answers.{heading_of}
use Rattle.fragment.proofs.Laws.{accepted}
use Rattle.fragment.specs.Cutting.{fragment_number}
use Rattle.fragment.proofs.CutLaws.{text_step}
use Rattle.chain.specs.declared.Chain.{Chain}
use Rattle.chain.specs.Chains.{blank, find, holds, first_free, sound}
use Rattle.chain.specs.Steps.{heading_in, is_first, goes_on, slot_for, chain_before, characters_after, grown, unbegun, lost}
use Rattle.chain.specs.Answers.{known, told_of, step_of, chains_after, buffer_after, as_answer}
use Rattle.chain.specs.Runs.{Event, came, dropped, State, answer_to, after, text_at}
use Rattle.chain.proofs.Records.{held, not_found}
use Rattle.chain.proofs.Fates.{out_of_turn}
use Rattle.chain.proofs.Stores.{OtherKey}
use Rattle.chain.proofs.Steps.{known_has_slot, before_first, before_later}
use Rattle.chain.proofs.Laws as step
use Rattle.chain.proofs.Texts.{refused_writes_nothing, text_grows, whole_accepted}
use Rattle.chain.proofs.Runs.{drop_accepted, drop_refused, other_slot_of, event_sound, event_length, Others, event_others}
use Rattle.air.specs.Demand.{Message, is_damaged, is_key, is_open, finds_slot, is_cut, text_by}
use Rattle.air.proofs.Parts.{count_of, part, text_before, chain_at, none_before, begins, address_small}
use Rattle.air.proofs.Parts.{all_before, part_good, says_message, says_number, says_first, says_more}
use Rattle.air.proofs.Parts.{length_next, part_taken, part_grown, cuttable}

-- ---- what a state holds

module _ (m : Message) where
  -- the slot of the message's chain
  abbrev pub slot_of : State → ℕ
  slot_of s = find m.address m.marks.message_number s.chains

  -- a chain that has joined the first fragments of the message, so many of them
  pub record Joined (s : State) (joined : ℕ) : Type 0 where
    pub within : joined < count_of m
    pub there : is_open m s ≡ true
    pub chain : get_or s.chains (slot_of s) blank ≡ chain_at m joined
    pub text : text_at s.bytes (slot_of s) (length (text_before m joined)) ≡ text_before m joined

  -- a sound state with its lent bytes, in which so many are joined; none where no chain is open
  pub record Holding (s : State) (joined : ℕ) : Type 0 where
    pub right : sound s.chains ≡ true
    pub room : length s.chains * 1008 ≤ length s.bytes
    pub shut : joined ≡ 0 → is_open m s ≡ false
    pub opened : 1 ≤ joined → Joined s joined

  -- an event leaves a sound state sound, and with its lent bytes: of such a state it is enough to say what it holds
  holding_after : (s : State) (joined : ℕ) (event : Event) (now : ℕ) → Holding s joined
      → (now ≡ 0 → is_open m (after s event) ≡ false) → (1 ≤ now → Joined (after s event) now) → Holding (after s event) now
  holding_after s joined event now h shut opened =
      let long = event_length s event in
      record { right = event_sound s event h.right; room = rw (long.0, long.1) h.room; shut = shut; opened = opened }

  -- where no chain of the key is found, none is open
  shut_by : (s then : State) → length then.chains ≡ length s.chains → slot_of then ≡ length s.chains → is_open m then ≡ false
  shut_by s then long none = rw (none, long) (le-ltb (length s.chains) (length s.chains) (omega arith))

-- ---- a good copy

module _ (m : Message) (cuts : is_cut m ≡ true) (s : State) (joined : ℕ) (h : Holding m s joined) (place : ℕ) (within : place < count_of m) where
  -- the fragment, and the event that it is
  abbrev words : List ℕ
  words = part m place

  abbrev event : Event
  event = came m.address words

  abbrev lent : ℕ
  lent = length s.bytes

  -- the fragment's key is open where the message's is
  key_known : known s.chains m.address (heading_in words) ≡ is_open m s
  key_known = rw (says_message m cuts place within)

  -- a fragment that is first, or whose key is open, touches its chain
  heard : (eqb place 0 ≡ false → is_open m s ≡ true) → step.Heard lent s.chains m.address words
  heard has =
      record {
        room = h.room;
        right = h.right;
        small = address_small m cuts;
        good = part_good m cuts place within;
        has = λ later. key_known ∙ has (sym (says_first m cuts place within) ∙ later);
      }

  -- ---- a copy that is taken

  -- the chain that it meets has joined those before it, and so has its text
  pub record Meets : Type 0 where
    pub is_taken : step.Accepted lent s.chains m.address words
    pub before : chain_before s.chains m.address (heading_in words) ≡ chain_at m place
    pub text : text_at s.bytes (slot_for s.chains m.address (heading_in words)) (length (text_before m place)) ≡ text_before m place

  -- a copy meets its chain where the chain is that one, and there is a slot
  meets_with : (eqb place 0 ≡ false → is_open m s ≡ true) → chain_before s.chains m.address (heading_in words) ≡ chain_at m place
      → slot_for s.chains m.address (heading_in words) < length s.chains
      → text_at s.bytes (slot_for s.chains m.address (heading_in words)) (length (text_before m place)) ≡ text_before m place → Meets
  meets_with has before free text =
      record {
        is_taken = record { heard = heard has; taken = rw before (part_taken m cuts place within); free = free };
        before = before;
        text = text;
      }

  -- a first fragment that finds a slot meets a chain that is not begun
  pub meets_first : place ≡ 0 → finds_slot m s ≡ true → Meets
  meets_first first finds =
      meets_with
      (λ later. absurd (eqb-false place 0 later first))
      (before_first s.chains m.address (heading_in words) is-first
      ∙ ap (unbegun m.address) (says_message m cuts place within) ∙ begins m ∙ ap (chain_at m) (sym first))
      (⊎_elim
      (λ is. known_has_slot s.chains m.address (heading_in words) (key_known ∙ is))
      (λ none. free none
      (ltb-true (first_free s.chains) (length s.chains) (other_of (is_open m s) (ltb (first_free s.chains) (length s.chains)) finds none)))
      (decided (is_open m s)))
      (let empty : text_before m place ≡ [] = ap (text_before m) first ∙ none_before m in rw empty)
    where
      is-first : is_first (heading_in words) ≡ true
      is-first = says_first m cuts place within ∙ eq-eqb place 0 first

      free : is_open m s ≡ false → first_free s.chains < length s.chains → slot_for s.chains m.address (heading_in words) < length s.chains
      free none some =
          let out = not_found m.address m.marks.message_number s.chains none in
          rw (is-first, says_message m cuts place within, set_out s.chains (slot_of m s) blank (omega arith)) some

  -- the next copy meets the chain that has joined those before it
  pub meets_next : place ≡ joined → 1 ≤ joined → Meets
  meets_next next some =
      meets_with
      (λ later. chain.there)
      (before_later s.chains m.address (heading_in words) is_later ∙ rw (says_message m cuts place within) chain.chain ∙ ap (chain_at m) (sym next))
      (rw slot (held m.address m.marks.message_number s.chains chain.there).0)
      (rw (slot, next) chain.text)
    where
      chain : Joined m s joined
      chain = h.opened some

      is_later : is_first (heading_in words) ≡ false
      is_later = says_first m cuts place within ∙ ne_eqb place 0 (λ e. omega arith)

      slot : slot_for s.chains m.address (heading_in words) ≡ slot_of m s
      slot = rw (is_later, says_message m cuts place within)

  -- the message's chain in the records then is the one of the fragment's N
  found_then : slot_of m (after s event) ≡ find m.address (heading_in words).message_number (chains_after lent s.chains m.address words)
  found_then = ap (λ (n : ℕ). find m.address n (chains_after lent s.chains m.address words)) (sym (says_message m cuts place within))

  module _ (meets : Meets) where
    -- how long its chain is after the copy
    long_then : characters_after (chain_before s.chains m.address (heading_in words)) (heading_in words) ≡ length (text_before m (suc place))
    long_then = ap (λ (c : Chain). characters_after c (heading_in words)) meets.before ∙ length_next m cuts place within

    -- the text of its slot after the copy
    text_then :
        text_at (buffer_after s.chains m.address words s.bytes) (slot_for s.chains m.address (heading_in words)) (length (text_before m (suc place)))
        ≡ text_before m (suc place)
    text_then =
        let slot = slot_for s.chains m.address (heading_in words) in
        ap (text_at (buffer_after s.chains m.address words s.bytes) slot) (sym long_then)
        ∙ text_grows s.chains m.address words s.bytes meets.is_taken
        ∙ ap (λ (c : Chain). text_at s.bytes slot c.characters ++ text_in words) meets.before
        ∙ ap (λ (text : List ℕ). text ++ text_in words) meets.text
        ∙ text_step (cuttable m cuts) place within

    -- where the copy is not of the last fragment, the chain has joined it then, and nothing is handed out
    pub taken_on : (place + 1 ≡ count_of m → ⊥) → Holding m (after s event) (suc place) × ((as_answer (answer_to s event)).complete ≡ 1 → ⊥)
    taken_on more = (
      holding_after m s joined event (suc place) h
          (λ none. absurd (omega arith))
          (λ some. record {
            within = omega (arith, more);
            there = rw (found, step.chains_length lent s.chains m.address words) (lt-ltb slot (length s.chains) meets.is_taken.free);
            chain = rw found (grows.0 ∙ ap (λ (c : Chain). grown c (heading_in words)) meets.before ∙ part_grown m cuts place within);
            text = rw found text_then;
          }),
      λ e. not_both (goes_on (heading_in words)) on (whole_accepted s.chains m.address words s.bytes e).1,
    )
      where
        on : goes_on (heading_in words) ≡ true
        on = says_more m cuts place within ∙ ap not (ne_eqb (place + 1) (count_of m) more)

        slot : ℕ
        slot = slot_for s.chains m.address (heading_in words)

        grows : let c = chain_before s.chains m.address (heading_in words) in
            (get_or (chains_after lent s.chains m.address words) slot blank ≡ grown c (heading_in words))
            × (find m.address (heading_in words).message_number (chains_after lent s.chains m.address words) ≡ slot)
        grows = step.grows_on lent s.chains m.address words meets.is_taken on

        found : slot_of m (after s event) ≡ slot
        found = found_then ∙ grows.1

    -- where the copy is of the last fragment, the text is handed out, and no chain is open then
    pub taken_whole : place + 1 ≡ count_of m
        → let answer = answer_to s event in
        Holding m (after s event) 0 × ((as_answer answer).complete ≡ 1) × (text_by answer (after s event) ≡ m.text)
    taken_whole last =
        let whole = step.told_whole lent s.chains m.address words meets.is_taken ends in
        let now : suc place ≡ count_of m = omega arith in (
          holding_after m s joined event 0 h
              (λ none. shut_by m s (after s event) (step.chains_length lent s.chains m.address words)
              (found_then ∙ step.whole_not_found lent s.chains m.address words meets.is_taken ends))
              (λ some. absurd (omega arith)),
          ap (λ (t : Told). (as_answer t).complete) whole,
          ap (λ (t : Told). text_by t (after s event)) whole
              ∙ ap (text_at (buffer_after s.chains m.address words s.bytes) (slot_for s.chains m.address (heading_in words))) long_then
              ∙ text_then ∙ ap (text_before m) now ∙ all_before m cuts,
        )
      where
        ends : goes_on (heading_in words) ≡ false
        ends = says_more m cuts place within ∙ ap not (eq-eqb (place + 1) (count_of m) last)

  -- ---- a copy that is not taken

  -- where a chain is open, another than the next is out of turn: the chain is lost, and nothing handed out
  pub out_of_turn_closes : 1 ≤ joined → 1 ≤ place → (fragment_number place ≡ fragment_number joined → ⊥)
      → Holding m (after s event) 0 × ((as_answer (answer_to s event)).complete ≡ 1 → ⊥)
  out_of_turn_closes some later apart =
      let late : 14 ≤ number_told (step_of lent s.chains m.address words) = rw told (omega arith) in (
        holding_after m s joined event 0 h
            (λ none. shut_by m s (after s event) (step.chains_length lent s.chains m.address words)
            (found_then ∙ step.lost_not_found lent s.chains m.address words late))
            (λ some. absurd (omega arith)),
        λ e. omega (arith, ap (λ (t : Told). (as_answer t).complete) told),
      )
    where
      chain : Joined m s joined
      chain = h.opened some

      is_later : is_first (heading_in words) ≡ false
      is_later = says_first m cuts place within ∙ ne_eqb place 0 (λ e. omega arith)

      before : chain_before s.chains m.address (heading_in words) ≡ chain_at m joined
      before = before_later s.chains m.address (heading_in words) is_later ∙ rw (says_message m cuts place within) chain.chain

      told : step_of lent s.chains m.address words ≡ told_of s.chains m.address (heading_in words) (lost OutOfTurn)
      told =
          step.step_heard lent s.chains m.address words (heard (λ other. chain.there))
          ∙ ap (told_of s.chains m.address (heading_in words))
          (out_of_turn (chain_before s.chains m.address (heading_in words)) (heading_in words)
          (λ turn. apart (sym (says_number m cuts place within) ∙ turn ∙ ap (λ (c : Chain). c.next_fragment) before)))

-- ---- what changes nothing

-- a fragment that is refused before a chain is touched: nothing is handed out, and the state is as it was
refused_holds : (m : Message) (s : State) (joined : ℕ) (address : ℕ) (words : List ℕ) → Holding m s joined
    → (step.Heard (length s.bytes) s.chains address words → ⊥)
    → Holding m (after s (came address words)) joined × ((as_answer (answer_to s (came address words))).complete ≡ 1 → ⊥)
refused_holds m s joined address words h unheard =
    (rw (same_chains, same_bytes) h, λ e. unheard (whole_accepted s.chains address words s.bytes e).0.heard)
  where
    number : ℕ
    number = number_told (step_of (length s.bytes) s.chains address words)

    some : number ≡ 0 → ⊥
    some none = unheard ((step.accepted (length s.bytes) s.chains address words).0 none).heard

    early : number < 14
    early =
        ⊎_elim
        (λ late. absurd (unheard (step.of_chain_lem (length s.bytes) s.chains address words (rw late))))
        (λ before. leb-false 14 number before)
        (decided (leb 14 number))

    same_chains : chains_after (length s.bytes) s.chains address words ≡ s.chains
    same_chains = step.refused_stays (length s.bytes) s.chains address words some early

    same_bytes : buffer_after s.chains address words s.bytes ≡ s.bytes
    same_bytes = refused_writes_nothing s.chains address words s.bytes some

-- a later fragment where no chain is open, 13
pub none_open : (m : Message) (cuts : is_cut m ≡ true) (s : State) (place : ℕ) → Holding m s 0 → place < count_of m → 1 ≤ place
    → let event = came m.address (part m place) in Holding m (after s event) 0 × ((as_answer (answer_to s event)).complete ≡ 1 → ⊥)
none_open m cuts s place h within later =
    refused_holds m s 0 m.address (part m place) h
    (λ heard. not_both (is_open m s)
    (ap (λ (n : ℕ). holds m.address n s.chains) (sym (says_message m cuts place within))
    ∙ heard.has (says_first m cuts place within ∙ ne_eqb place 0 (λ e. omega arith)))
    (h.shut refl))

-- visible damage: 9, 10 or 11
pub damaged_holds : (m : Message) (s : State) (joined address : ℕ) (words : List ℕ) → Holding m s joined → is_damaged words ≡ true
    → let event = came address words in Holding m (after s event) joined × ((as_answer (answer_to s event)).complete ≡ 1 → ⊥)
damaged_holds m s joined address words h damaged =
    refused_holds m s joined address words h
    (λ heard. eqb-false (number_told (heading_of words)) 0 (not-true _ damaged) ((accepted words).1 heard.good))

-- ---- other keys

-- a key that is not the message's is another
pub other_key : (m : Message) (whose n : ℕ) → is_key m whose n ≡ false → OtherKey m.address m.marks.message_number whose n
other_key m whose n isnt same number =
    not_both (is_key m whose n) (rw (eq-eqb whose m.address (sym same), eq-eqb n m.marks.message_number (sym number))) isnt

-- an event of another key leaves what is held
pub others_hold : (m : Message) (s : State) (joined : ℕ) (event : Event) → Holding m s joined
    → Others m.address m.marks.message_number event → Holding m (after s event) joined
others_hold m s joined event h others =
    holding_after m s joined event joined h
    (λ none. rw (slot_stays, (event_length s event).0) (h.shut none))
    (λ some.
    let chain = h.opened some in
    let same =
    event_others s event m.address m.marks.message_number (slot_of m s) others
    (held m.address m.marks.message_number s.chains chain.there).1 in
    record {
      within = chain.within;
      there = rw (slot_stays, (event_length s event).0) chain.there;
      chain = rw slot_stays (same.same_record ∙ chain.chain);
      text =
          rw slot_stays
          (ap (λ (c : Chain). text_at (after s event).bytes (slot_of m s) c.characters) (sym chain.chain)
          ∙ same.same_text ∙ ap (λ (c : Chain). text_at s.bytes (slot_of m s) c.characters) chain.chain
          ∙ chain.text);
    })
  where
    slot_stays : slot_of m (after s event) ≡ slot_of m s
    slot_stays = other_slot_of s event m.address m.marks.message_number others

-- a drop that finds no chain of its key
pub drop_holds : (m : Message) (s : State) (joined whose n : ℕ) → Holding m s joined → is_key m whose n ≡ true
    → is_open m s ≡ false → Holding m (after s (dropped whose n)) joined
drop_holds m s joined whose n h is shut =
    rw (drop_refused s.chains whose n (λ none. not_both (is_open m s) (there ((drop_accepted s.chains whose n).0 none).is_open) shut)) h
  where
    there : holds whose n s.chains ≡ true → is_open m s ≡ true
    there open-there =
        let same_address : whose ≡ m.address = eqb-true whose m.address (first_of (eqb whose m.address) (eqb n m.marks.message_number) is) in
        let same_message : n ≡ m.marks.message_number =
        eqb-true n m.marks.message_number (second_of (eqb whose m.address) (eqb n m.marks.message_number) is) in
        sym (ap₂ (λ (a k : ℕ). holds a k s.chains) same_address same_message) ∙ open-there
