-- Demand 3 is kept: on the whole row of records and the lent bytes, for a row of any length, and hence for eight.
use Prim.Native.Nat.{ℕ, suc, ◌+◌, ◌-◌, ◌*◌, ◌≤◌, ◌<◌}
use mathlib.Core.Bool.{Bool, true, false, not, ◌&&◌}
use mathlib.Core.List.{List, [], ◌∷◌, ◌++◌}
use mathlib.Core.Logic.{⊎_elim}
use mathlib.Core.Path.{◌≡◌, refl, ap, ap₂, ◌∙◌}
use native.Mathlib.Nat.{zero-add}
use native.Mathlib.Omega.{arith}
use borrow.Author.Tests.{eqb-true, eqb-false, eq-eqb, ne_eqb, leb-true, le-leb, ltb-true, not-true}
use lib.Dec.{leb, ltb, eqb}
use lib.ListN.{length, replicate, length-replicate, get_or-replicate}
use Rattle.laws.specs.Choice.{pick, bit_of}
use Rattle.laws.specs.Lists.{all}
use Rattle.laws.proofs.Tests.{decided, not_both, first_of, second_of, other_of, neither}
use Rattle.refusal.specs.Told.{Told}
use Rattle.fragment.specs.Fragments.{most_characters}
use Rattle.chain.specs.Chains.{sound, fresh, slot_count}
use Rattle.chain.specs.Steps.{heading_in}
use Rattle.chain.specs.Answers.{as_answer}
use Rattle.chain.specs.Runs.{Event, came, dropped, State, answer_to, after, after_all}
use Rattle.chain.proofs.Runs.{run_length, fresh_run_sound}
use Rattle.air.specs.Demand.{Message, is_cut, Arrival, copy, other, event_of, is_damaged, places, neighbours}
use Rattle.air.specs.Demand.{is_in_order, loses_few, between, is_key, is_open, is_ready, finds_slot, may_come}
use Rattle.air.specs.Demand.{undisturbed, Premises, is_for, text_by, texts_out, Promised, Demand, ours}
use Rattle.air.proofs.Parts.{count_of, part, count_cut, part_cut, other_number, some_part, says_message}
use Rattle.air.proofs.Receiver.{is_taken, hands_out, joined_after, delivered, delivers}
use Rattle.air.proofs.States.{Holding, Meets, meets_first, meets_next, taken_on, taken_whole}
use Rattle.air.proofs.States.{out_of_turn_closes, none_open, damaged_holds, others_hold, drop_holds, other_key}

-- of a row whose neighbours are so, those after the first are
neighbours_after : (are : ℕ → ℕ → Bool) (place : ℕ) (row : List ℕ) → neighbours are (place ∷ row) ≡ true → neighbours are row ≡ true
unfolding neighbours
neighbours_after are place [] e = refl
neighbours_after are place (next ∷ row) e = second_of (are place next) (neighbours are (next ∷ row)) e

-- of a row whose neighbours are so, the first two are
neighbours_first : (are : ℕ → ℕ → Bool) (earlier later : ℕ) (row : List ℕ) → neighbours are (earlier ∷ later ∷ row) ≡ true → are earlier later ≡ true
unfolding neighbours
neighbours_first are earlier later row e = first_of (are earlier later) (neighbours are (later ∷ row)) e

-- what an answer hands out for the message: nothing, or the text
abbrev handed : Message → Event → Told → State → List (List ℕ)
handed m event answer then = pick (is_for m event && eqb (as_answer answer).complete 1) (text_by answer then ∷ []) []

module _ (m : Message) (event : Event) (answer : Told) (then : State) where
  -- nothing is handed out where no text is complete
  handed_none : ((as_answer answer).complete ≡ 1 → ⊥) → handed m event answer then ≡ []
  handed_none unfinished = none (is_for m event) (ne_eqb (as_answer answer).complete 1 unfinished)
    where
      none : (own : Bool) {complete : Bool} → complete ≡ false → pick (own && complete) (text_by answer then ∷ []) [] ≡ []
      none true e = rw e
      none false e = refl

  -- nothing is handed out where an event is not for the message
  handed_others : is_for m event ≡ false → handed m event answer then ≡ []
  handed_others e = rw e

  -- the text is handed out where it is complete and for the message
  handed_whole : is_for m event ≡ true → (as_answer answer).complete ≡ 1 → text_by answer then ≡ m.text → handed m event answer then ≡ m.text ∷ []
  handed_whole own complete text = rw (own, eq-eqb (as_answer answer).complete 1 complete, text)

-- ---- a good copy

-- the copies that come follow the last one that a chain has joined
abbrev ComesAfter : ℕ → List ℕ → Type 0
ComesAfter joined row = (last : ℕ) → joined ≡ suc last → (is_in_order (last ∷ row) ≡ true) × (loses_few (last ∷ row) ≡ true)

-- the copies that come after a copy follow the last one that a chain has joined then
comes_after_now : (count joined place : ℕ) (row : List ℕ) → is_in_order (place ∷ row) ≡ true → loses_few (place ∷ row) ≡ true
    → ComesAfter (joined_after count joined place) row
comes_after_now count joined place row order few last =
    ⊎_elim
    (λ taken. rw taken (λ is. let same : last ≡ place = omega arith in rw same (order, few)))
    (λ lost. rw lost (λ is. absurd (omega arith)))
    (decided (is_taken joined place && not (eqb (place + 1) count)))

-- one text more, or none, before so many
texts_join : (one : Bool) (rest : ℕ) (text : List ℕ) → replicate (bit_of one) text ++ replicate rest text ≡ replicate (bit_of one + rest) text
texts_join true rest text = let more : 1 + rest ≡ suc rest = omega arith in rw more
texts_join false rest text = rw (zero-add rest)

-- what a state makes of a copy is what the receiver makes of its place
copy_step : (m : Message) → is_cut m ≡ true → (s : State) (joined place : ℕ) (row : List ℕ)
    → Holding m s joined → place < count_of m → may_come m s (copy place) ≡ true → ComesAfter joined (place ∷ row)
    → let event = came m.address (part m place) in
    Holding m (after s event) (joined_after (count_of m) joined place)
    × (handed m event (answer_to s event) (after s event) ≡ replicate (bit_of (hands_out (count_of m) joined place)) m.text)
copy_step m cuts s joined place row h within may coming =
    ⊎_elim (λ is. when_taken is (meets is)) when_not (decided (is_taken joined place))
  where
    event : Event
    event = came m.address (part m place)

    own : is_for m event ≡ true
    own =
        rw (
          eq-eqb m.address m.address refl,
          eq-eqb (heading_in (part m place)).message_number m.marks.message_number (says_message m cuts place within),
        )

    Goal : ℕ → ℕ → Type 0
    Goal now texts = Holding m (after s event) now × (handed m event (answer_to s event) (after s event) ≡ replicate texts m.text)

    meets : is_taken joined place ≡ true → Meets m cuts s joined h place within
    meets is =
        ⊎_elim
        (λ first. meets_first m cuts s joined h place within (eqb-true place 0 first) (other_of (not (eqb place 0)) (finds_slot m s) may (rw first)))
        (λ later.
        let next : place ≡ joined = eqb-true place joined (other_of (eqb place 0) (eqb place joined) is later) in
        let some = eqb-false place 0 later in
        meets_next m cuts s joined h place within next (omega (arith, some)))
        (decided (eqb place 0))

    when_taken : is_taken joined place ≡ true → Meets m cuts s joined h place within
        → Goal (joined_after (count_of m) joined place) (bit_of (hands_out (count_of m) joined place))
    when_taken is met =
        ⊎_elim
        (λ last.
        let w = taken_whole m cuts s joined h place within met (eqb-true (place + 1) (count_of m) last) in
        rw (is, last) (w.0, handed_whole m event (answer_to s event) (after s event) own w.1 w.2))
        (λ more.
        let w = taken_on m cuts s joined h place within met (eqb-false (place + 1) (count_of m) more) in
        let next : place + 1 ≡ suc place = omega arith in
        rw (is, more, next) (w.0, handed_none m event (answer_to s event) (after s event) w.1))
        (decided (eqb (place + 1) (count_of m)))

    when_not : is_taken joined place ≡ false → Goal (joined_after (count_of m) joined place) (bit_of (hands_out (count_of m) joined place))
    when_not isnt = rw isnt (⊎_elim shut opened (decided (eqb joined 0)))
      where
        later : 1 ≤ place
        later =
            ⊎_elim
            (λ first. absurd (not_both (is_taken joined place) (rw first) isnt))
            (λ other. let some = eqb-false place 0 other in omega (arith, some))
            (decided (eqb place 0))

        apart : place ≡ joined → ⊥
        apart e = eqb-false place joined (neither (eqb place 0) (eqb place joined) isnt) e

        ends : Holding m (after s event) 0 × ((as_answer (answer_to s event)).complete ≡ 1 → ⊥) → Goal 0 0
        ends w = (w.0, handed_none m event (answer_to s event) (after s event) w.1)

        shut : eqb joined 0 ≡ true → Goal 0 0
        shut none =
            let is : joined ≡ 0 = eqb-true joined 0 none in
            ends (none_open m cuts s place (rw is at h) within later)

        opened : eqb joined 0 ≡ false → Goal 0 0
        opened some =
            let is = eqb-false joined 0 some in
            let follows = coming (joined - 1) (omega (arith, is)) in
            let least = leb-true (joined - 1) place (neighbours_first leb (joined - 1) place row follows.0) in
            let most =
            leb-true (between (joined - 1) place) 2 (neighbours_first (λ earlier later. leb (between earlier later) 2) (joined - 1) place row follows.1) in
            ends
            (out_of_turn_closes m cuts s joined h place within (omega (arith, is)) later
            (λ same. other_number joined place (omega (arith, is)) later (omega (arith, least)) (omega (arith, most)) apart same))

-- ---- other traffic

-- what may come besides leaves what is held, and hands out nothing for the message
other_step : (m : Message) (s : State) (joined : ℕ) (event : Event) → Holding m s joined → may_come m s (other event) ≡ true
    → Holding m (after s event) joined × (handed m event (answer_to s event) (after s event) ≡ [])
other_step m s joined (came whose words) h may =
    let event = came whose words in
    let key = is_key m whose (heading_in words).message_number in
    ⊎_elim
    (λ damaged. let w = damaged_holds m s joined whose words h damaged in (w.0, handed_none m event (answer_to s event) (after s event) w.1))
    (λ good.
    let others = not-true key (other_of (is_damaged words) (not key) may good) in (
      others_hold m s joined event h (other_key m whose (heading_in words).message_number others),
      handed_others m event (answer_to s event) (after s event) others,
    ))
    (decided (is_damaged words))
other_step m s joined (dropped whose n) h may = (
  ⊎_elim
      (λ is. drop_holds m s joined whose n h is (not-true (is_open m s) (other_of (not (is_key m whose n)) (not (is_open m s)) may (ap not is))))
      (λ others. others_hold m s joined (dropped whose n) h (other_key m whose n others))
      (decided (is_key m whose n)),
  refl,
)

-- ---- a run

-- the row, seen through the message's key, is the receiver: over any arrivals it hands out the text as often
simulated : (m : Message) → is_cut m ≡ true → (s : State) (joined : ℕ) (air : List Arrival) → Holding m s joined
    → all (λ place. ltb place (count_of m)) (places air) ≡ true → is_in_order (places air) ≡ true → loses_few (places air) ≡ true
    → ComesAfter joined (places air) → undisturbed ours m s air ≡ true
    → texts_out ours m s air ≡ replicate (delivered (count_of m) joined (places air)) m.text
unfolding texts_out delivered places undisturbed all
simulated m cuts s joined [] h below order few coming quiet = refl
simulated m cuts s joined (other event ∷ air) h below order few coming quiet =
    let may = first_of (may_come m s (other event)) (undisturbed ours m (after s event) air) quiet in
    let one = other_step m s joined event h may in
    rw one.1
    (simulated m cuts (after s event) joined air one.0 below order few coming
    (second_of (may_come m s (other event)) (undisturbed ours m (after s event) air) quiet))
simulated m cuts s joined (copy place ∷ air) h below order few coming quiet =
    let event = event_of m (copy place) in
    let may = first_of (may_come m s (copy place)) (undisturbed ours m (after s event) air) quiet in
    let within = ltb-true place (count_of m) (first_of (ltb place (count_of m)) (all (λ place. ltb place (count_of m)) (places air)) below) in
    let now = joined_after (count_of m) joined place in
    let one = rw (← part_cut m place within) at (copy_step m cuts s joined place (places air) h within may coming) in
    let rest = simulated m cuts (after s event) now air one.0 (second_of (ltb place (count_of m)) (all (λ place. ltb place (count_of m)) (places air)) below)
    (neighbours_after leb place (places air) order) (neighbours_after (λ earlier later. leb (between earlier later) 2) place (places air) few)
    (comes_after_now (count_of m) joined place (places air) order few) (second_of (may_come m s (copy place)) (undisturbed ours m (after s event) air) quiet) in
    ap₂ ◌++◌ one.1 rest ∙ texts_join (hands_out (count_of m) joined place) (delivered (count_of m) now (places air)) m.text

-- ---- demand 3

-- the state at the start holds nothing of the message
at_start : (m : Message) (start : State) → is_ready start ≡ true → is_open m start ≡ false → Holding m start 0
at_start m start ready closed =
    record {
      right = first_of (sound start.chains) (leb (length start.chains * most_characters) (length start.bytes)) ready;
      room =
          leb-true (length start.chains * 1008) (length start.bytes)
          (second_of (sound start.chains) (leb (length start.chains * most_characters) (length start.bytes)) ready);
      shut = λ none. closed;
      opened = λ some. absurd (omega arith);
    }

-- all texts handed out: the sender's, so many times
pub texts_out_lem : (m : Message) (start : State) (air : List Arrival) → Premises ours m start air
    → texts_out ours m start air ≡ replicate (delivered (count_of m) 0 (places air)) m.text
texts_out_lem m start air given =
    simulated m given.cuts start 0 air (at_start m start given.ready given.closed)
    (rw (count_cut m) at given.copies) given.in_order given.few_lost (λ last is. absurd (omega arith))
    given.quiet

-- ours keeps demand 3, with any message, from any start, whatever the air brings, for a row of any length
pub demand_3 : Demand ours
demand_3 m start air given =
    let texts = texts_out_lem m start air given in
    let exactly = delivers (count_of m) (places air) (some_part m given.cuts) (rw (count_cut m) at given.copies) given.in_order in
    record {
      senders = rw texts (λ k within. get_or-replicate (delivered (count_of m) 0 (places air)) k m.text [] (simp length-replicate at within));
      exactly = rw (texts, count_cut m) (simp length-replicate exactly);
    }

-- eight slots and the bytes of their text are ready after any run that began with them free
pub eight_ready : (bytes : List ℕ) (before : List Event) → slot_count * most_characters ≤ length bytes
    → is_ready (after_all (record { chains = fresh slot_count; bytes = bytes }) before) ≡ true
eight_ready bytes before room =
    let start : State = record { chains = fresh slot_count; bytes = bytes } in
    let long = run_length start before in
    rw (fresh_run_sound slot_count bytes before, long.0, long.1) (le-leb (slot_count * most_characters) (length bytes) room)

-- of eight slots that began free the premise that the start is ready need not be asked
pub eight_slots : (bytes : List ℕ) (before : List Event) → slot_count * most_characters ≤ length bytes
    → let start = after_all (record { chains = fresh slot_count; bytes = bytes }) before in
    (m : Message) (air : List Arrival) → (is_ready start ≡ true → Premises ours m start air) → Promised ours m start air
eight_slots bytes before room m air given =
    let start = after_all (record { chains = fresh slot_count; bytes = bytes }) before in
    demand_3 m start air (given (eight_ready bytes before room))
