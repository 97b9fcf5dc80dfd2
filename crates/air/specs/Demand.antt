-- Demand 3, in the order of its words. What is quoted is the demand; the definition after it says the same. The
-- demand as a whole is `Demand`, at the end.
--
-- How to read a line. `f : A → B → C` says that f takes an A and a B and gives a C, and the lines below it what it
-- gives. `x.part` is a part of x. `≡` says that two things are the same, `↔` exactly if; `(k : ℕ) → ..` is said of
-- every number k, `(k : ℕ) × ..` of some number k. `eqb`, `leb` and `ltb` ask whether a number is equal to, at most,
-- below another; `&&`, `||` and `not` join such tests; `pick test a b` is a where the test holds, and b else.
--
-- Rows: `[]` is empty, `a ∷ row` begins with a, `++` joins two; `length` is how many, `get_or row k d` the one at place
-- k (d where there is none), `take n` the first n and `drop n` the others; `all` and `any_of` ask whether all, or one,
-- pass a test; `up_from 0 n` is 0, 1 and so on, n of them, and `replicate n a` n times a.
--
-- The words of the code's own definitions: `cut` is 01's cutting (fragment/specs/Cutting); `came` and `dropped` are
-- what a host is given, and `State` what it keeps, the records of chains and the lent bytes (chain/specs/Runs);
-- `holds`, `first_free` and `sound` are asked of the records (chain/specs/Chains); `heading_of` is what is answered to
-- a fragment by itself, `heading_in` what its first word says (fragment/specs/Answers, chain/specs/Steps); `as_answer`
-- names the numbers of an answer (chain/specs/Answers).
use Rattle.std.specs.Prelude.{ℕ, ◌+◌, ◌-◌, ◌*◌, ◌≤◌, ◌<◌, Bool, true, false, not, ◌&&◌, ◌||◌, List, [], ◌∷◌, ◌++◌, ◌↔◌, ◌≡◌, leb, ltb, eqb, length, get_or, take, drop, replicate}
use Rattle.laws.specs.Choice.{pick}
use Rattle.laws.specs.Lists.{all, any_of, up_from}
use Rattle.refusal.specs.Told.{Told, number_told}
use Rattle.fragment.specs.Fragments.{most_characters, is_size}
use Rattle.fragment.specs.Answers.{heading_of}
use Rattle.fragment.specs.declared.Marks.{Marks}
use Rattle.fragment.specs.Cutting.{marked, sendable, cut}
use Rattle.chain.specs.Chains.{is_address, holds, first_free, sound}
use Rattle.chain.specs.Steps.{heading_in}
use Rattle.chain.specs.Answers.{as_answer}
use Rattle.chain.specs.Runs.{Event, came, dropped, State, answer_to, after}

-- ---- "A sender cuts a text of at most 1,008 characters by 01's rules."

-- a message: for which address number; its N, R and M; the largest fragment, in words; the text
pub record Message : Type 0 where
  pub address : ℕ
  pub marks : Marks
  pub largest : ℕ
  pub text : List ℕ

-- its fragments, the first at place 0
abbrev pub fragments : Message → List (List ℕ)
fragments m = cut m.marks m.largest m.text

-- 01's rules: an address number; N, R and M that fit; a largest fragment of 2 to 85 words; at most 1,008 characters, none over 7FH and none ETX
abbrev pub is_cut : Message → Bool
is_cut m =
    is_address m.address && marked m.marks && is_size m.largest && leb (length m.text) most_characters && sendable m.text

-- ---- "The air loses, visibly damages (9, 10 or 11 in 01) or repeats fragments,"

-- what comes to the host: a good copy of the fragment at a place, or any other event (a fragment for an address number, or a drop of a chain).
-- What is lost does not come; what is repeated comes again; what is damaged comes as other words
pub data Arrival : Type 0 where
  copy : ℕ → Arrival
  other : Event → Arrival

-- what the host is given: for a copy the address number and the fragment's words
abbrev pub event_of : Message → Arrival → Event
event_of m (copy place) = came m.address (get_or (fragments m) place [])
event_of m (other event) = event

-- whether words are visibly damaged: refused by 9, 10 or 11
abbrev pub is_damaged : List ℕ → Bool
is_damaged words = not (eqb (number_told (heading_of words)) 0)

-- the places of the good copies, in the order in which they come
unfoldable pub places : List Arrival → List ℕ
places [] = []
places (copy place ∷ air) = place ∷ places air
places (other event ∷ air) = places air

-- ---- "keeps their order (no copy comes after one of a later fragment),"

-- whether of each two neighbours of a row the earlier and the later are so
unfoldable pub neighbours : (ℕ → ℕ → Bool) → List ℕ → Bool
neighbours are [] = true
neighbours are (earlier ∷ []) = true
neighbours are (earlier ∷ later ∷ row) = are earlier later && neighbours are (later ∷ row)

-- the places do not fall
abbrev pub is_in_order : List ℕ → Bool
is_in_order row = neighbours leb row

-- ---- "and between two good arrivals never takes every good copy of more than two fragments."

-- how many fragments lie between two places
abbrev pub between : ℕ → ℕ → ℕ
between earlier later = later - (earlier + 1)

-- at most two
abbrev pub loses_few : List ℕ → Bool
loses_few row = neighbours (λ earlier later. leb (between earlier later) 2) row

-- ---- "At the start no chain is open for that address and message number;"

-- whether an address number and an N are the message's
abbrev pub is_key : Message → ℕ → ℕ → Bool
is_key m whose n = eqb whose m.address && eqb n m.marks.message_number

-- whether a chain is open for them
abbrev pub is_open : Message → State → Bool
is_open m s = holds m.address m.marks.message_number s.chains

-- the records are sound, and 1,008 bytes are lent for each: without that every fragment is refused by 2 or 1
abbrev pub is_ready : State → Bool
is_ready s = sound s.chains && leb (length s.chains * most_characters) (length s.bytes)

-- ---- "until the end no other message uses them, state and buffer come back untouched, no one drops the chain or
-- resets, and each good first fragment finds a slot. Other traffic is free."

-- a host: what it answers in a state to an event, and its state then, which is the records and the lent bytes
pub record Host : Type 0 where
  pub answer : State → Event → Told
  pub next : State → Event → State

-- whether a first fragment finds a slot: its own chain's, or a free one
abbrev pub finds_slot : Message → State → Bool
finds_slot m s = is_open m s || ltb (first_free s.chains) (length s.chains)

-- what may come in a state
abbrev pub may_come : Message → State → Arrival → Bool
-- a good copy: a first one where it finds a slot, any other always
may_come m s (copy place) = not (eqb place 0) || finds_slot m s
-- other words: any that are damaged, and any of another key
may_come m s (other (came whose words)) = is_damaged words || not (is_key m whose (heading_in words).message_number)
-- a drop: of another key, or where there is no chain to drop
may_come m s (other (dropped whose n)) = not (is_key m whose n) || not (is_open m s)

-- whether what comes may come so until the end, each time with the state that the host left
unfoldable pub undisturbed : Host → Message → State → List Arrival → Bool
undisturbed host m s [] = true
undisturbed host m s (arrival ∷ air) = may_come m s arrival && undisturbed host m (host.next s (event_of m arrival)) air

-- all that is taken for granted
pub record Premises (host : Host) (m : Message) (start : State) (air : List Arrival) : Type 0 where
  -- the sender cuts by 01's rules
  pub cuts : is_cut m ≡ true
  -- each good copy is of a fragment that there is
  pub copies : all (λ place. ltb place (length (fragments m))) (places air) ≡ true
  -- their order is kept
  pub in_order : is_in_order (places air) ≡ true
  -- between two of them at most two fragments are missing
  pub few_lost : loses_few (places air) ≡ true
  -- the state is one that the host takes
  pub ready : is_ready start ≡ true
  -- no chain is open for the key
  pub closed : is_open m start ≡ false
  -- until the end the key is the message's alone, and each good first fragment finds a slot
  pub quiet : undisturbed host m start air ≡ true

-- ---- "Then every text handed out for them is the sender's,"

-- whether an event is a fragment of the message's address number and N
abbrev pub is_for : Message → Event → Bool
is_for m (came whose words) = is_key m whose (heading_in words).message_number
is_for m (dropped whose n) = false

-- the text that an answer hands out: so many of the lent bytes from its place on
abbrev pub text_by : Told → State → List ℕ
text_by t then = take (as_answer t).characters (drop (as_answer t).place then.bytes)

-- the texts that are handed out for the key, in their order
unfoldable pub texts_out : Host → Message → State → List Arrival → List (List ℕ)
texts_out host m s [] = []
texts_out host m s (arrival ∷ air) =
    let event = event_of m arrival in
    let answer = host.answer s event in
    let then = host.next s event in
    pick (is_for m event && eqb (as_answer answer).complete 1) (text_by answer then ∷ []) [] ++ texts_out host m then air

-- ---- "and at least one is handed out exactly if the first fragment arrives good and, after its last good arrival,
-- the later ones arrive good in order, each once, the last at least once."

-- of the places of the good copies those from the last 0 on; none where there is no 0
unfoldable pub from_first : List ℕ → List ℕ
from_first [] = []
from_first (place ∷ row) = pick (eqb place 0 && not (any_of (eqb 0) row)) (place ∷ row) (from_first row)

-- they are 0, 1, 2 and so on, each place once, and perhaps the last one again
abbrev pub ArrivesWhole : ℕ → List ℕ → Type 0
ArrivesWhole count row = (again : ℕ) × (from_first row ≡ up_from 0 count ++ replicate again (count - 1))

-- what is promised
pub record Promised (host : Host) (m : Message) (start : State) (air : List Arrival) : Type 0 where
  -- every text handed out is the sender's
  pub senders : (k : ℕ) → k < length (texts_out host m start air) → get_or (texts_out host m start air) k [] ≡ m.text
  -- at least one is handed out exactly if the fragments arrive whole
  pub exactly : (1 ≤ length (texts_out host m start air)) ↔ ArrivesWhole (length (fragments m)) (places air)

-- ---- the demand

-- of a host: whatever the message, the start and what the air brings
abbrev pub Demand : Host → Type 0
Demand host = (m : Message) (start : State) (air : List Arrival) → Premises host m start air → Promised host m start air

-- the host that the code is proved to be: `chain` `step` and `drop_chain` answer so and leave this state
abbrev pub ours : Host
ours = record { answer = answer_to; next = after }
