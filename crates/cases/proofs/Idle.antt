-- Idle hosts, each of which breaks what is demanded (document 01, "Four idle programs must break a statement").
use Prim.Native.Nat.{ℕ, ◌+◌}
use mathlib.Core.Bool.{Bool, true, false}
use mathlib.Core.List.{List, [], ◌∷◌}
use mathlib.Core.Path.{◌≡◌, refl, sym, ap, ◌∙◌}
use native.Mathlib.Omega.{arith}
use borrow.Author.Tests.{eqb-false}
use lib.Count.{ones}
use lib.Dec.{eqb}
use lib.ListN.{get_or, set, take, replicate}
use Rattle.laws.specs.Choice.{pick}
use Rattle.laws.specs.Lists.{all, any_of, first_that, sum_by, up_from}
use Rattle.laws.specs.Numerals.{number, digits}
use Rattle.laws.specs.Texts.{bytes_of}
use Rattle.refusal.specs.declared.Refusal.{Refusal}
use Rattle.refusal.specs.declared.Refusal.TheVariants as refusals
use Rattle.refusal.specs.Told.{Told, told, number_of, refused, given, number_told}
use Rattle.refusal.proofs.Laws.{number_positive, given_not_refused, given_head, given_tells}
use Rattle.capcode.specs.Ranges.{rows, class_in, class_of, accepted}
use Rattle.capcode.specs.Words as capcodes
use Rattle.capcode.specs.Words.{same, from_word, from_pair, confirmed}
use Rattle.capcode.proofs.WordLaws.{there_and_back}
use Rattle.frames.specs.declared.Listener.{Listener}
use Rattle.frames.specs.Listening.{listens, heard, count_from, count_of, mask_from, masks_of, ones_of}
use Rattle.fragment.specs.Fragments.{cells_of, words_of, fragment_of, without_fill}
use Rattle.fragment.specs.Cutting.{sendable, message_of, fragment_at, fragments_from, cut}
use Rattle.chain.specs.declared.Chain.{Chain}
use Rattle.chain.specs.Chains.{blank, fresh, sound}
use Rattle.chain.specs.Steps.{heading_in, is_first, fate}
use Rattle.chain.specs.Answers.{step_of, chains_after, buffer_after}
use Rattle.chain.specs.Runs.{Event, came, dropped, State, answer_to, after}
use Rattle.chain.proofs.Examples.{opened, one, two, three}
use Rattle.air.specs.Demand.{Message, fragments, Arrival, copy, places, neighbours, undisturbed, Host, Premises, texts_out, from_first, Demand, ours}
use Rattle.cases.specs.Demands.{number_by, AsTheTable, KeepsWhatItHas, WordsAndBack, FrameRule}

-- ---- an example: a message that comes whole

-- "HELLO ME", N 5, for address number 7, in fragments of two words
abbrev hello : Message
hello =
    record { address = 7; marks = record { message_number = 5; retrieval = 0; mail_drop = 0 }; largest = 2; text = bytes_of "HELLO ME" }

-- its fragments are three
pub hello_cut : fragments hello ≡ one ∷ two ∷ three ∷ []
unfolding cut fragments_from fragment_at fragment_of message_of words_of number sum_by
hello_cut = refl

-- one free slot, and its bytes
abbrev free : State
free = record { chains = fresh 1; bytes = replicate 1008 0 }

-- each fragment comes once, in order
abbrev in_turn : List Arrival
in_turn = copy 0 ∷ copy 1 ∷ copy 2 ∷ []

-- all that is taken for granted holds, whatever the host
pub premises : (host : Host) → Premises host hello free in_turn
unfolding cut fragments_from sendable all places neighbours sound first_that undisturbed
premises host =
    record { cuts = refl; copies = refl; in_order = refl; few_lost = refl; ready = refl; closed = refl; quiet = refl }

-- the text that a host hands out first; none where it hands out none
unfoldable pub first_text : Host → List ℕ
unfolding texts_out cut fragments_from fragment_at fragment_of message_of words_of number step_of chains_after buffer_after
    sound fate cells_of without_fill digits sum_by all first_that
first_text host = get_or (texts_out host hello free in_turn) 0 []

-- where the demand is kept, the text handed out first is the sender's
first_senders : (host : Host) → Demand host → first_text host ≡ hello.text
unfolding first_text places any_of from_first up_from
first_senders host kept =
    let promised = kept hello free in_turn (premises host) in
    promised.senders 0 (promised.exactly.1 (0, refl))

-- a host whose first text has another character than the sender's at some place breaks the demand; where it hands out none, 0 is read
breaks : (host : Host) (k : ℕ) → (get_or (first_text host) k 0 ≡ get_or hello.text k 0 → ⊥) → Demand host → ⊥
breaks host k other kept = other (ap (λ (text : List ℕ). get_or text k 0) (first_senders host kept))

-- ours hands out the sender's
pub ours_senders : first_text ours ≡ hello.text
unfolding first_text
ours_senders = refl

-- ---- "a host that refuses all"

-- every event is refused; which refusal it is, and the state then, may go by state and event
abbrev pub refuses_all : (State → Event → Refusal) → (State → Event → State) → Host
refuses_all why then = record { answer = λ s event. refused (why s event); next = then }

-- a host that refuses all breaks the table, which refuses nothing of a first fragment that finds a slot
pub refusing_breaks_table : (why : State → Event → Refusal) (then : State → Event → State) → AsTheTable (refuses_all why then) → ⊥
unfolding number_by sound cells_of without_fill digits sum_by all first_that
refusing_breaks_table why then kept =
    let none : number_of (why free (came 7 one)) ≡ 0 = kept free (came 7 one) in
    omega (arith, number_positive (why free (came 7 one)))

-- a host that refuses all hands out nothing, where the first character is "H"
pub refusing_breaks_demand : (why : State → Event → Refusal) (then : State → Event → State) → Demand (refuses_all why then) → ⊥
unfolding first_text
refusing_breaks_demand why then = breaks (refuses_all why then) 0 (eqb-false 0 72 refl)

-- ---- a host that writes what it refuses

-- ours, but that every event changes the first byte
abbrev pub writes_always : Host
writes_always =
    record { answer = answer_to; next = λ s event. record { chains = (after s event).chains; bytes = set s.bytes 0 1 } }

-- it writes also when a fragment of no words comes, which is refused
pub writing_breaks_state : KeepsWhatItHas writes_always → ⊥
unfolding step_of sound first_that
writing_breaks_state kept =
    eqb-false 1 0 refl (ap (λ (bytes : List ℕ). get_or bytes 0 0) (kept free (came 7 []) (eqb-false 9 0 refl)).0)

-- ---- a host that leaves a lost chain open

-- ours, but that every refusal leaves the records as they were
abbrev pub leaves_open : Host
leaves_open =
    record {
      answer = answer_to;
      next = λ s event. record { chains = pick (eqb (number_told (answer_to s event)) 0) (after s event).chains s.chains; bytes = (after s event).bytes };
    }

-- one slot, whose chain of address number 7 and N 5 awaits F 1
abbrev begun : State
begun = record { chains = opened 7 5 1 77 5 ∷ []; bytes = replicate 1008 0 }

-- a fragment with F 0 is answered 14, so that the chain is to be closed
pub leaving_open_breaks_state : KeepsWhatItHas leaves_open → ⊥
unfolding step_of buffer_after sound fate cells_of without_fill digits sum_by all first_that
leaving_open_breaks_state kept =
    eqb-false 1 0 refl (ap (λ (row : List Chain). (get_or row 0 blank).is_open) (kept begun (came 7 two) (eqb-false 14 0 refl)).1)

-- ---- "one that gives every CAPCODE the same words"

-- the same answer for every address
abbrev pub same_words : Told → ℕ → Told
same_words words address = words

-- 1 and 2 have the same words then, and no way back leads to both
pub same_words_break : (words : Told) (back : List ℕ → Told) → WordsAndBack (same_words words) back → ⊥
unfolding class_of class_in rows
same_words_break words back kept =
    let of_one = kept.0 1 refl in
    let of_two = kept.0 2 refl in
    let same : of_one.0 ≡ of_two.0 = given_tells of_one.0 of_two.0 (sym of_one.1 ∙ of_two.1) in
    eqb-false 1 2 refl (given_head 1 2 (sym of_one.2 ∙ ap back same ∙ of_two.2))

-- ---- a way back that does not refuse all other words

-- Table 24 read backwards, with no look at whether the address is an accepted one with just these words
abbrev pub unconfirmed : List ℕ → Told
unconfirmed [] = refused refusals.Range
unconfirmed (word ∷ []) = given (from_word word ∷ [])
unconfirmed (first ∷ second ∷ []) = given (from_pair first second ∷ [])
unconfirmed (first ∷ second ∷ third ∷ more) = refused refusals.Range

-- 01: "The pairs 1F7FFF, 1E0001 and 1F8000, 1E0001 belong to no CAPCODE": here the first of them
pub of_no_address : (address : ℕ) → accepted address ≡ true → capcodes.words_of address ≡ given (0x1F7FFF ∷ 0x1E0001 ∷ []) → ⊥
unfolding capcodes.words_of class_of class_in rows same from_pair confirmed
of_no_address address is words =
    given_not_refused (address ∷ []) refusals.Range (sym (there_and_back address (0x1F7FFF ∷ 0x1E0001 ∷ []) words))

-- an address is answered for that pair, with which the demand is broken
pub unconfirmed_breaks : WordsAndBack capcodes.words_of unconfirmed → ⊥
unconfirmed_breaks kept =
    given_not_refused (from_pair 0x1F7FFF 0x1E0001 ∷ []) refusals.Range (kept.1 (0x1F7FFF ∷ 0x1E0001 ∷ []) of_no_address)

-- ---- "or hands out an empty text"

-- an answer, told of a text of no characters
abbrev emptied : Told → Told
emptied (told n values) = told n (set values 7 0)

-- ours, but that every text handed out is empty
abbrev pub hands_out_nothing : Host
hands_out_nothing = record { answer = λ s event. emptied (answer_to s event); next = after }

-- a text handed out empty has no first character
pub handing_out_nothing_breaks : Demand hands_out_nothing → ⊥
unfolding first_text
handing_out_nothing_breaks = breaks hands_out_nothing 0 (eqb-false 0 72 refl)

-- ---- "one that never stores"

-- ours, but that no byte is written
abbrev pub never_stores : Host
never_stores =
    record { answer = answer_to; next = λ s event. record { chains = (after s event).chains; bytes = s.bytes } }

-- with no byte written, the first byte handed out is the 0 that stood there
pub never_storing_breaks : Demand never_stores → ⊥
unfolding first_text
never_storing_breaks = breaks never_stores 0 (eqb-false 0 72 refl)

-- answers as ours, but records and bytes stay
abbrev pub forgets : Host
forgets = record { answer = answer_to; next = λ s event. s }

-- with no record kept, the second fragment finds no chain, and nothing is handed out
pub forgetting_breaks : Demand forgets → ⊥
unfolding first_text
forgetting_breaks = breaks forgets 0 (eqb-false 0 72 refl)

-- ---- "one that joins the first fragment truly and then only counts"

-- whether an event is a first fragment
abbrev begins : Event → Bool
begins (came address words) = is_first (heading_in words)
begins (dropped address n) = false

-- ours, but that of a later fragment no byte is written
abbrev pub only_counts : Host
only_counts =
    record {
      answer = answer_to;
      next = λ s event. record { chains = (after s event).chains; bytes = pick (begins event) (after s event).bytes s.bytes };
    }

-- of later fragments counted alone, "HE" is handed out, and six bytes that are not "LLO ME"
pub only_counting_breaks : Demand only_counts → ⊥
unfolding first_text
only_counting_breaks = breaks only_counts 2 (eqb-false 0 76 refl)

-- ---- "A frame count that isn't the marked bits breaks the frame rule"

-- whatever it counts, and wherever it is another number
pub miscounting_breaks : (count : List Listener → ℕ) (listeners : List Listener)
    → (count listeners ≡ ones_of (masks_of (heard listeners)) → ⊥) → FrameRule count → ⊥
miscounting_breaks count listeners other kept = other (kept listeners)

-- a listener of a base frame, which hears four frames of the 128
abbrev at : ℕ → Listener
at base = record { frame = base; collapse = 5 }

-- the frames of each listener added up, so that a frame of two listeners is counted twice
unfoldable pub by_listeners : List Listener → ℕ
by_listeners [] = 0
by_listeners (l ∷ ls) = count_of (listens l) + by_listeners ls

-- the frames added up are 8 for two listeners of base frame 3, where 4 bits are marked
pub counting_twice_breaks : FrameRule by_listeners → ⊥
unfolding by_listeners count_from ones_of mask_from heard ones
counting_twice_breaks = miscounting_breaks by_listeners (at 3 ∷ at 3 ∷ []) (eqb-false 8 4 refl)

-- the marked bits of 20H to 26H, without those of 27H
abbrev pub seven_packets : List Listener → ℕ
seven_packets listeners = ones_of (take 7 (masks_of (heard listeners)))

-- frame 3 and three more are marked, of which 27H has one
pub seven_packets_break : FrameRule seven_packets → ⊥
unfolding ones_of mask_from heard ones
seven_packets_break = miscounting_breaks seven_packets (at 3 ∷ []) (eqb-false 3 4 refl)

-- all frames, whoever listens
abbrev pub always128 : List Listener → ℕ
always128 listeners = 128

-- where no one listens, no bit is marked
pub always_128_breaks : FrameRule always128 → ⊥
unfolding ones_of mask_from heard ones
always_128_breaks = miscounting_breaks always128 [] (eqb-false 128 0 refl)
