-- What is demanded of any host: of its answers, of its words, of its count of frames. Demand 3, of a text through the air, is `Demand` in air/specs/Demand.
use Rattle.std.specs.Prelude.{ℕ, ◌*◌, Bool, true, not, ◌&&◌, List, [], ◌∷◌, ◌≡◌, leb, ltb, eqb, length, set}
use Rattle.laws.specs.Choice.{pick}
use Rattle.refusal.specs.declared.Refusal.{Refusal}
use Rattle.refusal.specs.declared.Refusal.TheVariants as refusals
use Rattle.refusal.specs.Told.{Told, refused, given, number_of, number_told}
use Rattle.capcode.specs.Ranges.{accepted}
use Rattle.frames.specs.declared.Listener.{Listener}
use Rattle.frames.specs.Listening.{heard, masks_of, ones_of}
use Rattle.sums.specs.Words.{undamaged}
use Rattle.fragment.specs.Fragments.{most_characters, is_size, checked}
use Rattle.chain.specs.declared.Chain.{Chain}
use Rattle.chain.specs.Chains.{is_address, is_message, blank, find, holds, sound}
use Rattle.chain.specs.Steps.{heading_in, is_first, goes_on, sum_after, characters_after, slot_for, chain_before}
use Rattle.chain.specs.Runs.{Event, came, dropped, State}
use Rattle.air.specs.Demand.{Host}

-- ---- demand 1: "one of document 01's 18 refusals, exactly when its table says"

-- a line of the table: its refusal, and whether it is given here
pub record Line : Type 0 where
  pub refusal : Refusal
  pub applies : Bool

-- the number of the first line that is given; 0 where none is
unfoldable pub number_by : List Line → ℕ
number_by [] = 0
number_by (line ∷ lines) = pick line.applies (number_of line.refusal) (number_by lines)

-- a line of the table, written in that order
abbrev pub line : Refusal → Bool → Line
line r applies = record { refusal = r; applies = applies }

-- the lines that tell of a fragment and of a drop, in the table's order
abbrev pub lines_for : State → Event → List Line
lines_for s (came address words) =
    let row = s.chains in
    let h = heading_in words in
    let chain = chain_before row address h in
    -- "a lent buffer is shorter than the answer needs"
    line refusals.Room (ltb (length s.bytes) (length row * most_characters))
    -- "an open chain with .."
    ∷ line refusals.State (not (sound row))
    -- "address number not 0 to 31"
    ∷ line refusals.Address (not (is_address address))
    -- "words .. outside the limits"
    ∷ line refusals.Size (not (is_size (length words)))
    -- "a word over 21 bits"
    ∷ line refusals.Damaged (not (undamaged words))
    -- "K differs"
    ∷ line refusals.Checksum (not (checked words))
    -- "continuation .. of a key not open"
    ∷ line refusals.NoChain (not (is_first h) && not (holds address h.message_number row))
    -- "F not the next"
    ∷ line refusals.OutOfTurn (not (eqb h.fragment_number chain.next_fragment))
    -- "text over the room"
    ∷ line refusals.TooLong (ltb most_characters (characters_after chain h))
    -- "last fragment's total differs"
    ∷ line refusals.Signature (not (goes_on h) && not (eqb (sum_after chain h) 127))
    -- "no free slot"
    ∷ line refusals.Full (eqb (slot_for row address h) (length row))
    ∷ []
lines_for s (dropped address n) =
    line refusals.State (not (sound s.chains))
    -- "N over 63"
    ∷ line refusals.Packet (not (is_message n))
    ∷ line refusals.Address (not (is_address address))
    -- "drop, of a key not open"
    ∷ line refusals.NoChain (not (holds address n s.chains))
    ∷ []

-- each answer has the number of the first line that is given, and none where no line is
abbrev pub AsTheTable : Host → Type 0
AsTheTable host = (s : State) (event : Event) → number_told (host.answer s event) ≡ number_by (lines_for s event)

-- the address number that an event is of
abbrev pub whose : Event → ℕ
whose (came address words) = address
whose (dropped address n) = address

-- the N that an event is of
abbrev pub message : Event → ℕ
message (came address words) = (heading_in words).message_number
message (dropped address n) = n

-- whether a refusal closes a chain: 01's table says so of 14, 15 and 16
abbrev pub closes_chain : ℕ → Bool
closes_chain number = leb 14 number && leb number 16

-- the records after a refusal: 14, 15 and 16 close the chain of the event's key, and every other refusal leaves the
-- records as they were. Where no chain of the key is open, the place found is the one past the row, and there is none
-- to close
abbrev pub chains_refused : ℕ → State → Event → List Chain
chains_refused number s event = pick (closes_chain number) (set s.chains (find (whose event) (message event) s.chains) blank) s.chains

-- "After a refusal lent bytes read as before, and state changes only where the table says": where 14, 15 or 16 closes a chain, and there it does
abbrev pub KeepsWhatItHas : Host → Type 0
KeepsWhatItHas host =
    (s : State) (event : Event) → (number_told (host.answer s event) ≡ 0 → ⊥)
    → ((host.next s event).bytes ≡ s.bytes) × ((host.next s event).chains ≡ chains_refused (number_told (host.answer s event)) s event)

-- ---- demand 2: "address to words and back"

-- of every accepted address there are words, from which the way back leads to it; and, as 01 says, the way back "refuses all other words"
abbrev pub WordsAndBack : (ℕ → Told) → (List ℕ → Told) → Type 0
WordsAndBack words back =
    ((address : ℕ) → accepted address ≡ true → (row : List ℕ) × (words address ≡ given row) × (back row ≡ given (address ∷ [])))
    × ((row : List ℕ) → ((address : ℕ) → accepted address ≡ true → words address ≡ given row → ⊥) → back row ≡ refused refusals.Range)

-- ---- the frame rule: "The reported number of frames listened to is the count of marked bits over all eight packets"

-- the number that is reported for listeners is the count of their marked bits
abbrev pub FrameRule : (List Listener → ℕ) → Type 0
FrameRule count = (listeners : List Listener) → count listeners ≡ ones_of (masks_of (heard listeners))
