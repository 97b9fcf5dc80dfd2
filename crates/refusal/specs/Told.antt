-- How every answer is told: 01's number, and the values that come with it.
use Rattle.std.specs.Prelude.{ℕ, List, [], ◌∷◌, Bool, true, false, eqb, get_or, Result, Ok, Err}
use Rattle.laws.specs.Choice.{pick}
use Rattle.laws.specs.Lists.{put}
use Rattle.refusal.specs.declared.Refusal.{Refusal}
use Rattle.refusal.specs.declared.Refusal.TheVariants.{Room, State, Text, «Type», Range, Offset, Packet}
use Rattle.refusal.specs.declared.Refusal.TheVariants.{Address, Size, Damaged, Checksum, Full, NoChain}
use Rattle.refusal.specs.declared.Refusal.TheVariants.{OutOfTurn, TooLong, Signature, NoCall, Character}
use Rattle.refusal.specs.declared.Refusal.TheVariants.{DigitBeforeLetter, LeadingFour, DigitAfterLetter, BeyondRepair, NoSync}

-- 01, "The eighteen answers of no": the column No; 02, item 1: "20 for a 4 at place 0, 19 for any other digit before the letter, 21 for a digit after
-- the letter"; 02, item 5: "25 beyond repair, 26 not after a sync word"
abbrev pub number_of : Refusal → ℕ
number_of Room = 1
number_of State = 2
number_of Text = 3
number_of «Type» = 4
number_of Range = 5
number_of Offset = 6
number_of Packet = 7
number_of Address = 8
number_of Size = 9
number_of Damaged = 10
number_of Checksum = 11
number_of Full = 12
number_of NoChain = 13
number_of OutOfTurn = 14
number_of TooLong = 15
number_of Signature = 16
number_of NoCall = 17
number_of Character = 18
number_of DigitBeforeLetter = 19
number_of LeadingFour = 20
number_of DigitAfterLetter = 21
number_of BeyondRepair = 25
number_of NoSync = 26

-- an answer as 01 tells it: the number of its refusal, or 0 where nothing is refused, and its values
pub data Told : Type 0 where
  told : ℕ → List ℕ → Told

-- a refusal that tells nothing besides its number
abbrev pub refused : Refusal → Told
refused r = told (number_of r) []

-- a refusal that tells a place besides its number
abbrev pub refused_at : Refusal → ℕ → Told
refused_at r place = told (number_of r) (place ∷ [])

-- an answer that is no refusal, with its values
abbrev pub given : List ℕ → Told
given values = told 0 values

-- one question of a definition, a line a refusal: where the test holds the answer is that refusal, else what follows
abbrev pub ask : Bool → Refusal → Told → Told
ask true r rest = refused r
ask false r rest = rest

-- the number of an answer that is refused unless a test holds
abbrev pub number_unless : Refusal → Bool → ℕ
number_unless r good = pick good 0 (number_of r)

-- a number told with an answer: itself, and 0 after a refusal
abbrev pub kept : Bool → ℕ → ℕ
kept good n = pick good n 0

-- 01, "Order": the order in which the questions are asked, with the refusals that share a place. The first Room is the one for the chains' bytes, the
-- last the one for every other buffer. 02, item 1: "19, 20 and 21 share 3's place in the order"; 02, item 5: "Refusals: 25 beyond repair, 26 not after
-- a sync word, following 10"
unfoldable pub order : List (List Refusal)
order =
    (Room ∷ []) ∷ (State ∷ []) ∷ (Text ∷ DigitBeforeLetter ∷ LeadingFour ∷ DigitAfterLetter ∷ []) ∷ («Type» ∷ []) ∷ (Range ∷ []) ∷ (Offset ∷ [])
    ∷ (Packet ∷ []) ∷ (Address ∷ []) ∷ (Size ∷ []) ∷ (Damaged ∷ []) ∷ (BeyondRepair ∷ []) ∷ (NoSync ∷ []) ∷ (Checksum ∷ []) ∷ (NoChain ∷ [])
    ∷ (OutOfTurn ∷ []) ∷ (TooLong ∷ []) ∷ (Character ∷ []) ∷ (Signature ∷ []) ∷ (Full ∷ []) ∷ (NoCall ∷ []) ∷ (Room ∷ []) ∷ []

-- the number that is told
abbrev pub number_told : Told → ℕ
number_told (told n values) = n

-- one of the values that are told, 0 where it is not told
abbrev pub value_told : Told → ℕ → ℕ
value_told (told n values) place = get_or values place 0

-- how what the code answers is told: what it gives, as values, or its refusal
abbrev pub told_by : {A : Type 0} → (A → List ℕ) → Result A Refusal → Told
told_by values (Ok a) = given (values a)
told_by values (Err r) = refused r

-- the number of what the code answers: 0, or its refusal's
abbrev pub number_by : {A : Type 0} → Result A Refusal → ℕ
number_by (Ok a) = 0
number_by (Err r) = number_of r

-- what a lent buffer holds after an answer: the text at its start, or after a refusal what it held
abbrev pub written_by : Told → List ℕ → List ℕ → List ℕ
written_by (told n values) buffer text = pick (eqb n 0) (put buffer 0 text) buffer
