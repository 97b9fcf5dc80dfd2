-- What is answered to a fragment and to a drop, a line a refusal, in the order of 01's table; and what records and buffer are then.
use Rattle.std.specs.Prelude.{ℕ, ◌*◌, Bool, not, ◌&&◌, List, [], ◌∷◌, ltb, eqb, length, set}
use Rattle.laws.specs.Choice.{pick, bit_of}
use Rattle.laws.specs.Lists.{put}
use Rattle.refusal.specs.declared.Refusal.TheVariants.{Room, State, Packet, Address, NoChain, Full}
use Rattle.refusal.specs.Told.{Told, told, number_of, given, ask, number_told, value_told}
use Rattle.fragment.specs.Fragments.{most_characters, text_in}
use Rattle.fragment.specs.Answers.{when_good}
use Rattle.fragment.specs.declared.FragmentHeading.{FragmentHeading}
use Rattle.chain.specs.declared.Chain.{Chain}
use Rattle.chain.specs.declared.ChainAnswer.{ChainAnswer}
use Rattle.chain.specs.declared.ChainDrop.{ChainDrop}
use Rattle.chain.specs.declared.ChainStep.{ChainStep}
use Rattle.chain.specs.Chains.{is_address, is_message, blank, find, holds, sound}
use Rattle.chain.specs.Steps.{heading_in, is_first, Fate, lost, grows, whole, characters_after, slot_for, chain_before, fate_of, row_after, text_place, end_place}

module _ (row : List Chain) (address : ℕ) (h : FragmentHeading) where
  -- whether the fragment finds an open chain of its key
  abbrev pub known : Bool
  known = holds address h.message_number row

  -- what a first fragment that is taken tells: whether it closed an older chain, that it began one, R and M; a later one tells none of it
  abbrev pub beginning : List ℕ → List ℕ
  beginning rest = bit_of (is_first h && known) ∷ bit_of (is_first h) ∷ h.retrieval ∷ h.mail_drop ∷ rest

  -- what a last fragment that is taken tells besides: that the text is whole, its slot, its place and its length
  abbrev pub handing_out : List ℕ
  handing_out = 1 ∷ slot_for row address h ∷ text_place row address h ∷ characters_after (chain_before row address h) h ∷ []

  -- 01's table, 12: no slot is free
  abbrev pub full : Bool
  full = eqb (slot_for row address h) (length row)

  -- what is told, by what becomes of the chain: 14, 15, 16 with whether an open chain was closed; then 12
  abbrev pub told_of : Fate → Told
  told_of (lost r) = told (number_of r) (bit_of known ∷ [])
  told_of (grows c) = ask full Full (given (beginning []))
  told_of whole = ask full Full (given (beginning handing_out))

-- what is asked before a chain is touched: 1 for the chains' bytes, 2, 8, 9, 10, 11, 13
abbrev pub when_heard : ℕ → List Chain → ℕ → List ℕ → Told → Told
when_heard lent row address words rest =
    ask (ltb lent (length row * most_characters)) Room
    (ask (not (sound row)) State
    (ask (not (is_address address)) Address
    (when_good words
    (ask (not (is_first (heading_in words)) && not (known row address (heading_in words))) NoChain
    rest))))

-- the answer to a fragment
unfoldable pub step_of : ℕ → List Chain → ℕ → List ℕ → Told
step_of lent row address words = when_heard lent row address words (told_of row address (heading_in words) (fate_of row address (heading_in words)))

-- whether a fragment comes so far that a chain is touched
abbrev pub touches : ℕ → List Chain → ℕ → List ℕ → Bool
touches lent row address words = eqb (number_told (when_heard lent row address words (given []))) 0

-- the records after a fragment
unfoldable pub chains_after : ℕ → List Chain → ℕ → List ℕ → List Chain
chains_after lent row address words = pick (touches lent row address words) (row_after row address (heading_in words)) row

-- the lent bytes after a fragment: one that is not refused has written its text at its chain's end
unfoldable pub buffer_after : List Chain → ℕ → List ℕ → List ℕ → List ℕ
buffer_after row address words buffer =
    pick (eqb (number_told (step_of (length buffer) row address words)) 0) (put buffer (end_place row address (heading_in words)) (text_in words)) buffer

-- the answer to a drop: 2, 7 for N, 8, 13
unfoldable pub drop_of : List Chain → ℕ → ℕ → Told
drop_of row address n =
    ask (not (sound row)) State
    (ask (not (is_message n)) Packet
    (ask (not (is_address address)) Address
    (ask (not (holds address n row)) NoChain
    (given []))))

-- the records after a drop
abbrev pub dropped_from : List Chain → ℕ → ℕ → List Chain
dropped_from row address n = pick (eqb (number_told (drop_of row address n)) 0) (set row (find address n row) blank) row

-- the answer to a fragment: 01's number, and what is told
abbrev pub as_answer : Told → ChainAnswer
as_answer t =
    record {
      number = number_told t;
      lost = value_told t 0;
      begun = value_told t 1;
      retrieval = value_told t 2;
      mail_drop = value_told t 3;
      complete = value_told t 4;
      slot = value_told t 5;
      place = value_told t 6;
      characters = value_told t 7;
    }

-- the answer to a fragment, with the records then
abbrev pub as_step : Told → List Chain → ChainStep
as_step t row = record { answer = as_answer t; chains = record { slots = row } }

-- the answer to a drop, with the records then
abbrev pub as_drop : Told → List Chain → ChainDrop
as_drop t row = record { number = number_told t; chains = record { slots = row } }
