-- What a fragment does to a chain and to a row of chains (document 01, "A good first fragment closes an open chain of
-- its key"). What a drop does is in specs/Answers.
use Rattle.std.specs.Prelude.{ℕ, ◌+◌, ◌*◌, ◌%◌, ◌^◌, Bool, true, false, not, List, ltb, eqb, get_or, set}
use Rattle.laws.specs.Choice.{pick}
use Rattle.refusal.specs.declared.Refusal.{Refusal}
use Rattle.refusal.specs.declared.Refusal.TheVariants.{OutOfTurn, TooLong, Signature}
use Rattle.fragment.specs.Fragments.{most_characters, first_number, cell_bits}
use Rattle.fragment.specs.Answers.{heading_told}
use Rattle.fragment.specs.declared.FragmentHeading.{FragmentHeading}
use Rattle.fragment.specs.FlatAnswers.{as_heading}
use Rattle.chain.specs.declared.Chain.{Chain}
use Rattle.chain.specs.Chains.{blank, find, first_free}

-- what a good fragment says of itself
abbrev pub heading_in : List ℕ → FragmentHeading
heading_in words = as_heading (heading_told words)

-- whether a fragment is a first one
abbrev pub is_first : FragmentHeading → Bool
is_first h = eqb h.fragment_number first_number

-- 01: "C is 1 when more follows"
abbrev pub goes_on : FragmentHeading → Bool
goes_on h = not (eqb h.continued 0)

-- ---- one chain

-- what a fragment makes of its chain: it is lost, with the refusal that is given; it goes on as this record; or its text is whole
pub data Fate : Type 0 where
  lost : Refusal → Fate
  grows : Chain → Fate
  whole : Fate

-- one question, a line a refusal: where the test holds the chain is lost
abbrev pub losing : Bool → Refusal → Fate → Fate
losing true r rest = lost r
losing false r rest = rest

-- 01: "F is 3 in a first fragment, then 0, 1, 2, 0 and so on": the F after one
abbrev pub next_number : ℕ → ℕ
next_number f = pick (ltb f 2) (f + 1) 0

-- the running sum after a fragment
abbrev pub sum_after : Chain → FragmentHeading → ℕ
sum_after c h = (c.sum + h.sum) % 2 ^ cell_bits

-- the length of the text after a fragment
abbrev pub characters_after : Chain → FragmentHeading → ℕ
characters_after c h = c.characters + h.characters

-- the record of a chain that goes on after a fragment
abbrev pub grown : Chain → FragmentHeading → Chain
grown c h =
    record {
      is_open = 1;
      address = c.address;
      message_number = c.message_number;
      next_fragment = next_number h.fragment_number;
      sum = sum_after c h;
      characters = characters_after c h;
    }

-- 01's table, 14, 15, 16: F is not the next; text over the room; the last fragment's total differs (S8.8.6: with the signature it is 127)
unfoldable pub fate : Chain → FragmentHeading → Fate
fate c h =
    losing (not (eqb h.fragment_number c.next_fragment)) OutOfTurn
    (losing (ltb most_characters (characters_after c h)) TooLong
    (pick (goes_on h) (grows (grown c h))
    (losing (not (eqb (sum_after c h) 127)) Signature
    whole)))

-- the record that the slot has then
abbrev pub record_after : Fate → Chain
record_after (lost r) = blank
record_after (grows c) = c
record_after whole = blank

-- a chain that is still without its first fragment: that is the one it awaits
abbrev pub unbegun : ℕ → ℕ → Chain
unbegun address n =
    record { is_open = 1; address = address; message_number = n; next_fragment = first_number; sum = 0; characters = 0 }

-- ---- a row of chains

module _ (row : List Chain) (address : ℕ) (h : FragmentHeading) where
  -- the slot of the key's open chain
  abbrev pub older_slot : ℕ
  older_slot = find address h.message_number row

  -- 01: "A good first fragment closes an open chain of its key"
  abbrev pub cleared : List Chain
  cleared = pick (is_first h) (set row older_slot blank) row

  -- 01: a first fragment "takes the lowest-numbered free slot"; a continuation stays in its chain's
  abbrev pub slot_for : ℕ
  slot_for = pick (is_first h) (first_free cleared) older_slot

  -- the chain that the fragment goes on with
  abbrev pub chain_before : Chain
  chain_before = pick (is_first h) (unbegun address h.message_number) (get_or row older_slot blank)

  -- what becomes of that chain
  abbrev pub fate_of : Fate
  fate_of = fate chain_before h

  -- the records after the fragment
  abbrev pub row_after : List Chain
  row_after = set cleared slot_for (record_after fate_of)

  -- 01: "8 slots of 1,008 characters in a lent buffer": where the slot's text begins
  abbrev pub text_place : ℕ
  text_place = slot_for * most_characters

  -- 01: "A fragment writes only its text, at its chain's end"
  abbrev pub end_place : ℕ
  end_place = text_place + chain_before.characters
