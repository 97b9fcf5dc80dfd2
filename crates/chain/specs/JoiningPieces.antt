-- The step in the pieces in which the code takes it: whether a fragment can be joined, where it goes, and a good fragment joined.
use Rattle.std.specs.Prelude.{◌≡◌, ℕ, ◌*◌, ◌≤◌, Bool, true, not, ◌&&◌, List, [], ◌∷◌, eqb, length, Option, Some, None, Result, Ok, Err}
use Rattle.laws.specs.Choice.{pick, bit_of}
use Rattle.laws.specs.Lists.{put}
use Rattle.refusal.specs.declared.Refusal.{Refusal}
use Rattle.refusal.specs.declared.Refusal.TheVariants.{NoChain}
use Rattle.refusal.specs.Told.{Told, told, given, ask, number_of, number_told}
use Rattle.fragment.specs.Fragments.{most_characters, text_in}
use Rattle.fragment.specs.Answers.{heading_of}
use Rattle.fragment.specs.declared.FragmentHeading.{FragmentHeading}
use Rattle.chain.specs.declared.Chain.{Chain}
use Rattle.chain.specs.declared.ChainAnswer.{ChainAnswer}
use Rattle.chain.specs.Chains.{found, sound}
use Rattle.chain.specs.Steps.{Fate, lost, grows, whole, heading_in, is_first, goes_on, characters_after, slot_for, chain_before, fate_of, row_after, end_place}
use Rattle.chain.specs.Answers.{known, told_of, as_answer}
use Rattle.chain.specs.declared.joining.Turn.{Turn}
use Rattle.chain.specs.declared.joining.Taken.{Taken}
use Rattle.chain.specs.declared.joining.TextPlace.{TextPlace}
use Rattle.chain.specs.declared.joining.Refused.{Refused}

-- a fragment that can be joined, with its heading
pub record Heard (lent : ℕ) (row : List Chain) (address : ℕ) (words : List ℕ) (h : FragmentHeading) : Type 0 where
  pub room : length row * most_characters ≤ lent
  pub right : sound row ≡ true
  pub small : address ≤ 31
  pub good : number_told (heading_of words) ≡ 0
  pub says : h ≡ heading_in words

-- whether a fragment is a later one of a key that has no open chain
abbrev pub orphan : List Chain → ℕ → FragmentHeading → Bool
orphan row address h = not (is_first h) && not (known row address h)

-- where a fragment goes that is a first one, or has a chain to go on with
abbrev pub goes : List Chain → ℕ → FragmentHeading → Turn
goes row address h = record { chain = chain_before row address h; slot = found row (slot_for row address h); known = known row address h }

-- where a fragment goes
abbrev pub turn_of : List Chain → ℕ → FragmentHeading → Result Turn Refusal
turn_of row address h = pick (orphan row address h) (Err NoChain) (Ok (goes row address h))

-- whether the fragment's chain is lost: then it is refused, with whether an open chain was closed
abbrev pub settled : Turn → Fate → Result (Unit {0}) Refused
settled t (lost r) = Err (record { refusal = r; lost = t.known })
settled t (grows c) = Ok tt
settled t whole = Ok tt

-- what is told of a text that is handed out
abbrev pub of_text : Option TextPlace → List ℕ
of_text None = []
of_text (Some t) = 1 ∷ t.slot ∷ t.place ∷ t.characters ∷ []

-- the answer to a fragment, as C has it: what it tells that was taken, or the refusal with whether an open chain was closed
abbrev pub answered : Result Taken Refused → ChainAnswer
answered (Ok t) = as_answer (given (bit_of t.lost ∷ bit_of t.begun ∷ t.retrieval ∷ t.mail_drop ∷ of_text t.text))
answered (Err r) = as_answer (told (number_of r.refusal) (bit_of r.lost ∷ []))

-- what a fragment tells that was taken in a slot
abbrev pub taken_of : Turn → ℕ → FragmentHeading → Told
taken_of t slot h =
    given
    (bit_of (is_first h && t.known) ∷ bit_of (is_first h) ∷ h.retrieval ∷ h.mail_drop
    ∷ pick (goes_on h) [] (1 ∷ slot ∷ slot * most_characters ∷ characters_after t.chain h ∷ []))

-- the answer to a good fragment
abbrev pub join_of : List Chain → ℕ → FragmentHeading → Told
join_of row address h = ask (orphan row address h) NoChain (told_of row address h (fate_of row address h))

-- the records after a good fragment
abbrev pub joined_row : List Chain → ℕ → FragmentHeading → List Chain
joined_row row address h = pick (orphan row address h) row (row_after row address h)

-- the lent bytes after a good fragment
abbrev pub joined_bytes : List Chain → ℕ → List ℕ → List ℕ → List ℕ
joined_bytes row address words buffer =
    pick (eqb (number_told (join_of row address (heading_in words))) 0) (put buffer (end_place row address (heading_in words)) (text_in words)) buffer
