-- A run: fragments and drops one after the other, with the state handed on.
use Rattle.std.specs.Prelude.{ℕ, ◌*◌, List, [], ◌∷◌, length, take, drop}
use Rattle.refusal.specs.Told.{Told}
use Rattle.fragment.specs.Fragments.{most_characters}
use Rattle.chain.specs.declared.Chain.{Chain}
use Rattle.chain.specs.Answers.{step_of, chains_after, buffer_after, drop_of, dropped_from}

-- what comes: a fragment for an address number, or a drop of a key
pub data Event : Type 0 where
  came : ℕ → List ℕ → Event
  dropped : ℕ → ℕ → Event

-- the state: the records and the lent bytes
pub record State : Type 0 where
  pub chains : List Chain
  pub bytes : List ℕ

-- the answer to an event
abbrev pub answer_to : State → Event → Told
answer_to s (came address words) = step_of (length s.bytes) s.chains address words
answer_to s (dropped address n) = drop_of s.chains address n

-- the state after an event
abbrev pub after : State → Event → State
after s (came address words) =
    record { chains = chains_after (length s.bytes) s.chains address words; bytes = buffer_after s.chains address words s.bytes }
after s (dropped address n) = record { chains = dropped_from s.chains address n; bytes = s.bytes }

-- the answers of a run
unfoldable pub answers : State → List Event → List Told
answers s [] = []
answers s (event ∷ events) = answer_to s event ∷ answers (after s event) events

-- the state after a run
unfoldable pub after_all : State → List Event → State
after_all s [] = s
after_all s (event ∷ events) = after_all (after s event) events

-- the text that a slot holds, of so many characters
abbrev pub text_at : List ℕ → ℕ → ℕ → List ℕ
text_at bytes slot characters = take characters (drop (slot * most_characters) bytes)
