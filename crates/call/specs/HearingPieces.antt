-- What a packet does to the records and the lent memory, in the pieces in which the code does it.
use Rattle.std.specs.Prelude.{ℕ, List, [], ◌∷◌, not, ◌&&◌, eqb, get_or, replicate}
use Rattle.laws.specs.Choice.{pick}
use Rattle.laws.specs.Lists.{put}
use Rattle.refusal.specs.Told.{number_told}
use Rattle.packet.specs.declared.heard.Message.{Message}
use Rattle.packet.specs.declared.vectors.Vector.{Vector}
use Rattle.call.specs.declared.Call.{Call}
use Rattle.call.specs.declared.Calls.{Calls}
use Rattle.call.specs.Calls.{blank, opens, has_vector}
use Rattle.call.specs.Words.{lacking, place_of, given_to}
use Rattle.call.specs.Steps.{vector_fits, with_vector, next_area, changed, removed}
use Rattle.call.specs.Answers.{is_short, word_told}
use Rattle.call.specs.declared.hearing.Heard.{Heard}
use Rattle.call.specs.declared.hearing.Heard.TheVariants as heards

module _ (s : Calls) (memory : List ℕ) (place : ℕ) (v : Vector) where
  -- the call at the place
  abbrev pub call_at : Call
  call_at = get_or (opens s) place blank

  -- the call at the place, with its vector
  abbrev pub given_at : Call
  given_at = with_vector call_at v (next_area (opens s))

  -- the records when a vector has come for the call at the place
  abbrev pub vector_calls : Calls
  vector_calls = pick (has_vector call_at) s (pick (vector_fits call_at v) (pick (is_short memory) s (changed s place given_at)) (removed s place))

  -- the lent memory when a vector has come for the call at the place
  abbrev pub vector_memory : List ℕ
  vector_memory =
      pick (not (has_vector call_at) && vector_fits call_at v && not (is_short memory)) (put memory (place_of given_at) (replicate given_at.words lacking)) memory

-- the memory when a message word has come
abbrev pub word_memory : Calls → List ℕ → Message → List ℕ
word_memory s memory m = pick (eqb (number_told (word_told s memory m)) 0) (given_to (opens s) m memory) memory

-- the values of a packet that is taken
abbrev pub heard_values : Heard → List ℕ
heard_values (heards.Vector call kind check completed) = 1 ∷ call ∷ kind ∷ check ∷ completed ∷ []
heard_values (heards.Word completed) = 0 ∷ 0 ∷ 0 ∷ 0 ∷ completed ∷ []
