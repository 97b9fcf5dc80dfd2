-- The course of a reading over a text: one turn, its ends, and what a loop over the text keeps.
use Rattle.std.specs.Prelude.{Some, None, Result, Err}
use Prim.Native.Nat.{ℕ, suc, ◌+◌, ◌≤◌, ◌<◌}
use mathlib.Core.Path.{◌≡◌, refl, sym, ap, ◌∙◌}
use mathlib.Core.List.{List, [], ◌∷◌}
use native.Mathlib.Numerals.{add-one}
use lib.ListN.{length, get_or, drop, drop_of_length-le}
use lib.Seq.{drop-cons}
use borrow.Author.Tests.{eq-eqb}
use Rattle.capcode.specs.declared.reading.Reading.{Reading}
use Rattle.capcode.specs.Reads.{step_of, going, stopped, onward, follow, end_of}
use Rattle.capcode.specs.Underway.{Sound}
use Rattle.capcode.proofs.Sound.{sound_step}
use Rattle.capcode.specs.declared.Capcode.{Capcode}

-- a course that has stopped stays
pub follow_stopped : (place : ℕ) (text : List ℕ) → follow (stopped place) text ≡ stopped place
unfolding follow
follow_stopped place [] = refl
follow_stopped place (byte ∷ text) = follow_stopped place text

module _ (text : List ℕ) (i : ℕ) (s : Reading) where
  -- what is left of the course is a step and what is left then
  turn : i < length text → follow (going i s) (drop i text) ≡ follow (onward i (step_of s (get_or text i 0))) (drop (suc i) text)
  unfolding follow
  turn within = rw (drop-cons text i 0 within)

  -- a step on
  turn_on : (t : Reading) → i < length text → step_of s (get_or text i 0) ≡ Some t
      → follow (going i s) (drop i text) ≡ follow (going (suc i) t) (drop (suc i) text)
  turn_on t within e = turn within ∙ rw e

  -- a step that stops says where
  turn_stop : i < length text → step_of s (get_or text i 0) ≡ None → follow (going i s) (drop i text) ≡ stopped i
  turn_stop within e = turn within ∙ rw e (follow_stopped i (drop (suc i) text))

  -- at the end of the text the reading stands
  turn_end : length text ≤ i → follow (going i s) (drop i text) ≡ going i s
  unfolding follow
  turn_end past = rw (drop_of_length-le text past)

-- where a loop over a text stands: its reading is sound, and what is left of the course gives the form that it is to answer
pub record Stands (text : List ℕ) (form : Result Capcode ℕ) (i : ℕ) (s : Reading) : Type 0 where
  pub sound : Sound s
  pub answer : form ≡ end_of (follow (going i s) (drop i text))

module _ (text : List ℕ) (form : Result Capcode ℕ) (i : ℕ) (s : Reading) (stands : Stands text form i s) where
  -- after a step on it stands at the next place
  pub stands_on : (t : Reading) → i < length text → step_of s (get_or text i 0) ≡ Some t → Stands text form (i + 1) t
  stands_on t within e =
      record { sound = sound_step s t _ stands.sound e; answer = stands.answer ∙ rw (add-one i) (ap end_of (turn_on text i s t within e)) }

  -- a step that stops is the answer
  pub stands_stop : i < length text → step_of s (get_or text i 0) ≡ None → Err i ≡ form
  stands_stop within e = sym (stands.answer ∙ ap end_of (turn_stop text i s within e))

  -- at the end of the text the reading is the answer
  pub stands_end : length text ≤ i → end_of (going i s) ≡ form
  stands_end past = sym (stands.answer ∙ ap end_of (turn_end text i s past))

  -- where no letter came, the text stops too soon
  pub stands_short : length text ≤ i → s.letter ≡ 0 → Err i ≡ form
  stands_short past none = rw (eq-eqb s.letter 0 none) at (stands_end past)
