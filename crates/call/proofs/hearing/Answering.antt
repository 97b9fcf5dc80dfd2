-- The answers, the records and the lent memory in each case of the code.
use Prim.Native.Nat.{ℕ, ◌^◌, ◌<◌}
use mathlib.Core.Bool.{Bool, true, false}
use mathlib.Core.List.{List, [], ◌∷◌}
use mathlib.Core.Logic.{⊎_elim}
use mathlib.Core.Path.{◌≡◌, ap, ◌∙◌}
use native.Mathlib.Omega.{arith}
use lib.Dec.{eqb}
use lib.ListN.{length, get_or, replicate}
use lib.Seq.{get_or-take}
use Rattle.laws.specs.Choice.{pick}
use Rattle.laws.specs.Lists.{put}
use Rattle.laws.proofs.Tests.{decided}
use Rattle.refusal.specs.declared.Refusal.TheVariants as refusals
use Rattle.refusal.specs.Told.{Told, given, refused, ask, kept}
use Rattle.packet.specs.declared.heard.Message.{Message}
use Rattle.packet.specs.declared.vectors.Vector.{Vector}
use Rattle.packet.specs.declared.vectors.VectorRead.{VectorRead}
use Rattle.packet.specs.Vectors.{vector_of, is_vector, vector_read}
use Rattle.call.specs.declared.Calls.{Calls}
use Rattle.call.specs.Calls.{blank, opens, has_vector, brings_words, sound}
use Rattle.call.specs.Words.{lacking, place_of, finished, is_held, is_lacked}
use Rattle.call.specs.Steps.{vector_fits, changed}
use Rattle.call.specs.Answers.{message_in, is_short, vector_told, word_told, vector_place, is_for_vector, vector_call, hear_of, heard_in, memory_after}
use Rattle.call.proofs.Rows.{opens_most}
use Rattle.call.specs.HearingPieces.{call_at, given_at, vector_calls, vector_memory, word_memory}

-- what a packet does: its answer, the records and the memory are these
abbrev pub Does : Told → Calls → List ℕ → Told → Calls → List ℕ → Type 0
Does t s memory told_then calls_then memory_then = (t ≡ told_then) × (s ≡ calls_then) × (memory ≡ memory_then)

-- ---- a message word

module _ (s : Calls) (memory : List ℕ) (m : Message) where
  -- what is told of a word of no call
  told_of_none : is_held (opens s) m ≡ false → word_told s memory m ≡ refused refusals.NoCall
  told_of_none none = rw none

  -- what is told of a word that all have that hold its place
  told_had : is_held (opens s) m ≡ true → is_lacked (opens s) m memory ≡ false → word_told s memory m ≡ refused refusals.OutOfTurn
  told_had held had = rw (held, had)

  -- what is told of a word that a call lacks, without room and with it
  told_given : (short : Bool) → is_held (opens s) m ≡ true → is_lacked (opens s) m memory ≡ true
      → is_short memory ≡ short
      → word_told s memory m ≡ ask short refusals.Room (given (0 ∷ 0 ∷ 0 ∷ 0 ∷ finished (opens s) m memory ∷ []))
  told_given short held lacked room = rw (held, lacked, room)

-- ---- a vector

module _ (s : Calls) (memory : List ℕ) (place : ℕ) (v : Vector) where
  -- what is told of a second vector, for a call that has one
  told_again : has_vector (call_at s memory place v) ≡ true → vector_told s memory place (call_at s memory place v) v ≡ refused refusals.OutOfTurn
  told_again has = rw has

  -- what is told of a vector whose span does not fit
  told_bad : has_vector (call_at s memory place v) ≡ false → vector_fits (call_at s memory place v) v ≡ false
      → vector_told s memory place (call_at s memory place v) v ≡ refused refusals.Size
  told_bad none bad = rw (none, bad)

  -- what is told of a vector whose span fits, without room and with it
  told_fitting : (short : Bool) → has_vector (call_at s memory place v) ≡ false → vector_fits (call_at s memory place v) v ≡ true → is_short memory ≡ short
      → vector_told s memory place (call_at s memory place v) v
      ≡ ask short refusals.Room (given (1 ∷ place ∷ v.kind ∷ v.span.check ∷ pick (brings_words v.kind) 0 (2 ^ place) ∷ []))
  told_fitting short none good room = rw (none, good, room)

  module _ (none : has_vector (call_at s memory place v) ≡ false) where
    -- a vector whose span fits, without room: 1
    pub vector_no_room : vector_fits (call_at s memory place v) v ≡ true → is_short memory ≡ true
        → Does (refused refusals.Room) s memory (vector_told s memory place (call_at s memory place v) v)
        (vector_calls s memory place v) (vector_memory s memory place v)
    vector_no_room good short = (rw (none, good, short), rw (none, good, short), rw (none, good, short))

    -- a vector that is taken
    pub vector_taken : vector_fits (call_at s memory place v) v ≡ true → is_short memory ≡ false
        → Does
        (given (1 ∷ place ∷ v.kind ∷ v.span.check ∷ pick (brings_words v.kind) 0 (2 ^ place) ∷ []))
        (changed s place (given_at s memory place v))
        (put memory (place_of (given_at s memory place v)) (replicate (given_at s memory place v).words lacking))
        (vector_told s memory place (call_at s memory place v) v) (vector_calls s memory place v)
        (vector_memory s memory place v)
    vector_taken good room = (rw (none, good, room), rw (none, good, room), rw (none, good, room))

-- the vector that was read
pub read_as : (n : ℕ) (read : VectorRead) → is_vector n ≡ true → read ≡ vector_read n → read.fields ≡ vector_of n
read_as n read is same = ap (λ (r : VectorRead). r.fields) same ∙ ap (λ (good : Bool). vector_of (kept good n)) is

-- an open call is the record at its place
pub open_at : (s : Calls) (place : ℕ) → place < length (opens s) → get_or (opens s) place blank ≡ get_or s.calls place blank
open_at s place within = get_or-take s.size s.calls place blank (omega (arith, (opens_most s).1))

-- ---- any packet

module _ (s : Calls) (memory : List ℕ) (n : ℕ) where
  -- records that are not sound: 2
  pub hear_unsound : sound (opens s) ≡ false
      → Does (refused refusals.State) s memory (hear_of s memory n) (heard_in s memory n) (memory_after s memory n)
  unfolding hear_of heard_in memory_after
  hear_unsound bad = (rw bad, rw bad, rw bad)

  module _ (right : sound (opens s) ≡ true) where
    -- an ID that is not 02H to 57H: 7
    pub hear_foreign : is_vector n ≡ false
        → Does (refused refusals.Packet) s memory (hear_of s memory n) (heard_in s memory n) (memory_after s memory n)
    unfolding hear_of heard_in memory_after
    hear_foreign foreign = (rw (right, foreign), rw (right, foreign), rw (right, foreign))

    module _ (kind : is_vector n ≡ true) where
      -- a packet that is marked in error: 10
      pub hear-damaged : eqb (message_in n).damaged 0 ≡ false
          → Does (refused refusals.Damaged) s memory (hear_of s memory n) (heard_in s memory n) (memory_after s memory n)
      unfolding hear_of heard_in memory_after
      hear-damaged marked = (rw (right, kind, marked), rw (right, kind, marked), rw (right, kind, marked))

      module _ (good : eqb (message_in n).damaged 0 ≡ true) where
        -- "Vector places are looked at before spans": the vector of a call
        pub hear-vector : is_for_vector s n ≡ true
            → Does
            (vector_told s memory (vector_place s n) (vector_call s n) (vector_of n)) (vector_calls s memory (vector_place s n) (vector_of n))
            (vector_memory s memory (vector_place s n) (vector_of n)) (hear_of s memory n) (heard_in s memory n)
            (memory_after s memory n)
        unfolding hear_of heard_in memory_after
        hear-vector is =
            ⊎_elim
            (λ has.
            let again = told_again s memory (vector_place s n) (vector_of n) has in
            (rw (right, kind, good, is), rw (right, kind, good, is, again, has), rw (right, kind, good, is, again, has)))
            (λ none.
            ⊎_elim
            (λ fitting.
            ⊎_elim
            (λ short.
            let refuses = told_fitting s memory (vector_place s n) (vector_of n) true none fitting short in
            (rw (right, kind, good, is), rw (right, kind, good, is, refuses, none, fitting, short), rw (right, kind, good, is, refuses, none, fitting, short)))
            (λ room.
            let takes = told_fitting s memory (vector_place s n) (vector_of n) false none fitting room in
            (rw (right, kind, good, is), rw (right, kind, good, is, takes, none, fitting, room), rw (right, kind, good, is, takes, none, fitting, room)))
            (decided (is_short memory)))
            (λ bad.
            let wrong = told_bad s memory (vector_place s n) (vector_of n) none bad in
            (rw (right, kind, good, is), rw (right, kind, good, is, wrong, none, bad), rw (right, kind, good, is, wrong, none, bad)))
            (decided (vector_fits (vector_call s n) (vector_of n))))
            (decided (has_vector (vector_call s n)))

        -- a packet that is no call's vector is taken as a message word
        pub hear-word : is_for_vector s n ≡ false
            → Does (word_told s memory (message_in n)) s (word_memory s memory (message_in n))
            (hear_of s memory n) (heard_in s memory n) (memory_after s memory n)
        unfolding hear_of heard_in memory_after
        hear-word is =
            ⊎_elim
            (λ held.
            ⊎_elim
            (λ lacked.
            ⊎_elim
            (λ short.
            let refuses = told_given s memory (message_in n) true held lacked short in
            (rw (right, kind, good, is), rw (right, kind, good, is, refuses), rw (right, kind, good, is, refuses)))
            (λ room.
            let takes = told_given s memory (message_in n) false held lacked room in
            (rw (right, kind, good, is), rw (right, kind, good, is, takes), rw (right, kind, good, is, takes)))
            (decided (is_short memory)))
            (λ had.
            let again = told_had s memory (message_in n) held had in
            (rw (right, kind, good, is), rw (right, kind, good, is, again), rw (right, kind, good, is, again)))
            (decided (is_lacked (opens s) (message_in n) memory)))
            (λ none.
            let of_none = told_of_none s memory (message_in n) none in
            (rw (right, kind, good, is), rw (right, kind, good, is, of_none), rw (right, kind, good, is, of_none)))
            (decided (is_held (opens s) (message_in n)))
