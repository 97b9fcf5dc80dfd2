-- `take_vector` meets its contract.
use Prim.Native.Nat.{ℕ, ◌^◌}
use mathlib.Core.Bool.{false}
use mathlib.Core.List.{[], ◌∷◌}
use mathlib.Core.Path.{◌≡◌, sym, ap, ◌∙◌}
use borrow.Author.Tests.{lt-ltb, le-ltb}
use lib.ListN.{length, get_or, replicate}
use Rattle.laws.specs.Choice.{pick}
use Rattle.laws.specs.Lists.{put}
use Rattle.refusal.specs.Told.{given as told_given}
use Rattle.packet.specs.declared.vectors.Vector.{Vector}
use Rattle.packet.specs.Vectors.{vector_of}
use Rattle.call.specs.declared.Call.{Call}
use Rattle.call.specs.Calls.{blank, opens, has_vector, brings_words}
use Rattle.call.specs.Words.{lacking, place_of}
use Rattle.call.specs.Steps.{vector_fits, with_vector, next_area, changed}
use Rattle.call.proofs.hearing.Answering.{vector_no_room, vector_taken, open_at}
use Rattle.call.proofs.hearing.take_vector.Goals as goal

pub returns-then-memory-lt-MEMORY_WORDS : goal.returns-then-memory-lt-MEMORY_WORDS
returns-then-memory-lt-MEMORY_WORDS c =
    let s = c.args.calls.now in
    let there : get_or (opens s) c.args.at blank ≡ get_or s.calls c.args.at blank = open_at s c.args.at c.requires.place_in_bounds in
    let vector : Vector = vector_of c.args.packet.bits in
    let no_vector : has_vector (get_or (opens s) c.args.at blank) ≡ false = ap has_vector there ∙ sym c.has_vector.ensures ∙ c.if-has_vector.false in
    let read : c.of_bits-vector.result ≡ vector = c.of_bits-vector.ensures in
    let fits : c.vector_fits.result ≡ vector_fits (get_or (opens s) c.args.at blank) vector = c.vector_fits.ensures
    ∙ ap (vector_fits (get_or s.calls c.args.at blank)) read
    ∙ ap (λ (g : Call). vector_fits g vector) (sym there) in
    let done = vector_no_room s c.args.memory.now c.args.at vector no_vector (sym fits ∙ c.if-not-vector_fits.false)
    (lt-ltb (length c.args.memory.now) 680 c.if-memory-lt-MEMORY_WORDS.true) in
    record { told = done.0; calls = done.1; memory = done.2 }

pub returns : goal.returns
returns c =
    let s = c.args.calls.now in
    let memory = c.args.memory.now in
    let at = c.args.at in
    let there : get_or (opens s) at blank ≡ get_or s.calls at blank = open_at s at c.requires.place_in_bounds in
    let vector : Vector = vector_of c.args.packet.bits in
    let no_vector : has_vector (get_or (opens s) at blank) ≡ false = ap has_vector there ∙ sym c.has_vector.ensures ∙ c.if-has_vector.false in
    let read : c.of_bits-vector.result ≡ vector = c.of_bits-vector.ensures in
    let fits : c.vector_fits.result ≡ vector_fits (get_or (opens s) at blank) vector = c.vector_fits.ensures
    ∙ ap (vector_fits (get_or s.calls at blank)) read
    ∙ ap (λ (g : Call). vector_fits g vector) (sym there) in
    let done = vector_taken s memory at vector no_vector (sym fits ∙ c.if-not-vector_fits.false) (le-ltb (length memory) 680 c.if-memory-lt-MEMORY_WORDS.false) in
    let given = c.with_vector-given in
    let is = given.ensures
    ∙ ap (λ (v : Vector). with_vector (get_or s.calls at blank) v c.next_area.result) read
    ∙ ap (with_vector (get_or s.calls at blank) vector) c.next_area.ensures
    ∙ ap (λ (g : Call). with_vector g vector (next_area (opens s))) (sym there) in record {
      told = ap (λ (n : ℕ). told_given (1 ∷ at ∷ given.result.kind ∷ given.result.check ∷ n ∷ [])) c.completed_by.ensures
          ∙ ap (λ (g : Call). told_given (1 ∷ at ∷ g.kind ∷ g.check ∷ pick (brings_words g.kind) 0 (2 ^ at) ∷ [])) is
          ∙ done.0;
      calls = ap (changed s at) is ∙ done.1;
      memory = c.clear.ensures
          ∙ ap (λ (from : ℕ). put memory from (replicate given.result.words lacking)) c.place.ensures
          ∙ ap (λ (g : Call). put memory (place_of g) (replicate g.words lacking)) is
          ∙ done.2;
    }
