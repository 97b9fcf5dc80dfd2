-- `hear_in` meets its contract: each return is one line of the definition.
use Prim.Native.Nat.{ℕ, ◌≤◌}
use mathlib.Core.Bool.{true, false}
use mathlib.Core.Path.{◌≡◌, sym, ap, ◌∙◌}
use borrow.Author.Tests.{eq-eqb, ne_eqb, lt-ltb, le-ltb, tests}
use borrow.Author.Rules.{rules}
use lib.Dec.{eqb}
use lib.ListN.{length, get_or}
use Rattle.std.specs.Prelude.{Some, None}
use Rattle.packet.specs.declared.heard.Message.{Message}
use Rattle.packet.specs.Vectors.{vector_of, is_vector}
use Rattle.call.specs.Calls.{blank, opens, find, found, sound}
use Rattle.call.specs.Answers.{message_in, vector_place, vector_told, word_told}
use Rattle.call.specs.HearingPieces.{vector_calls, vector_memory, word_memory}
use Rattle.call.proofs.Chains.{found_some, found_no}
use Rattle.call.proofs.hearing.Answering.{hear_unsound, hear_foreign, hear-damaged, hear-vector, hear-word}
use Rattle.call.proofs.hearing.hear_in.Goals as goal

pub returns-then-not-sound : goal.returns-then-not-sound
returns-then-not-sound c =
    let bad : sound (opens c.args.calls.now) ≡ false = sym c.sound.ensures ∙ c.if-not-sound.true in
    let done = hear_unsound c.args.calls.now c.args.memory.now c.args.packet.bits bad in
    record { told = done.0; calls = done.1; memory = done.2 }

pub returns-then-not-contains : goal.returns-then-not-contains
returns-then-not-contains c =
    let right : sound (opens c.args.calls.now) ≡ true = sym c.sound.ensures ∙ c.if-not-sound.false in
    let done = hear_foreign c.args.calls.now c.args.memory.now c.args.packet.bits right (let e : c.contains.result ≡ is_vector c.args.packet.bits = search (rules, tests) in sym e ∙ c.if-not-contains.true) in
    record { told = done.0; calls = done.1; memory = done.2 }

pub returns-then-message-ne0 : goal.returns-then-message-ne0
returns-then-message-ne0 c =
    let right : sound (opens c.args.calls.now) ≡ true = sym c.sound.ensures ∙ c.if-not-sound.false in
    let kind : is_vector c.args.packet.bits ≡ true = let e : c.contains.result ≡ is_vector c.args.packet.bits = search (rules, tests) in sym e ∙ c.if-not-contains.false in
    let done = hear-damaged c.args.calls.now c.args.memory.now c.args.packet.bits right kind
    (ne_eqb (message_in c.args.packet.bits).damaged 0
    (λ none. c.if-message-ne0.true (ap (λ (m : Message). m.damaged) c.message_of-message.ensures ∙ none))) in
    record { told = done.0; calls = done.1; memory = done.2 }

pub returns-in-Some : goal.returns-in-Some
returns-in-Some c =
    let s = c.args.calls.now in
    let memory = c.args.memory.now in
    let bits = c.args.packet.bits in
    let right : sound (opens s) ≡ true = sym c.sound.ensures ∙ c.if-not-sound.false in
    let kind : is_vector bits ≡ true = let e : c.contains.result ≡ is_vector bits = search (rules, tests) in sym e ∙ c.if-not-contains.false in
    let good : eqb (message_in bits).damaged 0 ≡ true = eq-eqb (message_in bits).damaged 0 (sym (ap (λ (m : Message). m.damaged) c.message_of-message.ensures) ∙ c.if-message-ne0.false) in
    let searched : Some c.in-Some.at ≡ found (vector_place s bits) (length (opens s)) = c.in-Some.ensures
    ∙ ap (λ (m : Message). found (find m.phase m.word (opens s)) (length (opens s))) c.message_of-message.ensures in
    let there = found_some (vector_place s bits) (length (opens s)) c.in-Some.at searched in
    let done = hear-vector s memory bits right kind good (lt-ltb (vector_place s bits) (length (opens s)) there.1) in record {
      told = c.take_vector.ensures.told ∙ ap (λ (at : ℕ). vector_told s memory at (get_or (opens s) at blank) (vector_of bits)) there.0 ∙ done.0;
      calls = c.take_vector.ensures.calls ∙ ap (λ (at : ℕ). vector_calls s memory at (vector_of bits)) there.0 ∙ done.1;
      memory = c.take_vector.ensures.memory ∙ ap (λ (at : ℕ). vector_memory s memory at (vector_of bits)) there.0 ∙ done.2;
    }

pub returns-in-None : goal.returns-in-None
returns-in-None c =
    let s = c.args.calls.now in
    let memory = c.args.memory.now in
    let bits = c.args.packet.bits in
    let right : sound (opens s) ≡ true = sym c.sound.ensures ∙ c.if-not-sound.false in
    let kind : is_vector bits ≡ true = let e : c.contains.result ≡ is_vector bits = search (rules, tests) in sym e ∙ c.if-not-contains.false in
    let good : eqb (message_in bits).damaged 0 ≡ true = eq-eqb (message_in bits).damaged 0 (sym (ap (λ (m : Message). m.damaged) c.message_of-message.ensures) ∙ c.if-message-ne0.false) in
    let searched : None ≡ found (vector_place s bits) (length (opens s)) = c.in-None.ensures
    ∙ ap (λ (m : Message). found (find m.phase m.word (opens s)) (length (opens s))) c.message_of-message.ensures in
    let none : length (opens s) ≤ vector_place s bits = found_no (vector_place s bits) (length (opens s)) searched in
    let done = hear-word s memory bits right kind good (le-ltb (vector_place s bits) (length (opens s)) none) in record {
      told = c.take_word.ensures.told ∙ ap (word_told s memory) c.message_of-message.ensures ∙ done.0;
      calls = done.1;
      memory = c.take_word.ensures.memory ∙ ap (word_memory s memory) c.message_of-message.ensures ∙ done.2;
    }
