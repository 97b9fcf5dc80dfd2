-- What document 01 promises of the vectors that the decoder sends: nothing that a table names is lost in reading. A
-- vector is laid out again from what was read of it, up to the bits that are not looked at.
use Prim.Native.Nat.{ℕ, ◌+◌, ◌-◌}
use mathlib.Core.Bool.{true, false, ◌||◌}
use mathlib.Core.List.{List, [], ◌∷◌}
use mathlib.Core.Logic.{⊎_elim}
use mathlib.Core.Path.{◌≡◌, refl, ap, sym, ◌∙◌}
use native.Mathlib.Omega.{arith}
use borrow.Author.Tests.{eq-eqb, eqb-true}
use lib.Bits.{bit_and}
use lib.Dec.{eqb}
use Rattle.laws.specs.Layouts.{bits_at, mask_of, is_read, shows, packed}
use Rattle.laws.proofs.Layouts.{packed_read, shows_each}
use Rattle.laws.proofs.Tests.{either_of}
use Rattle.packet.specs.Names.{id_of, first_vector_id, last_word_id}
use Rattle.packet.proofs.Laws.{top_clear, at_most}
use Rattle.packet.specs.VectorTables.{numeric_vector, text_vector, short_vector, characters_vector, source_vector}
use Rattle.packet.specs.VectorTables.{numbered_vector, instruction_vector, temporary_vector, secure_type}
use Rattle.packet.specs.VectorTables.{alphanumeric_type, hex_type, short_type, instruction_type}
use Rattle.packet.specs.Vectors.{vector_type, is_numeric, is_text, message_type, instruction_kind, is_vector, vector_read}
use Rattle.packet.specs.declared.vectors.Vector.{Vector}

-- Table 31
abbrev pub of_numeric : Vector → List ℕ
of_numeric v = v.word ∷ v.damaged ∷ v.phase ∷ v.kind ∷ v.span.check ∷ (v.span.words - 1) ∷ v.span.start ∷ []

-- Table 36
abbrev pub of_text : Vector → List ℕ
of_text v = v.word ∷ v.damaged ∷ v.phase ∷ v.kind ∷ v.span.words ∷ v.span.start ∷ []

-- a vector's row prints the 0 in front of the word number, and no other bit unless its type says so
vector_clear : (n : ℕ) → is_vector n ≡ true → bits_at 31 1 n ≡ 0
vector_clear n e = top_clear n (at_most first_vector_id last_word_id (id_of n) e)

-- a numeric vector that was read is laid out again, up to its x bits
pub numeric_back_and_there : (n : ℕ) → is_vector n ≡ true → is_numeric (vector_type n) ≡ true
    → packed numeric_vector (of_numeric (vector_read n).fields) ≡ bit_and n (mask_of is_read numeric_vector)
numeric_back_and_there n e numeric =
    let shown : shows numeric_vector n ≡ true = shows_each numeric_vector n tt ∙ rw (eq-eqb (bits_at 31 1 n) 0 (vector_clear n e)) refl in
    let words : bits_at 7 3 n + 1 - 1 ≡ bits_at 7 3 n = omega arith in
    rw (e, numeric, words) (packed_read numeric_vector n tt shown)

-- a type that brings text brings no numeric characters
text_not_numeric : (v : ℕ) → is_text v ≡ true → is_numeric v ≡ false
text_not_numeric v e =
    ⊎_elim
    (λ first. ⊎_elim (λ z. of_type secure_type z refl) (λ z. of_type alphanumeric_type z refl) (either_of (eqb v secure_type) (eqb v alphanumeric_type) first))
    (λ z. of_type hex_type z refl) (either_of (eqb v secure_type || eqb v alphanumeric_type) (eqb v hex_type) e)
  where
    of_type : (kind : ℕ) → eqb v kind ≡ true → is_numeric kind ≡ false → is_numeric v ≡ false
    of_type kind same none = ap is_numeric (eqb-true v kind same) ∙ none

-- a secure, alphanumeric or hex/binary vector read and laid out again is as it was, up to x bits
pub text_back_and_there : (n : ℕ) → is_vector n ≡ true → is_text (vector_type n) ≡ true
    → packed text_vector (of_text (vector_read n).fields) ≡ bit_and n (mask_of is_read text_vector)
text_back_and_there n e text =
    let shown : shows text_vector n ≡ true = shows_each text_vector n tt ∙ rw (eq-eqb (bits_at 31 1 n) 0 (vector_clear n e)) refl in
    rw (e, text_not_numeric (vector_type n) text, text) (packed_read text_vector n tt shown)

-- Table 34, t 00
abbrev pub of_characters : Vector → List ℕ
of_characters v = v.word ∷ v.damaged ∷ v.phase ∷ v.short_message.third ∷ v.short_message.second ∷ v.short_message.first ∷ []

-- Table 34, t 01
abbrev pub of_source : Vector → List ℕ
of_source v = v.word ∷ v.damaged ∷ v.phase ∷ v.short_message.source ∷ []

-- Table 34, t 10
abbrev pub of_numbered : Vector → List ℕ
of_numbered v = v.word ∷ v.damaged ∷ v.phase ∷ v.short_message.retrieval ∷ v.short_message.message ∷ v.short_message.source ∷ []

-- Table 34, t 11, the spare type, by Table 33
abbrev pub of_spare : Vector → List ℕ
of_spare v = v.word ∷ v.damaged ∷ v.phase ∷ v.kind ∷ v.short_message.unread ∷ v.short_message.kind ∷ []

-- each short message or tone-only vector that was read is laid out again, up to its x bits and its unused s bits
pub characters_back_and_there : (n : ℕ) → is_vector n ≡ true → vector_type n ≡ short_type → message_type n ≡ 0
    → packed characters_vector (of_characters (vector_read n).fields) ≡ bit_and n (mask_of is_read characters_vector)
characters_back_and_there n e short t =
    let shown : shows characters_vector n ≡ true =
    shows_each characters_vector n tt ∙ rw (eq-eqb (bits_at 31 1 n) 0 (vector_clear n e), eq-eqb (bits_at 16 3 n) 2 short, eq-eqb (bits_at 0 2 n) 0 t) refl in
    rw (e, eq-eqb (vector_type n) short_type short, eq-eqb (message_type n) 0 t) (packed_read characters_vector n tt shown)

pub source_back_and_there : (n : ℕ) → is_vector n ≡ true → vector_type n ≡ short_type → message_type n ≡ 1
    → packed source_vector (of_source (vector_read n).fields) ≡ bit_and n (mask_of is_read source_vector)
source_back_and_there n e short t =
    let shown : shows source_vector n ≡ true =
    shows_each source_vector n tt ∙ rw (eq-eqb (bits_at 31 1 n) 0 (vector_clear n e), eq-eqb (bits_at 16 3 n) 2 short, eq-eqb (bits_at 0 2 n) 1 t) refl in
    rw (e, eq-eqb (vector_type n) short_type short, t) (packed_read source_vector n tt shown)

pub numbered_back_and_there : (n : ℕ) → is_vector n ≡ true → vector_type n ≡ short_type → message_type n ≡ 2
    → packed numbered_vector (of_numbered (vector_read n).fields) ≡ bit_and n (mask_of is_read numbered_vector)
numbered_back_and_there n e short t =
    let shown : shows numbered_vector n ≡ true =
    shows_each numbered_vector n tt ∙ rw (eq-eqb (bits_at 31 1 n) 0 (vector_clear n e), eq-eqb (bits_at 16 3 n) 2 short, eq-eqb (bits_at 0 2 n) 2 t) refl in
    rw (e, eq-eqb (vector_type n) short_type short, t) (packed_read numbered_vector n tt shown)

pub spare_back_and_there : (n : ℕ) → is_vector n ≡ true → vector_type n ≡ short_type → message_type n ≡ 3
    → packed short_vector (of_spare (vector_read n).fields) ≡ bit_and n (mask_of is_read short_vector)
spare_back_and_there n e short t =
    let shown : shows short_vector n ≡ true = shows_each short_vector n tt ∙ rw (eq-eqb (bits_at 31 1 n) 0 (vector_clear n e)) refl in
    rw (e, eq-eqb (vector_type n) short_type short, t)
    (ap (λ (v : ℕ). packed short_vector (bits_at 24 7 n ∷ bits_at 23 1 n ∷ bits_at 21 2 n ∷ bits_at 16 3 n ∷ bits_at 2 12 n ∷ v ∷ [])) (sym t)
    ∙ packed_read short_vector n tt shown)

-- Table 38, i 000
abbrev pub of_temporary : Vector → List ℕ
of_temporary v = v.word ∷ v.damaged ∷ v.phase ∷ (v.instruction.address - 16) ∷ v.instruction.frame ∷ []

-- a reserved type, by Table 37
abbrev pub of_reserved : Vector → List ℕ
of_reserved v = v.word ∷ v.damaged ∷ v.phase ∷ v.kind ∷ v.instruction.unread ∷ v.instruction.kind ∷ []

-- each short instruction vector that was read is laid out again, up to its x bits
pub temporary_back_and_there : (n : ℕ) → is_vector n ≡ true → vector_type n ≡ instruction_type
    → instruction_kind n ≡ 0
    → packed temporary_vector (of_temporary (vector_read n).fields) ≡ bit_and n (mask_of is_read temporary_vector)
temporary_back_and_there n e instruction i =
    let shown : shows temporary_vector n ≡ true =
    shows_each temporary_vector n tt ∙ rw (eq-eqb (bits_at 31 1 n) 0 (vector_clear n e), eq-eqb (bits_at 16 3 n) 1 instruction, eq-eqb (bits_at 0 3 n) 0 i) refl in
    let index : bits_at 10 4 n + 16 - 16 ≡ bits_at 10 4 n = omega arith in
    rw (e, eq-eqb (vector_type n) instruction_type instruction, eq-eqb (instruction_kind n) 0 i, index) (packed_read temporary_vector n tt shown)

pub reserved_back_and_there : (n : ℕ) → is_vector n ≡ true → vector_type n ≡ instruction_type
    → eqb (instruction_kind n) 0 ≡ false
    → packed instruction_vector (of_reserved (vector_read n).fields) ≡ bit_and n (mask_of is_read instruction_vector)
reserved_back_and_there n e instruction i =
    let shown : shows instruction_vector n ≡ true = shows_each instruction_vector n tt ∙ rw (eq-eqb (bits_at 31 1 n) 0 (vector_clear n e)) refl in
    rw (e, eq-eqb (vector_type n) instruction_type instruction, i) (packed_read instruction_vector n tt shown)
