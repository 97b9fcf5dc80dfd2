-- Vectors worked out by hand from the data sheet's tables, and one for which a premise of a law fails.
use Prim.Native.Nat.{ℕ}
use mathlib.Core.List.{[], ◌∷◌, map}
use mathlib.Core.Path.{◌≡◌, refl}
use Rattle.laws.specs.Layouts.{packed}
use Rattle.packet.specs.VectorTables.{numeric_vector}
use Rattle.packet.specs.Vectors.{vector_read, short_message}
use Rattle.packet.specs.declared.vectors.Span.{Span}
use Rattle.packet.specs.declared.vectors.ShortMessage.{ShortMessage}
use Rattle.packet.specs.declared.vectors.Instruction.{Instruction}
use Rattle.packet.specs.declared.vectors.Vector.{Vector}
use Rattle.packet.proofs.VectorLaws.{of_numeric}

-- words 1 and 88 hold no vector
pub vector_numbers : map (λ (n : ℕ). (vector_read n).number) (0x01000000 ∷ 0x02000000 ∷ 0x57000000 ∷ 0x58000000 ∷ []) ≡ 7 ∷ 0 ∷ 0 ∷ 7 ∷ []
vector_numbers = refl

-- what a vector does not have
abbrev no_span : Span
no_span = record { check = 0; words = 0; start = 0 }

abbrev no_short : ShortMessage
no_short = short_message 0 0 0 0 0 0 0 0

abbrev no_instruction : Instruction
no_instruction = record { kind = 0; address = 0; frame = 0; unread = 0 }

-- Table 31: a standard numeric vector at word 7, phase B, K 9, two words from word 20 on; with x bits clear and set
abbrev numeric_read : Vector
numeric_read =
    record {
      word = 7;
      damaged = 0;
      phase = 1;
      kind = 3;
      span = record { check = 9; words = 2; start = 20 };
      short_message = no_short;
      instruction = no_instruction;
    }

pub numeric_examples : map (λ (n : ℕ). (vector_read n).fields) (0x07232494 ∷ 0x073BE494 ∷ []) ≡ numeric_read ∷ numeric_read ∷ []
numeric_examples = refl

-- Table 36: an alphanumeric vector at word 5 in error, twelve words from word 40 on
pub alphanumeric_example : vector_read 0x05850628
    ≡ record {
      number = 0;
      fields =
          record {
            word = 5;
            damaged = 1;
            phase = 0;
            kind = 5;
            span = record { check = 0; words = 12; start = 40 };
            short_message = no_short;
            instruction = no_instruction;
          };
    }
alphanumeric_example = refl

-- Table 34: the characters 0, 4 and 1; source 5; source 5 with R and N 33; the spare type with its d bits
pub short_examples : map (λ (n : ℕ). (vector_read n).fields.short_message) (0x05020500 ∷ 0x05023FD5 ∷ 0x05023C36 ∷ 0x05022AAB ∷ [])
    ≡ short_message 0 0 4 1 0 0 0 0 ∷ short_message 1 0 0 0 5 0 0 0 ∷ short_message 2 0 0 0 5 1 33 0 ∷ short_message 3 0 0 0 0 0 0 0xAAA ∷ []
short_examples = refl

-- a short message/tone-only vector has no message words
pub short_spans : map (λ (n : ℕ). (vector_read n).fields.span) (0x05020500 ∷ 0x05010E68 ∷ []) ≡ no_span ∷ no_span ∷ []
short_spans = refl

-- Table 38: the temporary address 3 in frame 77; a reserved type with its d bits
pub instruction_examples : map (λ (n : ℕ). (vector_read n).fields.instruction) (0x05010E68 ∷ 0x05010E6F ∷ [])
    ≡ record { kind = 0; address = 19; frame = 77; unread = 0 } ∷ record { kind = 7; address = 0; frame = 0; unread = 0x1CD } ∷ []
instruction_examples = refl

-- the law of numeric vectors asks for a numeric type: an alphanumeric one has its words elsewhere
pub alphanumeric_as_numeric : packed numeric_vector (of_numeric (vector_read 0x05050628).fields) ≡ 0x050505A8
alphanumeric_as_numeric = refl
