-- Reading the vectors that the decoder sends (document 01, "Packets and the handshake"; S8.7.3 to S8.7.7). The fields are 0 after a refusal.
use Rattle.std.specs.Prelude.{ℕ, ◌+◌, Bool, List, [], ◌∷◌, eqb, get_or}
use Rattle.laws.specs.Choice.{pick, some}
use Rattle.laws.specs.Layouts.{fields_of}
use Rattle.refusal.specs.Told.{number_unless, kept}
use Rattle.refusal.specs.declared.Refusal.TheVariants as refusals
use Rattle.packet.specs.Names.{id_of, among, first_vector_id, last_word_id}
use Rattle.packet.specs.VectorTables.{numeric_vector, text_vector, short_vector, characters_vector, source_vector}
use Rattle.packet.specs.VectorTables.{numbered_vector, instruction_vector, temporary_vector, secure_type}
use Rattle.packet.specs.VectorTables.{instruction_type, short_type, standard_type, special_type, alphanumeric_type}
use Rattle.packet.specs.VectorTables.{hex_type, numbered_type}
use Rattle.packet.specs.declared.vectors.Span.{Span}
use Rattle.packet.specs.declared.vectors.ShortMessage.{ShortMessage}
use Rattle.packet.specs.declared.vectors.Instruction.{Instruction}
use Rattle.packet.specs.declared.vectors.Vector.{Vector}
use Rattle.packet.specs.declared.vectors.VectorRead.{VectorRead}

-- V, which says what the rest of a vector is
abbrev pub vector_type : ℕ → ℕ
vector_type n = get_or (fields_of numeric_vector n) 3 0

-- Table 32
abbrev pub is_numeric : ℕ → Bool
is_numeric v = some (eqb v standard_type ∷ eqb v special_type ∷ eqb v numbered_type ∷ [])

-- Table 35
abbrev pub is_text : ℕ → Bool
is_text v = some (eqb v secure_type ∷ eqb v alphanumeric_type ∷ eqb v hex_type ∷ [])

-- Table 31: K; n, of which "000 = 1 word message"; b
abbrev pub as_numeric_span : List ℕ → Span
as_numeric_span v = record { check = get_or v 4 0; words = get_or v 5 0 + 1; start = get_or v 6 0 }

-- Table 36: n and b
abbrev pub as_text_span : List ℕ → Span
as_text_span v = record { check = 0; words = get_or v 4 0; start = get_or v 5 0 }

-- where a vector's message words stand; a vector without message words has none
abbrev pub span_of : ℕ → Span
span_of n =
    pick (is_numeric (vector_type n)) (as_numeric_span (fields_of numeric_vector n))
    (pick (is_text (vector_type n)) (as_text_span (fields_of text_vector n))
    (record { check = 0; words = 0; start = 0 }))

-- t, which says what the d bits are
abbrev pub message_type : ℕ → ℕ
message_type n = get_or (fields_of short_vector n) 5 0

-- a short message in full: its type t, three characters, source, R, N, and the d bits of the spare type
abbrev pub short_message : ℕ → ℕ → ℕ → ℕ → ℕ → ℕ → ℕ → ℕ → ShortMessage
short_message t a b c s r m d =
    record { kind = t; first = a; second = b; third = c; source = s; retrieval = r; message = m; unread = d }

-- Table 34, t 00
abbrev pub as_characters : List ℕ → ShortMessage
as_characters v = short_message 0 (get_or v 5 0) (get_or v 4 0) (get_or v 3 0) 0 0 0 0

-- Table 34, t 01
abbrev pub as_source : List ℕ → ShortMessage
as_source v = short_message 1 0 0 0 (get_or v 3 0) 0 0 0

-- Table 34, t 10
abbrev pub as_numbered : List ℕ → ShortMessage
as_numbered v = short_message 2 0 0 0 (get_or v 5 0) (get_or v 3 0) (get_or v 4 0) 0

-- Table 34, t 11, the spare type: the d bits are handed over unread
abbrev pub as_spare : List ℕ → ShortMessage
as_spare v = short_message 3 0 0 0 0 0 0 (get_or v 4 0)

-- the rest of a short message/tone-only vector
abbrev pub short_of : ℕ → ShortMessage
short_of n =
    pick (eqb (message_type n) 0) (as_characters (fields_of characters_vector n))
    (pick (eqb (message_type n) 1) (as_source (fields_of source_vector n))
    (pick (eqb (message_type n) 2) (as_numbered (fields_of numbered_vector n))
    (as_spare (fields_of short_vector n))))

-- the short message of any vector: 0 in one of another type
abbrev pub short_message_of : ℕ → ShortMessage
short_message_of n = pick (eqb (vector_type n) short_type) (short_of n) (short_message 0 0 0 0 0 0 0 0)

-- i, which says what the d bits are
abbrev pub instruction_kind : ℕ → ℕ
instruction_kind n = get_or (fields_of instruction_vector n) 5 0

-- Table 38, i 000: the address number of the temporary address, and its frame
abbrev pub as_temporary : List ℕ → Instruction
as_temporary v = record { kind = 0; address = get_or v 3 0 + 16; frame = get_or v 4 0; unread = 0 }

-- Table 37, a reserved type: the d bits are handed over unread
abbrev pub as_reserved : List ℕ → Instruction
as_reserved v = record { kind = get_or v 5 0; address = 0; frame = 0; unread = get_or v 4 0 }

-- the rest of a short instruction vector, and 0 in any other
abbrev pub instruction_of : ℕ → Instruction
instruction_of n =
    pick (eqb (vector_type n) instruction_type)
    (pick (eqb (instruction_kind n) 0) (as_temporary (fields_of temporary_vector n)) (as_reserved (fields_of instruction_vector n)))
    (record { kind = 0; address = 0; frame = 0; unread = 0 })

-- WN, e, p and V stand in one place in every vector
abbrev pub vector_of : ℕ → Vector
vector_of n =
    record {
      word = get_or (fields_of numeric_vector n) 0 0;
      damaged = get_or (fields_of numeric_vector n) 1 0;
      phase = get_or (fields_of numeric_vector n) 2 0;
      kind = vector_type n;
      span = span_of n;
      short_message = short_message_of n;
      instruction = instruction_of n;
    }

-- S8.7.3: "ID = 02H to 57H"
abbrev pub is_vector : ℕ → Bool
is_vector n = among first_vector_id last_word_id (id_of n)

-- a vector's fields; 7 for another ID. A vector marked in error is read like any other
abbrev pub vector_read : ℕ → VectorRead
vector_read n = record { number = number_unless refusals.Packet (is_vector n); fields = vector_of (kept (is_vector n) n) }
