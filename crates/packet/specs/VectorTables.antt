-- The data sheet's tables of the vector packets: a line a byte, byte 3 first (docs/datasheet.md).
use Rattle.std.specs.Prelude.{ℕ, [], ◌∷◌}
use Rattle.laws.specs.Layouts.{Layout, printed, zeros, field, unused}

-- S8.7.4, Table 31, a numeric vector: WN; e, p, V; K, n, b
abbrev pub numeric_vector : Layout
numeric_vector =
    zeros 1 ∷ field 7
    ∷ field 1 ∷ field 2 ∷ unused 2 ∷ field 3
    ∷ unused 2 ∷ field 4 ∷ field 3 ∷ field 7
    ∷ []

-- S8.7.6, Table 36, a hex/binary, alphanumeric or secure vector: WN; e, p, V; n, b
abbrev pub text_vector : Layout
text_vector =
    zeros 1 ∷ field 7
    ∷ field 1 ∷ field 2 ∷ unused 2 ∷ field 3
    ∷ unused 2 ∷ field 7 ∷ field 7
    ∷ []

-- S8.7.5, Table 33, a short message/tone-only vector: WN; e, p, V; d (twelve bits), t
abbrev pub short_vector : Layout
short_vector =
    zeros 1 ∷ field 7
    ∷ field 1 ∷ field 2 ∷ unused 2 ∷ field 3
    ∷ unused 2 ∷ field 12 ∷ field 2
    ∷ []

-- Table 34, t 00, the first three numeric characters: WN; e, p; c, b, a
abbrev pub characters_vector : Layout
characters_vector =
    zeros 1 ∷ field 7
    ∷ field 1 ∷ field 2 ∷ unused 2 ∷ printed 3 2
    ∷ unused 2 ∷ field 4 ∷ field 4 ∷ field 4 ∷ printed 2 0
    ∷ []

-- Table 34, t 01, a source: WN; e, p; S (s unused)
abbrev pub source_vector : Layout
source_vector =
    zeros 1 ∷ field 7
    ∷ field 1 ∷ field 2 ∷ unused 2 ∷ printed 3 2
    ∷ unused 2 ∷ unused 9 ∷ field 3 ∷ printed 2 1
    ∷ []

-- Table 34, t 10, a source and a message number: WN; e, p; R, N, S (s unused)
abbrev pub numbered_vector : Layout
numbered_vector =
    zeros 1 ∷ field 7
    ∷ field 1 ∷ field 2 ∷ unused 2 ∷ printed 3 2
    ∷ unused 2 ∷ unused 2 ∷ field 1 ∷ field 6 ∷ field 3 ∷ printed 2 2
    ∷ []

-- S8.7.7, Table 37, a short instruction vector: WN; e, p, V; d (eleven bits), i
abbrev pub instruction_vector : Layout
instruction_vector =
    zeros 1 ∷ field 7
    ∷ field 1 ∷ field 2 ∷ unused 2 ∷ field 3
    ∷ unused 2 ∷ field 11 ∷ field 3
    ∷ []

-- Table 38, i 000, a temporary address: WN; e, p; a, f
abbrev pub temporary_vector : Layout
temporary_vector =
    zeros 1 ∷ field 7
    ∷ field 1 ∷ field 2 ∷ unused 2 ∷ printed 3 1
    ∷ unused 2 ∷ field 4 ∷ field 7 ∷ printed 3 0
    ∷ []

-- the vector types V. Table 35: secure
abbrev pub secure_type : ℕ
secure_type = 0

-- S8.7.7: short instruction
abbrev pub instruction_type : ℕ
instruction_type = 1

-- S8.7.5: short message/tone-only
abbrev pub short_type : ℕ
short_type = 2

-- Table 32: standard numeric
abbrev pub standard_type : ℕ
standard_type = 3

-- Table 32: special format numeric
abbrev pub special_type : ℕ
special_type = 4

-- Table 35: alphanumeric
abbrev pub alphanumeric_type : ℕ
alphanumeric_type = 5

-- Table 35: hex/binary
abbrev pub hex_type : ℕ
hex_type = 6

-- Table 32: numbered numeric
abbrev pub numbered_type : ℕ
numbered_type = 7
