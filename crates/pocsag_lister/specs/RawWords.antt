-- Codewords as bytes: four to a word, the highest first.
use Rattle.std.specs.Prelude.{ℕ, ◌+◌, ◌*◌, ◌%◌, ◌^◌, List, [], ◌∷◌, ltb, eqb, Option, Some, None}
use Rattle.laws.specs.Choice.{pick}
use Rattle.refusal.specs.declared.Refusal.TheVariants.{Size}
use Rattle.pocsag_lister.specs.declared.Token.{Token}
use Rattle.pocsag_lister.specs.declared.Left.{Left}
use Rattle.pocsag_lister.specs.declared.Left.TheVariants as lefts
use Rattle.pocsag_lister.specs.declared.Taken.{Taken}
use Rattle.pocsag_lister.specs.Inputs.{one_more, nothing, word_found}

-- a number of four bytes with one more byte behind it, and without the first
abbrev pub shifted_byte : ℕ → ℕ → ℕ
shifted_byte value byte = value % 2 ^ 24 * 256 + byte

-- one of the first three bytes of a word: the place that is told is that of the first
abbrev pub begun : Token → ℕ → Token
begun t byte =
    record {
      line = t.line;
      place = one_more t.place;
      «at» = pick (eqb t.count 0) t.place t.«at»;
      number = t.number;
      count = t.count + 1;
      value = shifted_byte t.value byte;
    }

-- after the fourth byte of a word
abbrev pub after_word : Token → Token
after_word t = record { line = t.line; place = one_more t.place; «at» = 0; number = t.number; count = 0; value = 0 }

-- a byte of an input of bytes: the fourth makes a word
abbrev pub taken_raw : Token → ℕ → Taken
taken_raw t byte =
    pick (ltb t.count 3)
    (record { token = begun t byte; found = nothing })
    (record { token = after_word t; found = Some (word_found (shifted_byte t.value byte)) })

-- what is left where the input ends: one to three bytes are no word, and are told by 9 and the place of the first
abbrev pub left_over : Token → Option Left
left_over t = pick (eqb t.count 0) None (Some (lefts.Bytes Size t.«at»))

-- the words that bytes make, four to a word and the highest first; bytes left over make none
unfoldable pub words_in : List ℕ → List ℕ
words_in [] = []
words_in (a ∷ []) = []
words_in (a ∷ b ∷ []) = []
words_in (a ∷ b ∷ c ∷ []) = []
words_in (a ∷ b ∷ c ∷ d ∷ bytes) = (((a * 256 + b) * 256 + c) * 256 + d) ∷ words_in bytes
