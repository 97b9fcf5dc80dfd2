-- What is said of a line besides its listing: a remark below it where it is refused, and else its text and its number for the summary.
use Rattle.std.specs.Prelude.{ℕ, zero, suc, Bool, true, false, List, [], ◌∷◌, ◌++◌, eqb, take, Option, Some, None}
use Rattle.std.specs.Fmt.{decimal}
use Rattle.laws.specs.Texts.{bytes_of}
use Rattle.refusal.specs.Told.{Told, told}
use Rattle.refusal.specs.Sentences.{sentence_at}
use Rattle.capcode.specs.Advice.{Advised, advice_of}
use Rattle.capcode.specs.Reads.{read_of}

-- a caret under a place of the line above, of which fifteen are the most
unfoldable pub caret : ℕ → List ℕ
caret place = take place (bytes_of "               ") ++ bytes_of "^ "

-- the letter that is to be written, if there is one
abbrev pub letter_shown : Option ℕ → List ℕ
letter_shown (Some letter) = letter ∷ []
letter_shown None = []

-- a sentence with the number of its line
unfoldable pub sentence_of : ℕ → Advised → List ℕ
sentence_of line advice =
    bytes_of "line " ++ decimal line ++ bytes_of ": " ++ sentence_at advice.row ++ letter_shown advice.letter ++ bytes_of "\n"

-- whether a reading is a refusal
abbrev pub is_refused : Told → Bool
is_refused (told zero values) = false
is_refused (told (suc n) values) = true

-- what is said below a line, by how its text is read: nothing of an accepted one; a caret where the text itself goes wrong
abbrev pub remark_by : Told → List ℕ → List ℕ
remark_by (told zero values) sentence = []
remark_by (told (suc n) []) sentence = sentence
remark_by (told (suc n) (place ∷ values)) sentence = caret place ++ sentence

-- what is said below a line with this text and this number
unfoldable pub remark : List ℕ → ℕ → List ℕ
remark text line = remark_by (read_of text) (sentence_of line (advice_of (eqb line 1) text))

-- an accepted text and its line for the summary
unfoldable pub entry : List ℕ → ℕ → List ℕ
entry text line = text ++ bytes_of " " ++ decimal line ++ bytes_of "\n"

-- what goes to the summary of a line, by how its text is read
abbrev pub kept_by : Told → List ℕ → List ℕ
kept_by (told zero values) kept = kept
kept_by (told (suc n) values) kept = []

-- what goes to the summary of a line with this text and this number
unfoldable pub kept : List ℕ → ℕ → List ℕ
kept text line = kept_by (read_of text) (entry text line)
