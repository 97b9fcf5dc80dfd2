-- The words of a portion of an input: its bytes are taken one after the other while there is room for words, up to the first run that is no word.
use Rattle.std.specs.Prelude.{ℕ, ◌+◌, ◌-◌, List, [], ◌∷◌, ◌++◌, eqb, length, Option, Some, None, Ok, Err}
use Rattle.laws.specs.Choice.{pick}
use Rattle.pocsag_lister.specs.declared.Token.{Token}
use Rattle.pocsag_lister.specs.declared.WrongRun.{WrongRun}
use Rattle.pocsag_lister.specs.declared.Taken.{Taken}
use Rattle.pocsag_lister.specs.declared.Collected.{Collected}
use Rattle.pocsag_lister.specs.Inputs.{Found}
use Rattle.pocsag_lister.specs.Runs.{some_of}

-- what a byte does in a form of input
abbrev pub Taking : Type 0
Taking = Token → ℕ → Taken

-- what comes of some bytes: where the reading is, how many bytes were taken, the words, and the run after them that is none
pub record Words : Type 0 where
  pub token : Token
  pub taken : ℕ
  pub words : List ℕ
  pub wrong : Option WrongRun

-- no byte is taken
abbrev pub no_words : Token → Words
no_words t = record { token = t; taken = 0; words = []; wrong = None }

-- a byte that ends a run that is no word
abbrev pub wrong_words : Token → WrongRun → Words
wrong_words t wrong = record { token = t; taken = 1; words = []; wrong = Some wrong }

-- a byte before others
abbrev pub byte_before : Words → Words
byte_before w = record { token = w.token; taken = 1 + w.taken; words = w.words; wrong = w.wrong }

-- a byte that makes a word before others
abbrev pub word_before : ℕ → Words → Words
word_before word w = record { token = w.token; taken = 1 + w.taken; words = word ∷ w.words; wrong = w.wrong }

-- a byte by what it finishes: a word before those with less room, a run that is none, or nothing before those with the same room
abbrev pub found_before : Token → Option Found → Words → Words → Words
found_before t (Some (Ok word)) fewer same = word_before word fewer
found_before t (Some (Err wrong)) fewer same = wrong_words t wrong
found_before t None fewer same = byte_before same

-- the words of a portion, with room for so many
unfoldable pub words_of : Taking → ℕ → Token → List ℕ → Words
words_of take room t [] = no_words t
words_of take room t (byte ∷ bytes) =
    pick (eqb room 0) (no_words t)
    (found_before (take t byte).token (take t byte).found
    (words_of take (room - 1) (take t byte).token bytes) (words_of take room (take t byte).token bytes))

-- the answer: the words themselves are in the row
abbrev pub as_collected : Words → Collected
as_collected w = record { token = w.token; taken = w.taken; count = length w.words; wrong = w.wrong }

-- the answer if no run went wrong
abbrev pub collected_at : Token → ℕ → ℕ → Collected
collected_at t taken count = record { token = t; taken = taken; count = count; wrong = None }

-- what is found in the bytes of an input, taken one after the other: words, and runs that are none
unfoldable pub found_in : Taking → Token → List ℕ → List Found
found_in take t [] = []
found_in take t (byte ∷ bytes) = some_of (take t byte).found ++ found_in take (take t byte).token bytes

-- where the reading is after them
unfoldable pub token_after : Taking → Token → List ℕ → Token
token_after take t [] = t
token_after take t (byte ∷ bytes) = token_after take (take t byte).token bytes
