-- What a text of codewords says, run by run: a run is the characters between two blanks, or between a blank and an end of the text.
use Rattle.std.specs.Prelude.{ℕ, ◌+◌, ◌*◌, Bool, not, List, [], ◌∷◌, ◌++◌, eqb, length, Option, Some, None, Err}
use Prim.Native.Char.{code}
use Rattle.laws.specs.Choice.{pick}
use Rattle.laws.specs.Lists.{all, first_that}
use Rattle.refusal.specs.declared.Refusal.TheVariants.{Size, Character}
use Rattle.refusal.specs.Told.{number_of}
use Rattle.pocsag_lister.specs.declared.Token.{Token}
use Rattle.pocsag_lister.specs.Inputs.{Found, word_found}
use Rattle.pocsag_lister.specs.Tokens.{is_blank, is_hex, hex_value, finished, taken_text}

-- the number of a row of hexadecimal digits, the highest first, that stand after a number
unfoldable pub hex_number : ℕ → List ℕ → ℕ
hex_number before [] = before
hex_number before (digit ∷ row) = hex_number (before * 16 + hex_value digit) row

-- a run that is no word
abbrev pub wrong_found : ℕ → ℕ → ℕ → Found
wrong_found n line place = Err (record { number = n; line = line; place = place })

-- whether a byte is no hexadecimal digit
abbrev pub is_other : ℕ → Bool
is_other byte = not (is_hex byte)

-- a run by its line and the place of its first character: 18 and the place of the first that is no hexadecimal digit; 9 and its own place where
-- there are not eight; else a word
abbrev pub run_found : ℕ → ℕ → List ℕ → Found
run_found line place run =
    pick (not (all is_hex run)) (wrong_found (number_of Character) line (place + first_that is_other run))
    (pick (not (eqb (length run) 8)) (wrong_found (number_of Size) line place)
    (word_found (hex_number 0 run)))

-- the run that ends at a blank, or at the end: without a character there is none
abbrev pub ended : ℕ → ℕ → List ℕ → List Found
ended line place [] = []
ended line place (byte ∷ run) = run_found line place (byte ∷ run) ∷ []

-- the runs of a text that goes on after the characters of one, of which the first stands at that place
unfoldable pub runs_from : ℕ → ℕ → List ℕ → List ℕ → List Found
runs_from line place run [] = ended line place run
runs_from line place run (byte ∷ text) =
    pick (is_blank byte)
    (ended line place run
    ++ runs_from (pick (eqb byte (code "\n")) (line + 1) line) (pick (eqb byte (code "\n")) 0 (place + length run + 1)) [] text)
    (runs_from line place (run ++ byte ∷ []) text)

-- the runs of a text: its first line is 1, and the first place of a line is 0
abbrev pub runs_of : List ℕ → List Found
runs_of text = runs_from 1 0 [] text

-- what is found, if anything is
abbrev pub some_of : Option Found → List Found
some_of None = []
some_of (Some f) = f ∷ []

-- what is found in a text that is taken byte by byte, and at its end
unfoldable pub found_from : Token → List ℕ → List Found
found_from t [] = some_of (finished t)
found_from t (byte ∷ text) = some_of (taken_text t byte).found ++ found_from (taken_text t byte).token text
