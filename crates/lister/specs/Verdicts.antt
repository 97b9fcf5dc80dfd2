-- What the listing shows after a text, to the letter (document 01, "The listing program").
use Rattle.std.specs.Prelude.{ℕ, ◌+◌, ◌-◌, ◌/◌, ◌%◌, List, [], ◌∷◌, ◌++◌, ltb, eqb, length, replicate, take, get_or}
use Prim.Native.Char.{code}
use Rattle.laws.specs.Choice.{pick}
use Rattle.laws.specs.Texts.{bytes_of}
use Rattle.refusal.specs.Told.{Told, told, number_told}
use Rattle.capcode.specs.Words.{words_of}
use Rattle.capcode.specs.Text.{digits}
use Rattle.capcode.specs.Reads.{read_of}
use Rattle.lister.specs.declared.line_end.Verdict.{Verdict}

-- the byte that ends a line
abbrev pub line_feed : ℕ
line_feed = code "\n"

-- a hexadecimal digit as a byte, capitals
abbrev pub hex_digit : ℕ → ℕ
hex_digit d = pick (ltb d 10) (code "0" + d) (code "A" - 10 + d)

-- a word as six hexadecimal digits
abbrev pub six_digits : ℕ → List ℕ
six_digits word =
    hex_digit (word / 0x100000 % 16) ∷ hex_digit (word / 0x10000 % 16) ∷ hex_digit (word / 0x1000 % 16)
    ∷ hex_digit (word / 0x100 % 16) ∷ hex_digit (word / 0x10 % 16) ∷ hex_digit (word % 16) ∷ []

-- where there is no second word
abbrev pub no_word : List ℕ
no_word = bytes_of "------"

-- the second of the words, if there is one
abbrev pub second_shown : List ℕ → List ℕ
second_shown [] = no_word
second_shown (first ∷ []) = no_word
second_shown (first ∷ second ∷ more) = six_digits second

-- FIRST and SECOND
abbrev pub words_shown : Told → List ℕ
words_shown (told n words) = six_digits (get_or words 0 0) ++ code " " ∷ second_shown words

-- PHASE: its letter, or `*` for any-phase, which is told as 4
abbrev pub phase_shown : ℕ → ℕ
phase_shown phase = pick (eqb phase 4) (code "*") (code "A" + phase)

-- what stands after the text of an accepted CAPCODE, of which letter, frame, collapse, address, phase and base frame are told
abbrev pub accepted_end : List ℕ → List ℕ
accepted_end values =
    code " " ∷ words_shown (words_of (get_or values 3 0))
    ++ code " " ∷ phase_shown (get_or values 4 0)
    ∷ code " " ∷ digits 3 (get_or values 5 0)
    ++ code " " ∷ digits 1 (get_or values 2 0)

-- a number of at most two digits, with no zero before it
abbrev pub plain : ℕ → List ℕ
plain n = pick (ltb n 10) ((code "0" + n) ∷ []) ((code "0" + n / 10 % 10) ∷ (code "0" + n % 10) ∷ [])

-- what stands after a refused text: the word and the number; 02, item 1: "The listing prints the number and the place after REFUSED"
abbrev pub refused_end : ℕ → List ℕ → List ℕ
refused_end n [] = bytes_of " REFUSED " ++ plain n
refused_end n (place ∷ more) = bytes_of " REFUSED " ++ plain n ++ code " " ∷ plain place

-- what stands after a text, by what it was read as
abbrev pub verdict_by : Told → List ℕ
verdict_by (told n values) = pick (eqb n 0) (accepted_end values) (refused_end n values)

-- what stands after a text in the listing, the end of the line with it
unfoldable pub verdict_of : List ℕ → List ℕ
verdict_of text = verdict_by (read_of text) ++ line_feed ∷ []

-- the end of a refused text in 15 places, which is what the longest has
abbrev pub padded : List ℕ → List ℕ
padded end = end ++ replicate (15 - length end) 0

-- what is told of a text, by what it was read as: whether it is accepted, and which bytes stand after it
abbrev pub verdict_as : Told → Verdict
verdict_as answer =
    pick (eqb (number_told answer) 0)
    (Verdict.Accepted (verdict_by answer ++ line_feed ∷ []))
    (Verdict.Refused (record {
      bytes = padded (verdict_by answer ++ line_feed ∷ []);
      size = length (verdict_by answer ++ line_feed ∷ []);
    }))

-- the bytes that are told
abbrev pub stands_after : Verdict → List ℕ
stands_after (Verdict.Accepted end) = end
stands_after (Verdict.Refused ending) = take ending.size ending.bytes
