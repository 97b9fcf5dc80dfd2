-- The listing of CAPCODE lines, to the letter (document 01, "The listing program").
use Rattle.std.specs.Prelude.{ℕ, ◌-◌, ◌/◌, ◌%◌, Bool, ◌&&◌, List, [], ◌∷◌, ◌++◌, leb, eqb, length, replicate}
use Prim.Native.Char.{code}
use Rattle.laws.specs.Choice.{pick}
use Rattle.laws.specs.Texts.{bytes_of}
use Rattle.lister.specs.declared.Padded.{Padded}
use Rattle.lister.specs.Texts.{header}
use Rattle.lister.specs.Verdicts.{line_feed, hex_digit, verdict_of}

-- the byte that is dropped before a line feed
abbrev pub carriage_return : ℕ
carriage_return = code "\r"

-- printable ASCII
abbrev pub printable : ℕ → Bool
printable byte = leb (code " ") byte && leb byte (code "~")

-- a byte as the listing shows it: printable ASCII as it is, a backslash as two, any other byte as \x and two hexadecimal digits (house)
abbrev pub shown_byte : ℕ → List ℕ
shown_byte byte =
    pick (eqb byte (code "\\")) (bytes_of "\\\\")
    (pick (printable byte) (byte ∷ [])
    (code "\\" ∷ code "x" ∷ hex_digit (byte / 16) ∷ hex_digit (byte % 16) ∷ []))

-- a byte as it is shown, in four places
abbrev pub in_four : List ℕ → Padded 4
in_four text = record { bytes = text ++ replicate (4 - length text) 0; size = length text }

-- a text as the listing shows it
unfoldable pub shown : List ℕ → List ℕ
shown [] = []
shown (byte ∷ text) = shown_byte byte ++ shown text

-- the line of a text
abbrev pub line_of : List ℕ → List ℕ
line_of text = shown text ++ verdict_of text

-- a line without the carriage return at its end, if it has one there
unfoldable pub without_return : List ℕ → List ℕ
without_return [] = []
without_return (b ∷ []) = pick (eqb b carriage_return) [] (b ∷ [])
without_return (b ∷ c ∷ text) = b ∷ without_return (c ∷ text)

-- the listing of what follows `line`, the bytes of a line so far: a line ends at a line feed; what stands after the last one is a line if it has a byte
unfoldable pub listed_from : List ℕ → List ℕ → List ℕ
listed_from [] [] = []
listed_from (b ∷ line) [] = line_of (b ∷ line)
listed_from line (byte ∷ input) =
    pick (eqb byte line_feed)
    (line_of (without_return line) ++ listed_from [] input)
    (listed_from (line ++ byte ∷ []) input)

-- the listing of an input
abbrev pub listing : List ℕ → List ℕ
listing input = header ++ listed_from [] input
