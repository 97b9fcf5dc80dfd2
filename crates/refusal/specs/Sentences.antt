-- The sentences for people: what a refusal means, and where a CAPCODE's text goes wrong. They stand here and nowhere else.
use Rattle.std.specs.Prelude.{ℕ, List, [], ◌∷◌, get_or}
use Rattle.laws.specs.Texts.{bytes_of}

-- a row of the table: row n is that of refusal n up to 39, some of which have no sentence yet; the rows from 40 on are those of a text that goes wrong
unfoldable pub sentences : List (List ℕ)
sentences =
    []
    ∷ bytes_of "the lent memory is too short"
    ∷ bytes_of "the state that was handed back is outside its limits"
    ∷ bytes_of "the text is not in the form of a CAPCODE"
    ∷ bytes_of "the letter is all-phase, which the decoder does not support"
    ∷ bytes_of "the address is in no accepted range"
    ∷ bytes_of "the address is below the offset of its letter"
    ∷ bytes_of "the packet or a field is not as its table says"
    ∷ bytes_of "the address number is over 31"
    ∷ bytes_of "the count or the span is outside the limits"
    ∷ bytes_of "a word is in error"
    ∷ bytes_of "K is not the sum of the words"
    ∷ bytes_of "no slot or call is free"
    ∷ bytes_of "no chain of this key is open"
    ∷ bytes_of "it is not the next one, or came before"
    ∷ bytes_of "the text is longer than the room for it"
    ∷ bytes_of "the text's total is not that of its message"
    ∷ bytes_of "no open call awaits it"
    ∷ bytes_of "a character is not in the set"
    ∷ bytes_of "a digit that cannot stand here: A to L take one digit or none, U to Z 000 to 127 and one more"
    ∷ bytes_of "a 4 at the start: no digit means 4, so leave it out"
    ∷ bytes_of "the text stops too soon, or has a digit too many after the letter"
    ∷ [] ∷ [] ∷ []
    ∷ bytes_of "beyond repair: more bits are wrong than can be mended"
    ∷ bytes_of "no sync word stood where one had to"
    ∷ [] ∷ [] ∷ [] ∷ [] ∷ [] ∷ [] ∷ [] ∷ [] ∷ [] ∷ [] ∷ [] ∷ [] ∷ []
    ∷ bytes_of "the line is empty"
    ∷ bytes_of "the text ends before its letter"
    ∷ bytes_of "too few digits: an address up to 2031614 has seven, its zeros written"
    ∷ bytes_of "too few digits: an address over 2031614 has ten, its zeros written"
    ∷ bytes_of "a digit too many: an address up to 2031614 has seven digits"
    ∷ bytes_of "a digit too many: no address has more than ten digits"
    ∷ bytes_of "the file begins with a byte-order mark: save it as plain text"
    ∷ bytes_of "a blank at the end"
    ∷ bytes_of "a blank: a CAPCODE has none"
    ∷ bytes_of "lower case: write "
    ∷ bytes_of "the letter O: write the digit 0"
    ∷ bytes_of "A to L take one digit or none before them, U to Z three frame digits and a collapse digit"
    ∷ bytes_of "no CAPCODE has this character here"
    ∷ []

-- the sentence of a row; none where the table has no such row
abbrev pub sentence_at : ℕ → List ℕ
sentence_at row = get_or sentences row []
