-- The sender (CCIR Radiopaging Code No. 1): the words of a page, and the words in batches. No function sends; this is what the reader is held to.
use Rattle.std.specs.Prelude.{ℕ, zero, suc, ◌+◌, ◌-◌, ◌*◌, ◌/◌, ◌^◌, Bool, List, [], ◌∷◌, ◌++◌, map, ltb, length, get_or, drop, replicate}
use Prim.Native.Char.{code}
use Rattle.laws.specs.Choice.{pick}
use Rattle.laws.specs.Lists.{all, place_in}
use Rattle.laws.specs.Numerals.{number, digits}
use Rattle.numeric.specs.Pages.{set_of}
use Rattle.pocsag.specs.Codewords.{sent_word}
use Rattle.pocsag.specs.Batches.{sync_word, turned}
use Rattle.pocsag.specs.Texts.{is_text, width_of, message_bits, room_of}

-- ---- words

-- the address word of an address and a function: a 0, the upper eighteen bits of the address, the two function bits
abbrev pub address_word : ℕ → ℕ → ℕ
address_word address function = sent_word (address / 8 * 4 + function)

-- a message word: a 1, and twenty message bits, which are given here with the first that is sent as the lowest
abbrev pub message_word : ℕ → ℕ
message_word bits = sent_word (2 ^ 20 + turned bits)

-- the words of a page: its address word, and its message words right after it
abbrev pub page_words : ℕ → ℕ → List ℕ → List ℕ
page_words address function message = address_word address function ∷ map message_word message

-- ---- text

-- the code of a character: itself, or its place in the set of numeric pages
abbrev pub code_of : ℕ → ℕ → ℕ
code_of kind c = pick (is_text kind) c (place_in (set_of kind) c)

-- whether each character of a text can be sent
unfoldable pub is_sendable : ℕ → List ℕ → Bool
is_sendable kind text = all (λ c. ltb (code_of kind c) (2 ^ width_of kind)) text

-- what the last word is filled with: spaces, or NUL
abbrev pub fill_of : ℕ → ℕ
fill_of kind = pick (is_text kind) 0x00 (code " ")

-- the fewest words that hold so many characters; none for a page without text
abbrev pub words_for : ℕ → ℕ → ℕ
words_for kind characters = (width_of kind * characters + (message_bits - 1)) / message_bits

-- a text, and fill after it as far as its words have room for characters
abbrev pub filled : ℕ → List ℕ → List ℕ
filled kind text = text ++ replicate (room_of kind (words_for kind (length text)) - length text) (fill_of kind)

-- the message bits of a text, twenty a word, each character with its lowest bit first and over word ends; bits that are left over are 0
unfoldable pub message_of : ℕ → List ℕ → List ℕ
message_of kind text =
    digits (2 ^ message_bits) (words_for kind (length text)) (number (2 ^ width_of kind) (map (code_of kind) (filled kind text)))

-- ---- batches

-- words in batches, of which so many of the present one are still to come: a sync word stands before each sixteen. The sync words may be given as they
-- came; where none is given any more it is the sync word itself
unfoldable pub batched : List ℕ → ℕ → List ℕ → List ℕ
batched syncs left [] = []
batched syncs zero (word ∷ words) = get_or syncs 0 sync_word ∷ word ∷ batched (drop 1 syncs) 15 words
batched syncs (suc left) (word ∷ words) = word ∷ batched syncs left words
