-- The text of a page (02, item 5: "numeric or seven-bit text"): what its message words say, and what is told of it. A message word here is twenty bits,
-- the first that was sent the lowest.
use Rattle.std.specs.Prelude.{ℕ, ◌*◌, ◌/◌, ◌^◌, ◌<◌, ◌≡◌, Bool, not, ◌||◌, List, [], ◌∷◌, map, leb, ltb, eqb, length, get_or, Result, MatchResult}
use Rattle.laws.specs.Choice.{pick}
use Rattle.laws.specs.Lists.{last_that}
use Rattle.laws.specs.Numerals.{number, digits, are_digits}
use Rattle.refusal.specs.declared.Refusal.{Refusal}
use Rattle.refusal.specs.declared.Refusal.TheVariants.{Room, Packet, Damaged}
use Rattle.refusal.specs.Told.{Told, given, ask, number_told, value_told, written_by}
use Rattle.numeric.specs.Pages.{set_of, is_space}
use Rattle.pocsag.specs.declared.TextKind.{TextKind}
use Rattle.pocsag.specs.declared.TextKind.TheVariants.{Numeric, NumericChinese, SevenBit}
use Rattle.pocsag.specs.declared.TextRead.{TextRead}
use Rattle.pocsag.specs.declared.PocsagText.{PocsagText}

-- the kinds that a caller may choose: 0 and 1 numeric in the set with the option off or on, 2 of seven-bit characters
abbrev pub is_kind : ℕ → Bool
is_kind kind = leb kind 2

-- the number of a kind
abbrev pub kind_number : TextKind → ℕ
kind_number Numeric = 0
kind_number NumericChinese = 1
kind_number SevenBit = 2

-- a number is turned into the kind that has it, or is refused with 7
abbrev pub KindOf : ℕ → Result TextKind Refusal → Type 0
KindOf n kind = MatchResult kind (λ k. kind_number k ≡ n) (λ refusal. (refusal ≡ Packet) × (2 < n))

-- whether a kind is that of seven-bit characters
abbrev pub is_text : ℕ → Bool
is_text kind = eqb kind 2

-- how many bits a character has
abbrev pub width_of : ℕ → ℕ
width_of kind = pick (is_text kind) 7 4

-- how many message bits a word has
abbrev pub message_bits : ℕ
message_bits = 20

-- the character of a code: itself, or by the set of numeric pages
abbrev pub character_of : ℕ → ℕ → ℕ
character_of kind code = pick (is_text kind) code (get_or (set_of kind) code 0)

-- how many characters so many words hold: bits that are left over are no character
abbrev pub room_of : ℕ → ℕ → ℕ
room_of kind words = message_bits * words / width_of kind

-- the characters, lowest bit first and over word ends
unfoldable pub text_in : ℕ → List ℕ → List ℕ
text_in kind words = map (character_of kind) (digits (2 ^ width_of kind) (room_of kind (length words)) (number (2 ^ message_bits) words))

-- what a page is filled with: spaces, or the characters NUL, ETX and EOT of a text
abbrev pub is_fill : ℕ → ℕ → Bool
is_fill kind c = pick (is_text kind) (eqb c 0x00 || eqb c 0x03 || eqb c 0x04) (is_space c)

-- how many characters at the end are fill, told as 02, item 6 tells spaces
abbrev pub fill_at_end : ℕ → List ℕ → ℕ
fill_at_end kind text = last_that (is_fill kind) text

-- a text read: 7 for a kind that there is not, 10 for a word of more than twenty bits, and last 1 for a buffer of `lent` bytes; else how many
-- characters there are, and how many of them at the end are fill
unfoldable pub read_of : ℕ → ℕ → List ℕ → Told
read_of kind lent words =
    ask (not (is_kind kind)) Packet
    (ask (not (are_digits (2 ^ message_bits) words)) Damaged
    (ask (ltb lent (room_of kind (length words))) Room
    (given (room_of kind (length words) ∷ fill_at_end kind (text_in kind words) ∷ []))))

-- what the lent bytes are then
abbrev pub text_after : ℕ → List ℕ → List ℕ → List ℕ
text_after kind words lent = written_by (read_of kind (length lent) words) lent (text_in kind words)

-- the values of a text that was read
abbrev pub text_values : TextRead → List ℕ
text_values text = text.characters ∷ text.fill_at_end ∷ []

-- the answer: the number, how many characters, how many of them at the end are fill
abbrev pub as_text : Told → PocsagText
as_text t = record { number = number_told t; characters = value_told t 0; fill_at_end = value_told t 1 }
