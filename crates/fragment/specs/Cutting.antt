-- Cutting a text into fragments (document 01, "The writer takes a text .."; S8.7.8.3, S8.8.5).
use Rattle.std.specs.Prelude.{ℕ, zero, suc, ◌+◌, ◌-◌, ◌*◌, ◌/◌, ◌%◌, ◌^◌, Bool, true, not, ◌&&◌, List, [], ◌∷◌, ◌++◌, length, take, drop, replicate, ◌==◌, nat_lt}
use Rattle.laws.specs.Choice.{pick}
use Rattle.laws.specs.Layouts.{fit}
use Rattle.laws.specs.Lists.{all}
use Rattle.sums.specs.Sums.{signature_of}
use Rattle.fragment.specs.Fragments.{etx, cell_bits, first_number, head_of, head_for, fragment_of}
use Rattle.fragment.specs.declared.Marks.{Marks}

-- 01's table, 18: whether a character can stand in a text: not "over 7FH, or ETX"
abbrev pub is_text : ℕ → Bool
is_text c = nat_lt c (2 ^ cell_bits) && not (c == etx)

-- whether every character of a text can stand in it
unfoldable pub sendable : List ℕ → Bool
sendable text = all is_text text

-- ---- the message: its signature, its text, its fill

-- "ETX (03H) is fill": signature, text and fill make whole words of three
abbrev pub filled : List ℕ → List ℕ
filled text = text ++ replicate (2 - length text % 3) etx

-- all cells of a message in the order in which they are sent. 01: S is summed over "all characters of the message, fill included"
unfoldable pub message_of : List ℕ → List ℕ
message_of text = signature_of (filled text) ∷ filled text

-- how many words the message of so many characters is
abbrev pub words_for : ℕ → ℕ
words_for characters = (characters + 3) / 3

-- ---- the fragments

-- "F is 3 in a first fragment, then 0, 1, 2, 0 and so on": by the fragment's place in the message, the first at 0
abbrev pub fragment_number : ℕ → ℕ
fragment_number place = pick (place == 0) first_number ((place - 1) % 3)

-- "C is 1 when more follows": by how many fragments follow
abbrev pub continued : ℕ → ℕ
continued left = pick (left == 0) 0 1

-- the numbers of the head of the fragment at a place, which so many follow: M and R in the first one alone
abbrev pub head_at : Marks → ℕ → ℕ → List ℕ
head_at marks place left =
    head_for (place == 0) marks.mail_drop marks.retrieval marks.message_number (fragment_number place) (continued left)

-- 01's table, 7: whether no number is too large
abbrev pub marked : Marks → Bool
marked marks = fit (head_of true) (head_at marks 0 0 ++ 0 ∷ [])

-- how many cells a fragment of so many words holds: three in each word after the first
abbrev pub cells_for : ℕ → ℕ
cells_for words = 3 * (words - 1)

-- how many characters a fragment of so many words has room for, a first one or another:
-- "The first fragment's second word starts with signature S, then two characters; every other word holds three"
abbrev pub room_for : Bool → ℕ → ℕ
room_for first words = pick first 2 3 + 3 * (words - 2)

-- how many fragments of at most so many words a text has: as many as its words fill, the last perhaps in part
abbrev pub fragments_for : ℕ → ℕ → ℕ
fragments_for largest characters = (words_for characters + (largest - 2)) / (largest - 1)

-- the cells of the fragment at a place: "Every fragment but the last is that large and full; the last is the shortest that holds the rest"
abbrev pub cells_at : ℕ → List ℕ → ℕ → List ℕ
cells_at largest text place = take (cells_for largest) (drop (cells_for largest * place) (message_of text))

-- the fragment at a place
unfoldable pub fragment_at : Marks → ℕ → List ℕ → ℕ → List ℕ
fragment_at marks largest text place =
    fragment_of (place == 0) (head_at marks place (fragments_for largest (length text) - 1 - place)) (cells_at largest text place)

-- the fragments from a place on, so many of them
unfoldable pub fragments_from : Marks → ℕ → List ℕ → ℕ → ℕ → List (List ℕ)
fragments_from marks largest text place zero = []
fragments_from marks largest text place (suc left) = fragment_at marks largest text place ∷ fragments_from marks largest text (suc place) left

-- a text cut into fragments of at most so many words
unfoldable pub cut : Marks → ℕ → List ℕ → List (List ℕ)
cut marks largest text = fragments_from marks largest text 0 (fragments_for largest (length text))
