-- What is answered when a numeric page is written or read, a line a refusal, in the order of 01's table.
use Rattle.std.specs.Prelude.{ℕ, Bool, not, List, [], ◌∷◌, ◌++◌, ltb, length, get_or}
use Rattle.refusal.specs.declared.Refusal.TheVariants.{Room, Packet, Size, Damaged, Checksum, TooLong, Character}
use Rattle.refusal.specs.Told.{Told, given, ask, number_told, value_told, written_by}
use Rattle.sums.specs.Words.{undamaged}
use Rattle.numeric.specs.declared.Numbering.{Numbering}
use Rattle.numeric.specs.declared.Written.{Written}
use Rattle.numeric.specs.declared.PageRead.{PageRead}
use Rattle.numeric.specs.declared.PageText.{PageText}
use Rattle.numeric.specs.declared.PageWords.{PageWords}
use Rattle.numeric.specs.Pages.{Set, set_of, is_set, spaces_at_end, most_words, room_of, check_of, in_vector, page_of, head_in, text_in, is_numbered}
use Rattle.numeric.specs.Pages.{in_set, headed, vector_fits, is_size, checked}

-- the numbers S, R and N, as the head has them
abbrev pub flags_of : Numbering → List ℕ
flags_of n = n.special_format ∷ n.retrieval ∷ n.message_number ∷ []

-- S, R and N from a row of those numbers
abbrev pub as_numbering : List ℕ → Numbering
as_numbering head = record { message_number = get_or head 2 0; retrieval = get_or head 1 0; special_format = get_or head 0 0 }

-- what is told of a page that was written: the vector's K, and how many words
abbrev pub laid_in : Set → Bool → Numbering → List ℕ → List ℕ
laid_in set numbered numbering text =
    in_vector (check_of set numbered (flags_of numbering) text) ∷ length (page_of set numbered (flags_of numbering) text) ∷ []

-- the values of the code's answer, in the order in which they are told
abbrev pub written_values : PageWords → List ℕ
written_values page = page.check ∷ page.words ∷ []

-- a page written for a vector's type: 7, 15, 18, and last of all 1 for a buffer of `lent` words; else the vector's K, and how many words
unfoldable pub written_of : Set → ℕ → ℕ → Numbering → List ℕ → Told
written_of set lent kind numbering text =
    ask (not (headed kind (flags_of numbering))) Packet
    (ask (ltb (room_of (is_numbered kind) most_words) (length text)) TooLong
    (ask (not (in_set set text)) Character
    (ask (ltb lent (length (page_of set (is_numbered kind) (flags_of numbering) text))) Room
    (given (laid_in set (is_numbered kind) numbering text)))))

-- what the lent words are then
abbrev pub words_after : Set → ℕ → Numbering → List ℕ → List ℕ → List ℕ
words_after set kind numbering text lent =
    written_by (written_of set (length lent) kind numbering text) lent (page_of set (is_numbered kind) (flags_of numbering) text)

-- a page written in the set that a number chooses: 7 where it chooses none, ahead of all else
abbrev pub written_chosen : ℕ → ℕ → ℕ → Numbering → List ℕ → Told
written_chosen set lent kind numbering text = ask (not (is_set set)) Packet (written_of (set_of set) lent kind numbering text)

-- what the lent words are then
abbrev pub words_chosen : ℕ → ℕ → Numbering → List ℕ → List ℕ → List ℕ
words_chosen set kind numbering text lent =
    written_by (written_chosen set (length lent) kind numbering text) lent (page_of (set_of set) (is_numbered kind) (flags_of numbering) text)

-- the answer: 01's number, the vector's K, how many words were written
abbrev pub as_written : Told → Written
as_written t = record { number = number_told t; check = value_told t 0; words = value_told t 1 }

-- what is told of a page that was read: S, R, N, how many characters, and how many spaces at their end
abbrev pub told_in : Set → Bool → List ℕ → List ℕ
told_in set numbered words =
    let head = head_in numbered words in
    get_or head 0 0 ∷ get_or head 1 0 ∷ get_or head 2 0 ∷ room_of numbered (length words) ∷ spaces_at_end (text_in set numbered words) ∷ []

-- the values of the code's answer, in the order in which they are told
abbrev pub read_values : PageText → List ℕ
read_values page = flags_of page.numbering ++ page.characters ∷ page.spaces_at_end ∷ []

-- what is told of a page that is read, by its vector's type
abbrev pub read_told : Set → ℕ → List ℕ → Told
read_told set kind words = given (told_in set (is_numbered kind) words)

-- a page read with its vector's type and K: 7, 9, 10, 11, and last of all 1 for a buffer of `lent` bytes; else what the page says
unfoldable pub read_of : Set → ℕ → ℕ → ℕ → List ℕ → Told
read_of set lent kind check words =
    ask (not (vector_fits kind check)) Packet
    (ask (not (is_size (length words))) Size
    (ask (not (undamaged words)) Damaged
    (ask (not (checked check words)) Checksum
    (ask (ltb lent (room_of (is_numbered kind) (length words))) Room
    (read_told set kind words)))))

-- what the lent bytes are then
abbrev pub text_after : Set → ℕ → ℕ → List ℕ → List ℕ → List ℕ
text_after set kind check words lent =
    written_by (read_of set (length lent) kind check words) lent (text_in set (is_numbered kind) words)

-- a page read in the set that a number chooses: 7 where it chooses none, ahead of all else
abbrev pub read_chosen : ℕ → ℕ → ℕ → ℕ → List ℕ → Told
read_chosen set lent kind check words = ask (not (is_set set)) Packet (read_of (set_of set) lent kind check words)

-- what the lent bytes are then
abbrev pub text_chosen : ℕ → ℕ → ℕ → List ℕ → List ℕ → List ℕ
text_chosen set kind check words lent =
    written_by (read_chosen set (length lent) kind check words) lent (text_in (set_of set) (is_numbered kind) words)

-- the answer: 01's number, what the head says of a numbered page, how many characters were written, and how many spaces at their end
abbrev pub as_read : Told → PageRead
as_read t =
    record {
      number = number_told t;
      numbering = as_numbering (value_told t 0 ∷ value_told t 1 ∷ value_told t 2 ∷ []);
      characters = value_told t 3;
      spaces_at_end = value_told t 4;
    }
