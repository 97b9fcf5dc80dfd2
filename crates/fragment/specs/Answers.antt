-- What is answered when a fragment is read, a line a refusal, in the order of 01's table.
use Rattle.std.specs.Prelude.{ℕ, not, List, [], ◌∷◌, length, nat_lt}
use Rattle.refusal.specs.declared.Refusal.TheVariants.{Room, Size, Damaged, Checksum}
use Rattle.refusal.specs.Told.{Told, given, ask, written_by}
use Rattle.sums.specs.Words.{undamaged}
use Rattle.fragment.specs.Fragments.{is_size, message_number_in, fragment_number_in, continued_in, mail_drop_in}
use Rattle.fragment.specs.Fragments.{retrieval_in, signature_in, text_in, sum_in, checked}

-- what is told of a fragment: C, F, N, R, M, S, the sum of its cells, and how many characters its text has
abbrev pub heading_told : List ℕ → Told
heading_told words =
    given
    (continued_in words ∷ fragment_number_in words ∷ message_number_in words ∷ retrieval_in words ∷ mail_drop_in words
    ∷ signature_in words ∷ sum_in words ∷ length (text_in words) ∷ [])

-- what is asked of every fragment: 9, 10, 11
abbrev pub when_good : List ℕ → Told → Told
when_good words rest =
    ask (not (is_size (length words))) Size
    (ask (not (undamaged words)) Damaged
    (ask (not (checked words)) Checksum
    rest))

-- the heading of a fragment
unfoldable pub heading_of : List ℕ → Told
heading_of words = when_good words (heading_told words)

-- a fragment read with its text: last of all 1 for a buffer of `lent` bytes
unfoldable pub read_of : ℕ → List ℕ → Told
read_of lent words = when_good words (ask (nat_lt lent (length (text_in words))) Room (heading_told words))

-- what the lent bytes are after a fragment is read
abbrev pub read_after : List ℕ → List ℕ → List ℕ
read_after words lent = written_by (read_of (length lent) words) lent (text_in words)

-- the text alone, of any row of words: 1 for a buffer of `lent` bytes; else how many characters
unfoldable pub text_of : ℕ → List ℕ → Told
text_of lent words = ask (nat_lt lent (length (text_in words))) Room (given (length (text_in words) ∷ []))

-- what the lent bytes are then
abbrev pub text_after : List ℕ → List ℕ → List ℕ
text_after words lent = written_by (text_of (length lent) words) lent (text_in words)
