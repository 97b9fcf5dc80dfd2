-- How many words, fragments and cells there are: of a message, of a fragment at a place, of all fragments together.
use Rattle.std.proofs.Common.{◌≡◌, ℕ, zero, suc, ◌+◌, ◌-◌, ◌*◌, ◌<◌, ◌≤◌, min, List, length, refl, ap, ◌∙◌, arith, length-append, length-drop, length-take}
use mathlib.Core.List.{flatten}
use lib.ListN.{length-replicate}
use Rattle.laws.proofs.Counting.{rounded_up}
use Rattle.fragment.specs.Fragments.{fragment_of}
use Rattle.fragment.proofs.Cells.{words_length}
use Rattle.fragment.specs.declared.Marks.{Marks}
use Rattle.fragment.specs.Cutting.{message_of, words_for, fragments_for, cells_at, fragment_at, fragments_from, cut}

-- signature, text and fill make whole words
pub message_length : (text : List ℕ) → length (message_of text) ≡ 3 * words_for (length text)
unfolding message_of
message_length text = simp (length-append, length-replicate) (omega arith)

module _ (largest n : ℕ) (two : 2 ≤ largest) where
  -- the words after the first of each fragment, and the fragments that they need
  counted : (words_for n ≤ (largest - 1) * fragments_for largest n) × ((largest - 1) * (fragments_for largest n - 1) < words_for n) × (1 ≤ fragments_for largest n)
  counted =
      let less : largest - 2 ≡ largest - 1 - 1 = omega arith in
      rw less (rounded_up (words_for n) (largest - 1) (omega arith) (omega arith))

  -- the fragments hold all words of the message
  pub enough : words_for n ≤ (largest - 1) * fragments_for largest n
  enough = counted.0

  -- one fragment fewer would not hold all words of the message
  pub not_too_many : (largest - 1) * (fragments_for largest n - 1) < words_for n
  not_too_many = counted.1

  -- there is a fragment
  pub some_fragment : 1 ≤ fragments_for largest n
  some_fragment = counted.2

-- three times the smaller is the smaller of three times each
min_three : (d w p : ℕ) → min (3 * d) (3 * w - 3 * d * p) ≡ 3 * min d (w - d * p)
min_three d w p = omega arith

-- the words after the first of the fragment at a place: as many as fit, or what is left of the message
abbrev pub words_at : ℕ → ℕ → ℕ → ℕ
words_at largest n place = min (largest - 1) (words_for n - (largest - 1) * place)

module _ (largest : ℕ) (text : List ℕ) (place : ℕ) where
  -- the cells of the fragment at a place are three times as many as those words
  pub cells_at_length : length (cells_at largest text place) ≡ 3 * words_at largest (length text) place
  cells_at_length = simp (length-take, length-drop, message_length) (min_three (largest - 1) (words_for (length text)) place)

  -- a fragment has one word before those that hold its cells
  pub fragment_length : (marks : Marks) → length (fragment_at marks largest text place) ≡ 1 + words_at largest (length text) place
  unfolding fragment_at fragment_of
  fragment_length marks = omega (arith, cells_at_length, words_length (cells_at largest text place) (omega (arith, cells_at_length)))

-- the words of two fragments and more, of which the first takes what fits
words_more : (d w p left : ℕ) → 1 + min d (w - d * p) + (left + min (d * left) (w - d * suc p)) ≡ suc left + min (d * suc left) (w - d * p)
words_more d w p left = omega arith

module _ (marks : Marks) (largest : ℕ) (text : List ℕ) where
  -- so many fragments from a place on are so many
  count_from : (place left : ℕ) → length (fragments_from marks largest text place left) ≡ left
  unfolding fragments_from
  count_from place zero = refl
  count_from place (suc left) = ap suc (count_from (suc place) left)

  -- a text has as many fragments as its words fill
  pub count : length (cut marks largest text) ≡ fragments_for largest (length text)
  unfolding cut
  count = count_from 0 (fragments_for largest (length text))

  -- the words of so many fragments from a place on
  total_from : (place left : ℕ)
      → length (flatten (fragments_from marks largest text place left)) ≡ left + min ((largest - 1) * left) (words_for (length text) - (largest - 1) * place)
  unfolding fragments_from flatten
  total_from place zero = omega arith
  total_from place (suc left) =
      length-append (fragment_at marks largest text place) _
      ∙ rw (fragment_length largest text place marks, total_from (suc place) left)
      (words_more (largest - 1) (words_for (length text)) place left)

  -- all fragments together have a word each besides those of the message
  pub total : 2 ≤ largest → length (flatten (cut marks largest text)) ≡ fragments_for largest (length text) + words_for (length text)
  unfolding cut
  total two = omega (arith, total_from 0 (fragments_for largest (length text)), enough largest (length text) two)
