-- A fragment written word by word, and fragments one after the other.
use Rattle.std.proofs.Common.{◌≡◌, ℕ, zero, suc, ◌+◌, ◌-◌, ◌*◌, ◌<◌, ◌≤◌, min, Bool, true, List, [], ◌∷◌, ◌++◌, length, get_or, take, drop, set, sym, refl, ap, ◌∙◌, ⊎_elim, append-nil, eq-or-lt_of_le, mul-le-mul_left, div-le_self, add-one, arith, length-drop, length-set, drop_of_length-le, length-take, length-take-le}
use borrow.Rule.Slice.PartMut.{put_mid}
use mathlib.Core.List.{flatten}
use Rattle.laws.specs.Layouts.{fit, packed}
use Rattle.laws.specs.Lists.{put}
use Rattle.laws.specs.Numerals.{number}
use Rattle.laws.proofs.Counting.{take_min}
use Rattle.laws.proofs.Writing.{put_next, put_nothing, put_after}
use Rattle.sums.specs.Sums.{ten_bits}
use Rattle.fragment.specs.declared.Marks.{Marks}
use Rattle.fragment.specs.Cutting.{message_of, words_for, cells_for, fragments_for, cells_at, fragment_at, fragments_from, cut}
use Rattle.fragment.proofs.CutCounts.{words_at, not_too_many, message_length, cells_at_length, fragment_length}
use Rattle.fragment.specs.Fragments.{head_of, words_of, fragment_with, fragment_of}
use Rattle.fragment.proofs.Cells.{words_length, words_first}
use Rattle.fragment.proofs.Heads.{packed_with, packed_small, k_small}

-- a text has few fragments
pub few : (largest n : ℕ) → largest ≤ 85 → n ≤ 1008 → fragments_for largest n ≤ 420
few largest n most short =
    let words : words_for n ≤ 337 = omega arith in
    omega (arith, div-le_self (words_for n + (largest - 2)) (largest - 1))

module _ (row : List ℕ) where
  -- one turn: the next three cells are the next word, and the others are still to come
  pub cell_turn : (words : List ℕ) (at i size a : ℕ) → i < size → i < length words → at + 3 ≤ length row → a ≡ number 128 (take 3 (drop at row))
      → put (set words i a) (i + 1) (words_of (take (3 * (size - (i + 1))) (drop (at + 3) row))) ≡ put words i (words_of (take (3 * (size - i)) (drop at row)))
  cell_turn words at i size a more within inside word =
      let left : size - i ≡ suc (size - (i + 1)) = omega arith in
      rw (left, words_first row at (size - (i + 1)) inside, ← word, add-one) (put_next words _ i a within)

  -- at the end none is still to come
  pub cells_done : (words : List ℕ) (at i size : ℕ) → size ≤ i → words ≡ put words i (words_of (take (3 * (size - i)) (drop at row)))
  unfolding words_of
  cells_done words at i size done =
      let none : size - i ≡ 0 = omega arith in
      rw none (sym (put_nothing words i))

-- words that fill all of a part
whole : (words others : List ℕ) → length words ≡ length others → put words 0 others ≡ others
whole words others e =
    ap (λ (rest : List ℕ). others ++ rest) (drop_of_length-le words {i = 0 + length others} (omega arith)) ∙ append-nil others

-- so many words hold three times as many cells
pub body_length : (row : List ℕ) (place size : ℕ) → place + 3 * size ≤ length row → length (words_of (take (3 * size) (drop place row))) ≡ size
body_length row place size inside =
    let cells = take (3 * size) (drop place row) in
    let many : length cells ≡ 3 * size = length-take-le (3 * size) (drop place row) (simp length-drop (omega arith)) in
    omega (arith, words_length cells (omega arith))

-- the words after the first of a fragment
pub body_written : (row words : List ℕ) (place : ℕ) → place + 3 * length words ≤ length row
    → put words 0 (words_of (take (3 * length words) (drop place row))) ≡ words_of (take (3 * length words) (drop place row))
body_written row words place inside = whole words _ (sym (body_length row place (length words) inside))

-- a first word stored, and the words after it written
pub head_and_rest : (words others : List ℕ) (head : ℕ) → 1 ≤ length words
    → put_mid 1 (length (set words 0 head) - 1) (set words 0 head) others ≡ head ∷ others
head_and_rest [] others head some = absurd (omega arith)
head_and_rest (word ∷ words) others head some =
    ap (λ (rest : List ℕ). head ∷ (others ++ rest)) (drop_of_length-le words {i = suc (length words) - 1} (omega arith))
    ∙ ap (λ (rest : List ℕ). head ∷ rest) (append-nil others)

-- how many words are after the first
pub rest_length : (words : List ℕ) (head : ℕ) → length (take (length (set words 0 head) - 1) (drop 1 (set words 0 head))) ≡ length words - 1
rest_length words head = simp (length-take, length-drop, length-set) (omega arith)

module _ (first : Bool) (head cells : List ℕ) (fits : fit (head_of first) (head ++ 0 ∷ []) ≡ true) where
  -- K below the numbers of the first word
  k_below : (k : ℕ) → k < 1024 → packed (head_of first) (head ++ 0 ∷ []) + k ≡ packed (head_of first) (head ++ k ∷ [])
  k_below k small = omega (arith, packed_with first head fits k small, packed_with first head fits 0 (omega arith))

  -- K added to the first word of a fragment with K as 0 makes the fragment, and no more than 21 bits
  pub k_added :
      (set (fragment_with first head 0 cells) 0 (get_or (fragment_with first head 0 cells) 0 0 + ten_bits (fragment_with first head 0 cells))
      ≡ fragment_of first head cells)
      × (get_or (fragment_with first head 0 cells) 0 0 + ten_bits (fragment_with first head 0 cells) < 0x200000)
  unfolding fragment_of
  k_added =
      let k = ten_bits (fragment_with first head 0 cells) in
      let small = k_small (fragment_with first head 0 cells) in
      (ap (λ (word : ℕ). word ∷ words_of cells) (k_below k small), rw (k_below k small) (packed_small first head fits k small))

-- a part that is one larger, so many times
one_more : (d p : ℕ) → (d + 1) * p ≡ d * p + p
one_more d p = omega arith

-- of parts of d things, each with one more before it, the part at a place is full, or has what is left
sized : (d p n w : ℕ) → p < n → d * (n - 1) < w → min (d + 1) (n + w - (d * p + p)) ≡ 1 + min d (w - d * p)
sized d p n w inside more = ⊎_elim last earlier (eq-or-lt_of_le inside)
  where
    last : suc p ≡ n → min (d + 1) (n + w - (d * p + p)) ≡ 1 + min d (w - d * p)
    last e =
        let same : d * p ≡ d * (n - 1) = ap (λ (k : ℕ). d * k) (omega arith) in
        omega arith

    earlier : suc p < n → min (d + 1) (n + w - (d * p + p)) ≡ 1 + min d (w - d * p)
    earlier l =
        let full : d * suc p ≤ d * (n - 1) = mul-le-mul_left d (omega arith) in
        let here : d * suc p ≡ d * p + d = omega arith in
        omega arith

-- three cells for each word that is left
three_within : (d w p : ℕ) → d * p < w → 3 * d * p + 3 * min d (w - d * p) ≤ 3 * w
three_within d w p before = omega arith

module _ (largest : ℕ) (text : List ℕ) (place : ℕ) (two : 2 ≤ largest) (inside : place < fragments_for largest (length text)) where
  -- the words of a message that stand in fragments before a place are fewer than all
  pub words_before : (largest - 1) * place < words_for (length text)
  words_before =
      let most : (largest - 1) * place ≤ (largest - 1) * (fragments_for largest (length text) - 1) = mul-le-mul_left (largest - 1) (omega arith) in
      omega (arith, not_too_many largest (length text) two)

  -- a fragment begins where the others end, of which each has a word more than those of the message
  pub starts : largest * place ≡ (largest - 1) * place + place
  starts = let more : largest ≡ largest - 1 + 1 = omega arith in ap (λ (n : ℕ). n * place) more ∙ one_more (largest - 1) place

  -- a fragment begins within the row
  pub starts_within : largest * place ≤ fragments_for largest (length text) + words_for (length text)
  starts_within = omega (arith, starts, words_before)

  -- the part of the row from a fragment's place on is as long as the fragment
  pub part_size : min largest (fragments_for largest (length text) + words_for (length text) - largest * place) ≡ 1 + words_at largest (length text) place
  part_size =
      let more : largest ≡ largest - 1 + 1 = omega arith in
      rw starts
      (ap (λ (n : ℕ). min n (fragments_for largest (length text) + words_for (length text) - ((largest - 1) * place + place))) more
      ∙ sized (largest - 1) place (fragments_for largest (length text)) (words_for (length text)) inside (not_too_many largest (length text) two))

  -- the cells of a fragment are within the message
  pub cells_within : 3 * (largest - 1) * place + 3 * words_at largest (length text) place ≤ length (message_of text)
  cells_within = omega (arith, message_length text, three_within (largest - 1) (words_for (length text)) place words_before)

  -- so many cells from a fragment's place in the message on are those of the fragment
  pub cells_taken : take (3 * words_at largest (length text) place) (drop (3 * (largest - 1) * place) (message_of text)) ≡ cells_at largest text place
  cells_taken =
      let row = drop (cells_for largest * place) (message_of text) in
      ap (λ (n : ℕ). take n row) (sym (cells_at_length largest text place) ∙ length-take (cells_for largest) row) ∙ take_min (cells_for largest) row

module _ (marks : Marks) (largest : ℕ) (text : List ℕ) (two : 2 ≤ largest) where
  -- a fragment ends within the row
  pub ends_within : (place : ℕ) → place < fragments_for largest (length text)
      → largest * place + length (fragment_at marks largest text place) ≤ fragments_for largest (length text) + words_for (length text)
  ends_within place inside =
      omega (arith, fragment_length largest text place marks, part_size largest text place two inside, starts_within largest text place two inside)

  -- a fragment that another follows is as large as may be
  full_size : (place : ℕ) → place + 1 < fragments_for largest (length text)
      → largest * place + length (fragment_at marks largest text place) ≡ largest * (place + 1)
  full_size place more =
      let next : largest * (place + 1) ≡ largest * place + largest = omega arith in
      omega (
        arith,
        fragment_length largest text place marks,
        part_size largest text place two (omega arith),
        starts_within largest text (place + 1) two more,
      )

  -- one turn: a fragment, and the others after it still to come
  pub fragment_turn : (words : List ℕ) (place count : ℕ) → count ≡ fragments_for largest (length text) → place < count → largest * place ≤ length words
      → put (put words (largest * place) (fragment_at marks largest text place)) (largest * (place + 1))
      (flatten (fragments_from marks largest text (place + 1) (count - (place + 1))))
      ≡ put words (largest * place) (flatten (fragments_from marks largest text place (count - place)))
  unfolding fragments_from flatten
  fragment_turn words place count all within inside = by_left (count - (place + 1)) refl
    where
      by_left : (left : ℕ) → count - (place + 1) ≡ left
          → put (put words (largest * place) (fragment_at marks largest text place)) (largest * (place + 1))
          (flatten (fragments_from marks largest text (place + 1) (count - (place + 1))))
          ≡ put words (largest * place) (flatten (fragments_from marks largest text place (count - place)))
      by_left zero none =
          let one : count - place ≡ suc zero = omega arith in
          rw (none, one)
          (put_nothing (put words (largest * place) (fragment_at marks largest text place)) (largest * (place + 1))
          ∙ ap (put words (largest * place)) (sym (append-nil (fragment_at marks largest text place))))
      by_left (suc left) some =
          let more : count - place ≡ suc (suc left) = omega arith in
          rw (some, more, ← full_size place (omega arith), add-one) (put_after words (fragment_at marks largest text place) _ (largest * place) inside)

  -- at the start all are still to come
  pub fragments_begin : (words : List ℕ) (count : ℕ) → count ≡ fragments_for largest (length text)
      → put words (largest * 0) (flatten (fragments_from marks largest text 0 (count - 0))) ≡ put words 0 (flatten (cut marks largest text))
  unfolding cut
  fragments_begin words count all =
      let start : largest * 0 ≡ 0 = omega arith in
      let left : count - 0 ≡ fragments_for largest (length text) = omega arith in
      rw (start, left)

  -- at the end none is still to come
  pub fragments_done : (words : List ℕ) (place count : ℕ) → count ≤ place
      → words ≡ put words (largest * place) (flatten (fragments_from marks largest text place (count - place)))
  unfolding fragments_from flatten
  fragments_done words place count done =
      let none : count - place ≡ 0 = omega arith in
      rw none (sym (put_nothing words (largest * place)))
