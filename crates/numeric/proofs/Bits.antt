-- The bits of a page as one number: how many words they fill, the head, K in the head, and the characters above it.
use Prim.Native.Nat.{ℕ, zero, suc, ◌+◌, ◌*◌, ◌/◌, ◌%◌, ◌^◌, ◌≤◌, ◌<◌}
use mathlib.Core.Bool.{Bool, true, false}
use mathlib.Core.List.{List, [], ◌∷◌, ◌++◌, map}
use mathlib.Core.Path.{◌≡◌, refl, ap, ap₂, ◌∙◌}
use native.Mathlib.Nat.{add_comm, add-mul-mod_self_left, lt_of_lt_of_le, mod-eq_of_lt, mul_comm}
use native.Mathlib.Omega.{arith}
use borrow.Author.Tests.{ltb-true}
use lib.Arith.{digits_div, digits_lt}
use lib.Dec.{T, ltb}
use lib.ListN.{length, get_or, length-append, length-map, length-replicate}
use lib.Pow.{pow-add, pow_mono}
use Rattle.laws.specs.Layouts.{Layout, field, size, fit, packed}
use Rattle.laws.specs.Lists.{place_in, all}
use Rattle.laws.specs.Numerals.{number, digits, are_digits}
use Rattle.laws.proofs.Layouts.{laid, fit_before, fit_other, packed_last, packed_lt, read_ending}
use Rattle.laws.proofs.Numerals.{length_digits, digits_at, digits_number, number_below, number_digits, pow_mul}
use Rattle.laws.proofs.Rows.{all_map, place_found}
use Rattle.laws.proofs.Tests.{first_of, second_of}
use Rattle.sums.specs.Sums.{binary_sum, complement, unkeyed, folded, six_bits}
use Rattle.sums.specs.Words.{word_bits}
use Rattle.numeric.specs.Pages.{Set, head_of, room_of, words_for, filled, codes_of, row_of, words_with, check_of, in_word, page_of, head_in, text_in, in_set}

-- ---- how many words

-- a page has a word
pub some_word : (numbered : Bool) (n : ℕ) → 1 ≤ words_for numbered n
some_word true n = omega arith
some_word false n = omega arith

-- the words of a page have room for the text
pub room_enough : (numbered : Bool) (n : ℕ) → n ≤ room_of numbered (words_for numbered n)
room_enough true n = omega arith
room_enough false n = omega arith

-- the characters that they have room for, and the head, are no more bits than theirs
row_within : (numbered : Bool) (n : ℕ) → 4 * room_of numbered (words_for numbered n) + size (head_of numbered) ≤ word_bits * words_for numbered n
row_within true n = omega arith
row_within false n = omega arith

-- the words are as many as the text needs
pub page_length : (set : Set) (numbered : Bool) (flags text : List ℕ) → length (page_of set numbered flags text) ≡ words_for numbered (length text)
unfolding page_of words_with
page_length set numbered flags text = length_digits (2 ^ word_bits) (words_for numbered (length text)) _

-- the text and its spaces are as many as the words have room for
pub filled_length : (numbered : Bool) (text : List ℕ) → length (filled numbered text) ≡ room_of numbered (words_for numbered (length text))
filled_length numbered text = simp (length-append, length-replicate) (omega (arith, room_enough numbered (length text)))

-- ---- the head

-- Tables 41 and 42: what stands above K5 and K4
abbrev pub above_k : Bool → Layout
above_k true = field 1 ∷ field 1 ∷ field 6 ∷ []
above_k false = field 0 ∷ field 0 ∷ field 0 ∷ []

-- a head is what stands above K5 and K4, and these two after it
head_parts : (numbered : Bool) → head_of numbered ≡ above_k numbered ++ field 2 ∷ []
head_parts true = refl
head_parts false = refl

-- the head has at most 32 bits
pub laid_head : (numbered : Bool) → T (laid (head_of numbered))
laid_head true = tt
laid_head false = tt

-- numbers that fit the head fit above K5 and K4
flags_fit : (numbered : Bool) (flags : List ℕ) → fit (head_of numbered) (flags ++ 0 ∷ []) ≡ true → fit (above_k numbered) flags ≡ true
flags_fit numbered flags e = fit_before (above_k numbered) flags 2 0 (rw (head_parts numbered) at e)

-- numbers that fit the head fit it with any K5 and K4
fit_with : (numbered : Bool) (flags : List ℕ) (k : ℕ) → fit (head_of numbered) (flags ++ 0 ∷ []) ≡ true → k < 4 → fit (head_of numbered) (flags ++ k ∷ []) ≡ true
fit_with numbered flags k e h = rw (head_parts numbered) (fit_other (above_k numbered) flags 2 0 k (rw (head_parts numbered) at e) h)

-- the bits of a page above K5 and K4, as one number
abbrev pub above_of : Set → Bool → List ℕ → List ℕ → ℕ
above_of set numbered flags text = packed (above_k numbered) flags + 2 ^ size (above_k numbered) * codes_of set (filled numbered text)

-- K5 and K4 are the lowest bits
pub row_with : (set : Set) (numbered : Bool) (flags text : List ℕ) (k : ℕ)
    → fit (head_of numbered) (flags ++ 0 ∷ []) ≡ true → k < 4
    → row_of set numbered (flags ++ k ∷ []) text ≡ above_of set numbered flags text * 4 + k
row_with set true flags text k e h = omega (arith, packed_last (above_k true) flags 2 k tt tt (flags_fit true flags e) h)
row_with set false flags text k e h = omega (arith, packed_last (above_k false) flags 2 k tt tt (flags_fit false flags e) h)

-- K as 0: they are not looked at
unkeyed_same : (n q k : ℕ) → k < 4 → unkeyed 2 (digits (2 ^ word_bits) n (q * 4 + k)) ≡ unkeyed 2 (digits (2 ^ word_bits) n (q * 4 + 0))
unfolding digits
unkeyed_same zero q k h = refl
unkeyed_same (suc n) q k h =
    let first : (q * 4 + k) % 2 ^ word_bits / 4 * 4 ≡ (q * 4 + 0) % 2 ^ word_bits / 4 * 4 = omega arith in
    let rest : (q * 4 + k) / 2 ^ word_bits ≡ (q * 4 + 0) / 2 ^ word_bits = omega arith in
    ap₂ (λ (f r : ℕ). f ∷ digits (2 ^ word_bits) n r) first rest

-- the first word is the lowest bits of the page
first_word : (numbered : Bool) (n row : ℕ) → get_or (digits (2 ^ word_bits) (words_for numbered n) row) 0 0 ≡ row % 2 ^ word_bits
first_word numbered n row = digits_at (2 ^ word_bits) (words_for numbered n) row 0 (some_word numbered n) ∙ omega arith

-- the head lies within the first word
in-first : (numbered : Bool) (row : ℕ) → row % 2 ^ word_bits % 2 ^ size (head_of numbered) ≡ row % 2 ^ size (head_of numbered)
in-first true row = omega arith
in-first false row = omega arith

-- K has six bits, so K5 with K4 is below 4
pub check_small : (set : Set) (numbered : Bool) (flags text : List ℕ) → in_word (check_of set numbered flags text) < 4
unfolding check_of
check_small set numbered flags text = omega arith

-- the numbers of the head as it is sent
abbrev pub head_sent : Set → Bool → List ℕ → List ℕ → List ℕ
head_sent set numbered flags text = flags ++ in_word (check_of set numbered flags text) ∷ []

module _ (set : Set) (numbered : Bool) (flags text : List ℕ) (e : fit (head_of numbered) (flags ++ 0 ∷ []) ≡ true) where
  -- the numbers of the head as it is sent fit it
  head_fits : fit (head_of numbered) (head_sent set numbered flags text) ≡ true
  head_fits = fit_with numbered flags (in_word (check_of set numbered flags text)) e (check_small set numbered flags text)

  -- the head as it is sent has no more bits than its layout
  head_lt : packed (head_of numbered) (head_sent set numbered flags text) < 2 ^ size (head_of numbered)
  head_lt = packed_lt (head_of numbered) (head_sent set numbered flags text) (laid_head numbered) head_fits

  -- the numbers of the head as it is sent are read back
  pub head_read : head_in numbered (page_of set numbered flags text) ≡ head_sent set numbered flags text
  unfolding page_of words_with
  head_read =
      let head = head_sent set numbered flags text in
      read_ending (head_of numbered) head _ (laid_head numbered) head_fits
      (rw (
        first_word numbered (length text) (row_of set numbered head text),
        in-first numbered (row_of set numbered head text),
        add-mul-mod_self_left (packed (head_of numbered) head) (2 ^ size (head_of numbered)) (codes_of set (filled numbered text)),
      )
      (mod-eq_of_lt head_lt))

  -- the words with K as 0, whatever K5 and K4 are
  unkeyed_words : (k : ℕ) → k < 4 → unkeyed 2 (words_with set numbered (flags ++ k ∷ []) text) ≡ unkeyed 2 (words_with set numbered (flags ++ 0 ∷ []) text)
  unfolding words_with
  unkeyed_words k h =
      rw (row_with set numbered flags text k e h, row_with set numbered flags text 0 e (omega arith))
      (unkeyed_same (words_for numbered (length text)) (above_of set numbered flags text) k h)

  -- K is that of the words as they are sent
  pub k_of_page : six_bits (page_of set numbered flags text) ≡ check_of set numbered flags text
  unfolding page_of check_of
  k_of_page =
      ap (λ (words : List ℕ). complement 6 (folded (binary_sum words)))
      (unkeyed_words (in_word (check_of set numbered flags text)) (check_small set numbered flags text))

  -- K5 with K4 stands in the first word
  pub k_in_word : get_or (page_of set numbered flags text) 0 0 % 4 ≡ in_word (check_of set numbered flags text)
  unfolding page_of words_with
  k_in_word =
      let k = in_word (check_of set numbered flags text) in
      let small : k < 4 = check_small set numbered flags text in
      rw (first_word numbered (length text) (row_of set numbered (flags ++ k ∷ []) text), row_with set numbered flags text k e small)
      (omega arith)

-- ---- the characters

-- the codes of characters of the set are digits
pub codes_are : (set : Set) (text : List ℕ) → length set ≡ 16 → in_set set text ≡ true → are_digits 16 (map (place_in set) text) ≡ true
unfolding in_set
codes_are set text sixteen known = all_map (λ d. ltb d 16) (place_in set) text ∙ (rw sixteen at known)

-- the codes of characters of the set tell the characters
known_back : (set : Set) (text : List ℕ) → in_set set text ≡ true → map (λ c. get_or set c 0) (map (place_in set) text) ≡ text
unfolding in_set all
known_back set [] known = refl
known_back set (c ∷ text) known =
    let test = ltb (place_in set c) (length set) in
    ap₂ ◌∷◌
    (place_found set c (ltb-true (place_in set c) (length set) (first_of test (in_set set text) known)))
    (known_back set text (second_of test (in_set set text) known))

module _ (set : Set) (numbered : Bool) (flags text : List ℕ) (e : fit (head_of numbered) (flags ++ 0 ∷ []) ≡ true)
    (sixteen : length set ≡ 16) (known : in_set set (filled numbered text) ≡ true) where
  -- the codes of the text and its spaces are digits
  pub codes_digits : are_digits 16 (map (place_in set) (filled numbered text)) ≡ true
  codes_digits = codes_are set (filled numbered text) sixteen known

  -- the codes of the text and its spaces are as many as the words have room for
  codes_length : length (map (place_in set) (filled numbered text)) ≡ room_of numbered (words_for numbered (length text))
  codes_length = length-map (filled numbered text) (place_in set) ∙ filled_length numbered text

  -- the codes of the text and its spaces have four bits each
  codes_lt : codes_of set (filled numbered text) < 2 ^ (4 * room_of numbered (words_for numbered (length text)))
  codes_lt =
      rw (← pow_mul 2 4 (room_of numbered (words_for numbered (length text))))
      (rw codes_length at (number_below 16 (map (place_in set) (filled numbered text)) codes_digits))

  -- the page's bits are those of the head and the room
  pub row_below : row_of set numbered (head_sent set numbered flags text) text < 2 ^
      (4 * room_of numbered (words_for numbered (length text)) + size (head_of numbered))
  row_below =
      rw (
        pow-add 2 (4 * room_of numbered (words_for numbered (length text))) (size (head_of numbered)),
        add_comm (packed (head_of numbered) (head_sent set numbered flags text)) _,
        mul_comm (2 ^ size (head_of numbered)) _,
      )
      (digits_lt codes_lt (head_lt set numbered flags text e))

  -- the page's bits are no more than those of the words
  row_lt : row_of set numbered (head_sent set numbered flags text) text < (2 ^ word_bits) ^ words_for numbered (length text)
  row_lt = rw (pow_mul 2 word_bits (words_for numbered (length text))) (lt_of_lt_of_le row_below (pow_mono (row_within numbered (length text))))

  -- the words make the page's bits again
  pub number_page : number (2 ^ word_bits) (page_of set numbered flags text) ≡ row_of set numbered (head_sent set numbered flags text) text
  unfolding page_of words_with
  number_page =
      number_digits (2 ^ word_bits) (words_for numbered (length text)) (row_of set numbered (head_sent set numbered flags text) text) (omega arith)
      ∙ mod-eq_of_lt row_lt

  -- above the head the words have the codes of the characters
  pub above_head : number (2 ^ word_bits) (page_of set numbered flags text) / 2 ^ size (head_of numbered) ≡ codes_of set (filled numbered text)
  above_head =
      rw (number_page, add_comm (packed (head_of numbered) (head_sent set numbered flags text)) _, mul_comm (2 ^ size (head_of numbered)) _)
      (digits_div (codes_of set (filled numbered text)) (head_lt set numbered flags text e))

  -- the text and its spaces are read back
  pub text_read : text_in set numbered (page_of set numbered flags text) ≡ filled numbered text
  unfolding text_in
  text_read =
      rw (page_length set numbered flags text, above_head, rw codes_length at (digits_number 16 (map (place_in set) (filled numbered text)) codes_digits))
      (known_back set (filled numbered text) known)
