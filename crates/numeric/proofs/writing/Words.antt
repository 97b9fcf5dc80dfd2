-- The words of a page, from the codes of its characters.
use Prim.Native.Nat.{ℕ, zero, suc, ◌+◌, ◌-◌, ◌*◌, ◌/◌, ◌%◌, ◌^◌, ◌≤◌, ◌<◌}
use mathlib.Core.Bool.{Bool, true, false}
use mathlib.Core.List.{List, [], ◌∷◌, ◌++◌, map}
use mathlib.Core.Path.{◌≡◌, sym, ap, ap₂, ◌∙◌}
use native.Mathlib.Nat.{div-one, pow-zero, sub-zero}
use native.Mathlib.Numerals.{add-one, towards_suc}
use native.Mathlib.Omega.{arith}
use lib.ListN.{length, get_or, take, set}
use lib.Seq.{take_at}
use lib.Pow.{field, high, mod-mod-pow, shr-shr}
use Rattle.laws.specs.Layouts.{size, fit}
use Rattle.laws.specs.Lists.{put, place_in}
use Rattle.laws.specs.Numerals.{number, digits, are_digits}
use Rattle.laws.proofs.Numerals.{digits_next, length_digits, pow_mul, six_from}
use Rattle.laws.proofs.Writing.{put_next, put_nothing}
use Rattle.sums.specs.Sums.{six_bits}
use Rattle.numeric.specs.Pages.{Set, head_of, words_for, spaced, words_with, check_of, in_word, page_of, in_set}
use Rattle.numeric.specs.WritingPieces.{three_from}
use Rattle.laws.proofs.Layouts.{packed_lt}
use Rattle.numeric.proofs.Bits.{above_of, check_small, codes_are, row_with, some_word, laid_head, page_length, room_enough}
use Rattle.numeric.proofs.Codes.{text_has, text_small, text_code, space_of, space_code, no_more}
use Rattle.numeric.proofs.Heads.{head_power}
use Rattle.numeric.proofs.Laws.{Usable, spaced_known, usable_set}

-- the codes of a text of the set, and of its spaces, are four bits each
pub spaced_codes : (set : Set) (room : ℕ) (text : List ℕ) → Usable set → in_set set text ≡ true
    → are_digits 16 (map (place_in set) (spaced room text)) ≡ true
spaced_codes set room text usable known = codes_are set (spaced room text) usable.sixteen (spaced_known usable room text known)

-- two times three codes are six in a row
pub six_row : (codes : List ℕ) (place : ℕ) → are_digits 16 codes ≡ true
    → three_from codes place + 4096 * three_from codes (place + 3) ≡ number 16 codes / 16 ^ place % 16 ^ 6
unfolding number
six_row codes place good = simp towards_suc (omega (arith, simp towards_suc at (six_from 16 codes place (omega arith) good)))

-- the first word: the head, and the lowest of the characters' bits after it
pub first_is : (numbered : Bool) (head codes : ℕ) → head < 2 ^ size (head_of numbered)
    → head + codes / 16 ^ 0 % 16 ^ 6 * 2 ^ size (head_of numbered) % 2 ^ 32 % 2 ^ 21 ≡ (head + 2 ^ size (head_of numbered) * codes) % 2 ^ 21
first_is true head codes small = omega arith
first_is false head codes small = omega arith

-- a later word: from the four bits in which it begins
pub later_is : (codes start : ℕ) → codes / 16 ^ (start / 4) % 16 ^ 6 / 2 ^ (start % 4) % 2 ^ 21 ≡ codes / 2 ^ start % 2 ^ 21
later_is codes start =
    let q = start / 4 in
    let r = start % 4 in
    let x = codes / 16 ^ q in
    let wide : 24 ≡ (3 - r) + 21 + r = omega arith in
    let begin : 4 * q + r ≡ start = omega arith in
    ap (λ (n : ℕ). n % 2 ^ 21) (ap (λ (k : ℕ). x % 2 ^ k / 2 ^ r) wide ∙ field x ((3 - r) + 21) r)
    ∙ mod-mod-pow (x / 2 ^ r) (3 - r) 21
    ∙ ap (λ (n : ℕ). n % 2 ^ 21) (ap (λ (n : ℕ). codes / n / 2 ^ r) (pow_mul 2 4 q) ∙ shr-shr codes (4 * q) r ∙ ap (λ (k : ℕ). codes / 2 ^ k) begin)

-- the digits of a number written into words one by one, the lowest first
module _ (b row count : ℕ) (words : List ℕ) where
  -- one word is written: those after it are still to come
  pub word_turn : (i a : ℕ) → i < count → i < length words → a ≡ row / b ^ i % b
      → put (set words i a) (i + 1) (digits b (count - (i + 1)) (row / b ^ (i + 1))) ≡ put words i (digits b (count - i) (row / b ^ i))
  word_turn i a more within is =
      rw (digits_next b count row i more, ← is, add-one i) (put_next words _ i a within)

  -- the first
  pub first_turn : (a : ℕ) → 0 < count → 0 < length words → a ≡ row % b
      → put (set words 0 a) 1 (digits b (count - 1) (row / b ^ 1)) ≡ put words 0 (digits b count row)
  first_turn a some within is =
      let whole : row / b ^ 0 ≡ row = rw (pow-zero b) (div-one row) in
      rw (whole, sub-zero count) at (word_turn 0 a some within (is ∙ ap (λ (n : ℕ). n % b) (sym whole)))

  -- at the end none is still to come
  pub all_written : (i n : ℕ) → count ≤ i → words ≡ put words i (digits b (count - i) n)
  unfolding digits
  all_written i n done =
      let none : count - i ≡ 0 = omega arith in
      rw none (sym (put_nothing words i))

-- a later word is none of the head's bits
pub after_head : (h start i head codes : ℕ) → head < 2 ^ h → h + start ≡ 21 * i → (head + 2 ^ h * codes) / (2 ^ 21) ^ i ≡ codes / 2 ^ start
after_head h start i head codes small e =
    let row = head + 2 ^ h * codes in
    let swap : row ≡ codes * 2 ^ h + head = omega arith in
    ap (λ (d : ℕ). row / d) (pow_mul 2 21 i ∙ ap (λ (k : ℕ). 2 ^ k) (sym e))
    ∙ sym (shr-shr row h start)
    ∙ ap (λ (n : ℕ). n / 2 ^ start) (ap (λ (n : ℕ). n / 2 ^ h) swap ∙ high codes h small)

-- ---- K

-- a number below 4 is added to the first word where that ends in two bits of 0
first_more : (n q k : ℕ) (lent : List ℕ) → 1 ≤ n → k < 4
    → let words = put lent 0 (digits (2 ^ 21) n (q * 4 + 0)) in (get_or words 0 0 < 2 ^ 21)
    × (set words 0 (get_or words 0 0 + k) ≡ put lent 0 (digits (2 ^ 21) n (q * 4 + k)))
unfolding digits
first_more zero q k lent some small = absurd (omega arith)
first_more (suc n) q k lent some small =
    let first : (q * 4 + 0) % 2 ^ 21 + k ≡ (q * 4 + k) % 2 ^ 21 = omega arith in
    let rest : (q * 4 + 0) / 2 ^ 21 ≡ (q * 4 + k) / 2 ^ 21 = omega arith in
    (omega arith, ap₂ (λ (f r : ℕ). put lent 0 (f ∷ digits (2 ^ 21) n r)) first rest)

-- the words of a page with K as 0
abbrev pub zeroed : Set → Bool → List ℕ → List ℕ → List ℕ
zeroed characters numbered flags text = words_with characters numbered (flags ++ 0 ∷ []) text

module _ (characters : Set) (numbered : Bool) (flags text lent : List ℕ) where
  -- as many as the text needs
  zeroed_length : length (zeroed characters numbered flags text) ≡ words_for numbered (length text)
  unfolding words_with
  zeroed_length = length_digits (2 ^ 21) (words_for numbered (length text)) _

  -- K is taken of the words with K as 0
  pub k_taken : six_bits (take (words_for numbered (length text)) (put lent 0 (zeroed characters numbered flags text))) ≡ check_of characters numbered flags text
  unfolding check_of
  k_taken = ap six_bits (take_at (zeroed characters numbered flags text) _ (words_for numbered (length text)) zeroed_length)

  -- as the code takes it, of as many words as were written
  pub k_known : (count k : ℕ) (written : List ℕ) → count ≡ words_for numbered (length text) → written ≡ put lent 0 (zeroed characters numbered flags text)
      → k ≡ six_bits (take count written) → k ≡ check_of characters numbered flags text
  k_known count k written many is e = e ∙ ap₂ (λ (n : ℕ) (words : List ℕ). six_bits (take n words)) many is ∙ k_taken

  module _ (fits : fit (head_of numbered) (flags ++ 0 ∷ []) ≡ true) where
    -- any K5 with K4 is added to the first
    keyed : (k : ℕ) → k < 4
        → let words = put lent 0 (zeroed characters numbered flags text) in (get_or words 0 0 < 2 ^ 21)
        × (set words 0 (get_or words 0 0 + k) ≡ put lent 0 (words_with characters numbered (flags ++ k ∷ []) text))
    unfolding words_with
    keyed k small =
        rw (row_with characters numbered flags text k fits small, row_with characters numbered flags text 0 fits (omega arith))
        (first_more (words_for numbered (length text)) (above_of characters numbered flags text) k lent (some_word numbered (length text)) small)

    -- their own K5 with K4 added to the first makes the page
    pub k_added : let words = put lent 0 (zeroed characters numbered flags text) in (get_or words 0 0 < 2 ^ 21)
        × (set words 0 (get_or words 0 0 + in_word (check_of characters numbered flags text)) ≡ put lent 0 (page_of characters numbered flags text))
    unfolding page_of
    k_added = keyed (in_word (check_of characters numbered flags text)) (check_small characters numbered flags text)

-- ---- what the methods of a draft stand on

-- the codes of a page: of its text, of the spaces after it, and after the room none
pub ruleset page_codes = (text_has, text_small, text_code, space_of, space_code, no_more, room_enough)

-- six codes at once
pub ruleset six_at_once = (six_row, spaced_codes, usable_set)

-- the head and the codes after it
pub ruleset head_and_codes = (first_is, packed_lt, laid_head, head_power)

-- K and the number of words
pub ruleset written_page = (k_known, page_length)
