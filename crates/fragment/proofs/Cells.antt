-- Cells and words: a row of words and the cells in it lead to each other, three cells a word; fill is dropped.
use Rattle.std.proofs.Common.{◌≡◌, ℕ, suc, ◌+◌, ◌*◌, ◌%◌, ◌^◌, ◌≤◌, Bool, true, false, eqb, ltb, List, [], ◌∷◌, ◌++◌, length, take, drop, refl, ◌∙◌, ap₂, lt_of_lt_of_le, mod-eq_of_lt, arith, length-append, length-drop, length-take-le, drop-drop, take-add, ltb-true, lt-ltb}
use mathlib.Core.Bool.{and-eq-true_iff}
use native.Mathlib.Nat.{pow-le-pow_right}
use Rattle.laws.specs.Choice.{pick}
use Rattle.laws.specs.Lists.{all}
use Rattle.laws.specs.Numerals.{number, are_digits}
use Rattle.laws.proofs.Numerals.{length_digits, digits_number, number_digits, number_below}
use Rattle.laws.proofs.Rows.{all_parts}
use Rattle.sums.specs.Words.{word_bits, undamaged}
use Rattle.fragment.specs.Fragments.{etx, cells_in, cells_of, words_of, without_fill}

-- a word has three cells
pub cells_length : (words : List ℕ) → length (cells_of words) ≡ 3 * length words
unfolding cells_of
cells_length [] = refl
cells_length (word ∷ words) =
    let here : length (cells_in word) ≡ 3 = length_digits 128 3 word in
    simp length-append (omega (arith, cells_length words))

-- three cells make a word
pub words_length : (cells : List ℕ) → length cells % 3 ≡ 0 → 3 * length (words_of cells) ≡ length cells
unfolding words_of
words_length [] threes = refl
words_length (a ∷ []) threes = absurd (omega arith)
words_length (a ∷ b ∷ []) threes = absurd (omega arith)
words_length (a ∷ b ∷ c ∷ cells) threes = omega (arith, words_length cells (omega arith))

-- three cells before others are a word before other words
words_three : (three cells : List ℕ) → length three ≡ 3 → words_of (three ++ cells) ≡ number 128 three ∷ words_of cells
unfolding words_of
words_three [] cells e = absurd (omega arith)
words_three (a ∷ []) cells e = absurd (omega arith)
words_three (a ∷ b ∷ []) cells e = absurd (omega arith)
words_three (a ∷ b ∷ c ∷ []) cells e = refl
words_three (a ∷ b ∷ c ∷ d ∷ more) cells e = absurd (omega arith)

-- of the cells from a place of a row on, the first three are the first word
pub words_first : (row : List ℕ) (place n : ℕ) → place + 3 ≤ length row
    → words_of (take (3 * suc n) (drop place row)) ≡ number 128 (take 3 (drop place row)) ∷ words_of (take (3 * n) (drop (place + 3) row))
words_first row place n within =
    let three : length (take 3 (drop place row)) ≡ 3 = length-take-le 3 (drop place row) (simp length-drop (omega arith)) in
    let apart : 3 * suc n ≡ 3 + 3 * n = omega arith in
    rw (apart, take-add 3 (3 * n) (drop place row), words_three _ _ three, drop-drop 3 place row)

-- cells below 128, so many, make a number with seven bits for each
word_small : (cells : List ℕ) → length cells ≤ 3 → are_digits 128 cells ≡ true → ltb (number 128 cells) (2 ^ word_bits) ≡ true
word_small cells few good =
    lt-ltb (number 128 cells) (2 ^ word_bits) (lt_of_lt_of_le (number_below 128 cells good) (pow-le-pow_right {n = 128} (omega arith) few))

-- the cells of the words that cells make are those cells
pub there : (cells : List ℕ) → length cells % 3 ≡ 0 → are_digits 128 cells ≡ true → cells_of (words_of cells) ≡ cells
unfolding cells_of words_of
there [] threes good = refl
there (a ∷ []) threes good = absurd (omega arith)
there (a ∷ b ∷ []) threes good = absurd (omega arith)
there (a ∷ b ∷ c ∷ cells) threes good =
    let each = all_parts (λ digit. ltb digit 128) (a ∷ b ∷ c ∷ []) cells good in
    ap₂ ◌++◌ (digits_number 128 (a ∷ b ∷ c ∷ []) each.0) (there cells (omega arith) each.1)

-- the words that the cells of words make are those words
pub back : (words : List ℕ) → undamaged words ≡ true → words_of (cells_of words) ≡ words
unfolding cells_of words_of all
back [] good = refl
back (word ∷ words) good =
    let each = (and-eq-true_iff (ltb word (2 ^ word_bits)) (undamaged words)).0 good in
    words_three (cells_in word) (cells_of words) (length_digits 128 3 word)
    ∙ ap₂ ◌∷◌ (number_digits 128 3 word (omega arith) ∙ mod-eq_of_lt (ltb-true word (2 ^ word_bits) each.0)) (back words each.1)

-- cells of seven bits make words of 21
pub words_small : (cells : List ℕ) → are_digits 128 cells ≡ true → undamaged (words_of cells) ≡ true
unfolding words_of all
words_small [] good = refl
words_small (a ∷ []) good = rw (word_small (a ∷ []) (omega arith) good)
words_small (a ∷ b ∷ []) good = rw (word_small (a ∷ b ∷ []) (omega arith) good)
words_small (a ∷ b ∷ c ∷ cells) good =
    let each = all_parts (λ digit. ltb digit 128) (a ∷ b ∷ c ∷ []) cells good in
    rw (word_small (a ∷ b ∷ c ∷ []) (omega arith) each.0) (words_small cells each.1)

-- ---- fill

-- the text of two rows joined is that of the one, then that of the other
pub text_join : (xs ys : List ℕ) → without_fill (xs ++ ys) ≡ without_fill xs ++ without_fill ys
unfolding without_fill
text_join [] ys = refl
text_join (c ∷ xs) ys = rw (text_join xs ys) (by_test (eqb c etx) (without_fill xs))
  where
    by_test : (fill : Bool) (text : List ℕ) → pick fill (text ++ without_fill ys) (c ∷ text ++ without_fill ys) ≡ pick fill text (c ∷ text) ++ without_fill ys
    by_test true text = refl
    by_test false text = refl

-- a text is no longer than the row with its fill
pub text_no_longer : (row : List ℕ) → length (without_fill row) ≤ length row
unfolding without_fill
text_no_longer [] = omega arith
text_no_longer (c ∷ row) = by_test (eqb c etx) (text_no_longer row)
  where
    by_test : (fill : Bool) → length (without_fill row) ≤ length row → length (pick fill (without_fill row) (c ∷ without_fill row)) ≤ suc (length row)
    by_test true rest = omega arith
    by_test false rest = omega arith

-- of fill nothing is text
pub all_fill : (row : List ℕ) → all (λ c. eqb c etx) row ≡ true → without_fill row ≡ []
unfolding without_fill all
all_fill [] fill = refl
all_fill (c ∷ row) fill =
    let both = (and-eq-true_iff (eqb c etx) (all (λ c. eqb c etx) row)).0 fill in
    rw both.0 (all_fill row both.1)
