-- The cells of words: the text in them, how much it is, and their sum, word by word.
use Rattle.std.proofs.Common.{◌≡◌, ℕ, zero, suc, ◌+◌, ◌-◌, ◌*◌, ◌/◌, ◌%◌, ◌<◌, ◌≤◌, Bool, true, false, not, eqb, List, [], ◌∷◌, ◌++◌, length, get_or, take, drop, refl, ap, ◌∙◌, add-one, arith, length-append, drop_of_length-le, drop-cons, eq-eqb, ne_eqb}
use Rattle.std.proofs.lemmas.Slice.{between_to_end}
use Rattle.laws.specs.Choice.{pick, bit_of}
use Rattle.laws.specs.Lists.{sum_by}
use Rattle.laws.specs.Numerals.{digits}
use Rattle.laws.proofs.Numerals.{length_digits}
use Rattle.laws.proofs.Rows.{sum_join}
use Rattle.sums.specs.Sums.{whole}
use Rattle.fragment.proofs.Cells.{cells_length, text_join, text_no_longer}
use Rattle.fragment.specs.Fragments.{etx, cells_in, cells_of, cells_after_head, without_fill}
use Rattle.fragment.specs.Cells.{unsigned, plain_text, text_from}

-- a cell that is no fill is a character more
text_more : (cell : ℕ) (cells : List ℕ) → length (without_fill (cell ∷ cells)) ≡ bit_of (not (eqb cell etx)) + length (without_fill cells)
unfolding without_fill
text_more cell cells = by_test (eqb cell etx)
  where
    by_test : (fill : Bool) → length (pick fill (without_fill cells) (cell ∷ without_fill cells)) ≡ bit_of (not fill) + length (without_fill cells)
    by_test true = omega arith
    by_test false = omega arith

-- the three cells of a word
three_cells : (word : ℕ) → cells_in word ≡ word % 128 ∷ word / 128 % 128 ∷ word / 16384 % 128 ∷ []
unfolding digits
three_cells word =
    let third : word / 128 / 128 ≡ word / 16384 = omega arith in
    rw third

-- the three cells of a word added
pub added : (word : ℕ) → word % 128 + word / 128 % 128 + word / 16384 % 128 ≡ sum_by whole (cells_in word)
unfolding sum_by
added word = rw (three_cells word) (omega arith)

-- the cells of a word that are no fill, counted
pub counted : (word : ℕ)
    → bit_of (not (eqb (word % 128) etx)) + bit_of (not (eqb (word / 128 % 128) etx)) + bit_of (not (eqb (word / 16384 % 128) etx))
    ≡ length (without_fill (cells_in word))
unfolding without_fill
counted word =
    rw (three_cells word, text_more (word % 128) _, text_more (word / 128 % 128) _, text_more (word / 16384 % 128) _)
    (omega arith)

-- the text of a word has three characters at most
pub few : (word : ℕ) → length (without_fill (cells_in word)) ≤ 3
few word = omega (arith, text_no_longer (cells_in word), length_digits 128 3 word)

-- the text of a word is that of its cells, one after the other
pub text_three : (word : ℕ)
    → without_fill (cells_in word) ≡ without_fill (word % 128 ∷ []) ++ (without_fill (word / 128 % 128 ∷ []) ++ without_fill (word / 16384 % 128 ∷ []))
text_three word =
    ap without_fill (three_cells word)
    ∙ text_join (word % 128 ∷ []) (word / 128 % 128 ∷ word / 16384 % 128 ∷ [])
    ∙ ap (λ (text : List ℕ). without_fill (word % 128 ∷ []) ++ text) (text_join (word / 128 % 128 ∷ []) (word / 16384 % 128 ∷ []))

-- the text of a word is as long as those of its cells together
pub length_three : (word : ℕ)
    → length (without_fill (cells_in word))
    ≡ length (without_fill (word % 128 ∷ [])) + length (without_fill (word / 128 % 128 ∷ [])) + length (without_fill (word / 16384 % 128 ∷ []))
length_three word = ap length (text_three word) ∙ simp length-append (omega arith)

-- the text from a place of a row of words on is that of the word there, and of those after it
pub text_next : (words : List ℕ) (i : ℕ) → i < length words
    → without_fill (cells_of (drop i words)) ≡ without_fill (cells_in (get_or words i 0)) ++ without_fill (cells_of (drop (i + 1) words))
unfolding cells_of
text_next words i within = rw (add-one, drop-cons words i 0 within) (text_join (cells_in (get_or words i 0)) _)

-- the text from a place on is as long as that of the word there and that of the words after it together
pub length_next : (words : List ℕ) (i : ℕ) → i < length words
    → length (without_fill (cells_of (drop i words))) ≡ length (without_fill (cells_in (get_or words i 0))) + length (without_fill (cells_of (drop (i + 1) words)))
length_next words i within = ap length (text_next words i within) ∙ length-append (without_fill (cells_in (get_or words i 0))) _

-- after the last word there is none
pub text_end : (words : List ℕ) (i : ℕ) → length words ≤ i → without_fill (cells_of (drop i words)) ≡ []
unfolding cells_of without_fill
text_end words i done = rw (drop_of_length-le words done)

-- the text of a word, then that of the words after it
pub text_cons : (word : ℕ) (words : List ℕ) → plain_text (word ∷ words) ≡ without_fill (cells_in word) ++ plain_text words
unfolding cells_of
text_cons word words = text_join (cells_in word) (cells_of words)

-- how long it is
pub length_cons : (word : ℕ) (words : List ℕ) → length (plain_text (word ∷ words)) ≡ length (without_fill (cells_in word)) + length (plain_text words)
length_cons word words = ap length (text_cons word words) ∙ length-append (without_fill (cells_in word)) _

-- the text of so many words, then that of the others
pub text_parts : (count : ℕ) (words : List ℕ) → length (plain_text (take count words)) + length (plain_text (drop count words)) ≡ length (plain_text words)
unfolding cells_of without_fill
text_parts zero words = omega arith
text_parts (suc count) [] = refl
text_parts (suc count) (word ∷ words) =
    omega (arith, length_cons word (take count words), length_cons word words, text_parts count words)

-- the words from a place on, as a part of a row
pub tail : (place : ℕ) (words : List ℕ) → take (length words - place) (drop place words) ≡ drop place words
tail place words = between_to_end words place (length words) (omega arith)

-- three characters a word are never too few
pub text_most : (words : List ℕ) → length (plain_text words) ≤ 3 * length words
text_most words = omega (arith, text_no_longer (cells_of words), cells_length words)

-- a word's cells added
abbrev pub cell_sum : ℕ → ℕ
cell_sum word = sum_by whole (cells_in word)

-- the cells of a row of words are added word by word
pub sum_words : (words : List ℕ) → sum_by whole (cells_of words) ≡ sum_by cell_sum words
unfolding sum_by cells_of
sum_words [] = refl
sum_words (word ∷ words) = sum_join whole (cells_in word) (cells_of words) ∙ rw (sum_words words)

-- the signature is the first cell of the second word
pub signature_cell : (words : List ℕ) → 2 ≤ length words → get_or (cells_after_head words) 0 0 ≡ get_or words 1 0 % 128
unfolding cells_of digits
signature_cell [] two = absurd (omega arith)
signature_cell (head ∷ []) two = absurd (omega arith)
signature_cell (head ∷ second ∷ words) two = refl

-- where the signature is taken as fill the text is that of the cells after it
pub text_after_signature : (first : Bool) (words : List ℕ) → 2 ≤ length words
    → text_from (unsigned first (get_or words 1 0)) words ≡ without_fill (drop (bit_of first) (cells_after_head words))
unfolding cells_of without_fill digits
text_after_signature first [] two = absurd (omega arith)
text_after_signature first (head ∷ []) two = absurd (omega arith)
text_after_signature true (head ∷ second ∷ words) two =
    let low : (second / 128 * 128 + 3) % 128 ≡ 3 = omega arith in
    let high : (second / 128 * 128 + 3) / 128 ≡ second / 128 = omega arith in
    rw (low, high)
text_after_signature false (head ∷ second ∷ words) two = refl

-- fill is no text
pub fill_none : (cell : ℕ) → cell ≡ etx → without_fill (cell ∷ []) ≡ []
unfolding without_fill
fill_none cell is = rw (eq-eqb cell etx is)

-- any other cell is a character
pub text_one : (cell : ℕ) → (cell ≡ etx → ⊥) → without_fill (cell ∷ []) ≡ cell ∷ []
unfolding without_fill
text_one cell other = rw (ne_eqb cell etx other)
