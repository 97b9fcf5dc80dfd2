-- A word without fill: its text, and what is stored of it.
use Rattle.std.proofs.Common.{◌≡◌, ℕ, suc, ◌+◌, ◌/◌, ◌%◌, ◌≤◌, true, not, ◌&&◌, eqb, List, [], ◌∷◌, length, set, ◌∙◌, arith, length-set}
use borrow.Author.Tests.{eqb-false, not-true}
use Rattle.laws.specs.Lists.{put}
use Rattle.laws.proofs.Tests.{first_of, second_of}
use Rattle.laws.proofs.Writing.{put_one, put_next}
use Rattle.fragment.specs.Fragments.{etx, cells_in, without_fill}
use Rattle.fragment.proofs.text.Cells.{text_three, text_one}
use Rattle.fragment.specs.Full.{is_full}

-- a cell that is no fill
no_fill : (cell : ℕ) → not (eqb cell etx) ≡ true → without_fill (cell ∷ []) ≡ cell ∷ []
no_fill cell is = text_one cell (eqb-false cell etx (not-true (eqb cell etx) is))

-- a word without fill: its cells are its text
pub full_text : (word : ℕ) → is_full word ≡ true → without_fill (cells_in word) ≡ word % 128 ∷ word / 128 % 128 ∷ word / 16384 % 128 ∷ []
full_text word is =
    let a = not (eqb (word % 128) etx) in
    let b = not (eqb (word / 128 % 128) etx) in
    let c = not (eqb (word / 16384 % 128) etx) in
    let two = first_of (a && b) c is in
    text_three word
    ∙ rw (no_fill (word % 128) (first_of a b two), no_fill (word / 128 % 128) (second_of a b two), no_fill (word / 16384 % 128) (second_of (a && b) c is))

-- three stores are a text of three
pub put_three : (buffer : List ℕ) (place a b c : ℕ) → place + 3 ≤ length buffer
    → set (set (set buffer place a) (place + 1) b) (place + 2) c ≡ put buffer place (a ∷ b ∷ c ∷ [])
put_three buffer place a b c within =
    let second : place + 1 ≡ suc place = omega arith in
    let third : place + 2 ≡ suc (suc place) = omega arith in
    rw (second, third)
    (put_one (set (set buffer place a) (suc place) b) (suc (suc place)) c (simp length-set (omega arith))
    ∙ put_next (set buffer place a) (c ∷ []) (suc place) b (simp length-set (omega arith))
    ∙ put_next buffer (b ∷ c ∷ []) place a (omega arith))
