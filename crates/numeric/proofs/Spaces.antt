-- 02, item 6: the spaces at the end of a text, and what is shown before them.
use Prim.Native.Nat.{ℕ, ◌+◌, ◌-◌, ◌≤◌, ◌<◌}
use mathlib.Core.Bool.{true}
use mathlib.Core.List.{List, [], ◌∷◌, ◌++◌}
use mathlib.Core.Logic.{◌↔◌}
use mathlib.Core.Path.{◌≡◌, refl, ap, ◌∙◌}
use borrow.Author.Tests.{ne_eqb, eqb-true, eqb-false}
use lib.ListN.{length, get_or, take, replicate, length-replicate}
use Rattle.laws.specs.Lists.{all}
use Rattle.laws.proofs.Endings.{last_ones, last_few, last_parted, last_length, last_pass, before_ends, ends_in_none, last_joined, only_last}
use Rattle.laws.proofs.Rows.{all_replicate}
use Rattle.laws.proofs.Tests.{first_of, second_of}
use Rattle.numeric.specs.Pages.{is_space, spaces_at_end}

-- a text without the spaces at its end, which is what a display has to show
abbrev pub shown : List ℕ → List ℕ
shown text = take (length text - spaces_at_end text) text

-- no more spaces stand at the end than there are characters
pub spaces_few : (text : List ℕ) → spaces_at_end text ≤ length text
spaces_few = last_few is_space

-- characters that are all spaces are the space, so many times
all_spaces : (text : List ℕ) → all is_space text ≡ true → text ≡ replicate (length text) 32
unfolding all
all_spaces [] spaces = refl
all_spaces (c ∷ text) spaces =
    let here : c ≡ 32 = eqb-true c 32 (first_of (is_space c) (all is_space text) spaces) in
    rw here (ap (λ (row : List ℕ). 32 ∷ row) (all_spaces text (second_of (is_space c) (all is_space text) spaces)))

-- a text is what is shown of it, and its spaces
pub shown_and_spaces : (text : List ℕ) → text ≡ shown text ++ replicate (spaces_at_end text) 32
shown_and_spaces text =
    let spaces : last_ones is_space text ≡ replicate (spaces_at_end text) 32 =
    all_spaces (last_ones is_space text) (last_pass is_space text) ∙ rw (last_length is_space text) in
    last_parted is_space text ∙ ap (λ (row : List ℕ). shown text ++ row) spaces

-- what is shown ends in no space
pub shown_ends : (text : List ℕ) → spaces_at_end (shown text) ≡ 0
shown_ends = before_ends is_space

-- to have no space at the end is to be empty, or to end in another character
pub ends_otherwise : (text : List ℕ) → (spaces_at_end text ≡ 0) ↔ (0 < length text → get_or text (length text - 1) 0 ≡ 32 → ⊥)
ends_otherwise text =
    let either = ends_in_none is_space text in
    let last = get_or text (length text - 1) 0 in
    (λ none some. eqb-false last 32 (either.0 none some), λ other. either.1 (λ some. ne_eqb last 32 (other some)))

-- spaces after a text are counted with those at its end
pub spaces_filled : (text : List ℕ) (n : ℕ) → spaces_at_end (text ++ replicate n 32) ≡ spaces_at_end text + n
spaces_filled text n = last_joined is_space text (replicate n 32) (all_replicate is_space n 32 refl) ∙ rw (length-replicate {A = ℕ} n 32)

-- no other number parts a text so: where it ends in no space before so many, they are the spaces at its end
pub only_number : (rest : List ℕ) (n : ℕ) → spaces_at_end rest ≡ 0 → spaces_at_end (rest ++ replicate n 32) ≡ n
only_number rest n none = only_last is_space rest (replicate n 32) none (all_replicate is_space n 32 refl) ∙ length-replicate n 32
