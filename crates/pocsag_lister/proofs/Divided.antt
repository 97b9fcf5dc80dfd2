-- However an input is divided, the same words and the same runs that are none are found in it, in their order: a portion that is collected gives the
-- first of them, and the rest is found in the bytes after it.
use Prim.Native.Nat.{ℕ, ◌+◌, ◌-◌, ◌<◌}
use mathlib.Core.List.{List, [], ◌∷◌, ◌++◌, map, append_assoc}
use mathlib.Core.Path.{◌≡◌, refl, sym, ap, ◌∙◌}
use mathlib.Core.Logic.{⊎_elim}
use native.Mathlib.Nat.{add_comm}
use native.Mathlib.Numerals.{add-one}
use native.Mathlib.Omega.{arith}
use lib.Dec.{eqb}
use lib.ListN.{drop}
use borrow.Author.Tests.{eqb-true, eqb-false}
use Rattle.laws.proofs.Tests.{decided}
use Rattle.std.specs.Prelude.{Option, Some, None, Ok, Err}
use Rattle.pocsag_lister.specs.declared.Token.{Token}
use Rattle.pocsag_lister.specs.declared.WrongRun.{WrongRun}
use Rattle.pocsag_lister.specs.Inputs.{Found, word_found}
use Rattle.pocsag_lister.specs.Tokens.{finished, taken_text}
use Rattle.pocsag_lister.specs.Runs.{some_of, found_from}
use Rattle.pocsag_lister.proofs.Portions.{of_none, of_wrong, of_word, of_byte}
use Rattle.pocsag_lister.specs.Collecting.{Taking, Words, byte_before, words_of, found_in, token_after}

-- the rest of a row after one element and some more
drop_more : (n byte : ℕ) (bytes : List ℕ) → drop (1 + n) (byte ∷ bytes) ≡ drop n bytes
drop_more n byte bytes = ap (λ (k : ℕ). drop k (byte ∷ bytes)) (add_comm 1 n ∙ add-one n)

-- a run that is none, as what is found
abbrev pub wrong_of : Option WrongRun → List Found
wrong_of None = []
wrong_of (Some wrong) = Err wrong ∷ []

-- all that is found, by the words of a portion, the run that is none, and what is found after them
abbrev pub rejoined : Taking → Words → List ℕ → List Found
rejoined take w bytes = map word_found w.words ++ (wrong_of w.wrong ++ found_in take w.token (drop w.taken bytes))

-- in no bytes nothing is found
found_none : (take : Taking) (room : ℕ) (t : Token) → found_in take t [] ≡ rejoined take (words_of take room t []) []
unfolding words_of found_in
found_none take room t = refl

-- what is found at a byte, and after it
found_next : (take : Taking) (t : Token) (byte : ℕ) (bytes : List ℕ)
    → found_in take t (byte ∷ bytes) ≡ some_of (take t byte).found ++ found_in take (take t byte).token bytes
unfolding found_in
found_next take t byte bytes = refl

-- the same with a byte before
after_byte : (take : Taking) (w : Words) (byte : ℕ) (bytes : List ℕ) → rejoined take w bytes ≡ rejoined take (byte_before w) (byte ∷ bytes)
after_byte take w byte bytes =
    ap (λ (row : List ℕ). map word_found w.words ++ (wrong_of w.wrong ++ found_in take w.token row)) (sym (drop_more w.taken byte bytes))

module _ (take : Taking) (room : ℕ) (t : Token) (byte : ℕ) (bytes : List ℕ) (some : 0 < room) where
  -- a byte by what it finishes, if the same is so of those after it
  portion_step :
      found_in take (take t byte).token bytes ≡ rejoined take (words_of take (room - 1) (take t byte).token bytes) bytes
      → found_in take (take t byte).token bytes ≡ rejoined take (words_of take room (take t byte).token bytes) bytes
      → (found : Option Found) → (take t byte).found ≡ found
      → found_in take t (byte ∷ bytes) ≡ rejoined take (words_of take room t (byte ∷ bytes)) (byte ∷ bytes)
  portion_step fewer same (Some (Ok word)) here =
      let s = take t byte in
      let w = words_of take (room - 1) s.token bytes in
      found_next take t byte bytes
      ∙ ap (λ (f : Option Found). some_of f ++ found_in take s.token bytes) here
      ∙ ap (λ (row : List Found). word_found word ∷ row) (fewer ∙ after_byte take w byte bytes)
      ∙ ap (λ (v : Words). rejoined take v (byte ∷ bytes)) (sym (of_word take room t byte bytes word some here))
  portion_step fewer same (Some (Err wrong)) here =
      found_next take t byte bytes
      ∙ ap (λ (f : Option Found). some_of f ++ found_in take (take t byte).token bytes) here
      ∙ ap (λ (v : Words). rejoined take v (byte ∷ bytes)) (sym (of_wrong take room t byte bytes wrong some here))
  portion_step fewer same None here =
      let s = take t byte in
      let w = words_of take room s.token bytes in
      found_next take t byte bytes
      ∙ ap (λ (f : Option Found). some_of f ++ found_in take s.token bytes) here
      ∙ (same ∙ after_byte take w byte bytes)
      ∙ ap (λ (v : Words). rejoined take v (byte ∷ bytes)) (sym (of_byte take room t byte bytes some here))

-- the words of a portion, with any room, are the first that are found in it, and nothing is lost after them
pub portion_found : (take : Taking) (room : ℕ) (t : Token) (bytes : List ℕ) → found_in take t bytes ≡ rejoined take (words_of take room t bytes) bytes
portion_found take room t [] = found_none take room t
portion_found take room t (byte ∷ bytes) =
    ⊎_elim
    (λ full. ap (λ (w : Words). rejoined take w (byte ∷ bytes)) (sym (of_none take room t byte bytes (eqb-true room 0 full))))
    (λ free.
    portion_step take room t byte bytes (omega (arith, eqb-false room 0 free)) (portion_found take (room - 1) (take t byte).token bytes)
    (portion_found take room (take t byte).token bytes) (take t byte).found refl)
    (decided (eqb room 0))

-- what is found in two parts of an input, the one after the other, is what is found in both together
pub found_divided : (take : Taking) (t : Token) (first second : List ℕ)
    → found_in take t (first ++ second) ≡ found_in take t first ++ found_in take (token_after take t first) second
unfolding found_in token_after
found_divided take t [] second = refl
found_divided take t (byte ∷ first) second =
    let s = take t byte in
    ap (λ (row : List Found). some_of s.found ++ row) (found_divided take s.token first second)
    ∙ sym (append_assoc (some_of s.found) (found_in take s.token first) (found_in take (token_after take s.token first) second))

-- what is found in a text and at its end
pub text_found : (t : Token) (text : List ℕ) → found_from t text ≡ found_in taken_text t text ++ some_of (finished (token_after taken_text t text))
unfolding found_from found_in token_after
text_found t [] = refl
text_found t (byte ∷ text) =
    let s = taken_text t byte in
    ap (λ (row : List Found). some_of s.found ++ row) (text_found s.token text)
    ∙ sym (append_assoc (some_of s.found) (found_in taken_text s.token text) (some_of (finished (token_after taken_text s.token text))))
