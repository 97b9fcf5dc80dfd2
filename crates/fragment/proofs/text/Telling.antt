-- What is told of a text, and what the lent bytes hold then.
use Rattle.std.proofs.Common.{◌≡◌, ℕ, ◌+◌, ◌<◌, ◌≤◌, Bool, true, false, List, [], ◌∷◌, length, drop, sym, refl, ap, ◌∙◌, arith, lt-ltb}
use Rattle.laws.specs.Choice.{bit_of}
use Rattle.laws.specs.Lists.{put}
use Rattle.laws.proofs.Writing.{put_nothing, put_on}
use Rattle.refusal.specs.declared.Refusal.TheVariants.{Room}
use Rattle.refusal.specs.Told.{refused, given}
use Rattle.refusal.proofs.Laws.{given_writes}
use Rattle.fragment.specs.Fragments.{is_first, cells_in, cells_of, without_fill, text_in}
use Rattle.fragment.specs.Answers.{text_of, text_after}
use Rattle.fragment.proofs.Laws.{text_told, text_accepted}
use Rattle.fragment.specs.Cells.{plain_text}
use Rattle.fragment.proofs.text.Cells.{text_cons, length_cons}

-- fewer than two words have no text
no_text : (words : List ℕ) → length words < 2 → text_in words ≡ []
unfolding cells_of without_fill
no_text [] short = refl
no_text (head ∷ []) short = by_test (is_first (head ∷ []))
  where
    by_test : (first : Bool) → without_fill (drop (bit_of first) []) ≡ []
    by_test true = refl
    by_test false = refl
no_text (head ∷ second ∷ words) short = absurd (omega arith)

-- the text of a word, then that of the words after it: how long it is, and where it stands
pub joined : (second next end : ℕ) (words lent after last : List ℕ)
    → next ≡ 0 + length (without_fill (cells_in second)) → after ≡ put lent 0 (without_fill (cells_in second))
    → end ≡ next + length (plain_text words) → last ≡ put after next (plain_text words)
    → (end ≡ length (plain_text (second ∷ words))) × (last ≡ put lent 0 (plain_text (second ∷ words)))
joined second next end words lent after last there is ends holds = (
  omega (arith, length_cons second words),
  holds
      ∙ put_on lent after (without_fill (cells_in second)) _ 0 next (omega arith) is there
      ∙ ap (put lent 0) (sym (text_cons second words)),
)

module _ (words lent : List ℕ) where
  -- a text that has room is written
  pub text_given : length (text_in words) ≤ length lent → text_after words lent ≡ put lent 0 (text_in words)
  text_given room = given_writes (text_of (length lent) words) lent (text_in words) ((text_accepted words (length lent)).1 room)

  -- any other is not
  pub text_refused : length lent < length (text_in words) → (text_of (length lent) words ≡ refused Room) × (text_after words lent ≡ lent)
  unfolding text_of
  text_refused short =
      let full = lt-ltb (length lent) (length (text_in words)) short in
      (rw full, rw full)

  -- fewer than two words have none to write
  pub text_none : length words < 2 → (text_of (length lent) words ≡ given (0 ∷ [])) × (text_after words lent ≡ lent)
  text_none short =
      let none = no_text words short in
      let room : length (text_in words) ≤ length lent = omega (arith, ap length none) in
      (text_told words (length lent) room ∙ ap (λ (text : List ℕ). given (length text ∷ [])) none, text_given room ∙ ap (put lent 0) none ∙ put_nothing lent 0)
