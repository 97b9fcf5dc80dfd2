-- What is told of an answer gives it: two answers told alike are the same, so that each contract admits one answer only.
use Rattle.std.proofs.Common.{◌≡◌, ℕ, List, [], ◌∷◌, get_or, ap}
use Rattle.std.specs.Prelude.{Result}
use Rattle.refusal.specs.declared.Refusal.{Refusal}
use Rattle.refusal.specs.Told.{given, told_by}
use Rattle.refusal.proofs.Laws.{told_by_tells}
use Rattle.fragment.specs.declared.FragmentHeading.{FragmentHeading}
use Rattle.fragment.specs.declared.CutSize.{CutSize}
use Rattle.fragment.specs.FlatAnswers.{of_heading, as_heading}
use Rattle.fragment.specs.CutAnswers.{of_cut}

-- two headings told alike are the same
one_heading : (a b : FragmentHeading) → of_heading a ≡ of_heading b → a ≡ b
one_heading a b e = ap (λ (values : List ℕ). as_heading (given values)) e

-- one telling, one answer to `heading`
pub heading_tells : (a b : Result FragmentHeading Refusal) → told_by of_heading a ≡ told_by of_heading b → a ≡ b
heading_tells = told_by_tells of_heading one_heading

-- one telling, one answer to `read`, which is told as a heading is
pub fragment_tells : (a b : Result FragmentHeading Refusal) → told_by of_heading a ≡ told_by of_heading b → a ≡ b
fragment_tells = heading_tells

-- one telling, one answer to `write_text`
pub text_tells : (a b : Result ℕ Refusal) → told_by (λ characters. characters ∷ []) a ≡ told_by (λ characters. characters ∷ []) b → a ≡ b
text_tells = told_by_tells (λ characters. characters ∷ []) (λ a b e. ap (λ (values : List ℕ). get_or values 0 0) e)

-- two sizes told alike are the same
one_size : (a b : CutSize) → of_cut a ≡ of_cut b → a ≡ b
one_size a b e =
    let size : List ℕ → CutSize = λ values. record { fragments = get_or values 0 0; words = get_or values 1 0 } in
    ap size e

-- one telling, one answer to `cut`
pub cut_tells : (a b : Result CutSize Refusal) → told_by of_cut a ≡ told_by of_cut b → a ≡ b
cut_tells = told_by_tells of_cut one_size
