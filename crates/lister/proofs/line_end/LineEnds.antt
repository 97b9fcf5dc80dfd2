-- The ends of lines, put together from their parts.
use Prim.Native.Nat.{ℕ, zero, suc, ◌+◌, ◌-◌, ◌≤◌}
use mathlib.Core.Bool.{false}
use mathlib.Core.Path.{◌≡◌, refl, ap, ◌∙◌}
use mathlib.Core.List.{List, [], ◌∷◌, ◌++◌}
use native.Mathlib.Numerals.{unary_clauses}
use native.Mathlib.Omega.{arith}
use lib.Dec.{eqb}
use lib.ListN.{length, get_or, drop, replicate, length-append}
use lib.Seq.{take_at, drop-append-add}
use Rattle.laws.specs.Lists.{put}
use Rattle.laws.specs.Texts.{bytes_of}
use Rattle.refusal.specs.declared.Refusal.{Refusal}
use Rattle.refusal.specs.Told.{Told, number_of, refused_at, number_told}
use Rattle.refusal.proofs.Laws.{number_some}
use Rattle.lister.specs.Verdicts.{line_feed, plain, verdict_by, padded}
use Rattle.lister.proofs.line_end.Lengths.{plain_short}

-- the six elements of a list of six
abbrev pub six : List ℕ → List ℕ
six l = get_or l 0 0 ∷ get_or l 1 0 ∷ get_or l 2 0 ∷ get_or l 3 0 ∷ get_or l 4 0 ∷ get_or l 5 0 ∷ []

pub six_of : (l : List ℕ) → length l ≡ 6 → six l ≡ l
six_of [] e = absurd (omega arith)
six_of (a ∷ []) e = absurd (omega arith)
six_of (a ∷ b ∷ []) e = absurd (omega arith)
six_of (a ∷ b ∷ c ∷ []) e = absurd (omega arith)
six_of (a ∷ b ∷ c ∷ d ∷ []) e = absurd (omega arith)
six_of (a ∷ b ∷ c ∷ d ∷ f ∷ []) e = absurd (omega arith)
six_of (a ∷ b ∷ c ∷ d ∷ f ∷ g ∷ []) e = refl
six_of (a ∷ b ∷ c ∷ d ∷ f ∷ g ∷ h ∷ l) e = absurd (omega arith)

-- the word after a refused text
abbrev pub word : List ℕ
word = bytes_of " REFUSED "

-- what is left of a row of one number
drop_replicate : (n m a : ℕ) → drop n (replicate m a) ≡ replicate (m - n) a
drop_replicate zero m a = simp unary_clauses
drop_replicate (suc n) zero a =
    let none : 0 - suc n ≡ 0 = omega arith in
    rw none
drop_replicate (suc n) (suc m) a = simp unary_clauses (drop_replicate n m a)

-- where the word stands in the 15 places, what is written after it stands there too, and the rest is 0
pub put_padded : (first more : List ℕ) → length first + length more ≤ 15 → put (padded first) (length first) more ≡ padded (first ++ more)
put_padded first more fits =
    let zeros : List ℕ = replicate (15 - length first) 0 in
    let left : 15 - length first - length more ≡ 15 - length (first ++ more) = omega (arith, length-append first more) in
    let rest : drop (length first + length more) (first ++ zeros) ≡ replicate (15 - length (first ++ more)) 0 =
    drop-append-add first zeros (length more) ∙ drop_replicate (length more) (15 - length first) 0 ∙ ap (λ (n : ℕ). replicate n 0) left in
    rw (take_at first zeros (length first) refl, rest)

-- what stands after a refused text: the word, and what is written after it
pub record Ended (answer : Told) (more : List ℕ) : Type 0 where
  pub refuses : eqb (number_told answer) 0 ≡ false
  pub few : length more ≤ 6
  pub reads : word ++ more ≡ verdict_by answer ++ line_feed ∷ []

-- two short numbers with a blank between them and the line feed are short
both_short : (first second : List ℕ) → length first ≤ 2 → length second ≤ 2 → length (first ++ 32 ∷ second ++ 10 ∷ []) ≤ 6
both_short first second few some = omega (arith, length-append (first ++ 32 ∷ second) (10 ∷ []), length-append first (32 ∷ second))

-- the number and the place
pub place_ends : (r : Refusal) (place : ℕ) → Ended (refused_at r place) (plain (number_of r) ++ 32 ∷ plain place ++ 10 ∷ [])
place_ends r place =
    record {
      refuses = number_some r;
      few = both_short (plain (number_of r)) (plain place) (plain_short (number_of r)) (plain_short place);
      reads = rw (number_some r);
    }
