-- How long the ends of lines are.
use Prim.Native.Nat.{ℕ, ◌+◌, ◌≤◌}
use mathlib.Core.Bool.{Bool, true, false}
use mathlib.Core.Path.{◌≡◌, refl}
use mathlib.Core.List.{List, [], ◌∷◌, ◌++◌}
use native.Mathlib.Omega.{arith}
use lib.Dec.{eqb, ltb}
use lib.ListN.{length, length-append, get_or}
use Rattle.laws.specs.Choice.{pick}
use Rattle.refusal.specs.Told.{Told, told}
use Rattle.capcode.specs.Words.{words_of}
use Rattle.capcode.specs.Text.{digits}
use Rattle.capcode.specs.Reads.{read_of}
use Rattle.lister.specs.Verdicts.{line_feed, second_shown, words_shown, accepted_end, plain, refused_end, verdict_by, verdict_of}

-- of two short texts the one that is picked is short
pub pick_short : (b : Bool) (xs ys : List ℕ) (n : ℕ) → length xs ≤ n → length ys ≤ n → length (pick b xs ys) ≤ n
pick_short true xs ys n e f = e
pick_short false xs ys n e f = f

second_length : (words : List ℕ) → length (second_shown words) ≡ 6
second_length [] = refl
second_length (first ∷ []) = refl
second_length (first ∷ second ∷ more) = refl

words_length : (words : Told) → length (words_shown words) ≡ 13
words_length (told n words) = omega (arith, second_length words)

-- what stands after an accepted text has 22 bytes before the line feed
accepted_length : (values : List ℕ) → length (accepted_end values) ≡ 22
unfolding digits
accepted_length values = simp length-append (omega (arith, words_length (words_of (get_or values 3 0))))

-- a number has two digits at most
pub plain_short : (n : ℕ) → length (plain n) ≤ 2
plain_short n = pick_short (ltb n 10) ((48 + n) ∷ []) _ 2 (omega arith) (omega arith)

refused_short : (n : ℕ) (values : List ℕ) → length (refused_end n values) ≤ 22
refused_short n [] = omega (arith, plain_short n)
refused_short n (place ∷ more) = omega (arith, plain_short n, plain_short place, length-append (plain n) (32 ∷ plain place))

verdict_by_short : (answer : Told) → length (verdict_by answer ++ line_feed ∷ []) ≤ 23
verdict_by_short (told n values) =
    let short : length (pick (eqb n 0) (accepted_end values) (refused_end n values)) ≤ 22 =
    pick_short (eqb n 0) (accepted_end values) (refused_end n values) 22 (omega (arith, accepted_length values)) (refused_short n values) in
    omega (arith, length-append (verdict_by (told n values)) (line_feed ∷ []))

-- the end of a line has 23 bytes at most
pub verdict_short : (text : List ℕ) → length (verdict_of text) ≤ 23
unfolding verdict_of
verdict_short text = verdict_by_short (read_of text)
