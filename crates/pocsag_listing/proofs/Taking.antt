-- How much is taken where words are heard: some, where there is any, and no more than there is.
use Prim.Native.Nat.{ℕ, ◌≤◌, ◌<◌}
use mathlib.Core.Bool.{Bool, true, false}
use mathlib.Core.List.{List, [], ◌∷◌}
use native.Mathlib.Omega.{arith}
use lib.ListN.{length}
use Rattle.laws.specs.Choice.{pick}
use Rattle.pocsag.specs.declared.PocsagReader.{PocsagReader}
use Rattle.pocsag.specs.declared.PocsagHeard.{PocsagHeard}
use Rattle.pocsag.specs.Hearing.{step_of, tells, heard_at, after, heard_of}

-- one of two answers takes no more words than the longer
picked_within : (test : Bool) (a b : PocsagHeard) (n : ℕ) → a.taken ≤ n → b.taken ≤ n → (pick test a b).taken ≤ n
picked_within true a b n within other = within
picked_within false a b n within other = other

-- no more words are taken than there are
pub heard_within : (lent : ℕ) (r : PocsagReader) (words : List ℕ) → (heard_of lent r words).taken ≤ length words
unfolding heard_of
heard_within lent r [] = omega arith
heard_within lent r (word ∷ words) =
    let rest = heard_of lent (step_of lent r word).reader words in
    let fewer : rest.taken ≤ length words = heard_within lent (step_of lent r word).reader words in
    picked_within (tells (step_of lent r word)) (heard_at (step_of lent r word)) (after 1 rest) (length (word ∷ words)) (omega arith) (omega arith)

-- one of two answers takes some words, where both do
picked_some : (test : Bool) (a b : PocsagHeard) → 0 < a.taken → 0 < b.taken → 0 < (pick test a b).taken
picked_some true a b some other = some
picked_some false a b some other = other

-- some words are taken where there are any
pub heard_some : (lent : ℕ) (r : PocsagReader) (words : List ℕ) → 0 < length words → 0 < (heard_of lent r words).taken
unfolding heard_of
heard_some lent r [] some = some
heard_some lent r (word ∷ words) some =
    picked_some (tells (step_of lent r word)) (heard_at (step_of lent r word)) (after 1 (heard_of lent (step_of lent r word).reader words))
    (omega arith) (omega arith)
