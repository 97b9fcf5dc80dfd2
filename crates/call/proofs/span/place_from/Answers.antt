-- `place_from` meets its contract.
use Prim.Native.Nat.{ℕ, ◌-◌, ◌≤◌}
use mathlib.Core.Logic.{⊎_elim, inl, inr}
use mathlib.Core.Path.{◌≡◌, sym, ◌∙◌}
use native.Mathlib.Omega.{arith}
use borrow.Author.Tests.{le-ltb, ltb-true, ltb-false}
use lib.Dec.{ltb}
use Rattle.std.specs.Bool.{then_some}
use Rattle.std.specs.Prelude.{None}
use Rattle.laws.specs.Lists.{place_in, up_from}
use Rattle.laws.proofs.Tests.{decided}
use Rattle.laws.proofs.Lists.{up_place, up_no_place}
use Rattle.call.specs.Calls.{found}
use Rattle.call.proofs.span.place_from.Goals as goal

-- a word number before the start is none of them
before : (start words word : ℕ) → (start ≤ word → ⊥) → found (place_in (up_from start words) word) words ≡ None
before start words word not_from =
    rw (up_no_place start words word (inl (omega (arith, not_from))), le-ltb words words (omega arith))

-- any other is one of them if it is near enough
from_on : (start words word : ℕ) → start ≤ word → then_some (ltb (word - start) words) (word - start) ≡ found (place_in (up_from start words) word) words
from_on start words word from =
    ⊎_elim
    (λ near. rw (up_place start words word from (omega (arith, ltb-true (word - start) words near)), near))
    (λ far. rw (up_no_place start words word (inr (omega (arith, ltb-false (word - start) words far))), far, le-ltb words words (omega arith)))
    (decided (ltb (word - start) words))

pub returns-in_err-place-clause-told : goal.returns-in_err-place-clause-told
returns-in_err-place-clause-told c = c.from_residual.ensures ∙ sym (before c.args.start c.args.words c.args.word c.in_err-place.ensures)

pub returns-clause-told : goal.returns-clause-told
returns-clause-told c =
    c.then_some.ensures ∙ rw c.in_ok-place.ensures.1 (from_on c.args.start c.args.words c.args.word c.in_ok-place.ensures.0)
