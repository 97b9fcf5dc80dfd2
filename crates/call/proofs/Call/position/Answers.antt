-- `position` meets its contract.
use Prim.Native.Nat.{ℕ, suc, ◌-◌, ◌≤◌}
use mathlib.Core.Bool.{Bool, true, false, not, ◌||◌}
use mathlib.Core.Logic.{⊎_elim}
use mathlib.Core.Path.{◌≡◌, refl, sym, ap, ◌∙◌}
use native.Mathlib.Numerals.{add-one}
use native.Mathlib.Omega.{arith}
use borrow.Author.Tests.{eq-eqb, eqb-true, lt-ltb, le-ltb, ltb-true, ltb-false, not-true}
use lib.Dec.{eqb, ltb}
use lib.ListN.{length}
use Rattle.std.specs.Prelude.{Option, None, Some}
use Rattle.laws.specs.Lists.{place_in, up_from}
use Rattle.laws.proofs.Tests.{decided, either_of, not_both}
use Rattle.call.specs.declared.Call.{Call}
use Rattle.call.specs.Calls.{has_vector, is_long, numbers_of, found}
use Rattle.call.specs.Words.{position}
use Rattle.call.proofs.Spans.{numbers_length, numbers_none, position_short, position-lead, position-rest}
use Rattle.call.proofs.Call.position.Goals as goal

-- one place further on
abbrev more : Option ℕ → Option ℕ
more None = None
more (Some place) = Some (suc place)

found_more : (place count : ℕ) → found (suc place) (suc count) ≡ more (found place count)
found_more place count =
    ⊎_elim
    (λ near. rw (near, lt-ltb (suc place) (suc count) (omega (arith, ltb-true place count near))))
    (λ far. rw (far, le-ltb (suc place) (suc count) (omega (arith, ltb-false place count far))))
    (decided (ltb place count))

-- neither without words nor without a vector is anything found
found_nowhere : (c : Call) (word : ℕ) → length (numbers_of c) ≡ 0 → None ≡ found (position c word) (length (numbers_of c))
found_nowhere c word none = rw (none, le-ltb (position c word) 0 (omega arith))

-- a call that has its vector, and words
module _ (c : Call) (has : has_vector c ≡ true) (some : 1 ≤ c.words) (word : ℕ) where
  found_short : is_long c ≡ false → found (place_in (up_from c.start c.words) word) c.words ≡ found (position c word) (length (numbers_of c))
  found_short short = rw (position_short c word has short, numbers_length c has)

  module _ (long : is_long c ≡ true) where
    found_lead : word ≡ suc c.vector → Some 0 ≡ found (position c word) (length (numbers_of c))
    found_lead is = rw (position-lead c word has long some is, numbers_length c has, lt-ltb 0 c.words (omega arith))

    found_rest : (word ≡ suc c.vector → ⊥) → more (found (place_in (up_from c.start (c.words - 1)) word) (c.words - 1)) ≡ found (position c word) (length (numbers_of c))
    found_rest other =
        let count : suc (c.words - 1) ≡ c.words = omega arith in
        rw (position-rest c word has long some other, numbers_length c has)
        (sym (found_more (place_in (up_from c.start (c.words - 1)) word) (c.words - 1))
        ∙ ap (found (suc (place_in (up_from c.start (c.words - 1)) word))) count)

-- what the test leaves
given : (has : Bool) (c : Call) → has ≡ has_vector c → (not has || eqb c.words 0) ≡ false → (has_vector c ≡ true) × (1 ≤ c.words)
given true c is kept = (sym is, omega (arith, eqb_none c.words kept))
  where
    eqb_none : (n : ℕ) → eqb n 0 ≡ false → n ≡ 0 → ⊥
    eqb_none n not_zero zero = not_both (eqb n 0) (eq-eqb n 0 zero) not_zero
given false c is kept = absurd (not_both true refl kept)

pub returns-then-has_vector-self-clause-told : goal.returns-then-has_vector-self-clause-told
returns-then-has_vector-self-clause-told c =
    let call = c.args.self.now in
    ⊎_elim
    (λ none. found_nowhere call c.args.word (ap length (numbers_none call (sym c.has_vector.ensures ∙ not-true c.has_vector.result none))))
    (λ empty.
    ⊎_elim
    (λ has. found_nowhere call c.args.word (numbers_length call has ∙ eqb-true call.words 0 empty))
    (λ none. found_nowhere call c.args.word (ap length (numbers_none call none)))
    (decided (has_vector call)))
    (either_of (not c.has_vector.result) (eqb call.words 0) c.if-has_vector-self.true)

pub returns-then-not-is_long-clause-told : goal.returns-then-not-is_long-clause-told
returns-then-not-is_long-clause-told c =
    let call = c.args.self.now in
    let kept = given c.has_vector.result call c.has_vector.ensures c.if-has_vector-self.false in
    c.place_from.ensures.told ∙ found_short call kept.0 kept.1 c.args.word (sym c.is_long.ensures ∙ c.if-not-is_long.true)

pub returns-then-word-self-clause-told : goal.returns-then-word-self-clause-told
returns-then-word-self-clause-told c =
    let call = c.args.self.now in
    let kept = given c.has_vector.result call c.has_vector.ensures c.if-has_vector-self.false in
    found_lead call kept.0 kept.1 c.args.word (sym c.is_long.ensures ∙ c.if-not-is_long.false) (c.if-word-self.true ∙ add-one call.vector)

pub returns-in_err-place-clause-told : goal.returns-in_err-place-clause-told
returns-in_err-place-clause-told c =
    let call = c.args.self.now in
    let kept = given c.has_vector.result call c.has_vector.ensures c.if-has_vector-self.false in
    c.from_residual.ensures ∙ ap more c.in_err-place.ensures.told
    ∙ found_rest call kept.0 kept.1 c.args.word (sym c.is_long.ensures ∙ c.if-not-is_long.false)
    (λ is. c.if-word-self.false (is ∙ sym (add-one call.vector)))

pub returns-clause-told : goal.returns-clause-told
returns-clause-told c =
    let call = c.args.self.now in
    let kept = given c.has_vector.result call c.has_vector.ensures c.if-has_vector-self.false in
    rw add-one
    (ap more c.in_ok-place.ensures.told
    ∙ found_rest call kept.0 kept.1 c.args.word (sym c.is_long.ensures ∙ c.if-not-is_long.false)
    (λ is. c.if-word-self.false (is ∙ sym (add-one call.vector))))
