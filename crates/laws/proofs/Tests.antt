-- Tests joined by and, and by or: what one of them says of the others.
use Prim.Native.Nat.{ℕ}
use mathlib.Core.Bool.{Bool, true, false, ◌&&◌, ◌||◌, true≢false}
use mathlib.Core.Path.{◌≡◌, refl, sym, ◌∙◌}
use mathlib.Core.Logic.{◌⊎◌, inl, inr, ⊎_elim}
use borrow.Author.Tests.{eqb-true, eqb-false, eq-eqb, ne_eqb}
use lib.Dec.{eqb}
use Rattle.laws.specs.Choice.{pick}

-- a test holds or does not
pub decided : (test : Bool) → (test ≡ true) ⊎ (test ≡ false)
decided true = inl refl
decided false = inr refl

-- no test does both
pub not_both : (test : Bool) → test ≡ true → test ≡ false → ⊥
not_both test holds fails = true≢false (sym holds ∙ fails)

-- a test that holds picks the first of two values
pub picks_first : {A : Type 0} (test : Bool) (a b : A) → test ≡ true → pick test a b ≡ a
picks_first test a b holds = rw holds

-- a test that fails picks the second
pub picks_second : {A : Type 0} (test : Bool) (a b : A) → test ≡ false → pick test a b ≡ b
picks_second test a b fails = rw fails

-- of two tests that both hold, the first holds
pub first_of : (a b : Bool) → (a && b) ≡ true → a ≡ true
first_of true b e = refl
first_of false b e = e

-- of two tests that both hold, the second holds
pub second_of : (a b : Bool) → (a && b) ≡ true → b ≡ true
second_of true b e = e
second_of false true e = refl
second_of false false e = e

-- of five tests that all hold, each
pub each_of_five : (a b c d e : Bool) → (a && b && c && d && e) ≡ true → (a ≡ true) × (b ≡ true) × (c ≡ true) × (d ≡ true) × (e ≡ true)
each_of_five a b c d e all =
    let four = first_of (a && b && c && d) e all in
    let three = first_of (a && b && c) d four in
    let two = first_of (a && b) c three in
    (first_of a b two, second_of a b two, second_of (a && b) c three, second_of (a && b && c) d four, second_of (a && b && c && d) e all)

-- of two tests of which one holds, the second if the first does not
pub other_of : (a b : Bool) → (a || b) ≡ true → a ≡ false → b ≡ true
other_of true true e f = refl
other_of true false e f = sym f
other_of false b e f = e

-- of two tests of which one holds
pub either_of : (a b : Bool) → (a || b) ≡ true → (a ≡ true) ⊎ (b ≡ true)
either_of true b e = inl refl
either_of false b e = inr e

-- which of four tests holds
pub one_of : (a b c d : Bool) → (a || b || c || d) ≡ true → (a ≡ true) ⊎ ((b ≡ true) ⊎ ((c ≡ true) ⊎ (d ≡ true)))
one_of true b c d e = inl refl
one_of false true c d e = inr (inl refl)
one_of false false true d e = inr (inr (inl refl))
one_of false false false d e = inr (inr (inr e))

-- the first of four tests, where the others are false
pub only : (test : Bool) → (test || false || false || false) ≡ true → test ≡ true
only true e = refl
only false e = e

-- of two tests of which none holds, the second does not
pub neither : (a b : Bool) → (a || b) ≡ false → b ≡ false
neither true true e = e
neither true false e = refl
neither false b e = e

-- a test or none
pub or_none : (a : Bool) → (a || false) ≡ a
or_none true = refl
or_none false = refl

-- two numbers are compared either way
pub eqb_swap : (a b : ℕ) → eqb a b ≡ eqb b a
eqb_swap a b =
    ⊎_elim
    (λ same. same ∙ sym (eq-eqb b a (sym (eqb-true a b same))))
    (λ other. other ∙ sym (ne_eqb b a (λ is. eqb-false a b other (sym is))))
    (decided (eqb a b))
