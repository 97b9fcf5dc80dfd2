-- 01's numbers tell the refusals apart, and a refusal from what is none.
use Rattle.std.specs.Prelude.{Result, Ok, Err}
use Prim.Native.Nat.{ℕ, ◌<◌}
use mathlib.Core.Bool.{Bool, true, false}
use mathlib.Core.Path.{◌≡◌, refl, ap, sym, ◌∙◌}
use mathlib.Core.List.{List, [], ◌∷◌}
use lib.Dec.{eqb}
use lib.ListN.{length, get_or}
use mathlib.Core.Logic.{◌⊎◌, inr}
use native.Mathlib.Omega.{arith}
use borrow.Author.Tests.{eq-eqb, ne_eqb}
use Rattle.laws.specs.Choice.{pick}
use Rattle.laws.specs.Lists.{put}
use Rattle.laws.proofs.Tests.{not_both}
use Rattle.refusal.specs.declared.Refusal.{Refusal}
use Rattle.refusal.specs.declared.Refusal.TheVariants.{Room, State, Text, «Type», Range, Offset, Packet}
use Rattle.refusal.specs.declared.Refusal.TheVariants.{Address, Size, Damaged, Checksum, Full, NoChain}
use Rattle.refusal.specs.declared.Refusal.TheVariants.{OutOfTurn, TooLong, Signature, NoCall, Character}
use Rattle.refusal.specs.declared.Refusal.TheVariants.{DigitBeforeLetter, LeadingFour, DigitAfterLetter, BeyondRepair, NoSync}
use Rattle.refusal.specs.Told.{number_of, number_unless, Told, told, refused, refused_at, given, ask, number_told, told_by, number_by, written_by}

-- the refusal of a number; in the places of 0 and of 22 to 24, which no refusal has, stands Room
abbrev pub of_number : ℕ → Refusal
of_number n =
    get_or
    (Room ∷ Room ∷ State ∷ Text ∷ «Type» ∷ Range ∷ Offset ∷ Packet ∷ Address ∷ Size ∷ Damaged ∷ Checksum ∷ Full
    ∷ NoChain ∷ OutOfTurn ∷ TooLong ∷ Signature ∷ NoCall ∷ Character ∷ DigitBeforeLetter ∷ LeadingFour ∷ DigitAfterLetter
    ∷ Room ∷ Room ∷ Room ∷ BeyondRepair ∷ NoSync ∷ [])
    n
    Room

of_number_back : (r : Refusal) → of_number (number_of r) ≡ r
of_number_back Room = refl
of_number_back State = refl
of_number_back Text = refl
of_number_back «Type» = refl
of_number_back Range = refl
of_number_back Offset = refl
of_number_back Packet = refl
of_number_back Address = refl
of_number_back Size = refl
of_number_back Damaged = refl
of_number_back Checksum = refl
of_number_back Full = refl
of_number_back NoChain = refl
of_number_back OutOfTurn = refl
of_number_back TooLong = refl
of_number_back Signature = refl
of_number_back NoCall = refl
of_number_back Character = refl
of_number_back DigitBeforeLetter = refl
of_number_back LeadingFour = refl
of_number_back DigitAfterLetter = refl
of_number_back BeyondRepair = refl
of_number_back NoSync = refl

-- two refusals of one number are the same
pub number_tells : (a b : Refusal) → number_of a ≡ number_of b → a ≡ b
number_tells a b e = sym (of_number_back a) ∙ ap of_number e ∙ of_number_back b

-- no refusal has the number 0, which stands for none
pub number_positive : (r : Refusal) → 0 < number_of r
number_positive Room = omega arith
number_positive State = omega arith
number_positive Text = omega arith
number_positive «Type» = omega arith
number_positive Range = omega arith
number_positive Offset = omega arith
number_positive Packet = omega arith
number_positive Address = omega arith
number_positive Size = omega arith
number_positive Damaged = omega arith
number_positive Checksum = omega arith
number_positive Full = omega arith
number_positive NoChain = omega arith
number_positive OutOfTurn = omega arith
number_positive TooLong = omega arith
number_positive Signature = omega arith
number_positive NoCall = omega arith
number_positive Character = omega arith
number_positive DigitBeforeLetter = omega arith
number_positive LeadingFour = omega arith
number_positive DigitAfterLetter = omega arith
number_positive BeyondRepair = omega arith
number_positive NoSync = omega arith

-- the values of an answer
abbrev pub told_values : Told → List ℕ
told_values (told n values) = values

-- a refusal's number is told as no 0
pub number_some : (r : Refusal) → eqb (number_of r) 0 ≡ false
number_some r = ne_eqb (number_of r) 0 (λ none. omega (arith, number_positive r))

-- an answer that is no refusal is never told as one, whatever is told besides the number
pub given_not_told : (values more : List ℕ) (r : Refusal) → given values ≡ told (number_of r) more → ⊥
given_not_told values more r e =
    let n : 0 ≡ number_of r = ap number_told e in
    omega (arith, number_positive r)

-- an answer that is no refusal is never told as one that tells its number alone
pub given_not_refused : (values : List ℕ) (r : Refusal) → given values ≡ refused r → ⊥
given_not_refused values r = given_not_told values [] r

-- two refusals told alike are the same
pub refused_tells : (a b : Refusal) → refused a ≡ refused b → a ≡ b
refused_tells a b e = number_tells a b (ap number_told e)

-- two refusals with a place told alike are the same, at the same place
pub refused_at_tells : (a b : Refusal) (n m : ℕ) → refused_at a n ≡ refused_at b m → (a ≡ b) × (n ≡ m)
refused_at_tells a b n m e = (number_tells a b (ap number_told e), ap (λ (t : Told). get_or (told_values t) 0 0) e)

-- a refusal with a place is never told as one without
pub placed_not_refused : (a b : Refusal) (n : ℕ) → refused_at a n ≡ refused b → ⊥
placed_not_refused a b n e =
    let one : ◌≡◌ {A = ℕ} 1 0 = ap (λ (t : Told). length (told_values t)) e in
    omega arith

-- a single value told alike is the same
pub given_head : (a b : ℕ) → given (a ∷ []) ≡ given (b ∷ []) → a ≡ b
given_head a b e = cc

-- given values that are told alike are the same
pub given_tells : (xs ys : List ℕ) → given xs ≡ given ys → xs ≡ ys
given_tells xs ys e = ap told_values e

-- two answers told alike are the same, if their values tell what they give apart
pub told_by_tells : {A : Type 0} (values : A → List ℕ) → ((a b : A) → values a ≡ values b → a ≡ b)
    → (x y : Result A Refusal) → told_by values x ≡ told_by values y → x ≡ y
told_by_tells values one (Ok a) (Ok b) e = ap Ok (one a b (given_tells (values a) (values b) e))
told_by_tells values one (Ok a) (Err r) e = absurd (given_not_refused (values a) r e)
told_by_tells values one (Err r) (Ok b) e = absurd (given_not_refused (values b) r (sym e))
told_by_tells values one (Err r) (Err q) e = ap Err (refused_tells r q e)

-- two answers that give nothing, told by one number, are the same
pub number_by_tells : (x y : Result (Unit {0}) Refusal) → number_by x ≡ number_by y → x ≡ y
number_by_tells (Ok a) (Ok b) e = refl
number_by_tells (Ok a) (Err r) e = absurd (omega (arith, number_positive r))
number_by_tells (Err r) (Ok b) e = absurd (omega (arith, number_positive r))
number_by_tells (Err r) (Err q) e = ap Err (number_tells r q e)

-- ---- a question of a definition, refused or passed

-- a question whose test holds is answered with its refusal
pub refused_by : (test : Bool) (r : Refusal) (rest : Told) → test ≡ true → ask test r rest ≡ refused r
refused_by test r rest holds = rw holds

-- a question whose test fails is passed: the answer is what follows
pub passes : (test : Bool) (r : Refusal) (rest : Told) → test ≡ false → ask test r rest ≡ rest
passes test r rest fails = rw fails

-- what is told of an answer, and would not be told of the question's refusal, is told of what follows the question
pub passed_to : {A : Type 0} (tells : Told → A) (what : A) (test : Bool) (r : Refusal) (rest : Told)
    → (tells (refused r) ≡ what → ⊥) → tells (ask test r rest) ≡ what → (test ≡ false) × (tells rest ≡ what)
passed_to tells what true r rest other e = absurd (other e)
passed_to tells what false r rest other e = (refl, e)

-- an answer that meets a test which the question's refusal does not meet was not refused by the question
pub passed_test : (meets : Told → Bool) (test : Bool) (r : Refusal) (rest : Told)
    → meets (refused r) ≡ false → meets (ask test r rest) ≡ true → (test ≡ false) × (meets rest ≡ true)
passed_test meets test r rest fails = passed_to meets true test r rest (λ holds. not_both (meets (refused r)) holds fails)

-- an answer that is no refusal was not refused by the first question, nor by what follows
pub passed : (test : Bool) (r : Refusal) (rest : Told) → number_told (ask test r rest) ≡ 0 → (test ≡ false) × (number_told rest ≡ 0)
passed test r rest = passed_to number_told 0 test r rest (λ e. omega (arith, number_positive r))

-- an answer that gives values was not refused by the first question, and what follows gives them
pub passed_given : (test : Bool) (r : Refusal) (rest : Told) (values : List ℕ)
    → ask test r rest ≡ given values → (test ≡ false) × (rest ≡ given values)
passed_given test r rest values = passed_to (λ t. t) (given values) test r rest (λ e. given_not_refused values r (sym e))

-- the number that a question tells: its refusal's where the test holds, else that of what follows
pub number_asked : (test : Bool) (r : Refusal) (rest : Told) (n : ℕ)
    → number_told rest ≡ n → number_told (ask test r rest) ≡ pick test (number_of r) n
number_asked true r rest n follows = refl
number_asked false r rest n follows = follows

-- an answer that tells no values if it is a refusal
abbrev pub Plain : Told → Type 0
Plain t = (number_told t ≡ 0) ⊎ (t ≡ told (number_told t) [])

-- a question keeps that
pub plain_ask : (test : Bool) (r : Refusal) (rest : Told) → Plain rest → Plain (ask test r rest)
plain_ask true r rest p = inr refl
plain_ask false r rest p = p

-- a refusal leaves a lent buffer as it was
pub refusal_keeps : (t : Told) (buffer text : List ℕ) → (number_told t ≡ 0 → ⊥) → written_by t buffer text ≡ buffer
refusal_keeps (told n values) buffer text some = rw (ne_eqb n 0 some)

-- what is not refused is written at its start
pub given_writes : (t : Told) (buffer text : List ℕ) → number_told t ≡ 0 → written_by t buffer text ≡ put buffer 0 text
given_writes (told n values) buffer text none = rw (eq-eqb n 0 none)

-- the number told is 0 exactly if the test holds
pub unless_good : (r : Refusal) (good : Bool) → good ≡ true → number_unless r good ≡ 0
unless_good r good e = rw e

pub good_unless : (r : Refusal) (good : Bool) → number_unless r good ≡ 0 → good ≡ true
good_unless r true e = refl
good_unless r false e = absurd (omega (arith, number_positive r))
