-- What holds of a reading under way holds at the start and stays so at each byte. The bounds follow.
use Rattle.std.specs.Prelude.{Some}
use Prim.Native.Nat.{ℕ, zero, suc, ◌+◌, ◌*◌, ◌/◌, ◌%◌, ◌^◌, ◌≤◌, ◌<◌}
use mathlib.Core.Bool.{Bool, true, ◌&&◌, ◌||◌}
use mathlib.Core.Path.{◌≡◌, refl, subst}
use mathlib.Core.Logic.{◌⊎◌, inl, inr, ⊎_elim}
use native.Mathlib.Nat.{pow-suc, pow-le-pow_right}
use native.Mathlib.Numerals.{add-one}
use native.Mathlib.Omega.{arith}
use lib.Dec.{leb, eqb}
use borrow.Author.Tests.{leb-true, eqb-true}
use Rattle.capcode.specs.declared.reading.Reading.{Reading}
use Rattle.capcode.specs.Reads.{head_goes_on, address_goes_on, Bounded, step_of, blank}
use Rattle.capcode.specs.Underway.{Digits, Sound}
use Rattle.capcode.proofs.Steps.{Stepped, by_head, by_letter, by_address, stepped, digit_small}
use Rattle.laws.proofs.Tests.{first_of, second_of, either_of, one_of}

-- one digit more
digits_more : (goes_on : ℕ → ℕ → Bool) (n number digit : ℕ) → digit ≤ 9
    → goes_on (n + 1) (number * 10 + digit) ≡ true → Digits goes_on n number
    → Digits goes_on (n + 1) (number * 10 + digit)
digits_more goes_on n number digit small e before =
    let back : (number * 10 + digit) / 10 ≡ number = omega arith in
    rw (add-one n) (rw (add-one n) at e, rw back before)

-- a number of n digits is below 10 ^ n
pub digits_below : (goes_on : ℕ → ℕ → Bool) (n number : ℕ) → Digits goes_on n number → number < 10 ^ n
digits_below goes_on zero number e = omega arith
digits_below goes_on (suc n) number e =
    let less : number / 10 < 10 ^ n = digits_below goes_on n (number / 10) e.1 in
    rw (pow-suc 10 n) (omega arith)

-- a collapse digit of A to L: 0 to 5, but never 4
pub one_digit : (number : ℕ) → (leb number 3 || eqb number 5) ≡ true → (number ≤ 5) × (number ≡ 4 → ⊥)
one_digit number e =
    ⊎_elim {C = (number ≤ 5) × (number ≡ 4 → ⊥)}
    (λ (low : leb number 3 ≡ true). let small = leb-true number 3 low in (omega arith, λ four. omega arith))
    (λ (five : eqb number 5 ≡ true). let exact = eqb-true number 5 five in (omega arith, λ four. omega arith))
    (either_of (leb number 3) (eqb number 5) e)

-- digits before the letter that go on are four, or three or fewer of a number up to 127
head_by : (count number : ℕ)
    → ((eqb count 1 && (leb number 3 || eqb number 5)) ≡ true)
    ⊎ (((eqb count 2 && leb number 12) ≡ true) ⊎ (((eqb count 3 && leb number 127) ≡ true) ⊎ ((eqb count 4 && leb (number % 10) 5) ≡ true)))
    → (count ≡ 4) ⊎ ((count ≤ 3) × (number ≤ 127))
head_by count number (inl one) =
    let exact = eqb-true count 1 (first_of _ _ one) in
    let small = one_digit number (second_of (eqb count 1) _ one) in
    inr (omega arith, omega arith)
head_by count number (inr (inl two)) =
    let exact = eqb-true count 2 (first_of _ _ two) in
    let small = leb-true number 12 (second_of (eqb count 2) _ two) in
    inr (omega arith, omega arith)
head_by count number (inr (inr (inl three))) =
    let exact = eqb-true count 3 (first_of _ _ three) in
    let small = leb-true number 127 (second_of (eqb count 3) _ three) in
    inr (omega arith, omega arith)
head_by count number (inr (inr (inr four))) = inl (eqb-true count 4 (first_of _ _ four))

head_cases : (count number : ℕ) → head_goes_on count number ≡ true → (count ≡ 4) ⊎ ((count ≤ 3) × (number ≤ 127))
head_cases count number e = head_by count number (one_of _ _ _ _ e)

-- up to three digits before the letter are up to 127
pub head_frame : (n number : ℕ) → Digits head_goes_on n number → n ≤ 3 → number ≤ 127
head_frame zero number e few = omega arith
head_frame (suc n) number e few = ⊎_elim (λ four. absurd (omega arith)) (λ small. small.1) (head_cases (suc n) number e.0)

-- there are at most four, of a number up to 1279
head_upto : (n number : ℕ) → Digits head_goes_on n number → (n ≤ 4) × (number ≤ 1279)
head_upto zero number e = (omega arith, omega arith)
head_upto (suc n) number e =
    ⊎_elim (λ four.
    let few : n ≤ 3 = omega arith in
    let frame : number / 10 ≤ 127 = head_frame n (number / 10) e.1 few in
    (omega arith, omega arith)) (λ small. (omega arith, omega arith)) (head_cases (suc n) number e.0)

-- digits after the letter that go on are ten at most
address_by : (count number : ℕ)
    → (leb count 7 ≡ true)
    ⊎ (((eqb count 8 && leb 20316 number) ≡ true) ⊎ (((eqb count 9 && leb 203161 number) ≡ true) ⊎ ((eqb count 10 && leb 2031615 number) ≡ true)))
    → count ≤ 10
address_by count number (inl upto-seven) = let few = leb-true count 7 upto-seven in omega arith
address_by count number (inr (inl eight)) = let exact = eqb-true count 8 (first_of _ _ eight) in omega arith
address_by count number (inr (inr (inl nine))) = let exact = eqb-true count 9 (first_of _ _ nine) in omega arith
address_by count number (inr (inr (inr ten))) = let exact = eqb-true count 10 (first_of _ _ ten) in omega arith

-- so are all of them
address_upto : (n number : ℕ) → Digits address_goes_on n number → n ≤ 10
address_upto zero number e = omega arith
address_upto (suc n) number e = address_by (suc n) number (one_of _ _ _ _ e.0)

-- an address of digits that go on is below ten digits' end
pub address_below : (address width : ℕ) → Digits address_goes_on width address → address < 10 ^ 10
address_below address width goes_on_lem =
    let below : address < 10 ^ width = digits_below address_goes_on width address goes_on_lem in
    let most : 10 ^ width ≤ 10 ^ 10 = pow-le-pow_right (omega arith) (address_upto width address goes_on_lem) in
    omega arith

-- it holds where nothing was read yet
pub sound_blank : Sound blank
sound_blank = record { head = refl; letter = inl refl; address = refl }

-- the bounds follow
pub sound_bounded : (s : Reading) → Sound s → Bounded s
sound_bounded s sound =
    let head = head_upto s.before s.number sound.head in
    record {
      before = head.0;
      number = head.1;
      after = address_upto s.after s.address sound.address;
      address = address_below s.address s.after sound.address;
    }

-- it holds after one byte more, whatever the byte is
sound_by : (s t : Reading) (byte : ℕ) → Sound s → Stepped s byte t → Sound t
sound_by s t byte sound (by_head digit none goes_on_lem same) =
    subst (λ (u : Reading). Sound u) same
    (record { head = digits_more head_goes_on s.before s.number _ (digit_small byte digit) goes_on_lem sound.head; letter = inl refl; address = refl })
sound_by s t byte sound (by_letter none goes_on_lem same) =
    subst (λ (u : Reading). Sound u) same (record { head = sound.head; letter = inr goes_on_lem; address = refl })
sound_by s t byte sound (by_address digit some goes_on_lem same) =
    subst (λ (u : Reading). Sound u) same
    (record {
      head = sound.head;
      letter = sound.letter;
      address = digits_more address_goes_on s.after s.address _ (digit_small byte digit) goes_on_lem sound.address;
    })

-- it holds after each byte with which the reading goes on
pub sound_step : (s t : Reading) (byte : ℕ) → Sound s → step_of s byte ≡ Some t → Sound t
sound_step s t byte sound e = sound_by s t byte sound (stepped s t byte e)
