-- A text put together from digits, and how long it is.
use Prim.Native.Nat.{ℕ, zero, suc, ◌+◌, ◌*◌, ◌/◌, ◌%◌, ◌≤◌}
use mathlib.Core.Bool.{Bool, true, false}
use mathlib.Core.Path.{◌≡◌, refl, sym, ap, ◌∙◌}
use mathlib.Core.List.{◌∷◌, ◌++◌}
use native.Mathlib.Numerals.{add-one, one-add}
use native.Mathlib.Omega.{arith}
use lib.Dec.{eqb}
use lib.ListN.{length, length-append}
use Rattle.capcode.specs.declared.Capcode.{Capcode}
use Rattle.capcode.specs.Assigned.{standard}
use Rattle.capcode.specs.Text.{digits, width_of, head_of, head_width, text_of}

-- as many digits as are asked for
pub length_digits : (n number : ℕ) → length (digits n number) ≡ n
unfolding digits
length_digits zero number = refl
length_digits (suc n) number = length-append (digits n (number / 10)) _ ∙ rw (length_digits n (number / 10)) (add-one n)

-- frame and collapse are the last digits of one number
head_by : (c : Capcode) (is-standard four : Bool) → standard c.letter ≡ is-standard
    → eqb c.collapse 4 ≡ four → c.collapse ≤ 9 → head_of c ≡ digits (head_width c) (c.frame * 10 + c.collapse)
unfolding digits
head_by c true true s f small = rw (s, f)
head_by c true false s f small =
    let last : c.collapse % 10 ≡ (c.frame * 10 + c.collapse) % 10 = omega arith in
    rw (s, f, last)
head_by c false four s f small =
    let last : c.collapse % 10 ≡ (c.frame * 10 + c.collapse) % 10 = omega arith in
    let first : (c.frame * 10 + c.collapse) / 10 ≡ c.frame = omega arith in
    rw (s, first, last)

pub head_digits : (c : Capcode) → c.collapse ≤ 9 → head_of c ≡ digits (head_width c) (c.frame * 10 + c.collapse)
head_digits c = head_by c _ _ refl refl

-- a text is its two numbers with the letter between them
pub text_numbers : (c : Capcode) → c.collapse ≤ 9
    → text_of c ≡ digits (head_width c) (c.frame * 10 + c.collapse) ++ c.letter ∷ digits (width_of c.address) c.address
unfolding text_of
text_numbers c small = rw (head_digits c small)

-- how long it is
pub length_text : (c : Capcode) → c.collapse ≤ 9 → length (text_of c) ≡ head_width c + (1 + width_of c.address)
length_text c small =
    let number = c.frame * 10 + c.collapse in
    ap length (text_numbers c small)
    ∙ length-append (digits (head_width c) number) (c.letter ∷ digits (width_of c.address) c.address)
    ∙ ap (λ (n : ℕ). n + suc (length (digits (width_of c.address) c.address))) (length_digits (head_width c) number)
    ∙ ap (λ (n : ℕ). head_width c + suc n) (length_digits (width_of c.address) c.address)
    ∙ ap (λ (n : ℕ). head_width c + n) (sym (one-add (width_of c.address)))
