-- A text that says a CAPCODE is shown as it is.
use Prim.Native.Nat.{ℕ, zero, suc, ◌+◌, ◌/◌, ◌%◌, ◌*◌, ◌≤◌}
use mathlib.Core.Bool.{true}
use mathlib.Core.Path.{◌≡◌, refl, sym, ap₂, ◌∙◌}
use mathlib.Core.List.{List, [], ◌∷◌, ◌++◌, append_assoc}
use mathlib.Core.Logic.{⊎_elim}
use native.Mathlib.Omega.{arith}
use lib.Dec.{leb}
use borrow.Author.Tests.{leb-true, ne_eqb, le-leb}
use Rattle.laws.proofs.Tests.{first_of, second_of, either_of}
use Rattle.capcode.specs.declared.Capcode.{Capcode}
use Rattle.std.specs.Prelude.{Result, Ok, Err}
use Rattle.capcode.specs.Assigned.{standard, framed}
use Rattle.capcode.specs.Text.{digits, head_width, width_of, text_of, Sayable}
use Rattle.capcode.specs.Reads.{form_of, fault_at, read_by, read_of}
use Rattle.refusal.specs.Told.{number_told}
use Rattle.refusal.proofs.Laws.{number_positive}
use Rattle.capcode.proofs.Heard.{printed_of_read}
use Rattle.capcode.proofs.Laws.{collapse_digit}
use Rattle.capcode.proofs.Writes.{text_numbers}
use Rattle.lister.specs.Lines.{shown_byte, shown}

-- a byte up to `[` that is no control is shown as it is
plain_shown : (byte : ℕ) → 32 ≤ byte → byte ≤ 91 → shown_byte byte ≡ byte ∷ []
plain_shown byte low high = rw (ne_eqb byte 92 (λ e. omega arith), le-leb 32 byte low, le-leb byte 126 (omega arith))

-- texts are shown one after the other
pub shown_joined : (text more : List ℕ) → shown (text ++ more) ≡ shown text ++ shown more
unfolding shown
shown_joined [] more = refl
shown_joined (byte ∷ text) more = rw (shown_joined text more) (sym (append_assoc (shown_byte byte) (shown text) (shown more)))

-- digits are shown as they are
digits_shown : (n number : ℕ) → shown (digits n number) ≡ digits n number
unfolding digits shown
digits_shown zero number = refl
digits_shown (suc n) number =
    shown_joined (digits n (number / 10)) ((48 + number % 10) ∷ [])
    ∙ ap₂ (λ (a b : List ℕ). a ++ (b ++ [])) (digits_shown n (number / 10)) (plain_shown (48 + number % 10) (omega arith) (omega arith))

-- a letter of a CAPCODE is A to Z
letter-shown : (c : Capcode) → Sayable c → shown_byte c.letter ≡ c.letter ∷ []
letter-shown c sayable =
    ⊎_elim
    (λ (s : standard c.letter ≡ true).
    plain_shown c.letter (omega (arith, leb-true 65 c.letter (first_of _ _ s)))
    (omega (arith, leb-true c.letter 76 (second_of (leb 65 c.letter) _ s))))
    (λ (f : framed c.letter ≡ true).
    plain_shown c.letter (omega (arith, leb-true 85 c.letter (first_of _ _ f)))
    (omega (arith, leb-true c.letter 90 (second_of (leb 85 c.letter) _ f))))
    (either_of _ _ sayable.letter)

-- the text of a CAPCODE is shown as it is
text_shown : (c : Capcode) → Sayable c → shown (text_of c) ≡ text_of c
unfolding shown
text_shown c sayable =
    let before = digits (head_width c) (c.frame * 10 + c.collapse) in
    let after = digits (width_of c.address) c.address in
    let parts : text_of c ≡ before ++ c.letter ∷ after = text_numbers c (collapse_digit c sayable) in
    rw parts
    (shown_joined before (c.letter ∷ after)
    ∙ ap₂ (λ (a b : List ℕ). a ++ b) (digits_shown (head_width c) _)
    (ap₂ (λ (a b : List ℕ). a ++ b) (letter-shown c sayable) (digits_shown (width_of c.address) c.address)))

-- a text that says a CAPCODE is shown as it is
pub said_shown : (text : List ℕ) (c : Capcode) → form_of text ≡ Ok c → shown text ≡ text
said_shown text c e =
    let said = printed_of_read text c e in
    rw said.0 at (text_shown c said.1)

-- a text that is read is shown as it is
pub read_shown : (text : List ℕ) → number_told (read_of text) ≡ 0 → shown text ≡ text
read_shown text e = by_form (form_of text) refl e
  where
    by_form : (form : Result Capcode ℕ) → form_of text ≡ form → number_told (read_by text form) ≡ 0 → shown text ≡ text
    by_form (Ok d) same none = said_shown text d same
    by_form (Err place) same none = absurd (omega (arith, none, number_positive (fault_at text place)))
