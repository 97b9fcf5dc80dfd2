-- What was printed is read as it was, and an answer's telling is its own.
use Rattle.std.specs.Prelude.{Result, Ok, Err}
use Prim.Native.Nat.{ℕ}
use mathlib.Core.Path.{◌≡◌, sym, ap, ◌∙◌}
use mathlib.Core.List.{List, [], ◌∷◌}
use lib.ListN.{get_or}
use Rattle.refusal.specs.Told.{Told, given}
use Rattle.refusal.proofs.Laws.{told_values, given_not_refused, refused_tells}
use Rattle.capcode.specs.declared.Capcode.{Capcode}
use Rattle.capcode.specs.Assigned.{phase_of, base_of}
use Rattle.capcode.specs.Text.{text_of}
use Rattle.capcode.specs.Reads.{read_by, read_of}
use Rattle.capcode.proofs.Judging.{given_fine, fine_asked}
use Rattle.capcode.proofs.Spoken.{read_of_printed}
use Rattle.capcode.proofs.Laws.{fine_sayable}
use Rattle.capcode.specs.Printed.{print_of, told_print}
use Rattle.refusal.specs.declared.Refusal.{Refusal}

-- what was printed is read as it was
pub printed_is_read : (c : Capcode) (room : ℕ) (values : List ℕ) → print_of c room ≡ given values
    → read_of (text_of c) ≡ given (c.letter ∷ c.frame ∷ c.collapse ∷ c.address ∷ phase_of c ∷ base_of c ∷ [])
printed_is_read c room values e =
    let fine = (given_fine c _ values e).0 in
    ap (read_by (text_of c)) (read_of_printed c (fine_sayable c fine)) ∙ sym (fine_asked c _ fine)

-- one telling, one answer to `print`
pub print_tells : (a b : Result ℕ Refusal) → told_print a ≡ told_print b → a ≡ b
print_tells (Ok n) (Ok m) e = ap (λ (t : Told). Ok (get_or (told_values t) 0 0)) e
print_tells (Ok n) (Err r) e = absurd (given_not_refused _ r e)
print_tells (Err r) (Ok m) e = absurd (given_not_refused _ r (sym e))
print_tells (Err r) (Err q) e = ap Err (refused_tells r q e)
