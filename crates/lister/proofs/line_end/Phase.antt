-- The phase of a text that was read: one of A to D, or any-phase.
use Prim.Native.Nat.{ℕ, ◌≤◌}
use mathlib.Core.Path.{◌≡◌, sym, ap}
use mathlib.Core.List.{List}
use lib.ListN.{get_or}
use Rattle.refusal.proofs.Laws.{told_values, given_not_told}
use Rattle.capcode.specs.declared.Capcode.{Capcode}
use Rattle.capcode.specs.declared.Assignment.{Assignment}
use Rattle.std.specs.Prelude.{Result, Ok, Err}
use Rattle.capcode.specs.Assigned.{phase_of}
use Rattle.capcode.specs.Reads.{form_of, fault_at, read_by, read_of, told_read}
use Rattle.capcode.proofs.Judging.{given_fine}
use Rattle.capcode.proofs.Laws.{fine_phase}

-- the phase that a form was read with
form_phase : (text : List ℕ) (form : Result Capcode ℕ) (c : Capcode) (a : Assignment) → told_read (Ok (c, a)) ≡ read_by text form → a.phase ≤ 4
form_phase text (Ok d) c a e =
    let fine = given_fine d _ _ (sym e) in
    let phase : phase_of d ≡ a.phase = ap (λ (values : List ℕ). get_or values 4 0) (ap told_values fine.1) in
    rw phase at (fine_phase d fine.0)
form_phase text (Err place) c a e = absurd (given_not_told _ _ (fault_at text place) e)

-- the phase that a text was read with
pub read_phase : (text : List ℕ) (c : Capcode) (a : Assignment) → told_read (Ok (c, a)) ≡ read_of text → a.phase ≤ 4
read_phase text = form_phase text (form_of text)
