-- `read_as` meets its contract: what is assigned stands after what was said, and what is refused is refused the same.
use mathlib.Core.List.{List, ◌∷◌}
use mathlib.Core.Path.{sym, ap, ◌∙◌}
use Prim.Native.Nat.{ℕ}
use Rattle.std.proofs.lemmas.Result.{err_from_is_err_and}
use Rattle.refusal.specs.Told.{given}
use Rattle.refusal.proofs.Laws.{told_values}
use Rattle.capcode.proofs.Judging.{given_fine, fine_asked, refused_asked}
use Rattle.capcode.proofs.reading.read_as.Goals as goal

pub returns-in_err-a : goal.returns-in_err-a
returns-in_err-a c = let p = err_from_is_err_and c.from_residual.result c.from_residual.ensures.1 in
    rw (p.1, p.2) (refused_asked _ _ _ _ c.in_err-a.ensures)

-- phase and base frame as they are assigned
pub returns : goal.returns
returns c = let fine = given_fine c.args.c _ _ (sym c.in_ok-a.ensures) in
    ap (λ (placed : List ℕ). given (c.args.c.letter ∷ c.args.c.frame ∷ c.args.c.collapse ∷ c.args.c.address ∷ placed)) (sym (ap told_values fine.1))
    ∙ fine_asked c.args.c _ fine.0
