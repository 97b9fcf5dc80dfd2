-- `read` meets its contract: the form decides, and where the text goes wrong the place lies within it.
use mathlib.Core.Path.{sym, ◌∙◌}
use native.Mathlib.Omega.{arith}
use Rattle.capcode.proofs.Places.{first_wrong, place_upto}
use Rattle.capcode.proofs.reading.read.Goals as goal

pub invariant_of-refusal : goal.invariant_of-refusal
invariant_of-refusal c = let wrong = sym c.form_of.ensures ∙ c.in-Err.is in
    record { within = ((first_wrong _ _ wrong).within, place_upto _ _ wrong) }

pub overflow_cast-result : goal.overflow_cast-result
overflow_cast-result c = let small = place_upto _ _ (sym c.form_of.ensures ∙ c.in-Err.is) in
    record { fits = omega (arith, small) }
