-- `advise` meets its contract: the form decides, and where the text goes wrong the place lies within it.
use mathlib.Core.Path.{sym, ◌∙◌}
use Rattle.capcode.proofs.Places.{first_wrong, place_upto}
use Rattle.capcode.proofs.advising.advise.Goals as goal

pub invariant_of-advise : goal.invariant_of-advise
invariant_of-advise c = let wrong = sym c.form_of.ensures ∙ c.in-Err.is in
    record { within = ((first_wrong _ _ wrong).within, place_upto _ _ wrong) }
