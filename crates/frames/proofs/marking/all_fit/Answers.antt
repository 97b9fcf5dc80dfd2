use mathlib.Core.Path.{◌∙◌}
use Rattle.std.proofs.Common.{rules}
use Rattle.std.proofs.lemmas.Iterator.{YieldsList-from_slice}
use Rattle.std.proofs.lemmas.Iterator.Search.{all_from_yields_List}
use Rattle.frames.specs.Listening.{fits}
use Rattle.frames.proofs.Hearing.{fit_is}
use Rattle.frames.proofs.marking.all_fit.Goals as goal

pub returns : goal.returns
returns c = all_from_yields_List fits _ _ _ c.all.ensures.ran (YieldsList-from_slice c.args.listeners.now cc) (λ x b q k. search rules)
    ∙ fit_is c.args.listeners.now
