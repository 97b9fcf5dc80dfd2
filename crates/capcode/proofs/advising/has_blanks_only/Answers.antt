use mathlib.Core.Path.{◌∙◌}
use Rattle.std.proofs.Common.{rules}
use Rattle.std.proofs.lemmas.Iterator.{YieldsList-from_slice}
use Rattle.std.proofs.lemmas.Iterator.Search.{all_from_yields_List}
use Rattle.capcode.specs.Advice.{is_blank}
use Rattle.capcode.proofs.Chains.{all_is}
use Rattle.capcode.proofs.advising.has_blanks_only.Goals as goal

pub returns : goal.returns
returns c = all_from_yields_List is_blank _ _ _ c.all.ensures.ran (YieldsList-from_slice c.args.text.now cc) (λ x b q k. search rules)
    ∙ all_is is_blank c.args.text.now
