use mathlib.Core.Path.{◌∙◌}
use lib.ListN.{take}
use Rattle.std.proofs.Common.{rules}
use Rattle.std.proofs.lemmas.Iterator.{YieldsList-from_slice}
use Rattle.std.proofs.lemmas.Iterator.Search.{all_from_yields_List}
use Rattle.capcode.specs.Reads.{is_digit}
use Rattle.capcode.proofs.Chains.{all_is}
use Rattle.capcode.proofs.reading.Wrong.is_before_letter.Goals as goal

pub returns : goal.returns
returns c = all_from_yields_List is_digit _ _ _ c.all.ensures.ran (YieldsList-from_slice (take c.args.self.place c.args.self.text.now) cc) (λ x b q k. search rules)
    ∙ all_is is_digit (take c.args.self.place c.args.self.text.now)
