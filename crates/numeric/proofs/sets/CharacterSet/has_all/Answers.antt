-- `has_all` meets its contract: each character is asked for its code.
use Rattle.std.proofs.Common.{◌∙◌, ltb, length, rules}
use borrow.Author.Tests.{tests}
use Rattle.std.proofs.lemmas.Iterator.{YieldsList-from_slice}
use Rattle.std.proofs.lemmas.Iterator.Search.{all_from_yields_List}
use Rattle.laws.specs.Lists.{place_in}
use Rattle.laws.proofs.Rows.{all_listed}
use Rattle.numeric.specs.Pages.{in_set}
use Rattle.numeric.specs.Sets.{set_in}
use Rattle.numeric.proofs.Codes.{has_code}
use Rattle.numeric.proofs.sets.CharacterSet.has_all.Goals as goal

pub returns : goal.returns
unfolding in_set
returns c =
    let set = set_in c.args.self in
    all_from_yields_List (λ n. ltb (place_in set n) (length set)) _ _ _ c.all.ensures.ran (YieldsList-from_slice c.args.text.now cc)
    (λ x b q k. search (rules, tests, has_code))
    ∙ all_listed _ c.args.text.now
