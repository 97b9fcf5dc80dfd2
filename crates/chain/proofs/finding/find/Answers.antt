-- `find` meets its contract.
use Rattle.std.proofs.Common.{◌∙◌, rules, tests}
use Rattle.std.proofs.lemmas.Iterator.{YieldsList-from_slice}
use Rattle.std.proofs.lemmas.Iterator.Search.{position_from_yields_List}
use Rattle.chain.specs.Chains.{is_of}
use Rattle.chain.proofs.finding.Found.{search_is}
use Rattle.chain.proofs.finding.find.Goals as goal

pub returns : goal.returns
returns c =
    let test = is_of c.args.address c.args.message_number in
    position_from_yields_List test _ _ _ c.position.ensures.ran (YieldsList-from_slice c.args.slots.now cc) (λ x b q k. search (rules, tests))
    ∙ search_is test c.args.slots.now
