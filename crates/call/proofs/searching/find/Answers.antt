-- `find` meets its contract: the library's search is the definition's.
use mathlib.Core.Path.{◌∙◌}
use borrow.Author.Rules.{rules}
use borrow.Author.Tests.{tests}
use Rattle.std.proofs.lemmas.Iterator.{YieldsList-from_slice}
use Rattle.std.proofs.lemmas.Iterator.Search.{position_from_yields_List}
use Rattle.call.specs.Calls.{opens, is_of}
use Rattle.call.proofs.Chains.{position_found}
use Rattle.call.proofs.searching.find.Goals as goal

pub returns : goal.returns
returns c =
    let test = is_of c.args.key.phase c.args.key.vector in
    position_from_yields_List test _ _ c.position.result c.position.ensures.ran (YieldsList-from_slice (opens c.args.calls.now) cc) (λ x b q k. search (rules, tests))
    ∙ position_found test (opens c.args.calls.now)
