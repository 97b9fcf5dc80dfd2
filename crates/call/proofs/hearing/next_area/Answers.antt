-- `next_area` meets its contract: the library's count is the definition's.
use mathlib.Core.Path.{ap, ◌∙◌}
use borrow.Author.Rules.{rules}
use borrow.Author.Tests.{tests}
use lib.ListN.{length}
use Rattle.std.proofs.lemmas.Iterator.{YieldsList-from_slice}
use Rattle.std.proofs.lemmas.Iterator.Consumers.{YieldsList-from_filter, count_from_yields_List}
use Rattle.call.specs.Calls.{opens, has_vector}
use Rattle.call.proofs.Chains.{filter_those}
use Rattle.call.proofs.hearing.next_area.Goals as goal

pub returns : goal.returns
returns c =
    count_from_yields_List c.filter.result c.count.result c.count.ensures.ran
    (YieldsList-from_filter _ has_vector (YieldsList-from_slice (opens c.args.calls.now) cc) c.filter.ensures.closure (λ x b q k. search (rules, tests)))
    ∙ ap length (filter_those has_vector (opens c.args.calls.now))
