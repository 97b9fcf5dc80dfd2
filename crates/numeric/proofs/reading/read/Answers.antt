-- `read` meets its contract: in the chosen set a page is refused or read as in any.
use Rattle.std.proofs.Common.{arith}
use Rattle.std.proofs.lemmas.Grind.{common_steps}
use Rattle.numeric.specs.Pages.{set_of}
use Rattle.numeric.proofs.reading.read.Goals as goal

pub returns-in_err-page-clause-told : goal.returns-in_err-page-clause-told
returns-in_err-page-clause-told c =
    let judged = c.in_err-page.ensures.told (set_of c.args.set) in
    grind (arith, common_steps, judged)

pub returns-clause-told : goal.returns-clause-told
returns-clause-told c =
    let judged = c.in_ok-page.ensures.told (set_of c.args.set) in
    grind (arith, common_steps, judged)
