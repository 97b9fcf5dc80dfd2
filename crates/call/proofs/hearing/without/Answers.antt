-- `without` meets its contract.
use mathlib.Core.List.{List}
use mathlib.Core.Path.{refl, ap, ◌∙◌}
use borrow.Author.Rules.{rules}
use borrow.Author.Tests.{lt-ltb, le-ltb}
use lib.ListN.{set}
use Rattle.call.specs.declared.Call.{Call}
use Rattle.call.specs.Calls.{blank}
use Rattle.call.proofs.hearing.Removal.{removed_row}
use Rattle.call.proofs.hearing.without.Goals as goal

pub returns-then-place-lt-MOST_CALLS : goal.returns-then-place-lt-MOST_CALLS
returns-then-place-lt-MOST_CALLS c =
    rw (lt-ltb c.args.place 8 c.if-place-lt-MOST_CALLS.true)
    (ap (λ (row : List Call). set row 7 blank) c.copy_within.ensures.after
    ∙ removed_row c.args.row.now c.args.place (search rules) c.if-place-lt-MOST_CALLS.true)

pub returns-else-place-lt-MOST_CALLS : goal.returns-else-place-lt-MOST_CALLS
returns-else-place-lt-MOST_CALLS c = rw (le-ltb c.args.place 8 c.if-place-lt-MOST_CALLS.false) refl
