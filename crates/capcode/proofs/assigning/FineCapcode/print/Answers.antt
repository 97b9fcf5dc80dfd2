use Prim.Native.Nat.{ℕ}
use mathlib.Core.List.{[], ◌∷◌}
use mathlib.Core.Path.{ap, ◌∙◌}
use lib.ListN.{length}
use Rattle.refusal.specs.Told.{given}
use Rattle.refusal.specs.declared.Refusal.TheVariants.{Room}
use Rattle.capcode.proofs.printing.Prints.{refused_keeps, given_writes, print_refused, print_given}
use Rattle.capcode.proofs.assigning.FineCapcode.print.Goals as goal

pub returns-then-out-needed : goal.returns-then-out-needed
returns-then-out-needed c = let short = rw c.text_length-needed.ensures at c.if-out-needed.true in
    let told = print_refused c.args.self.c (length c.args.out.now) c.args.self.fine short in
    record { told = told; buffer = refused_keeps Room _ _ told }

pub returns : goal.returns
returns c = let enough = rw c.text_length-needed.ensures at c.if-out-needed.false in
    let told = print_given c.args.self.c (length c.args.out.now) c.args.self.fine enough in
    record { told = ap (λ (n : ℕ). given (n ∷ [])) c.text_length-needed.ensures ∙ told; buffer = c.write_text.ensures ∙ given_writes _ _ _ told }
