-- `settle` meets its contract: the record that is stored is what the chain leaves.
use Rattle.std.proofs.Common.{rules, set, ap, ◌∙◌}
use Rattle.chain.specs.Steps.{fate}
use Rattle.chain.proofs.joining.Turns.{kept_record, lost_record, settles, settles_lost}
use Rattle.chain.proofs.joining.settle.Goals as goal

pub returns-in-Ok : goal.returns-in-Ok
returns-in-Ok c =
    let f = fate c.args.turn.chain c.args.heading in
    record {
      told = settles c.args.turn f c.in-Ok.chain c.in-Ok.ensures;
      slots = λ place is. c.store.ensures place is ∙ ap (set c.args.slots.now place) (kept_record f c.in-Ok.chain c.in-Ok.ensures);
    }

pub returns-in-Err : goal.returns-in-Err
returns-in-Err c =
    let f = fate c.args.turn.chain c.args.heading in
    record {
      told = settles_lost c.args.turn f c.in-Err.lost _ c.in-Err.ensures (search rules);
      slots = λ place is. c.store-in-Err.ensures place is ∙ ap (set c.args.slots.now place) (lost_record f c.in-Err.lost c.in-Err.ensures);
    }
