-- `list_reads` meets its contract: reads that each give some bytes are fewer than the bytes that they give.
use Rattle.std.proofs.Common.{arith}
use Rattle.listing.proofs.Steps.{went_nowhere, went_then, went_more}
use Rattle.listing.proofs.Listing.list_reads.Goals as goal

pub loop-init : goal.loop-init
loop-init g c = λ room. (went_nowhere _ _ _, omega arith)

pub loop-preserved : goal.loop-preserved
loop-preserved g c = λ room.
    let (run, count) = c.loop.invariant (omega (arith, room, c.loop.auto.input)) in
    let once = c.in_ok-goes_on.ensures (omega (arith, room, c.loop.auto.input)) in
    went_more _ _ _ _ _ _ _ _ _ c.loop.counter run count once.went (once.some c.if-not-goes_on.false)

pub returns-then-not-goes_on : goal.returns-then-not-goes_on
returns-then-not-goes_on g c = λ room.
    let (run, count) = c.loop.invariant (omega (arith, room, c.loop.auto.input)) in
    let once = c.in_ok-goes_on.ensures (omega (arith, room, c.loop.auto.input)) in
    record {
      went = went_then _ _ _ _ _ _ _ _ _ run once.went;
      ends = λ short. once.ends c.if-not-goes_on.true;
    }

pub returns : goal.returns
returns g c = λ room.
    let (run, count) = c.loop.invariant (omega (arith, room, c.loop.auto.input)) in
    record {
      went = run;
      ends = λ short. absurd (omega (arith, count, short, c.loop.auto.counter-end));
    }
