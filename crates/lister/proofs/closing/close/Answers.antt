-- `close` meets its contract: nothing where no byte is kept, else the end of the last line.
use Prim.Native.Nat.{◌<◌}
use mathlib.Core.List.{[]}
use mathlib.Core.Path.{refl}
use native.Mathlib.Omega.{arith}
use lib.ListN.{length, length-take}
use Rattle.lister.specs.Stands.{kept_of}
use Rattle.lister.proofs.writing.Copying.{room_there}
use Rattle.lister.proofs.Writes.{wrote_none, answered_same, closes_none, closes_some}
use Rattle.lister.proofs.closing.close.Goals as goal

pub returns-then-ended-eq0 : goal.returns-then-ended-eq0
returns-then-ended-eq0 c = let out = c.args.out.now in
    let whole = rw c.if-ended-eq0.true at c.with_return-ended.ensures.0 in
    answered_same out [] _ _ out (closes_none (kept_of c.args.lister) c.args.lister.held [] whole refl)
    (room_there out [] 0 out (omega arith) (wrote_none out 0))

pub returns : goal.returns
returns c = let ended = c.with_return-ended.result in
    let some : 0 < length (kept_of ended) =
    omega (arith, length-take ended.count ended.line, c.with_return-ended.ensures.1, c.if-ended-eq0.false) in
    answered_same _ _ _ _ _
    (closes_some (kept_of c.args.lister) c.args.lister.held (kept_of ended) c.with_return-ended.ensures.0 some)
    c.write_last.ensures
