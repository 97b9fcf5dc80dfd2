-- `list_some` meets its contract: what `feed` takes and writes is within the input and the buffer.
use Rattle.std.proofs.Common.{◌≤◌, length, arith, rules}
use Rattle.lister.proofs.Laws.{taken_within, some_taken}
use Rattle.lister.specs.Stands.{stand_of}
use Rattle.listing.proofs.Listing.list_some.Goals as goal

pub returns-clause-taken_in_bounds : goal.returns-clause-taken_in_bounds
returns-clause-taken_in_bounds g c =
    let f = c.feed-fed.ensures in
    omega (arith, f.taken, taken_within (stand_of c.args.self.now.lister) (length c.deref_mut.result.now) c.args.input.now)

pub returns-clause-taken_nonzero : goal.returns-clause-taken_nonzero
returns-clause-taken_nonzero g c = λ some.
    let f = c.feed-fed.ensures in
    let room : 32 ≤ length c.deref_mut.result.now = search rules in
    omega (arith, f.taken, some_taken (stand_of c.args.self.now.lister) (length c.deref_mut.result.now) c.args.input.now room some)
