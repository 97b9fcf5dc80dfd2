-- `list_all` meets its contract: its buffers have room.
use Rattle.std.proofs.Common.{◌<◌, length, rules}
use Rattle.listing.proofs.list_all.Goals as goal

pub returns : goal.returns
returns g c =
    let room : 0 < length c.deref_mut.result.now = search rules in
    rw c.start.ensures at (c.in_ok-list_reads.ensures room)
