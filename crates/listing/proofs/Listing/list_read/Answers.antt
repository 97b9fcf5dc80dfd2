-- `list_read` meets its contract: what was read is what was listed.
use Rattle.std.proofs.Common.{◌≡◌, length, take, arith, length-take-le}
use borrow.Author.Tests.{ltb-true, ltb-false}
use Rattle.listing.proofs.Listing.list_read.Goals as goal

pub returns : goal.returns
returns g c = λ room.
    let n = c.in_ok-n.n in
    let read = rw c.in_ok-n.ensures at c.read.ensures.bytes in
    let bound = rw c.in_ok-n.ensures at c.read.ensures.bound in
    let size : length (take n c.read.new.buf) ≡ n = length-take-le n c.read.new.buf bound.0 in
    record {
      went = record {
        bytes = take n c.read.new.buf;
        read = read.0;
        stands = c.in_ok-list_portion.ensures.stands;
        wrote = c.in_ok-list_portion.ensures.wrote;
      };
      some = λ e. omega (arith, size, ltb-true 0 n e);
      ends = λ e. read.1 (omega (arith, ltb-false 0 n e)) (omega (arith, room, c.read.auto.buf));
    }
