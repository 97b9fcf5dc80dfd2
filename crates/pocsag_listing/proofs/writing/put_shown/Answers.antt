-- `put_shown` meets its contract, byte by byte.
use Rattle.std.proofs.Common.{arith}
use Rattle.pocsag_listing.proofs.Written.{shown_none, shown_more}
use Rattle.pocsag_listing.proofs.writing.put_shown.Goals as goal

pub loop-byte-init : goal.loop-byte-init
loop-byte-init g c = shown_none _ c.args.text.now

pub loop-byte-preserved : goal.loop-byte-preserved
loop-byte-preserved g c =
    shown_more _ _ _ c.args.text.now c.loop-byte.byte-index (omega arith) c.loop-byte.invariant c.in_ok-put_byte.ensures
