-- `run` meets its contract: what is still to come is run from the mirror reached.
use Rattle.std.proofs.Common.{◌≡◌, drop}
use Rattle.mirror.specs.Handshake.{run_of}
use Rattle.mirror.proofs.following.run.Given as goal

abbrev pub invariant-loop-packet : goal.invariant-loop-packet
invariant-loop-packet l =
    run_of l.fn.mirror l.packets ≡ run_of (record { register = l.register; talking = l.talking }) (drop l.packet-index l.packets)
