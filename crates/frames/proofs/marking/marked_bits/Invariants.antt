-- `marked_bits` meets its contract: the count is that of the masks passed.
use Prim.Native.Nat.{◌*◌, ◌≤◌}
use mathlib.Core.Path.{◌≡◌}
use lib.ListN.{take}
use Rattle.frames.specs.Listening.{ones_of}
use Rattle.frames.proofs.marking.marked_bits.Given as goal

abbrev pub invariant-loop-mask : goal.invariant-loop-mask
invariant-loop-mask l = (l.count ≤ 16 * l.mask-index) × (l.count ≡ ones_of (take l.mask-index l.mask-items))
