-- `mask` meets its contract: the comb, moved to the base frame within its period.
use Prim.Native.Nat.{◌*◌, ◌%◌, ◌^◌}
use mathlib.Core.Path.{◌≡◌, ◌∙◌}
use native.Mathlib.Nat.{one-mul}
use native.Mathlib.Omega.{arith}
use lib.Pow.{shl_exact}
use Rattle.frames.proofs.Hearing.{comb_of}
use Rattle.frames.proofs.marking.mask.Goals as goal
use Rattle.frames.proofs.marking.mask.Goals.{After-comb}

-- the period of a collapse is written whole
period : (c : After-comb) → 1 * 2 ^ c.args.listener.collapse % 2 ^ 32 ≡ 2 ^ c.args.listener.collapse
period c = shl_exact 1 c.args.listener.collapse 32 (omega arith) (omega arith) ∙ one-mul _

pub returns : goal.returns
returns c = rw (period c, c.comb.ensures) (comb_of c.args.listener c.requires)
