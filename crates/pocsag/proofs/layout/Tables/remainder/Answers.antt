-- `remainder` meets its contract: the remainder of a word is the xor of those of its parts.
use Prim.Native.Nat.{◌/◌, ◌%◌, ◌^◌, ◌<◌}
use native.Mathlib.Nat.{zero-add}
use native.Mathlib.Omega.{arith}
use Rattle.pocsag.proofs.Division.{in_parts}
use Rattle.pocsag.proofs.layout.Tables.remainder.Goals as goal

pub returns : goal.returns
returns c = let bits = c.args.word / 2 in
    let fourth : bits / 2 ^ 25 < 64 = omega arith in
    rw (
      rw (zero-add (bits / 2 ^ 10 % 32)) at (c.args.self.right.remainders.first (bits / 2 ^ 10 % 32) (omega arith)),
      c.args.self.right.remainders.second (bits / 2 ^ 15 % 32) (omega arith),
      c.args.self.right.remainders.third (bits / 2 ^ 20 % 32) (omega arith),
      c.args.self.right.remainders.fourth (bits / 2 ^ 25) fourth,
    )
    (in_parts bits)
