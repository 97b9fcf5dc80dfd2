-- `mended` meets its contract: the table has the entry of the word's remainder.
use native.Mathlib.Omega.{arith}
use Rattle.pocsag.proofs.Division.{remainder_small}
use Rattle.pocsag.proofs.layout.Tables.mended.Goals as goal

pub bounds-self-remainder : goal.bounds-self-remainder
bounds-self-remainder c = omega (arith, c.args.self.right.size, c.remainder-remainder.ensures, remainder_small c.args.word (omega arith))
