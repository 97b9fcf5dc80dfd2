use mathlib.Core.Path.{◌≡◌, sym, ◌∙◌}
use Prim.Native.Nat.{◌+◌, ◌≤◌}
use native.Mathlib.Omega.{arith}
use lib.ListN.{length}
use borrow.Author.Rules.{rules}
use Rattle.laws.proofs.Writing.{put_nothing}
use Rattle.capcode.specs.Text.{digits}
use Rattle.capcode.proofs.printing.Writes.{write_turn}
use Rattle.capcode.proofs.printing.write_digits.Goals as goal

pub loop-left-preserved : goal.loop-left-preserved
loop-left-preserved c = let room : c.args.place + c.loop-left.left ≤ length c.loop-left.out = omega (arith, c.loop-left.auto.out, c.loop-left.auto.left, c.requires) in
    write_turn c.loop-left.out c.args.place c.loop-left.rest c.loop-left.left (search rules) room ∙ c.loop-left.invariant

pub returns : goal.returns
unfolding digits
returns c = let none : c.loop-left.left ≡ 0 = omega arith in
    sym (put_nothing c.loop-left.out c.args.place) ∙ rw none at c.loop-left.invariant
