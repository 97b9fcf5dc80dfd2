-- `head` meets its contract: each number times the weight of its place.
use Rattle.std.proofs.Common.{arith}
use Rattle.fragment.proofs.CutHeads.{head_first, head_later}
use Rattle.fragment.proofs.cutting.Message.head.Goals as goal

pub returns-then-place-eq0 : goal.returns-then-place-eq0
returns-then-place-eq0 c =
    let first = head_first c.args.self.marks c.args.self.can_be_marked c.args.place c.args.left c.if-place-eq0.true in
    omega (arith, first, c.fragment_number.ensures.number, c.continued.ensures.flag)

pub returns : goal.returns
returns c =
    let later = head_later c.args.self.marks c.args.self.can_be_marked c.args.place c.args.left c.if-place-eq0.false in
    omega (arith, later, c.fragment_number.ensures.number, c.continued.ensures.flag)
