use mathlib.Core.Path.{◌≡◌}
use Rattle.laws.specs.Lists.{put}
use Rattle.capcode.specs.Text.{digits}
use Rattle.capcode.proofs.printing.write_digits.Given as goal

abbrev pub invariant-loop-left : goal.invariant-loop-left
invariant-loop-left l = put l.out l.place (digits l.left l.rest) ≡ put l.initial.out l.place (digits l.count l.number)
