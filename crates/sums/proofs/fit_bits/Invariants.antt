-- `fit_bits` meets its contract: the bits so far, and what is still to be asked, decide.
use Rattle.std.proofs.Common.{◌≡◌, ◌^◌, ◌&&◌, ltb, drop}
use Rattle.laws.specs.Numerals.{are_digits}
use Rattle.sums.proofs.fit_bits.Given as goal

abbrev pub invariant-loop-number : goal.invariant-loop-number
invariant-loop-number g l =
    (ltb l.bits (2 ^ g.row.BITS) && are_digits (2 ^ g.row.BITS) (drop l.number-index l.row)) ≡ are_digits (2 ^ g.row.BITS) l.row
