-- `laid_out` meets its contract: the two tables pass their tests, which are computed here over all entries.
use mathlib.Core.Path.{refl}
use Rattle.pocsag.specs.Codewords.{divided}
use Rattle.pocsag.proofs.Entries.{tables_right}
use Rattle.pocsag.proofs.layout.laid_out.Goals as goal

pub invariant_of-result : goal.invariant_of-result
unfolding divided
invariant_of-result c = record { right = tables_right _ _ refl tt refl tt tt tt tt }
