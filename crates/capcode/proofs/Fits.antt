-- An address of a class lies in that class's row, and so its words can be built.
use Rattle.std.specs.Prelude.{Result, Ok}
use Prim.Native.Nat.{ℕ, ◌≤◌}
use mathlib.Core.Path.{◌≡◌, ap, sym}
use native.Mathlib.Omega.{arith}
use Rattle.capcode.specs.declared.Class.{Class}
use Rattle.capcode.specs.declared.Class.TheVariants.{Short, InformationService, Network, Operator, Set12}
use Rattle.capcode.specs.declared.Class.TheVariants.{Set13, Set14, Set23Country, Set23InformationService}
use Rattle.capcode.specs.Ranges.{rows, class_of}
use Rattle.capcode.proofs.Bounds.{row_of, class_bounds}
use Rattle.capcode.specs.Words.{layout_of, words_by, words_of, FitsAs}
use Rattle.refusal.specs.declared.Refusal.{Refusal}

row_fits : (class : Class) (address : ℕ) → (row_of class).from ≤ address → address ≤ (row_of class).to → FitsAs (layout_of class) address
unfolding rows
row_fits Short address low high = omega arith
row_fits InformationService address low high = omega arith
row_fits Network address low high = omega arith
row_fits Operator address low high = omega arith
row_fits Set12 address low high = omega arith
row_fits Set13 address low high = omega arith
row_fits Set14 address low high = omega arith
row_fits Set23Country address low high = omega arith
row_fits Set23InformationService address low high = omega arith

-- an address of a class is one whose words can be built
pub class_fits : (address : ℕ) (class : Class) → class_of address ≡ Ok class → FitsAs (layout_of class) address
class_fits address class e = let h = class_bounds address class e in row_fits class address h.0 h.1

-- the words of an address whose class is known, or known to be none
pub known_class : {a : Result Class Refusal} (address : ℕ) → class_of address ≡ a → words_by a address ≡ words_of address
unfolding words_of
known_class address e = sym (ap (λ (found : Result Class Refusal). words_by found address) e)
