-- A class is told as itself alone.
use Rattle.std.specs.Prelude.{Result, Ok, Err}
use Prim.Native.Nat.{ℕ}
use mathlib.Core.Path.{◌≡◌, refl, ap, sym, ◌∙◌}
use mathlib.Core.List.{[], ◌∷◌}
use lib.ListN.{get_or}
use Rattle.refusal.proofs.Laws.{given_not_refused, given_head, refused_tells}
use Rattle.capcode.specs.declared.Class.{Class}
use Rattle.capcode.specs.declared.Class.TheVariants.{Short, InformationService, Network, Operator, Set12}
use Rattle.capcode.specs.declared.Class.TheVariants.{Set13, Set14, Set23Country, Set23InformationService}
use Rattle.capcode.specs.Ranges.{class_number, told_classed}
use Rattle.refusal.specs.declared.Refusal.{Refusal}

-- the class of a number of 01's rows
abbrev class_of_number : ℕ → Class
class_of_number n =
    get_or
    (Short ∷ Short ∷ InformationService ∷ Network ∷ Operator ∷ Set12 ∷ Set13 ∷ Set14 ∷ Set23Country ∷ Set23InformationService ∷ [])
    n
    Short

class_number_back : (class : Class) → class_of_number (class_number class) ≡ class
class_number_back Short = refl
class_number_back InformationService = refl
class_number_back Network = refl
class_number_back Operator = refl
class_number_back Set12 = refl
class_number_back Set13 = refl
class_number_back Set14 = refl
class_number_back Set23Country = refl
class_number_back Set23InformationService = refl

-- a class is told as itself alone
pub classed_tells : (a b : Result Class Refusal) → told_classed a ≡ told_classed b → a ≡ b
classed_tells (Ok a) (Ok b) e =
    ap Ok (sym (class_number_back a) ∙ ap class_of_number (given_head (class_number a) (class_number b) e) ∙ class_number_back b)
classed_tells (Ok a) (Err r) e = absurd (given_not_refused (class_number a ∷ []) r e)
classed_tells (Err r) (Ok b) e = absurd (given_not_refused (class_number b ∷ []) r (sym e))
classed_tells (Err r) (Err s) e = ap Err (refused_tells r s e)
