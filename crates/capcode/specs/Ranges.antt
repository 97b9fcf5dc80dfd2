-- The accepted ranges of addresses (document 01, "Ranges (Table 22)").
use Rattle.std.specs.Prelude.{ℕ, Bool, true, false, ◌&&◌, List, [], ◌∷◌, leb, Result, Ok, Err}
use Rattle.laws.specs.Choice.{pick}
use Rattle.refusal.specs.declared.Refusal.{Refusal}
use Rattle.refusal.specs.declared.Refusal.TheVariants.{Range}
use Rattle.refusal.specs.Told.{Told, told_by}
use Rattle.capcode.specs.declared.Class.{Class}
use Rattle.capcode.specs.declared.Class.TheVariants.{Short, InformationService, Network, Operator, Set12}
use Rattle.capcode.specs.declared.Class.TheVariants.{Set13, Set14, Set23Country, Set23InformationService}
use Rattle.capcode.specs.declared.ranges.Row.{Row}

-- a row of the table: from, to and class
abbrev row : ℕ → ℕ → Class → Row
row from to class = record { from = from; to = to; class = class }

-- 01, "Accepted": the ranges and their classes, Table 22's rows of one use joined
unfoldable pub rows : List Row
rows =
    row 1 1933312 Short
    ∷ row 2009088 2025471 InformationService
    ∷ row 2025472 2029567 Network
    ∷ row 2029584 2029599 Operator
    ∷ row 2101249 1075843072 Set12
    ∷ row 1075843073 2149584896 Set13
    ∷ row 2149584897 3223326720 Set14
    ∷ row 3223326721 3923326750 Set23Country
    ∷ row 4280000001 4291000000 Set23InformationService
    ∷ []

-- a row holds an address from its first to its last
abbrev pub holds : Row → ℕ → Bool
holds r address = leb r.from address && leb address r.to

-- the class of the row that holds an address; "everything else is refused", 5
unfoldable pub class_in : List Row → ℕ → Result Class Refusal
class_in [] address = Err Range
class_in (r ∷ rs) address = pick (holds r address) (Ok r.class) (class_in rs address)

-- the class of an address
unfoldable pub class_of : ℕ → Result Class Refusal
class_of address = class_in rows address

-- some class was found
abbrev pub found : Result Class Refusal → Bool
found (Ok class) = true
found (Err r) = false

-- an address of an accepted range
abbrev pub accepted : ℕ → Bool
accepted address = found (class_of address)

-- 01's rows in order, 1 to 9
abbrev pub class_number : Class → ℕ
class_number Short = 1
class_number InformationService = 2
class_number Network = 3
class_number Operator = 4
class_number Set12 = 5
class_number Set13 = 6
class_number Set14 = 7
class_number Set23Country = 8
class_number Set23InformationService = 9

-- how a class is told
abbrev pub told_classed : Result Class Refusal → Told
told_classed answer = told_by (λ class. class_number class ∷ []) answer
