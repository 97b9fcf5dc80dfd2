-- An address of a class lies in that class's row.
use Rattle.std.specs.Prelude.{Result, Ok, Err}
use Prim.Native.Nat.{ℕ, ◌-◌, ◌^◌, ◌≤◌, ◌<◌}
use mathlib.Core.Bool.{Bool, true, false, and-eq-true_iff}
use mathlib.Core.Path.{◌≡◌, refl, ap, sym, ◌∙◌}
use mathlib.Core.List.{List, [], ◌∷◌}
use lib.Dec.{leb}
use lib.ListN.{get_or}
use native.Mathlib.Omega.{arith}
use borrow.Author.Tests.{leb-true}
use Rattle.laws.specs.Choice.{pick}
use Rattle.capcode.specs.declared.Class.{Class}
use Rattle.capcode.specs.declared.Class.TheVariants.{Short, InformationService, Network, Operator, Set12}
use Rattle.capcode.specs.declared.Class.TheVariants.{Set13, Set14, Set23Country, Set23InformationService}
use Rattle.capcode.specs.declared.ranges.Row.{Row}
use Rattle.capcode.specs.Ranges.{rows, holds, class_in, class_of, class_number, found, accepted}
use Rattle.refusal.specs.declared.Refusal.{Refusal}

-- the row of a class
abbrev pub row_of : Class → Row
row_of class = get_or rows (class_number class - 1) (record { from = 0; to = 0; class = Short })

-- what holds of every row of a table
abbrev Every : (Row → Type 0) → List Row → Type 0
Every P [] = Unit
Every P (r ∷ rs) = P r × Every P rs

-- a row is the row of its class
abbrev Own : Row → Type 0
Own r = row_of r.class ≡ r

own_rows : Every Own rows
unfolding rows
own_rows = (refl, (refl, (refl, (refl, (refl, (refl, (refl, (refl, (refl, tt)))))))))

in_one : {a b : Class} → ◌≡◌ {A = Result Class Refusal} (Ok a) (Ok b) → a ≡ b
in_one e = cc

-- one row of the table: it holds the address, or the rest has it
at_row : (r : Row) (rest : Result Class Refusal) (address : ℕ) (class : Class) (b : Bool) → holds r address ≡ b → Own r
    → pick b (Ok r.class) rest ≡ Ok class
    → (rest ≡ Ok class → holds (row_of class) address ≡ true) → holds (row_of class) address ≡ true
at_row r rest address class true h own e later = ap (λ (x : Row). holds x address) (sym (ap row_of (in_one e)) ∙ own) ∙ h
at_row r rest address class false h own e later = later e

-- an address found in a table lies in the row of its class
in-row-by : (rs : List Row) (address : ℕ) (class : Class) → Every Own rs → class_in rs address ≡ Ok class → holds (row_of class) address ≡ true
unfolding class_in
in-row-by [] address class own e = let no : ◌≡◌ {A = ℕ} 0 1 = cc in absurd (omega arith)
in-row-by (r ∷ rs) address class own e = at_row r (class_in rs address) address class (holds r address) refl own.0 e (in-row-by rs address class own.1)

-- the ends of a row that holds an address
row_bounds : (r : Row) (address : ℕ) → holds r address ≡ true → (r.from ≤ address) × (address ≤ r.to)
row_bounds r address h =
    let both = (and-eq-true_iff (leb r.from address) (leb address r.to)).0 h in
    (leb-true r.from address both.0, leb-true address r.to both.1)

-- an address of a class lies between the ends of that class's row
pub class_bounds : (address : ℕ) (class : Class) → class_of address ≡ Ok class → ((row_of class).from ≤ address) × (address ≤ (row_of class).to)
unfolding class_of
class_bounds address class e = row_bounds (row_of class) address (in-row-by rows address class own_rows e)

-- every row ends within 32 bits
row_below : (class : Class) → (row_of class).to < 2 ^ 32
unfolding rows
row_below Short = omega arith
row_below InformationService = omega arith
row_below Network = omega arith
row_below Operator = omega arith
row_below Set12 = omega arith
row_below Set13 = omega arith
row_below Set14 = omega arith
row_below Set23Country = omega arith
row_below Set23InformationService = omega arith

found_below : (answer : Result Class Refusal) (address : ℕ) → class_of address ≡ answer → found answer ≡ true → address < 2 ^ 32
found_below (Ok class) address e f =
    let high = (class_bounds address class e).1 in
    let end = row_below class in
    omega arith
found_below (Err r) address e f = let no : ◌≡◌ {A = ℕ} 0 1 = cc in absurd (omega arith)

-- an accepted address has 32 bits
pub accepted_below : (address : ℕ) → accepted address ≡ true → address < 2 ^ 32
accepted_below address e = found_below (class_of address) address refl e
