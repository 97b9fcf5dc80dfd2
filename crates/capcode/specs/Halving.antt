-- The range table halved (document 02, item 4): how a row is looked for. What is to be found stands in specs/Ranges; that
-- halving finds it is a law (proofs/HalvingLaws).
use Rattle.std.specs.Prelude.{ℕ, zero, suc, ◌-◌, ◌/◌, Bool, true, ◌&&◌, List, [], ◌∷◌, leb, ltb, length, get_or, take, drop, Result, Ok, Err}
use Rattle.laws.specs.Choice.{pick}
use Rattle.refusal.specs.declared.Refusal.{Refusal}
use Rattle.refusal.specs.declared.Refusal.TheVariants.{Range}
use Rattle.capcode.specs.declared.Class.{Class}
use Rattle.capcode.specs.declared.ranges.Row.{Row}
use Rattle.capcode.specs.Ranges.{class_in}

-- each row ends no sooner than it begins, and begins after the one before it ends; the first begins at `least` or later
unfoldable pub ascend_from : ℕ → List Row → Bool
ascend_from least [] = true
ascend_from least (r ∷ rs) = leb least r.from && leb r.from r.to && ascend_from (suc r.to) rs

-- the rows ascend and are disjoint
abbrev pub ascending : List Row → Bool
ascending rs = ascend_from 0 rs

-- the place of a table's middle row, the lower of two
abbrev pub half : List Row → ℕ
half rs = (length rs - 1) / 2

-- a look at a row: an address before its first is sought below it, one after its last above it, and any other is its own
abbrev pub look_at : Row → ℕ → Result Class Refusal → Result Class Refusal → Result Class Refusal
look_at r address below above = pick (ltb address r.from) below (pick (leb address r.to) (Ok r.class) above)

-- 02, item 4: "halve the table". A look at the middle row leaves a half, and so on; the rows that so many halvings leave are walked
unfoldable pub halved_in : ℕ → List Row → ℕ → Result Class Refusal
halved_in zero rs address = class_in rs address
halved_in (suc halvings) [] address = Err Range
halved_in (suc halvings) (r ∷ rs) address =
    look_at
    (get_or (r ∷ rs) (half (r ∷ rs)) r)
    address
    (halved_in halvings (take (half (r ∷ rs)) (r ∷ rs)) address)
    (halved_in halvings (drop (suc (half (r ∷ rs))) (r ∷ rs)) address)
