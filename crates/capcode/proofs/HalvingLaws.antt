-- Halving a table of rows that ascend and are disjoint finds what walking it from the top finds (document 02, item 4).
use Rattle.std.specs.Prelude.{Result, Ok, Err}
use Prim.Native.Nat.{ℕ, zero, suc, ◌≤◌, ◌<◌}
use mathlib.Core.Bool.{Bool, true, false, ◌&&◌, and-eq-true_iff}
use mathlib.Core.Path.{◌≡◌, refl, ap, sym, ◌∙◌}
use mathlib.Core.List.{List, [], ◌∷◌, ◌++◌, map}
use lib.Dec.{leb, ltb}
use lib.ListN.{get_or, take, drop}
use lib.Seq.{split_at}
use native.Mathlib.Omega.{arith}
use borrow.Author.Tests.{leb-true, leb-false, ltb-true, ltb-false, le-leb, lt-leb}
use Rattle.laws.specs.Choice.{pick}
use Rattle.refusal.specs.declared.Refusal.TheVariants.{Range}
use Rattle.capcode.specs.declared.Class.TheVariants.{Short, InformationService, Network, Operator, Set12}
use Rattle.capcode.specs.declared.Class.TheVariants.{Set23InformationService}
use Rattle.capcode.specs.declared.ranges.Row.{Row}
use Rattle.capcode.specs.Ranges.{rows, holds, class_in, class_of}
use Rattle.capcode.specs.Halving.{ascend_from, ascending, half, look_at, halved_in}
use Rattle.capcode.specs.declared.Class.{Class}
use Rattle.refusal.specs.declared.Refusal.{Refusal}

-- what rows that ascend say of the first of them and of the others
ascend_parts : (least : ℕ) (r : Row) (rs : List Row) → ascend_from least (r ∷ rs) ≡ true
    → (least ≤ r.from) × (r.from ≤ r.to) × (ascend_from (suc r.to) rs ≡ true)
unfolding ascend_from
ascend_parts least r rs e =
    let outer = (and-eq-true_iff (leb least r.from && leb r.from r.to) (ascend_from (suc r.to) rs)).0 e in
    let inner = (and-eq-true_iff (leb least r.from) (leb r.from r.to)).0 outer.0 in
    (leb-true least r.from inner.0, leb-true r.from r.to inner.1, outer.1)

-- each of them begins at `least` or later
begins_later : (least : ℕ) (lower : List Row) (middle : Row) (upper : List Row)
    → ascend_from least (lower ++ middle ∷ upper) ≡ true → least ≤ middle.from
begins_later least [] middle upper e = (ascend_parts least middle upper e).0
begins_later least (r ∷ lower) middle upper e =
    let parts = ascend_parts least r (lower ++ middle ∷ upper) e in
    let later = begins_later (suc r.to) lower middle upper parts.2 in
    omega arith

-- those below any of them ascend too
lower_ascend : (least : ℕ) (lower : List Row) (middle : Row) (upper : List Row)
    → ascend_from least (lower ++ middle ∷ upper) ≡ true → ascend_from least lower ≡ true
unfolding ascend_from
lower_ascend least [] middle upper e = refl
lower_ascend least (r ∷ lower) middle upper e =
    let parts = ascend_parts least r (lower ++ middle ∷ upper) e in
    rw (le-leb least r.from parts.0, le-leb r.from r.to parts.1) (lower_ascend (suc r.to) lower middle upper parts.2)

-- and so do those above it
upper_ascend : (least : ℕ) (lower : List Row) (middle : Row) (upper : List Row)
    → ascend_from least (lower ++ middle ∷ upper) ≡ true → ascend_from (suc middle.to) upper ≡ true
upper_ascend least [] middle upper e = (ascend_parts least middle upper e).2
upper_ascend least (r ∷ lower) middle upper e =
    upper_ascend (suc r.to) lower middle upper (ascend_parts least r (lower ++ middle ∷ upper) e).2

module _ (address : ℕ) where
  -- a row that begins after an address does not hold it
  row_after : (r : Row) → address < r.from → holds r address ≡ false
  row_after r before = rw (lt-leb r.from address before)

  -- a row that ends before an address does not hold it
  row_before : (r : Row) → r.from ≤ address → r.to < address → holds r address ≡ false
  row_before r since after = rw (le-leb r.from address since, lt-leb address r.to after)

  -- rows that all begin after an address have no class for it
  none_after : (least : ℕ) (rs : List Row) → ascend_from least rs ≡ true → address < least → class_in rs address ≡ Err Range
  unfolding class_in
  none_after least [] e before = refl
  none_after least (r ∷ rs) e before =
      let parts = ascend_parts least r rs e in
      rw (row_after r (omega arith)) (none_after (suc r.to) rs parts.2 (omega arith))

  module _ (middle : Row) (upper : List Row) where
    -- an address before a row has the class that the rows below give it
    sought_below : (least : ℕ) (lower : List Row) → ascend_from least (lower ++ middle ∷ upper) ≡ true
        → address < middle.from → class_in lower address ≡ class_in (lower ++ middle ∷ upper) address
    unfolding class_in
    sought_below least [] e before =
        let parts = ascend_parts least middle upper e in
        rw (row_after middle before) (sym (none_after (suc middle.to) upper parts.2 (omega arith)))
    sought_below least (r ∷ lower) e before =
        ap
        (pick (holds r address) (Ok r.class))
        (sought_below (suc r.to) lower (ascend_parts least r (lower ++ middle ∷ upper) e).2 before)

    -- one at a row's first or later has the class that this row and those above give it
    walked_past : (least : ℕ) (lower : List Row) → ascend_from least (lower ++ middle ∷ upper) ≡ true
        → middle.from ≤ address → class_in (middle ∷ upper) address ≡ class_in (lower ++ middle ∷ upper) address
    unfolding class_in
    walked_past least [] e since = refl
    walked_past least (r ∷ lower) e since =
        let parts = ascend_parts least r (lower ++ middle ∷ upper) e in
        let later = begins_later (suc r.to) lower middle upper parts.2 in
        rw (row_before r (omega arith) (omega arith)) (walked_past (suc r.to) lower parts.2 since)

    -- and then the row's own end decides between it and those above
    here_or_above : (until : Bool) → leb address middle.to ≡ until → middle.from ≤ address
        → pick until (Ok middle.class) (class_in upper address) ≡ class_in (middle ∷ upper) address
    unfolding class_in
    here_or_above true e since = rw (le-leb middle.from address since, e)
    here_or_above false e since = rw (row_before middle since (leb-false address middle.to e))

    -- by whether the address comes before the row
    look_by : (least : ℕ) (lower : List Row) (before : Bool) → ascend_from least (lower ++ middle ∷ upper) ≡ true → ltb address middle.from ≡ before
        → pick before (class_in lower address) (pick (leb address middle.to) (Ok middle.class) (class_in upper address))
        ≡ class_in (lower ++ middle ∷ upper) address
    look_by least lower true e b = sought_below least lower e (ltb-true address middle.from b)
    look_by least lower false e b =
        let since = ltb-false address middle.from b in
        here_or_above (leb address middle.to) refl since ∙ walked_past least lower e since

    -- a look at any row of a table that ascends leads to what walking the whole table finds
    pub look_finds : (least : ℕ) (lower : List Row) → ascend_from least (lower ++ middle ∷ upper) ≡ true
        → look_at middle address (class_in lower address) (class_in upper address) ≡ class_in (lower ++ middle ∷ upper) address
    look_finds least lower e = look_by least lower (ltb address middle.from) e refl

-- a look at the middle row leaves two tables that ascend, and so on with each
halves : (halvings least : ℕ) (rs : List Row) (address : ℕ) → ascend_from least rs ≡ true → halved_in halvings rs address ≡ class_in rs address
unfolding halved_in class_in
halves zero least rs address e = refl
halves (suc halvings) least [] address e = refl
halves (suc halvings) least (r ∷ rs) address e =
    let place = half (r ∷ rs) in
    let lower = take place (r ∷ rs) in
    let middle = get_or (r ∷ rs) place r in
    let upper = drop (suc place) (r ∷ rs) in
    let cut : r ∷ rs ≡ lower ++ middle ∷ upper = split_at (r ∷ rs) place r (omega arith) in
    let ascends : ascend_from least (lower ++ middle ∷ upper) ≡ true = rw (sym cut) e in
    ap
    (λ (below : Result Class Refusal). look_at middle address below (halved_in halvings upper address))
    (halves halvings least lower address (lower_ascend least lower middle upper ascends))
    ∙ ap
    (look_at middle address (class_in lower address))
    (halves halvings (suc middle.to) upper address (upper_ascend least lower middle upper ascends))
    ∙ look_finds address middle upper least lower ascends
    ∙ ap (λ (whole : List Row). class_in whole address) (sym cut)

-- 02, item 4: a table of any length whose rows ascend and are disjoint, however often it is halved, gives every address the
-- class that walking it from the top finds
pub halving_finds : (halvings : ℕ) (rs : List Row) (address : ℕ) → ascending rs ≡ true → halved_in halvings rs address ≡ class_in rs address
halving_finds halvings rs address e = halves halvings 0 rs address e

-- the rows of 01's table ascend and are disjoint
pub rows_ascend : ascending rows ≡ true
unfolding rows ascend_from
rows_ascend = refl

-- so the table may be halved twice
pub halved_twice : (address : ℕ) → halved_in 2 rows address ≡ class_of address
unfolding class_of
halved_twice address = halving_finds 2 rows address rows_ascend

-- what halving gives the ends of the table and of its middle row, the first address of its second row, and addresses of no row
pub halving_worked :
    map {A = ℕ} {B = Result Class Refusal} (halved_in 2 rows) (1 ∷ 2009088 ∷ 2101249 ∷ 1075843072 ∷ 4291000000 ∷ 0 ∷ 1933313 ∷ 4291000001 ∷ [])
    ≡ Ok Short
    ∷ Ok InformationService
    ∷ Ok Set12
    ∷ Ok Set12
    ∷ Ok Set23InformationService
    ∷ Err Range
    ∷ Err Range
    ∷ Err Range
    ∷ []
unfolding halved_in class_in rows
halving_worked = refl

-- a table in the wrong order, and one with a row inside another
unfoldable pub descending : List Row
descending = record { from = 5; to = 9; class = Short } ∷ record { from = 1; to = 3; class = Network } ∷ []

unfoldable pub nested : List Row
nested =
    record { from = 1; to = 9; class = Short }
    ∷ record { from = 4; to = 5; class = Network }
    ∷ record { from = 11; to = 12; class = Operator }
    ∷ []

-- the premise of `halving_finds` is needed: where rows do not ascend, or are not disjoint, halving may find another class or none
pub ascent_needed : (halved_in 1 descending 2 ≡ Err Range) × (class_in descending 2 ≡ Ok Network)
    × (halved_in 1 nested 4 ≡ Ok Network) × (class_in nested 4 ≡ Ok Short)
unfolding halved_in class_in descending nested
ascent_needed = (refl, refl, refl, refl)
