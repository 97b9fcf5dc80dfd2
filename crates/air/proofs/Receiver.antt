-- A receiver that knows the places of the fragments: what it hands out, and exactly when.
use Prim.Native.Nat.{ℕ, zero, suc, ◌+◌, ◌-◌, ◌≤◌, ◌<◌}
use mathlib.Core.Bool.{Bool, true, false, not, ◌&&◌, ◌||◌, or-true, and-eq-true_iff}
use mathlib.Core.List.{List, [], ◌∷◌, ◌++◌}
use mathlib.Core.Logic.{◌↔◌, ⊎_elim}
use mathlib.Core.Path.{◌≡◌, refl, ap, ◌∙◌}
use native.Mathlib.Nat.{zero-add}
use native.Mathlib.Numerals.{add-one}
use native.Mathlib.Omega.{arith}
use borrow.Author.Tests.{eq-eqb, ne_eqb, eqb-true, eqb-false, ltb-true, leb-true, le-leb}
use lib.Dec.{leb, ltb, eqb}
use lib.ListN.{length, get_or, drop, replicate}
use Rattle.laws.specs.Choice.{pick, bit_of}
use Rattle.laws.specs.Lists.{all, any_of, up_from}
use Rattle.laws.proofs.Tests.{decided, eqb_swap}
use Rattle.air.specs.Demand.{neighbours, is_in_order, from_first, ArrivesWhole}

-- whether a copy is taken by a receiver that has joined so many fragments, none where no chain is open: a first one always, another if it is the next
abbrev pub is_taken : ℕ → ℕ → Bool
is_taken joined place = eqb place 0 || eqb place joined

-- whether a copy is taken and is the last, so that the text is handed out
abbrev pub hands_out : ℕ → ℕ → ℕ → Bool
hands_out count joined place = is_taken joined place && eqb (place + 1) count

-- how many fragments are joined after a copy
abbrev pub joined_after : ℕ → ℕ → ℕ → ℕ
joined_after count joined place = pick (is_taken joined place && not (eqb (place + 1) count)) (place + 1) 0

-- how many texts are handed out over a row of copies
unfoldable pub delivered : ℕ → ℕ → List ℕ → ℕ
delivered count joined [] = 0
delivered count joined (place ∷ row) = bit_of (hands_out count joined place) + delivered count (joined_after count joined place) row

-- ---- exactly when a text is handed out

-- the next fragment is taken
next_taken : (next : ℕ) → is_taken next next ≡ true
next_taken next = rw (eq-eqb next next refl) (or-true (eqb next 0))

-- a row in order is so after the first place
after_first : (row : List ℕ) → is_in_order row ≡ true → is_in_order (0 ∷ row) ≡ true
unfolding neighbours
after_first [] order = refl
after_first (place ∷ row) order = rw (le-leb 0 place (omega arith)) order

module _ (count : ℕ) where
  -- a copy that is not taken leaves no chain open
  not_taken : (joined place : ℕ) (row : List ℕ) → is_taken joined place ≡ false → delivered count joined (place ∷ row) ≡ delivered count 0 row
  unfolding delivered
  not_taken joined place row other = rw other (zero-add (delivered count 0 row))

  -- the next copy is joined, where it is not the last
  joins : (next : ℕ) (row : List ℕ) → suc next < count → delivered count next (next ∷ row) ≡ delivered count (suc next) row
  unfolding delivered
  joins next row more = rw (next_taken next, ne_eqb (next + 1) count (λ e. omega arith), add-one) (zero-add (delivered count (suc next) row))

  -- where the next copy is the last, the text is handed out
  hands_out_lem : (next : ℕ) (row : List ℕ) → next + 1 ≡ count → 1 ≤ delivered count next (next ∷ row)
  unfolding delivered
  hands_out_lem next row is = rw (next_taken next, eq-eqb (next + 1) count is) (omega arith)

  -- a row after a place: no place falls, and each is one of the message's
  unfoldable Rises : ℕ → List ℕ → Type 0
  Rises earlier [] = Unit
  Rises earlier (place ∷ row) = (earlier ≤ place) × (place < count) × Rises place row

  -- in a row in order after a place, of places that there are, no place falls
  row_rises : (earlier : ℕ) (row : List ℕ) → is_in_order (earlier ∷ row) ≡ true → all (λ place. ltb place count) row ≡ true → Rises earlier row
  unfolding Rises neighbours all
  row_rises earlier [] order within = tt
  row_rises earlier (place ∷ row) order within =
      let risen = (and-eq-true_iff (leb earlier place) (neighbours leb (place ∷ row))).0 order in
      let inside = (and-eq-true_iff (ltb place count) (all (λ place. ltb place count) row)).0 within in
      (leb-true earlier place risen.0, ltb-true place count inside.0, row_rises place row risen.1 inside.1)

  -- after the last place there is only that one again
  only_last : (earlier : ℕ) (row : List ℕ) → count ≤ earlier + 1 → Rises earlier row → row ≡ replicate (length row) (count - 1)
  unfolding Rises
  only_last earlier [] least r = refl
  only_last earlier (place ∷ row) least r =
      let is : place ≡ count - 1 = omega (arith, r.0, r.1) in
      rw is (ap (λ (rest : List ℕ). (count - 1) ∷ rest) (only_last place row (omega (arith, r.0)) r.2))

  -- after a later place there is no first one, so that no text is handed out where no chain is open
  no_first : (earlier : ℕ) (row : List ℕ) → 1 ≤ earlier → Rises earlier row → (delivered count 0 row ≡ 0) × (any_of (eqb 0) row ≡ false) × (from_first row ≡ [])
  unfolding Rises delivered any_of from_first
  no_first earlier [] later r = (refl, refl, refl)
  no_first earlier (place ∷ row) later r =
      let rest = no_first place row (omega (arith, r.0)) r.2 in
      let other = ne_eqb place 0 (λ e. omega (arith, r.0)) in
      (not_taken 0 place row (rw other) ∙ rest.0, rw (eqb_swap 0 place, other) rest.1, rw other rest.2)

  -- so many places from one on, each once, and perhaps the last one again
  abbrev Whole : ℕ → ℕ → List ℕ → Type 0
  Whole next left row = (again : ℕ) × (row ≡ up_from next left ++ replicate again (count - 1))

  -- from the next place on, where no first one follows, a text is handed out exactly if all that are left come so
  from_next : (next left earlier : ℕ) (row : List ℕ) → next + suc left ≡ count → 1 ≤ earlier → next ≤ earlier → Rises earlier row
      → (1 ≤ delivered count next (next ∷ row)) ↔ Whole next (suc left) (next ∷ row)
  unfolding up_from Rises delivered
  from_next next zero earlier row is later least r =
      (λ out. (length row, ap (λ (rest : List ℕ). next ∷ rest) (only_last earlier row (omega arith) r)), λ whole. hands_out_lem next row is)
  from_next next (suc left) earlier [] is later least r =
      rw (joins next [] (omega arith)) (λ out. absurd (omega arith), λ whole. absurd (omega (arith, ap length whole.1)))
  from_next next (suc left) earlier (place ∷ row) is later least r =
      rw (joins next (place ∷ row) (omega arith))
      (⊎_elim
      (λ same.
      let here = eqb-true place (suc next) same in
      let rest = from_next (suc next) left (suc next) row (omega arith) (omega arith) (omega arith) (rw (← here) r.2) in
      rw here (
        λ out. let whole = rest.0 out in (whole.0, ap (λ (rest : List ℕ). next ∷ rest) whole.1),
        λ whole. rest.1 (whole.0, ap (drop 1) whole.1),
      ))
      (λ other.
      let none = no_first place row (omega (arith, r.0)) r.2 in
      let lost = not_taken (suc next) place row (rw (other, ne_eqb place 0 (λ e. omega (arith, r.0)))) ∙ none.0 in (
        λ out. absurd (omega arith),
        λ whole. absurd (eqb-false place (suc next) other (ap (λ (row : List ℕ). get_or row 1 0) whole.1)),
      ))
      (decided (eqb place (suc next))))

module _ (last : ℕ) where
  -- no text is handed out where no first fragment comes, and none arrives whole
  no_text : (row : List ℕ) → Rises (suc last) 1 row → (1 ≤ delivered (suc last) 0 row) ↔ ArrivesWhole (suc last) row
  unfolding up_from
  no_text row r =
      let none = no_first (suc last) 1 row (omega arith) r in
      rw (none.0, none.2) (λ out. absurd (omega arith), λ whole. absurd (omega (arith, ap length whole.1)))

  -- where one first fragment comes, what follows it decides
  one_first : (row : List ℕ) → Rises (suc last) 1 row → (1 ≤ delivered (suc last) 0 (0 ∷ row)) ↔ ArrivesWhole (suc last) (0 ∷ row)
  unfolding from_first
  one_first row r = rw (no_first (suc last) 1 row (omega arith) r).1 (from_next (suc last) 0 last 1 row (omega arith) (omega arith) (omega arith) r)

  -- of more than one first fragment the last alone counts
  whole_exactly : (row : List ℕ) → Rises (suc last) 0 row → (1 ≤ delivered (suc last) 0 row) ↔ ArrivesWhole (suc last) row
  unfolding delivered from_first Rises any_of
  whole_exactly [] r = no_text [] tt
  whole_exactly (suc place ∷ row) r = no_text (suc place ∷ row) (omega arith, r.1, r.2)
  whole_exactly (zero ∷ []) r = one_first [] tt
  whole_exactly (zero ∷ suc place ∷ row) r = one_first (suc place ∷ row) (omega arith, r.2.1, r.2.2)
  whole_exactly (zero ∷ zero ∷ row) r = let rest = whole_exactly (zero ∷ row) r.2 in (λ out. rest.0 (omega arith), λ whole. omega (arith, rest.1 whole))

-- at least one text is handed out exactly if the first fragment comes and, after its last copy, the later ones in order, each once, the last at least once
pub delivers : (count : ℕ) (row : List ℕ) → 1 ≤ count → all (λ place. ltb place count) row ≡ true → is_in_order row ≡ true
    → (1 ≤ delivered count 0 row) ↔ ArrivesWhole count row
delivers zero row some within order = absurd (omega arith)
delivers (suc last) row some within order = whole_exactly last row (row_rises (suc last) 0 row (after_first row order) within)
