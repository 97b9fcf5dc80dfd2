-- The open calls, as a row, after each thing that is done to the records; and that a row stays sound.
use Prim.Native.Nat.{ℕ, ◌+◌, ◌-◌, ◌≤◌, ◌<◌}
use mathlib.Core.Bool.{true, false}
use mathlib.Core.List.{List, [], ◌∷◌, ◌++◌, append_assoc}
use mathlib.Core.Logic.{⊎_elim}
use mathlib.Core.Path.{◌≡◌, refl, sym, ap, ◌∙◌}
use native.Mathlib.Numerals.{add-one}
use native.Mathlib.Omega.{arith}
use borrow.Author.Tests.{eqb-true, eqb-false, lt-ltb, le-ltb, ltb-true, ltb-false}
use lib.Dec.{ltb, eqb}
use lib.ListN.{length, get_or, take, drop, set, length-append, length-take, length-drop, length-set, length-replicate, get_or-append}
use lib.Seq.{length-take-le, take-take, take-append-le, take-append_seam, take-append-add, take-suc-set, take-set-lt}
use lib.Seq.{take-set-le, set_out, get_or-append_seam, get_or-append-add, get_or-set_same, get_or-set_other, get_or-take}
use lib.Seq.{get_or-drop}
use Rattle.laws.specs.Choice.{pick}
use Rattle.laws.proofs.Counting.{take_min}
use Rattle.laws.proofs.Tests.{decided, not_both}
use Rattle.laws.proofs.Writing.{length_put, take_from}
use Rattle.call.specs.declared.Call.{Call}
use Rattle.call.specs.declared.Calls.{Calls}
use Rattle.call.specs.Calls.{blank, fresh, opens, is_of, holds, sound}
use Rattle.call.specs.Steps.{added, changed, without, removed, listed}
use Rattle.call.proofs.Records.{Limits, Key, is_of_lem, none_held, Apart, sound_row}

-- no call is open in fresh records
pub opens_fresh : (count : ℕ) → opens (fresh count) ≡ []
opens_fresh count = refl

-- calls that are listed are the open ones of the list
pub opens_listed : (count : ℕ) (row : List Call) → opens (listed count row) ≡ row
opens_listed count row = take-append_seam row (drop (0 + length row) (fresh count).calls)

-- the list of calls has as many records as were asked for
pub listed_length : (count : ℕ) (row : List Call) → length row ≤ count → length (listed count row).calls ≡ count
listed_length count row within =
    let many = length-replicate count blank in
    length_put (fresh count).calls row 0 (omega arith) ∙ many

module _ (s : Calls) where
  -- there are no more open calls than records, and no more than the size says
  pub opens_most : (length (opens s) ≤ length s.calls) × (length (opens s) ≤ s.size)
  opens_most = let long = length-take s.size s.calls in (omega arith, omega arith)

  -- where a record is free, the size is the number of the open ones
  pub opens_size : length (opens s) < length s.calls → length (opens s) ≡ s.size
  opens_size free = let long = length-take s.size s.calls in omega arith

  module _ (c : Call) where
    -- a call that is opened is the last one
    pub opens_added : s.size < length s.calls → opens (added s c) ≡ opens s ++ c ∷ []
    opens_added free = rw (add-one s.size) (take-suc-set s.calls s.size c free)

    -- a call that is opened leaves as many records
    pub added_length : length (added s c).calls ≡ length s.calls
    added_length = length-set s.calls s.size c

  module _ (place : ℕ) where
    -- a call that is changed stays where it stands
    pub opens_changed : (c : Call) → opens (changed s place c) ≡ set (opens s) place c
    opens_changed c =
        ⊎_elim
        (λ inside. take-set-lt s.size s.calls place c (ltb-true place s.size inside))
        (λ out.
        let most = ltb-false place s.size out in
        take-set-le s.size s.calls place c most ∙ sym (set_out (opens s) place c (omega (arith, most, opens_most.1))))
        (decided (ltb place s.size))

    -- a call that is changed leaves as many records
    pub changed_length : (c : Call) → length (changed s place c).calls ≡ length s.calls
    changed_length c = length-set s.calls place c

    -- of a call that is closed the others are left, in their order
    pub opens_removed : place < length (opens s) → opens (removed s place) ≡ take place (opens s) ++ drop (place + 1) (opens s)
    opens_removed within =
        let row = s.calls in
        let most = opens_most.0 in
        let count = length (opens s) - (place + 1) in
        let front : length (take place row) ≡ place = length-take-le place row (omega arith) in
        let fewer : length (opens s) - 1 ≡ length (take place row) + count = omega arith in
        let whole : place + 1 + count ≡ length (opens s) = omega arith in
        let all : take (length (opens s)) row ≡ opens s = rw (length-take s.size row) (take_min s.size row) in
        let left = drop (place + length (drop (place + 1) row ++ blank ∷ [])) row in
        let before : take place row ≡ take place (opens s) = sym (take-take place s.size row (omega (arith, opens_most.1))) in
        let rest : take count ((drop (place + 1) row ++ blank ∷ []) ++ left) ≡ drop (place + 1) (opens s) =
        ap (take count) (append_assoc (drop (place + 1) row) (blank ∷ []) left)
        ∙ take-append-le count (drop (place + 1) row) ((blank ∷ []) ++ left) (simp length-drop (omega arith))
        ∙ sym (take_from row (place + 1) count (omega arith))
        ∙ ap (drop (place + 1)) (ap (λ (n : ℕ). take n row) whole ∙ all) in
        ap (λ (n : ℕ). take n (without place row)) fewer
        ∙ ap (take (length (take place row) + count)) (append_assoc (take place row) (drop (place + 1) row ++ blank ∷ []) left)
        ∙ take-append-add (take place row) ((drop (place + 1) row ++ blank ∷ []) ++ left) count
        ∙ rw (before, rest)

    -- a call that is closed leaves as many records
    pub removed_length : place < length (opens s) → length (removed s place).calls ≡ length s.calls
    removed_length within =
        let most = opens_most.0 in
        length_put s.calls (drop (place + 1) s.calls ++ blank ∷ []) place (simp (length-append, length-drop) (omega arith))

-- ---- a row with one call left out

-- a row without the call at a place, in its order
abbrev pub left : ℕ → List Call → List Call
left place row = take place row ++ drop (place + 1) row

-- where a call that is left stood before
abbrev pub place_before : ℕ → ℕ → ℕ
place_before place i = pick (ltb i place) i (i + 1)

-- where a call that is not left out stands then
abbrev pub place_then : ℕ → ℕ → ℕ
place_then place i = pick (ltb place i) (i - 1) i

-- the one is the other way round
pub before_then : (place i : ℕ) → (i ≡ place → ⊥) → place_before place (place_then place i) ≡ i
before_then place i other =
    ⊎_elim
    (λ past.
    let less = ltb-true place i past in
    rw (past, le-ltb (i - 1) place (omega arith)) (omega arith))
    (λ not-past.
    let most = ltb-false place i not-past in
    rw (not-past, lt-ltb i place (omega arith)))
    (decided (ltb place i))

-- two calls that are left keep their order
pub then_order : (place i j : ℕ) → (i ≡ place → ⊥) → i < j → place_then place i < place_then place j
then_order place i j other less =
    ⊎_elim
    (λ past.
    let first = ltb-true place i past in
    rw (past, lt-ltb place j (omega arith)) (omega arith))
    (λ not-past.
    let first = ltb-false place i not-past in
    ⊎_elim
    (λ second. let last = ltb-true place j second in rw (not-past, second) (omega arith))
    (λ (none : ltb place j ≡ false). rw (not-past, none) less)
    (decided (ltb place j)))
    (decided (ltb place i))

-- different places were different
pub before_apart : (place i j : ℕ) → place_before place i ≡ place_before place j → i ≡ j
before_apart place i j =
    ⊎_elim
    (λ first.
    let a = ltb-true i place first in
    ⊎_elim
    (λ (second : ltb j place ≡ true). rw (first, second) (λ e. e))
    (λ past. let b = ltb-false j place past in rw (first, past) (λ e. omega arith))
    (decided (ltb j place)))
    (λ later.
    let a = ltb-false i place later in
    ⊎_elim
    (λ second. let b = ltb-true j place second in rw (later, second) (λ e. omega arith))
    (λ (past : ltb j place ≡ false). rw (later, past) (λ e. omega arith))
    (decided (ltb j place)))
    (decided (ltb i place))

module _ (row : List Call) (place : ℕ) (within : place < length row) where
  -- a row with one call left out is one shorter
  pub left_length : length (left place row) ≡ length row - 1
  left_length =
      let front : length (take place row) ≡ place = length-take-le place row (omega arith) in
      simp (length-append, length-drop) (omega arith)

  -- what stands where
  pub left_at : (i : ℕ) → get_or (left place row) i blank ≡ get_or row (place_before place i) blank
  left_at i =
      let front : length (take place row) ≡ place = length-take-le place row (omega arith) in
      ⊎_elim
      (λ first.
      let less = ltb-true i place first in
      rw first (get_or-append (take place row) (drop (place + 1) row) blank i (omega arith) ∙ get_or-take place row i blank less))
      (λ later.
      let most = ltb-false i place later in
      let apart : i ≡ length (take place row) + (i - place) = omega arith in
      let there : place + 1 + (i - place) ≡ i + 1 = omega arith in
      rw later
      (ap (λ (n : ℕ). get_or (left place row) n blank) apart
      ∙ get_or-append-add (take place row) (drop (place + 1) row) (i - place) blank
      ∙ get_or-drop (place + 1) row (i - place) blank
      ∙ ap (λ (n : ℕ). get_or row n blank) there))
      (decided (ltb i place))

  -- where a call that is left stood is a place of the row
  pub before_within : (i : ℕ) → i < length (left place row) → place_before place i < length row
  before_within i less =
      let fewer = left_length in
      ⊎_elim (λ first. rw first (omega arith)) (λ later. rw later (omega arith)) (decided (ltb i place))

  -- a call at another place stays
  pub left_stays : (i : ℕ) → i < length row → (i ≡ place → ⊥)
      → (place_then place i < length (left place row)) × (get_or (left place row) (place_then place i) blank ≡ get_or row i blank)
  left_stays i inside other =
      (rw left_length (by_side i inside other), left_at (place_then place i) ∙ ap (λ (n : ℕ). get_or row n blank) (before_then place i other))
    where
      by_side : (i : ℕ) → i < length row → (i ≡ place → ⊥) → place_then place i < length row - 1
      by_side i inside other =
          ⊎_elim
          (λ past. let less = ltb-true place i past in rw past (omega arith))
          (λ before. let most = ltb-false place i before in rw before (omega arith))
          (decided (ltb place i))

-- ---- it stays sound

-- a row within the limits whose calls have the keys of different places of a sound row
pub sound_by : (row after : List Call) (was : ℕ → ℕ) → sound row ≡ true
    → ((i : ℕ) → i < length after → was i < length row)
    → ((i j : ℕ) → was i ≡ was j → i ≡ j)
    → ((i : ℕ) → i < length after → Key (get_or row (was i) blank).phase (get_or row (was i) blank).vector (get_or after i blank))
    → ((i : ℕ) → i < length after → Limits (get_or after i blank))
    → sound after ≡ true
sound_by row after was good inside apart same limits =
    (sound_row after).1
    (record {
      limits = limits;
      apart =
          λ i j within other phase vector.
          apart i j
          (((sound_row row).0 good).apart (was i) (was j) (inside i within) (inside j other)
          (sym (same i within).same_phase ∙ phase ∙ (same j other).same_phase)
          (sym (same i within).same_vector ∙ vector ∙ (same j other).same_vector));
    })

module _ (row : List Call) (good : sound row ≡ true) where
  -- a call left out
  pub left_sound : (place : ℕ) → place < length row → sound (left place row) ≡ true
  left_sound place within =
      sound_by row (left place row) (place_before place) good (before_within row place within) (before_apart place)
      (λ i less. record {
        same_phase = ap (λ (c : Call). c.phase) (left_at row place within i);
        same_vector = ap (λ (c : Call). c.vector) (left_at row place within i);
      })
      (λ i less. rw (left_at row place within i) (((sound_row row).0 good).limits (place_before place i) (before_within row place within i less)))

  -- a call changed that keeps its key and is within its limits
  pub set_sound : (place : ℕ) (c : Call) → c.phase ≡ (get_or row place blank).phase
      → c.vector ≡ (get_or row place blank).vector → Limits c → sound (set row place c) ≡ true
  set_sound place c phase vector limits =
      sound_by row (set row place c) (λ i. i) good (λ i less. rw length-set at less) (λ i j e. e) (λ i less. (each i less).0) (λ i less. (each i less).1)
    where
      each : (i : ℕ) → i < length (set row place c)
          → Key (get_or row i blank).phase (get_or row i blank).vector (get_or (set row place c) i blank) × Limits (get_or (set row place c) i blank)
      each i less =
          let inside : i < length row = rw length-set at less in
          ⊎_elim
          (λ same.
          let here : i ≡ place = eqb-true i place same in
          rw (here, get_or-set_same row place c blank (omega arith)) (record { same_phase = phase; same_vector = vector }, limits))
          (λ other.
          rw (get_or-set_other row place i c blank (eqb-false i place other))
          (record { same_phase = refl; same_vector = refl }, ((sound_row row).0 good).limits i inside))
          (decided (eqb i place))

  -- a call added whose key has none yet, within its limits
  pub added_sound : (c : Call) → holds c.phase c.vector row ≡ false → Limits c → sound (row ++ c ∷ []) ≡ true
  added_sound c alone limits = (sound_row (row ++ c ∷ [])).1 (record { limits = limits-each; apart = apart_each })
    where
      longer : length (row ++ c ∷ []) ≡ length row + 1
      longer = length-append row (c ∷ [])

      old : (i : ℕ) → i < length row → get_or (row ++ c ∷ []) i blank ≡ get_or row i blank
      old i less = get_or-append row (c ∷ []) blank i less

      new : (i : ℕ) → i ≡ length row → get_or (row ++ c ∷ []) i blank ≡ c
      new i e = rw e (get_or-append_seam row c [] blank)

      limits-each : (i : ℕ) → i < length (row ++ c ∷ []) → Limits (get_or (row ++ c ∷ []) i blank)
      limits-each i less =
          ⊎_elim
          (λ first. let inside = ltb-true i (length row) first in rw (old i inside) (((sound_row row).0 good).limits i inside))
          (λ last. rw (new i (omega (arith, ltb-false i (length row) last, longer))) limits)
          (decided (ltb i (length row)))

      only-new : (i : ℕ) → i < length row → (get_or row i blank).phase ≡ c.phase → (get_or row i blank).vector ≡ c.vector → ⊥
      only-new i less phase vector =
          not_both (is_of c.phase c.vector (get_or row i blank))
          ((is_of_lem c.phase c.vector (get_or row i blank)).1 (record { same_phase = phase; same_vector = vector }))
          (none_held c.phase c.vector row alone i less)

      apart_each : Apart (row ++ c ∷ [])
      apart_each i j within other =
          ⊎_elim
          (λ first.
          let a = ltb-true i (length row) first in
          ⊎_elim
          (λ second.
          let b = ltb-true j (length row) second in
          rw (old i a, old j b) (((sound_row row).0 good).apart i j a b))
          (λ last.
          rw (old i a, new j (omega (arith, ltb-false j (length row) last, longer))) (λ phase vector. absurd (only-new i a phase vector)))
          (decided (ltb j (length row))))
          (λ later.
          let here : i ≡ length row = omega (arith, ltb-false i (length row) later, longer) in
          ⊎_elim
          (λ second.
          let b = ltb-true j (length row) second in
          rw (new i here, old j b) (λ phase vector. absurd (only-new j b (sym phase) (sym vector))))
          (λ last. λ phase vector. omega (arith, ltb-false j (length row) last, longer))
          (decided (ltb j (length row))))
          (decided (ltb i (length row)))
