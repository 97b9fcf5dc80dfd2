-- What document 01 promises of a run of packets and ends of frame.
use Prim.Native.Nat.{ℕ, suc, ◌+◌, ◌≤◌, ◌<◌}
use mathlib.Core.Bool.{Bool, true, false, not, false≢true}
use mathlib.Core.List.{List, [], ◌∷◌, ◌++◌, map, append-nil, append_assoc, map-append}
use mathlib.Core.Logic.{⊎_elim}
use mathlib.Core.Path.{◌≡◌, refl, sym, ap, ◌∙◌}
use native.Mathlib.Numerals.{add-one}
use native.Mathlib.Omega.{arith}
use borrow.Author.Tests.{eqb-true, eqb-false, ltb-true, ltb-false}
use lib.Dec.{ltb, eqb}
use lib.ListN.{length, get_or, take, drop, set, length-append, length-set, length-replicate, get_or-append}
use lib.Seq.{split_at, set_split, map-set_same, get_or-append_seam, get_or-set_same, get_or-set_other}
use Rattle.laws.specs.Choice.{pick}
use Rattle.laws.specs.Lists.{those}
use Rattle.laws.proofs.Lists.{those_append, those_length_cons, those_most}
use Rattle.laws.proofs.Tests.{decided, not_both}
use Rattle.laws.proofs.Writing.{length_put}
use Rattle.refusal.specs.Told.{number_told, value_told}
use Rattle.call.specs.declared.Call.{Call}
use Rattle.call.specs.declared.Calls.{Calls}
use Rattle.call.specs.Calls.{blank, fresh, opens, has_vector, sound}
use Rattle.call.specs.Words.{lacking, place_of, is_complete}
use Rattle.call.specs.Steps.{call_of, next_area, incomplete_in}
use Rattle.call.specs.Answers.{address_in, open_of, opened_in, message_in, vector_place, vector_given, end_of, ended_with}
use Rattle.call.specs.Runs.{Event, addressed, heard, ended, State, after, after_all, is_in_frame, unheard, opened_now, opened_by, Among, none, kept, past}
use Rattle.call.proofs.Invariants.{Placed}
use Rattle.call.proofs.Records.{fresh_sound, in_limits_lem}
use Rattle.call.proofs.MemoryLaws.{given_length, words_most}
use Rattle.call.proofs.Rows.{opens_most, listed_length, added_length, changed_length, removed_length, left}
use Rattle.call.proofs.Rows.{place_before, before_apart, before_within, left_at}
use Rattle.call.proofs.Laws.{open_told, opened_by_lem, opened_row, opened_rows, VectorTaken, vectored_within}
use Rattle.call.proofs.Laws.{heard_by, heard_rows, memory_by, Ended, end_lists, ended_by, given_limits}
use Rattle.call.proofs.Laws.{stays_sound, Stands, open_stays, place_after, with_vector_stays}

-- ---- sound, and as long

-- a run leaves sound records sound
pub run_sound : (s : State) (events : List Event) → sound (opens s.calls) ≡ true → sound (opens (after_all s events).calls) ≡ true
unfolding after_all
run_sound s [] right = right
run_sound s (event ∷ events) right = run_sound (after s event) events (stays_sound s event right)

-- a run that begins with no call open has sound records after each event
pub fresh_run_sound : (count : ℕ) (memory : List ℕ) (events : List Event)
    → sound (opens (after_all (record { calls = fresh count; memory = memory }) events).calls) ≡ true
fresh_run_sound count memory events = run_sound (record { calls = fresh count; memory = memory }) events (fresh_sound count)

-- the words of a vector that is taken have room in their area
pub given_most : (s : Calls) (memory : List ℕ) (n : ℕ) → VectorTaken s memory n → (vector_given s n).words ≤ 85
given_most s memory n v = words_most (vector_given s n) ((in_limits_lem (vector_given s n)).1 (given_limits s memory n v)) refl

-- an event leaves as many records and as much memory
pub event_lengths : (s : State) (event : Event)
    → (length (after s event).calls.calls ≡ length s.calls.calls) × (length (after s event).memory ≡ length s.memory)
event_lengths s (addressed n) =
    (opened_by_lem s.calls n (λ t. length t.calls ≡ length s.calls.calls) (λ o. added_length s.calls (call_of (address_in n))) refl, refl)
event_lengths s (heard n) = (
  heard_by s.calls s.memory n (λ t. length t.calls ≡ length s.calls.calls)
      (λ b. removed_length s.calls (vector_place s.calls n) (vectored_within s.calls n b.vectored))
      (λ v. changed_length s.calls (vector_place s.calls n) (vector_given s.calls n))
      refl,
  memory_by s.calls s.memory n (λ m. length m ≡ length s.memory)
      (λ v.
      let many = length-replicate (vector_given s.calls n).words lacking in
      length_put s.memory _ (place_of (vector_given s.calls n)) (omega (arith, many, given_most s.calls s.memory n v, v.room)))
      (λ w. given_length (message_in n) (opens s.calls) s.memory)
      refl,
)
event_lengths s ended =
    (ended_by s.calls s.memory (λ t. length t.calls ≡ length s.calls.calls) (length-replicate (length s.calls.calls) blank) refl, refl)

-- a run leaves as many records and as much memory
pub run_lengths : (s : State) (events : List Event)
    → (length (after_all s events).calls.calls ≡ length s.calls.calls) × (length (after_all s events).memory ≡ length s.memory)
unfolding after_all
run_lengths s [] = (refl, refl)
run_lengths s (event ∷ events) =
    let one = event_lengths s event in
    let rest = run_lengths (after s event) events in
    (rest.0 ∙ one.0, rest.1 ∙ one.1)

-- ---- in the order opened

-- a row is in its own order
pub among_same : (row : List Call) → Among row row
among_same [] = none
among_same (c ∷ row) = kept (among_same row)

-- a row is in the order of a row that it equals
pub among_is : {xs ys : List Call} → xs ≡ ys → Among xs ys
among_is {xs} {ys} e = rw e (among_same ys)

-- all may be left out
pub among_none : (row : List Call) → Among [] row
among_none [] = none
among_none (c ∷ row) = past (among_none row)

-- what is joined is in the order of what is joined
pub among_joined : {xs ys xs' ys' : List Call} → Among xs ys → Among xs' ys' → Among (xs ++ xs') (ys ++ ys')
among_joined none b = b
among_joined (kept a) b = kept (among_joined a b)
among_joined (past a) b = past (among_joined a b)

-- some may be left out of what is left
pub among_again : {xs ys zs : List Call} → Among xs ys → Among ys zs → Among xs zs
among_again a none = a
among_again (kept a) (kept b) = kept (among_again a b)
among_again (past a) (kept b) = past (among_again a b)
among_again a (past b) = past (among_again a b)

-- those that pass a test are in the row's order
pub among_those : (test : Call → Bool) (row : List Call) → Among (those test row) row
unfolding those
among_those test [] = none
among_those test (c ∷ row) = by_test (test c) (among_those test row)
  where
    by_test : (good : Bool) → Among (those test row) row → Among (pick good (c ∷ those test row) (those test row)) (c ∷ row)
    by_test true rest = kept rest
    by_test false rest = past rest

-- those that are left when one is closed are in the row's order too
pub among_left : (place : ℕ) (row : List Call) → place < length row → Among (map unheard (left place row)) (map unheard row)
among_left place row within =
    rw (add-one place, map-append unheard (take place row) (drop (suc place) row))
    (among_again
    (among_joined (among_same (map unheard (take place row))) (past {c = unheard (get_or row place blank)} (among_same (map unheard (drop (suc place) row)))))
    (among_is (sym (ap (map unheard) (split_at row place blank within) ∙ map-append unheard (take place row) (get_or row place blank ∷ drop (suc place) row)))))

-- 01: "in the order opened": after an event the open calls are those before, and the one that it opens after them, with some left out
pub order : (s : State) (event : Event) → Among (map unheard (opens (after s event).calls)) (map unheard (opens s.calls) ++ opened_now s event)
order s (addressed n) = ⊎_elim opened not_opened (decided (eqb (value_told (open_of s.calls n) 0) 1))
  where
    row : List Call
    row = opens s.calls

    now_one : eqb (value_told (open_of s.calls n) 0) 1 ≡ true → opened_now s (addressed n) ≡ call_of (address_in n) ∷ []
    now_one is = rw is

    now_none : eqb (value_told (open_of s.calls n) 0) 1 ≡ false → opened_now s (addressed n) ≡ []
    now_none unopened = rw unopened

    opened : eqb (value_told (open_of s.calls n) 0) 1 ≡ true
        → Among (map unheard (opens (opened_in s.calls n))) (map unheard row ++ opened_now s (addressed n))
    opened is =
        among_is
        (ap (map unheard) (opened_row s.calls n ((open_told s.calls n).0 (eqb-true (value_told (open_of s.calls n) 0) 1 is)))
        ∙ map-append unheard row (call_of (address_in n) ∷ [])
        ∙ ap (λ (more : List Call). map unheard row ++ more) (sym (now_one is)))

    not_opened : eqb (value_told (open_of s.calls n) 0) 1 ≡ false
        → Among (map unheard (opens (opened_in s.calls n))) (map unheard row ++ opened_now s (addressed n))
    not_opened unopened =
        opened_rows s.calls n (λ r. Among (map unheard r) (map unheard row ++ opened_now s (addressed n)))
        (λ o. absurd (eqb-false (value_told (open_of s.calls n) 0) 1 unopened ((open_told s.calls n).1 o)))
        (among_is (sym (ap (λ (more : List Call). map unheard row ++ more) (now_none unopened) ∙ append-nil (map unheard row))))
order s (heard n) =
    let row = opens s.calls in
    rw (append-nil (map unheard row))
    (heard_rows s.calls s.memory n (λ r. Among (map unheard r) (map unheard row))
    (λ b. among_left (vector_place s.calls n) row (vectored_within s.calls n b.vectored))
    (λ v. among_is (map-set_same unheard row (vector_place s.calls n) (vector_given s.calls n) blank refl))
    (among_same (map unheard row)))
order s ended =
    let row = opens s.calls in
    rw (append-nil (map unheard row))
    (ended_by s.calls s.memory (λ t. Among (map unheard (opens t)) (map unheard row)) (among_none (map unheard row)) (among_same (map unheard row)))

-- 01: "in the order opened": after a run, in a frame or over the ends of frames, the open calls are those before and the
-- ones that it opens after them, with some left out
pub run_order : (s : State) (events : List Event)
    → Among (map unheard (opens (after_all s events).calls)) (map unheard (opens s.calls) ++ opened_by s events)
unfolding after_all opened_by
run_order s [] = among_is (sym (append-nil (map unheard (opens s.calls))))
run_order s (event ∷ events) =
    let more = opened_by (after s event) events in
    rw (← append_assoc (map unheard (opens s.calls)) (opened_now s event) more)
    (among_again (run_order (after s event) events) (among_joined (order s event) (among_same more)))

-- 01: "End of frame .. lists those incomplete, in the order opened"
pub end_list : (s : Calls) (memory : List ℕ) → Ended s memory
    → (opens (ended_with s memory) ≡ incomplete_in (opens s) memory) × Among (opens (ended_with s memory)) (opens s)
end_list s memory a = (end_lists s memory a, rw (end_lists s memory a) (among_those _ (opens s)))

-- the list at the end of a frame has as many records as before, where the end is refused too
pub end_length : (s : Calls) (memory : List ℕ) → length (ended_with s memory).calls ≡ length s.calls
unfolding ended_with
end_length s memory =
    ⊎_elim
    (λ taken. rw taken
    (listed_length (length s.calls) (incomplete_in (opens s) memory)
    (omega (arith, those_most (λ c. not (is_complete c memory)) (opens s), (opens_most s).0))))
    (λ refused. rw refused (length-replicate (length s.calls) blank))
    (decided (eqb (number_told (end_of s memory)) 0))

-- ---- areas of their own

-- the calls that have their vector, of what is joined
area_join : (xs ys : List Call) → next_area (xs ++ ys) ≡ next_area xs + next_area ys
area_join xs ys = ap length (those_append has_vector xs ys) ∙ length-append (those has_vector xs) (those has_vector ys)

module _ (row : List Call) (place : ℕ) (within : place < length row) (before : has_vector (get_or row place blank) ≡ false) where
  -- a call without vector is none of them
  area_without : next_area row ≡ next_area (take place row) + next_area (drop (suc place) row)
  area_without =
      ap next_area (split_at row place blank within)
      ∙ area_join (take place row) (get_or row place blank ∷ drop (suc place) row)
      ∙ rw (those_length_cons has_vector (get_or row place blank) (drop (suc place) row), before) (omega arith)

  -- as many calls have their vector when a call without one is left out
  area_left : next_area (left place row) ≡ next_area row
  area_left = rw (add-one place) (area_join (take place row) (drop (suc place) row)) ∙ sym area_without

  -- one more call has its vector when that of the call at the place has come
  area_set : (c : Call) → has_vector c ≡ true → next_area (set row place c) ≡ next_area row + 1
  area_set c has =
      ap next_area (set_split row place c within)
      ∙ area_join (take place row) (c ∷ drop (suc place) row)
      ∙ rw (those_length_cons has_vector c (drop (suc place) row), has, area_without) (omega arith)

-- a row whose calls with vector stood at different places of one that is placed, where as many have their vector
pub placed_by : (row after : List Call) (was : ℕ → ℕ) → Placed row
    → ((i j : ℕ) → was i ≡ was j → i ≡ j)
    → ((i : ℕ) → i < length after → has_vector (get_or after i blank) ≡ true → (was i < length row) × (get_or after i blank ≡ get_or row (was i) blank))
    → next_area after ≡ next_area row
    → Placed after
placed_by row after was placed apart same many =
    record {
      below =
          λ i within has.
          let s = same i within has in
          rw (many, s.1) (placed.below (was i) s.0 (rw s.1 at has));
      apart =
          λ i j within inside has has-too area.
          let a = same i within has in
          let b = same j inside has-too in
          apart i j (placed.apart (was i) (was j) a.0 b.0 (rw a.1 at has) (rw b.1 at has-too) (rw (a.1, b.1) at area));
    }

module _ (row : List Call) (placed : Placed row) where
  -- a call opened: it has no vector yet
  pub added_placed : (c : Call) → has_vector c ≡ false → Placed (row ++ c ∷ [])
  added_placed c before =
      placed_by row (row ++ c ∷ []) (λ i. i) placed (λ i j e. e) same
      (area_join row (c ∷ []) ∙ rw (those_length_cons has_vector c [], before) (omega (arith, those_most has_vector [])))
    where
      same : (i : ℕ) → i < length (row ++ c ∷ []) → has_vector (get_or (row ++ c ∷ []) i blank) ≡ true
          → (i < length row) × (get_or (row ++ c ∷ []) i blank ≡ get_or row i blank)
      same i within has =
          let longer = length-append row (c ∷ []) in
          ⊎_elim
          (λ first. let inside = ltb-true i (length row) first in (inside, get_or-append row (c ∷ []) blank i inside))
          (λ last.
          let here : i ≡ length row = omega (arith, ltb-false i (length row) last, longer) in
          absurd (not_both (has_vector c) (rw (here, get_or-append_seam row c [] blank) at has) before))
          (decided (ltb i (length row)))

  module _ (place : ℕ) (within : place < length row) (before : has_vector (get_or row place blank) ≡ false) where
    -- a call closed that has no vector
    pub left_placed : Placed (left place row)
    left_placed =
        placed_by row (left place row) (place_before place) placed (before_apart place)
        (λ i inside has. (before_within row place within i inside, left_at row place within i))
        (area_left row place within before)

    -- a call that gets its vector, in the next area
    pub set_placed : (c : Call) → has_vector c ≡ true → c.area ≡ next_area row → Placed (set row place c)
    set_placed c has next =
        record {
          below =
              λ i inside with-vector.
              let more = area_set row place within before c has in
              ⊎_elim
              (λ here. rw (at_place i here) (omega arith))
              (λ other.
              let old = at_other i other in
              rw old (omega (arith, placed.below i (rw length-set at inside) (rw old at with-vector))))
              (decided (eqb i place));
          apart =
              λ i j inside within-too with-vector has-too area.
              ⊎_elim
              (λ here.
              ⊎_elim
              (λ here-too. eqb-true i place here ∙ sym (eqb-true j place here-too))
              (λ other. absurd (later j (rw length-set at within-too) other has-too (sym area ∙ ap (λ (x : Call). x.area) (at_place i here))))
              (decided (eqb j place)))
              (λ other.
              ⊎_elim
              (λ here-too. absurd (later i (rw length-set at inside) other with-vector (area ∙ ap (λ (x : Call). x.area) (at_place j here-too))))
              (λ other-too.
              let a = at_other i other in
              let b = at_other j other-too in
              placed.apart i j (rw length-set at inside) (rw length-set at within-too) (rw a at with-vector) (rw b at has-too) (rw (a, b) at area))
              (decided (eqb j place)))
              (decided (eqb i place));
        }
      where
        at_place : (i : ℕ) → eqb i place ≡ true → get_or (set row place c) i blank ≡ c
        at_place i here = rw (eqb-true i place here) (get_or-set_same row place c blank within)

        at_other : (i : ℕ) → eqb i place ≡ false → get_or (set row place c) i blank ≡ get_or row i blank
        at_other i other = get_or-set_other row place i c blank (eqb-false i place other)

        later : (i : ℕ) → i < length row → eqb i place ≡ false → has_vector (get_or (set row place c) i blank) ≡ true
            → (get_or (set row place c) i blank).area ≡ c.area → ⊥
        later i inside other with-vector area =
            let old = at_other i other in
            let less = placed.below i inside (rw old at with-vector) in
            let same : (get_or row i blank).area ≡ c.area = rw old at area in
            omega arith

-- with no call open nothing is placed
pub placed_fresh : (count : ℕ) → Placed (opens (fresh count))
placed_fresh count = record { below = λ i within has. absurd (omega arith); apart = λ i j within inside has has-too area. absurd (omega arith) }

-- an event keeps areas of their own
pub placed_after : (s : State) (event : Event) → Placed (opens s.calls) → Placed (opens (after s event).calls)
placed_after s (addressed n) placed = opened_rows s.calls n Placed (λ o. added_placed (opens s.calls) placed (call_of (address_in n)) refl) placed
placed_after s (heard n) placed =
    heard_rows s.calls s.memory n Placed
    (λ b. left_placed (opens s.calls) placed (vector_place s.calls n) (vectored_within s.calls n b.vectored) b.vectored.first)
    (λ v. set_placed (opens s.calls) placed (vector_place s.calls n) (vectored_within s.calls n v.vectored)
    v.vectored.first (vector_given s.calls n) refl refl)
    placed
placed_after s ended placed = ended_by s.calls s.memory (λ t. Placed (opens t)) (placed_fresh (length s.calls.calls)) placed

-- a run keeps areas of their own
pub run_placed : (s : State) (events : List Event) → Placed (opens s.calls) → Placed (opens (after_all s events).calls)
unfolding after_all
run_placed s [] placed = placed
run_placed s (event ∷ events) placed = run_placed (after s event) events (placed_after s event placed)

-- after each event of a run that begins with no call open the calls have areas of their own
pub fresh_run_placed : (count : ℕ) (memory : List ℕ) (events : List Event)
    → Placed (opens (after_all (record { calls = fresh count; memory = memory }) events).calls)
fresh_run_placed count memory events = run_placed (record { calls = fresh count; memory = memory }) events (placed_fresh count)

-- ---- to the end of the frame

-- where a call that stays stands after an event
abbrev pub event_place : State → Event → ℕ → ℕ
event_place s (addressed n) i = i
event_place s (heard n) i = place_after s.calls s.memory n i
event_place s ended i = i

-- where a call that stays stands after a run
unfoldable pub run_place : State → List Event → ℕ → ℕ
run_place s [] i = i
run_place s (event ∷ events) i = run_place (after s event) events (event_place s event i)

-- 01: "it keeps its place until the end of frame": a call that has its vector is open after a run in the frame, with the same record
pub run_stays : (s : State) (events : List Event) (i : ℕ) → is_in_frame events ≡ true → i < length (opens s.calls)
    → has_vector (get_or (opens s.calls) i blank) ≡ true
    → Stands (get_or (opens s.calls) i blank) (run_place s events i) (opens (after_all s events).calls)
unfolding after_all is_in_frame run_place
run_stays s [] i in_frame inside has = record { within = inside; here = refl }
run_stays s (addressed n ∷ events) i in_frame inside has =
    let one = open_stays s.calls n i inside in
    let rest = run_stays (after s (addressed n)) events i in_frame one.within (rw one.here has) in
    rw one.here at rest
run_stays s (heard n ∷ events) i in_frame inside has =
    let one = with_vector_stays s.calls s.memory n i inside has in
    let rest = run_stays (after s (heard n)) events (event_place s (heard n) i) in_frame one.within (rw one.here has) in
    rw one.here at rest
run_stays s (ended ∷ events) i in_frame inside has = absurd (false≢true in_frame)
