-- The last ones of a row that pass a test: how many there are, what stands before them, and how they are counted from the row's end on.
use Prim.Native.Nat.{ℕ, zero, suc, ◌+◌, ◌-◌, ◌≤◌, ◌<◌}
use mathlib.Core.Bool.{Bool, true, false}
use mathlib.Core.List.{List, [], ◌∷◌, ◌++◌, reverse}
use mathlib.Core.Logic.{◌↔◌, ⊎_elim}
use mathlib.Core.Path.{◌≡◌, refl, sym, ap, ◌∙◌}
use native.Mathlib.Nat.{add-zero, sub-zero, zero-add}
use native.Mathlib.Omega.{arith}
use lib.ListN.{length, get_or, take, drop, drop_of_length-le, length-drop, take-append-drop}
use lib.Seq.{take_all, take-suc, length-take-le, drop-append-le}
use mir.Val.{bool_byte}
use Rattle.std.specs.List.{suffix_len, take_while}
use Rattle.std.proofs.lemmas.List.Folds.{length-prefix_len}
use Rattle.std.proofs.lemmas.List.Sums.{suffix_len-take_yes, suffix_len-take_no}
use Rattle.laws.specs.Choice.{pick}
use Rattle.laws.specs.Lists.{all, last_after, last_that}
use Rattle.laws.proofs.Rows.{all_append}
use Rattle.laws.proofs.Tests.{first_of, second_of, decided}

module _ (test : ℕ → Bool) where
  -- what follows a row has the row's last ones before it
  pub last_append : (n : ℕ) (row more : List ℕ) → last_after test n (row ++ more) ≡ last_after test (last_after test n row) more
  unfolding last_after
  last_append n [] more = refl
  last_append n (x ∷ row) more = last_append (pick (test x) (suc n) 0) row more

  -- a number more is one of the last ones more where it passes, and else there are none
  pub last_grow : (row : List ℕ) (k : ℕ) → k < length row
      → last_that test (take (suc k) row) ≡ pick (test (get_or row k 0)) (suc (last_that test (take k row))) 0
  unfolding last_after
  last_grow row k within = rw (take-suc row k 0 within, last_append 0 (take k row) (get_or row k 0 ∷ []))

  -- ---- what stands before the last ones

  -- a row without its last ones
  abbrev pub before_last : List ℕ → List ℕ
  before_last row = take (length row - last_that test row) row

  -- the last ones themselves
  abbrev pub last_ones : List ℕ → List ℕ
  last_ones row = drop (length row - last_that test row) row

  -- the beginning of a row is numbers that end in none that passes, and after them so many that pass
  record Parted (row : List ℕ) (k last : ℕ) : Type 0 where
    few : last ≤ k
    before : last_that test (take (k - last) row) ≡ 0
    each : all test (drop (k - last) (take k row)) ≡ true

  -- every beginning of a row is, so that none of its last ones is missed and none is counted that stands elsewhere
  parted : (row : List ℕ) (k : ℕ) → k ≤ length row → Parted row k (last_that test (take k row))
  unfolding last_after all
  parted row zero within = record { few = omega arith; before = refl; each = refl }
  parted row (suc k) within =
      rw (last_grow row k within) (by_test (test (get_or row k 0)) refl (last_that test (take k row)) (parted row k (omega arith)))
    where
      by_test : (good : Bool) → test (get_or row k 0) ≡ good → (last : ℕ) → Parted row k last → Parted row (suc k) (pick good (suc last) 0)
      by_test true here last p =
          let same : suc k - suc last ≡ k - last = omega (arith, p.few) in
          let long : k - last ≤ length (take k row) = omega (arith, length-take-le k row (omega arith)) in
          record {
            few = omega (arith, p.few);
            before = rw same p.before;
            each =
                rw (
                  same,
                  take-suc row k 0 within,
                  drop-append-le (k - last) (take k row) (get_or row k 0 ∷ []) long,
                  all_append test (drop (k - last) (take k row)) (get_or row k 0 ∷ []),
                  p.each,
                  here,
                );
          }
      by_test false here last p =
          let none : length (take (suc k) row) ≤ suc k - 0 = omega (arith, length-take-le (suc k) row within) in
          record {
            few = omega arith;
            before = rw (sub-zero (suc k)) (last_grow row k within ∙ rw here);
            each = rw (drop_of_length-le (take (suc k) row) none);
          }

  module _ (row : List ℕ) where
    -- the whole of a row is parted so
    whole_parted : Parted row (length row) (last_that test row)
    whole_parted = rw (take_all (length row) row (omega arith)) at (parted row (length row) (omega arith))

    -- there are no more last ones than numbers
    pub last_few : last_that test row ≤ length row
    last_few = whole_parted.few

    -- a row is what stands before its last ones, and these
    pub last_parted : row ≡ before_last row ++ last_ones row
    last_parted = sym (take-append-drop (length row - last_that test row) row)

    -- what stands before the last ones ends in none that passes
    pub before_ends : last_that test (before_last row) ≡ 0
    before_ends = whole_parted.before

    -- the last ones are as many as are counted
    pub last_length : length (last_ones row) ≡ last_that test row
    last_length = length-drop (length row - last_that test row) row ∙ omega (arith, last_few)

    -- each of the last ones passes
    pub last_pass : all test (last_ones row) ≡ true
    last_pass = rw (take_all (length row) row (omega arith)) at whole_parted.each

  -- to have none at the end is to be empty, or to end in a number that does not pass
  pub ends_in_none : (row : List ℕ) → (last_that test row ≡ 0) ↔ (0 < length row → test (get_or row (length row - 1) 0) ≡ false)
  unfolding last_after
  ends_in_none row = (last-fails row, fails-last row)
    where
      grown : (row : List ℕ) → 0 < length row → let k = length row - 1 in last_that test row ≡ pick (test (get_or row k 0)) (suc (last_that test (take k row))) 0
      grown row some =
          let k = length row - 1 in
          ap (last_that test) (sym (take_all (suc k) row (omega arith))) ∙ last_grow row k (omega arith)

      last-fails : (row : List ℕ) → last_that test row ≡ 0 → 0 < length row → test (get_or row (length row - 1) 0) ≡ false
      last-fails row none some =
          ⊎_elim
          (λ (good : test (get_or row (length row - 1) 0) ≡ true).
          let one : last_that test row ≡ suc (last_that test (take (length row - 1) row)) = grown row some ∙ rw good in
          absurd (omega (arith, none, one)))
          (λ bad. bad)
          (decided (test (get_or row (length row - 1) 0)))

      fails-last : (row : List ℕ) → (0 < length row → test (get_or row (length row - 1) 0) ≡ false) → last_that test row ≡ 0
      fails-last [] other = refl
      fails-last (x ∷ row) other =
          let some : 0 < length (x ∷ row) = omega arith in
          grown (x ∷ row) some ∙ rw (other some)

  -- numbers that all pass are counted with those that stood before them
  all_counted : (n : ℕ) (row : List ℕ) → all test row ≡ true → last_after test n row ≡ n + length row
  unfolding last_after all
  all_counted n [] pass = sym (add-zero n)
  all_counted n (x ∷ row) pass = rw (first_of (test x) (all test row) pass) (all_counted (suc n) row (second_of (test x) (all test row) pass) ∙ omega arith)

  -- numbers after a row that all pass are counted with the row's last ones
  pub last_joined : (row more : List ℕ) → all test more ≡ true → last_that test (row ++ more) ≡ last_that test row + length more
  last_joined row more pass = last_append 0 row more ∙ all_counted (last_that test row) more pass

  -- no other number parts a row so: where it ends in none that passes before some that all do, these are its last ones
  pub only_last : (rest more : List ℕ) → last_that test rest ≡ 0 → all test more ≡ true → last_that test (rest ++ more) ≡ length more
  only_last rest more none pass = last_joined rest more pass ∙ rw none (zero-add (length more))

  -- ---- how they are counted

  -- a count from the end of a row on: what was counted, with what is still to be counted, is the same after each number
  pub record Counted (row : List ℕ) (count left : ℕ) : Type 0 where
    pub within : count + left ≤ length row
    pub whole : count + last_that test (take left row) ≡ last_that test row

  -- one number is looked at: before one that passes the count goes on, and before another it ends
  pub look_back : (row : List ℕ) (count left : ℕ) (good : Bool) → test (get_or row (left - 1) 0) ≡ good → 0 < left
      → Counted row count left → Counted row (count + bool_byte good) (pick good (left - 1) 0)
  unfolding last_after
  look_back row count zero good here some counted = absurd (omega arith)
  look_back row count (suc k) good here some counted =
      let back : suc k - 1 ≡ k = omega arith in
      rw back (by_test good (rw back at here))
    where
      by_test : (good : Bool) → test (get_or row k 0) ≡ good → Counted row (count + bool_byte good) (pick good k 0)
      by_test true here =
          let grown : last_that test (take (suc k) row) ≡ suc (last_that test (take k row)) = last_grow row k (omega (arith, counted.within)) ∙ rw here in
          record { within = omega (arith, counted.within); whole = omega (arith, counted.whole, grown) }
      by_test false here =
          let none : last_that test (take (suc k) row) ≡ 0 = last_grow row k (omega (arith, counted.within)) ∙ rw here in
          record { within = omega (arith, counted.within); whole = omega (arith, counted.whole, none) }

  -- at first all is still to be counted
  pub count_starts : (row : List ℕ) → Counted row 0 (length row)
  count_starts row = record { within = omega arith; whole = rw (take_all (length row) row (omega arith)) (zero-add (last_that test row)) }

  -- at the end all is counted
  pub count_ends : (row : List ℕ) (count left : ℕ) → left ≤ 0 → Counted row count left → count ≡ last_that test row
  unfolding last_after
  count_ends row count zero end counted = omega (arith, counted.whole)
  count_ends row count (suc k) end counted = absurd (omega arith)

  -- a number counts for one at most
  pub counted_most : (row : List ℕ) (count left : ℕ) (good : Bool) → 0 < left → Counted row count left → count + bool_byte good ≤ length row
  counted_most row count left true some counted = omega (arith, counted.within)
  counted_most row count left false some counted = omega (arith, counted.within)

  -- the first numbers of a row have as many last ones as they begin with, read from their end on
  last_from_end : (row : List ℕ) (k : ℕ) → k ≤ length row → suffix_len test (take k row) ≡ last_that test (take k row)
  unfolding last_after
  last_from_end row zero within = refl
  last_from_end row (suc k) within =
      let back : suc k - 1 ≡ k = omega arith in
      ⊎_elim
      (λ (good : test (get_or row k 0) ≡ true).
      suffix_len-take_yes test row (suc k) 0 (omega arith) within (rw back good)
      ∙ rw (back, last_grow row k (omega arith), good, last_from_end row k (omega arith)) (omega arith))
      (λ (bad : test (get_or row k 0) ≡ false).
      suffix_len-take_no test row (suc k) 0 (omega arith) within (rw back bad)
      ∙ rw (last_grow row k (omega arith), bad))
      (decided (test (get_or row k 0)))

  -- a row's last ones are what it begins with, read from its end on
  last_backwards : (row : List ℕ) → suffix_len test row ≡ last_that test row
  last_backwards row = rw (take_all (length row) row (omega arith)) at (last_from_end row (length row) (omega arith))

  -- so many numbers pass, read from the row's end on and no further than to one that does not
  pub counted_backwards : (row : List ℕ) → length (take_while test (reverse row)) ≡ last_that test row
  counted_backwards row = length-prefix_len test (reverse row) ∙ last_backwards row

-- fewer numbers are still to be looked at after one of them
pub fewer_left : (left : ℕ) (good : Bool) → 0 < left → pick good (left - 1) 0 < left
fewer_left left true some = omega arith
fewer_left left false some = some
