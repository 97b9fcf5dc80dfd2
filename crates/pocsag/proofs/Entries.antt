-- 02, item 5: the rule of the table, "shown once for the whole table: the named bits have that remainder, and where none stands no one or two bits have it".
use Prim.Native.Nat.{ℕ, zero, suc, ◌+◌, ◌*◌, ◌%◌, ◌^◌, ◌≤◌, ◌<◌}
use mathlib.Core.Bool.{Bool, true, false, not, ◌&&◌, ◌||◌}
use mathlib.Core.List.{List, [], ◌∷◌}
use mathlib.Core.Logic.{◌⊎◌, ⊎_elim, inl, inr}
use mathlib.Core.Path.{◌≡◌, refl, sym, ◌∙◌}
use native.Mathlib.Nat.{eq-or-lt_of_le, zero-add, one-mul}
use native.Mathlib.Omega.{arith}
use borrow.Author.Tests.{eqb-true, ltb-true, ne_eqb}
use lib.Dec.{T, ltb, eqb, eqb→eq}
use lib.ListN.{length, get_or}
use lib.Pow.{shl_exact}
use mir.Facts.{and_yes}
use Rattle.laws.specs.Choice.{pick}
use Rattle.laws.proofs.Counting.{all_below, of_all_below}
use Rattle.laws.proofs.Tests.{not_both, first_of, second_of, other_of}
use Rattle.pocsag.specs.Codewords.{divided, remainder_of, bits_named, names_bits, has_remainder, named_up_to, wrong_bits}
use Rattle.pocsag.specs.MendingPieces.{PartRight, TablesRight}

-- the first half of the rule at a remainder: an entry names no bits, or one or two that have the remainder
abbrev named_right : ℕ → ℕ → Bool
named_right remainder entry = eqb entry 0 || ltb entry 1024 && has_remainder remainder entry

-- the first half of the rule, of the entries for a remainder and those after it
abbrev pub rows_right : ℕ → List ℕ → Bool
rows_right remainder [] = true
rows_right remainder (entry ∷ rows) = named_right remainder entry && rows_right (suc remainder) rows

-- the second half of the rule, of one or two bits: the entry for their remainder names them
abbrev found_right : List ℕ → ℕ → Bool
found_right table entry = not (names_bits entry) || eqb (get_or table (remainder_of (bits_named entry)) 0) entry

-- the rule of a whole table, as it is computed
abbrev pub table_right : List ℕ → Bool
table_right table = rows_right 0 table && all_below (found_right table) 1024

-- a test that is passed where it is no longer than T
so : (test : Bool) → T test → test ≡ true
so true t = refl
so false t = elim t [ ]

-- each row of a table that passes the first half of the rule does
row_right : (remainder : ℕ) (rows : List ℕ) → T (rows_right remainder rows) → (k : ℕ) → T (named_right (remainder + k) (get_or rows k 0))
row_right remainder [] t k = tt
row_right remainder (entry ∷ rows) t zero =
    let same : remainder + 0 ≡ remainder = omega arith in
    rw same (and_yes (named_right remainder entry) (rows_right (suc remainder) rows) t).0
row_right remainder (entry ∷ rows) t (suc k) =
    let next : remainder + suc k ≡ suc remainder + k = omega arith in
    rw next (row_right (suc remainder) rows (and_yes (named_right remainder entry) (rows_right (suc remainder) rows) t).1 k)

-- a search either finds bits that have the remainder, or there are none up to its bound
pub searched : (n remainder : ℕ)
    → ((has_remainder remainder (named_up_to n remainder) ≡ true) × (named_up_to n remainder ≤ n))
    ⊎ ((named_up_to n remainder ≡ 0) × ((entry : ℕ) → 1 ≤ entry → entry ≤ n → has_remainder remainder entry ≡ false))
unfolding named_up_to
searched zero remainder = inr (refl, λ entry some few. absurd (omega arith))
searched (suc n) remainder = by_last (has_remainder remainder (suc n)) refl (searched n remainder)
  where
    by_last : (last : Bool) → has_remainder remainder (suc n) ≡ last
        → ((has_remainder remainder (named_up_to n remainder) ≡ true) × (named_up_to n remainder ≤ n))
        ⊎ ((named_up_to n remainder ≡ 0) × ((entry : ℕ) → 1 ≤ entry → entry ≤ n → has_remainder remainder entry ≡ false))
        → ((has_remainder remainder (pick last (suc n) (named_up_to n remainder)) ≡ true) × (pick last (suc n) (named_up_to n remainder) ≤ suc n))
        ⊎ ((pick last (suc n) (named_up_to n remainder) ≡ 0) × ((entry : ℕ) → 1 ≤ entry → entry ≤ suc n → has_remainder remainder entry ≡ false))
    by_last true here before = inl (here, omega arith)
    by_last false here (inl (found, few)) = inl (found, omega arith)
    by_last false here (inr (none, all)) = inr (none, λ entry some few. ⊎_elim (λ e. rw e here) (λ less. all entry some (omega arith)) (eq-or-lt_of_le few))

-- a table that passes the test of the whole rule has at each remainder the one or two bits that have it, or none
pub table_entry : (table : List ℕ) → T (table_right table) → (remainder : ℕ) → get_or table remainder 0 ≡ wrong_bits remainder
table_entry table right remainder = ⊎_elim found none (searched 1023 remainder)
  where
    halves : T (rows_right 0 table) × T (all_below (found_right table) 1024)
    halves = and_yes (rows_right 0 table) (all_below (found_right table) 1024) right

    found : (has_remainder remainder (wrong_bits remainder) ≡ true) × (wrong_bits remainder ≤ 1023) → get_or table remainder 0 ≡ wrong_bits remainder
    found (has, few) =
        let entry = wrong_bits remainder in
        let names : names_bits entry ≡ true = first_of (names_bits entry) _ has in
        let its : remainder_of (bits_named entry) ≡ remainder = eqb-true _ _ (second_of (names_bits entry) _ has) in
        let there : T (found_right table entry) = of_all_below (found_right table) 1024 halves.1 entry (omega (arith, few)) in
        eqb→eq _ _ (rw (names, its) at there)

    none : (wrong_bits remainder ≡ 0) × ((entry : ℕ) → 1 ≤ entry → entry ≤ 1023 → has_remainder remainder entry ≡ false)
        → get_or table remainder 0 ≡ wrong_bits remainder
    none (zeros, all) =
        by-entry (get_or table remainder 0) (so _ (row_right 0 table halves.0 remainder)) ∙ sym zeros
      where
        by-entry : (entry : ℕ) → named_right (0 + remainder) entry ≡ true → entry ≡ 0
        by-entry zero here = refl
        by-entry (suc n) here =
            let other : eqb (suc n) 0 ≡ false = ne_eqb (suc n) 0 (λ e. omega (arith, e)) in
            let both : (ltb (suc n) 1024 && has_remainder remainder (suc n)) ≡ true =
            rw (zero-add remainder) at (other_of (eqb (suc n) 0) _ here other) in
            let few : suc n < 1024 = ltb-true (suc n) 1024 (first_of (ltb (suc n) 1024) _ both) in
            let has : has_remainder remainder (suc n) ≡ true = second_of (ltb (suc n) 1024) _ both in
            absurd (not_both _ has (all (suc n) (omega arith) (omega (arith, few))))

-- a one that is shifted within 32 bits is a power of two
pub one_shifted : (place : ℕ) → place < 32 → 1 * 2 ^ place % 2 ^ 32 ≡ 2 ^ place
one_shifted place within = shl_exact {a = 1} 1 place 32 (omega arith) (omega arith) ∙ one-mul (2 ^ place)

-- an entry is below 1,024
pub wrong_most : (remainder : ℕ) → wrong_bits remainder < 1024
wrong_most remainder =
    ⊎_elim (λ found. omega (arith, found.1)) (λ none. omega (arith, none.0)) (searched 1023 remainder)

-- ---- the two tables of the code

-- whether a row has, from a place on, the remainders of the numbers below a bound times a power of x, as it is computed
abbrev part_test : List ℕ → ℕ → ℕ → ℕ → Bool
part_test parts from bound power = all_below (λ n. eqb (get_or parts (from + n) 0) (divided 21 (n * 2 ^ power))) bound

-- a row that passes the test has them
part_right : (parts : List ℕ) (from bound power : ℕ) → T (part_test parts from bound power) → PartRight parts from bound power
part_right parts from bound power t n within =
    eqb→eq _ _ (of_all_below (λ n. eqb (get_or parts (from + n) 0) (divided 21 (n * 2 ^ power))) bound t n within)

-- a table and a row of remainders that pass the tests, which are computed, are right
pub tables_right : (table parts : List ℕ) → length table ≡ 1024 → T (table_right table) → length parts ≡ 160
    → T (part_test parts 0 32 10) → T (part_test parts 32 32 15) → T (part_test parts 64 32 20) → T (part_test parts 96 64 25)
    → TablesRight table parts
tables_right table parts size right parts-size one two three four =
    record {
      size = size;
      entries = table_entry table right;
      remainders = record {
        size = parts-size;
        first = part_right parts 0 32 10 one;
        second = part_right parts 32 32 15 two;
        third = part_right parts 64 32 20 three;
        fourth = part_right parts 96 64 25 four;
      };
    }
