-- A row summed from the front, with more bits than are asked for; K as 0; how many bits of a sum are asked for.
use Rattle.std.proofs.Common.{◌≡◌, ℕ, ◌+◌, ◌*◌, ◌/◌, ◌%◌, ◌^◌, ◌<◌, ◌-◌, ◌≤◌, List, [], ◌∷◌, length, get_or, take, drop, sym, refl, ap, ◌∙◌, ap₂, lt_of_le_of_lt, add-zero, add_assoc, mod-eq_of_lt, div-mul-le_self, add-one, arith, drop_of_length-le}
use native.Mathlib.Nat.{mod-add-mod}
use lib.Pow.{mod-mod-pow}
use lib.Seq.{take_all}
use Rattle.laws.specs.Lists.{sum_by}
use Rattle.laws.proofs.Rows.{sum_from}
use Rattle.sums.specs.Sums.{groups_of, binary_sum, unkeyed, folded}

module _ (rule : ℕ → ℕ) (row : List ℕ) (spare wide so i : ℕ) where
  -- one turn, of whose sum more bits are kept than are asked for: what is taken and what is still to come are what was still to come
  pub one_more : i < length row
      → ((so + rule (get_or row i 0)) % 2 ^ (spare + wide) + sum_by rule (drop (i + 1) row)) % 2 ^ wide ≡ (so + sum_by rule (drop i row)) % 2 ^ wide
  one_more within =
      let sum = so + rule (get_or row i 0) in
      let rest = sum_by rule (drop (i + 1) row) in
      sym (mod-add-mod (sum % 2 ^ (spare + wide)) (2 ^ wide) rest)
      ∙ ap (λ (n : ℕ). (n + rest) % 2 ^ wide) (mod-mod-pow sum spare wide)
      ∙ mod-add-mod sum (2 ^ wide) rest
      ∙ rw (add-one, sum_from rule row i within, add_assoc)

  -- at the end nothing is still to come
  pub none_left : length row ≤ i → (so + sum_by rule (drop i row)) % 2 ^ wide ≡ so % 2 ^ wide
  unfolding sum_by
  none_left done = rw (drop_of_length-le row done, add-zero)

-- a word without its lowest bits is no larger
cleared_fits : (held word : ℕ) → word < 2 ^ 32 → word / 2 ^ held * 2 ^ held % 2 ^ 32 ≡ word / 2 ^ held * 2 ^ held
cleared_fits held word fits = mod-eq_of_lt (lt_of_le_of_lt (div-mul-le_self word (2 ^ held)) fits)

-- K as 0 changes the first word alone
pub unkeyed_sum : (held : ℕ) (words : List ℕ) → 0 < length words → get_or words 0 0 < 2 ^ 32
    → groups_of (get_or words 0 0 / 2 ^ held * 2 ^ held % 2 ^ 32) + binary_sum (take (length words - 1) (drop 1 words)) ≡ binary_sum (unkeyed held words)
unfolding sum_by
unkeyed_sum held [] some fits = absurd (omega arith)
unkeyed_sum held (first ∷ rest) some fits = rw (cleared_fits held first fits, take_all (length (first ∷ rest) - 1) rest (omega arith))

-- no word has no sum
pub empty_sum : (held : ℕ) (words : List ℕ) → length words ≡ 0 → binary_sum (unkeyed held words) ≡ 0
unfolding sum_by
empty_sum held [] none = refl
empty_sum held (first ∷ rest) none = absurd (omega arith)

-- ten bits of a sum say all that is asked of it
pub ten_fold : (sum : ℕ) → folded (sum % 1024) ≡ folded sum
ten_fold sum =
    let top : sum % 1024 / 64 % 4 ≡ sum / 64 % 4 = omega arith in
    let low : sum % 1024 % 64 ≡ sum % 64 = omega arith in
    ap₂ ◌+◌ top low
