-- The span of a call: the numbers of its message words, and which of its words a word number is.
use Prim.Native.Nat.{ℕ, zero, suc, ◌+◌, ◌-◌, ◌≤◌, ◌<◌}
use mathlib.Core.Bool.{Bool, true, false}
use mathlib.Core.List.{List, [], ◌∷◌}
use mathlib.Core.Logic.{⊎_elim}
use mathlib.Core.Path.{◌≡◌, refl, ap, ◌∙◌}
use native.Mathlib.Nat.{eq-or-lt_of_le}
use native.Mathlib.Omega.{arith}
use borrow.Author.Tests.{eq-eqb, ne_eqb}
use lib.Dec.{eqb}
use lib.ListN.{length, get_or}
use lib.Seq.{take_all}
use Rattle.laws.specs.Lists.{place_in, up_from}
use Rattle.laws.proofs.Lists.{up_length, up_at}
use Rattle.laws.proofs.Rows.{place_found}
use Rattle.laws.proofs.Searches.{found_by}
use Rattle.call.specs.declared.Call.{Call}
use Rattle.call.specs.Calls.{has_vector, is_long, fits, numbers, numbers_of, in_limits}
use Rattle.call.specs.Words.{position}
use Rattle.call.proofs.Records.{InSpan, fits_span, in_limits_lem}

-- ---- a span within its limits

-- a span that fits has 1 to 85 words
pub fits_words : (long : Bool) (vector start words : ℕ) → fits long vector start words ≡ true → (1 ≤ words) × (words ≤ 85)
fits_words long vector start words e =
    let s = (fits_span long vector start words).0 e in
    (s.some_words, s.most_words)

-- ---- the numbers of its words

-- the word numbers of a long address: the word right after the vector, then the rest
numbers_long : (vector start n : ℕ) → numbers true vector start (suc n) ≡ suc vector ∷ up_from start n
numbers_long vector start n =
    let fewer : suc n - 1 ≡ n = omega arith in
    let many = up_length start n in
    rw fewer (ap (λ (rest : List ℕ). suc vector ∷ rest) (take_all n (up_from start n) (omega arith)))

-- the word numbers of a span are as many as its words
numbers_many : (long : Bool) (vector start words : ℕ) → length (numbers long vector start words) ≡ words
numbers_many false vector start words = up_length start words
numbers_many true vector start zero = refl
numbers_many true vector start (suc n) = ap length (numbers_long vector start n) ∙ rw (up_length start n)

-- the k-th word number of a span: of a long address the first stands right after the vector, and all others stand one after the other
abbrev number_at : Bool → ℕ → ℕ → ℕ → ℕ
number_at false vector start k = start + k
number_at true vector start zero = suc vector
number_at true vector start (suc k) = start + k

-- the k-th of the word numbers of a span is that number
number_at_lem : (long : Bool) (vector start words k : ℕ) → k < words → get_or (numbers long vector start words) k 0 ≡ number_at long vector start k
number_at_lem false vector start words k within = up_at start words k within
number_at_lem true vector start zero k within = absurd (omega arith)
number_at_lem true vector start (suc n) zero within = refl
number_at_lem true vector start (suc n) (suc k) within = ap (λ (row : List ℕ). get_or row (suc k) 0) (numbers_long vector start n) ∙ up_at start n k (omega arith)

-- each word number stands after the vector and by word 87
number_within : (long : Bool) (vector start words k : ℕ) → InSpan long vector start words → k < words
    → (vector < number_at long vector start k) × (number_at long vector start k ≤ 87)
number_within false vector start words k s within =
    ⊎_elim (λ alone. absurd (omega (arith, s.some_words))) (λ after. (omega (arith, after.0), omega (arith, after.1))) s.rest
number_within true vector start words zero s within = (omega arith, omega (arith, s.first_word))
number_within true vector start words (suc k) s within =
    ⊎_elim (λ alone. absurd (omega arith)) (λ after. (omega (arith, after.0), omega (arith, after.1))) s.rest

-- the word numbers of a span ascend
number_ascends : (long : Bool) (vector start words j k : ℕ) → InSpan long vector start words → j < k → k < words
    → number_at long vector start j < number_at long vector start k
number_ascends false vector start words j k s before within = omega arith
number_ascends true vector start words j zero s before within = absurd (omega arith)
number_ascends true vector start words zero (suc k) s before within =
    ⊎_elim (λ alone. absurd (omega arith)) (λ after. omega (arith, after.0)) s.rest
number_ascends true vector start words (suc j) (suc k) s before within = omega arith

-- ---- of a call

module _ (c : Call) where
  -- where its vector has come, it has as many numbers as words
  pub numbers_length : has_vector c ≡ true → length (numbers_of c) ≡ c.words
  numbers_length has = rw has (numbers_many (is_long c) c.vector c.start c.words)

  -- of a long address with words, the one after the vector, and then those of its span
  numbers_lead : has_vector c ≡ true → is_long c ≡ true → 1 ≤ c.words → numbers_of c ≡ suc c.vector ∷ up_from c.start (c.words - 1)
  numbers_lead has long some =
      let more : c.words ≡ suc (c.words - 1) = omega arith in
      rw (has, long) (ap (λ (n : ℕ). numbers true c.vector c.start n) more ∙ numbers_long c.vector c.start (c.words - 1))

  -- before its vector has come it has none
  pub numbers_none : has_vector c ≡ false → numbers_of c ≡ []
  numbers_none none = rw none

  -- a call within its limits that has message words has a span that fits
  pub span_within : in_limits c ≡ true → has_vector c ≡ true → 1 ≤ c.words → fits (is_long c) c.vector c.start c.words ≡ true
  span_within good has some =
      ⊎_elim
      (λ none. absurd (omega (arith, none.1, some)))
      (fits_span (is_long c) c.vector c.start c.words).1
      (((in_limits_lem c).0 good).of_span has)

  module _ (word : ℕ) where
    -- of a short address it is the place in the span
    pub position_short : has_vector c ≡ true → is_long c ≡ false → position c word ≡ place_in (up_from c.start c.words) word
    position_short has short = rw (has, short)

    module _ (has : has_vector c ≡ true) (long : is_long c ≡ true) (some : 1 ≤ c.words) where
      -- of a long address the word right after the vector is the first
      pub position-lead : word ≡ suc c.vector → position c word ≡ 0
      unfolding place_in
      position-lead is =
          ap (λ (row : List ℕ). place_in row word) (numbers_lead has long some) ∙ rw (eq-eqb word (suc c.vector) is)

      -- of a long address any other word comes one after its place in the span
      pub position-rest : (word ≡ suc c.vector → ⊥) → position c word ≡ suc (place_in (up_from c.start (c.words - 1)) word)
      unfolding place_in
      position-rest other =
          ap (λ (row : List ℕ). place_in row word) (numbers_lead has long some) ∙ rw (ne_eqb word (suc c.vector) other)

  -- a word number that is one of them stands at its position
  pub position_found : (word : ℕ) → position c word < length (numbers_of c) → get_or (numbers_of c) (position c word) 0 ≡ word
  position_found word held = place_found (numbers_of c) word held

  module _ (has : has_vector c ≡ true) (good : fits (is_long c) c.vector c.start c.words ≡ true) where
    -- the span as 01 has it
    the_span : InSpan (is_long c) c.vector c.start c.words
    the_span = (fits_span (is_long c) c.vector c.start c.words).0 good

    -- the k-th of the numbers
    the_number : (k : ℕ) → k < c.words → get_or (numbers_of c) k 0 ≡ number_at (is_long c) c.vector c.start k
    the_number k within = rw has (number_at_lem (is_long c) c.vector c.start c.words k within)

    -- 01: "must lie after the vector .. and end by word 87": each number does
    pub numbers_after : (k : ℕ) → k < c.words → (c.vector < get_or (numbers_of c) k 0) × (get_or (numbers_of c) k 0 ≤ 87)
    numbers_after k within =
        let is = the_number k within in
        let inside = number_within (is_long c) c.vector c.start c.words k the_span within in
        (omega (arith, inside.0), omega (arith, inside.1))

    -- the call's word numbers ascend
    pub numbers_ascend : (j k : ℕ) → j < k → k < c.words → get_or (numbers_of c) j 0 < get_or (numbers_of c) k 0
    numbers_ascend j k before within =
        let lower = the_number j (omega arith) in
        let higher = the_number k within in
        let less = number_ascends (is_long c) c.vector c.start c.words j k the_span before within in
        omega arith

    -- no two of the call's word numbers are one, and each is found at its own position
    pub position_of : (k : ℕ) → k < c.words → position c (get_or (numbers_of c) k 0) ≡ k
    unfolding place_in
    position_of k within =
        let many = numbers_length has in
        let word = get_or (numbers_of c) k 0 in
        let by = found_by (eqb word) (numbers_of c) 0 k (omega arith) (eq-eqb word word refl) in
        let found = position_found word (omega arith) in
        ⊎_elim
        (λ same. same)
        (λ before. absurd (let less = numbers_ascend (position c word) k before within in omega arith))
        (eq-or-lt_of_le by)
