-- The keys of calls that were met, each marked by a bit of its own: what a mark says, and one key more marked.
use Prim.Native.Nat.{ℕ, zero, suc, ◌+◌, ◌-◌, ◌*◌, ◌/◌, ◌%◌, ◌^◌, ◌≤◌, ◌<◌, max}
use mathlib.Core.Bool.{Bool, true, false, ◌||◌}
use mathlib.Core.List.{List, [], ◌∷◌}
use mathlib.Core.Logic.{◌≢◌, ⊎_elim}
use mathlib.Core.Path.{◌≡◌, refl, sym, ap, ◌∙◌}
use native.Mathlib.Nat.{div-eq_of_lt, div_self, zero-div, mul-div_cancel, mul-mod_right, pow-succ', eq-or-lt_of_le, max-zero, one-mul}
use native.Mathlib.Omega.{arith}
use borrow.Author.Tests.{eq-eqb, eqb-true, eqb-false, lt-ltb, le-ltb, ltb-true, ltb-false}
use lib.Bits.{bit_or, or_step, or_shr}
use lib.Dec.{ltb, eqb}
use lib.ListN.{length, get_or, set, replicate}
use lib.Pow.{pow_pos, pow-lt, pow-add, shl_exact}
use lib.Seq.{get_or-set_same, get_or-set_other}
use Rattle.laws.specs.Choice.{pick, bit_of}
use Rattle.laws.specs.Lists.{first_that}
use Rattle.laws.proofs.Tests.{decided, not_both, first_of, second_of}
use Rattle.call.specs.declared.Call.{Call}
use Rattle.call.specs.Calls.{is_of, find, holds}

-- ---- bits

-- the last bit of an "or"
last_bit : (a b : ℕ) → bit_or a b % 2 ≡ max (a % 2) (b % 2)
last_bit a b = omega (arith, or_step a b)

-- a power of two has one bit alone
lone_bit : (k j : ℕ) → j ≢ k → 2 ^ k / 2 ^ j % 2 ≡ 0
lone_bit k j apart =
    ⊎_elim
    (λ below.
    let less : j < k = ltb-true j k below in
    let parts : k ≡ suc (k - suc j) + j = omega arith in
    ap (λ (n : ℕ). 2 ^ n / 2 ^ j % 2) parts
    ∙ rw (pow-add 2 (suc (k - suc j)) j, mul-div_cancel (2 ^ suc (k - suc j)) (pow_pos j), pow-succ' 2 (k - suc j), mul-mod_right 2 (2 ^ (k - suc j))))
    (λ above.
    ⊎_elim
    (λ same. absurd (apart (sym same)))
    (λ less. rw (div-eq_of_lt (pow-lt {i = k} {j = j} less)))
    (eq-or-lt_of_le (ltb-false j k above)))
    (decided (ltb j k))

-- a bit that is put into a number is there
with_bit : (m k : ℕ) → bit_or m (2 ^ k) / 2 ^ k % 2 ≡ 1
with_bit m k =
    rw (or_shr m (2 ^ k) k, div_self (pow_pos k)) (last_bit (m / 2 ^ k) 1 ∙ omega arith)

-- a bit that is put into a number leaves the others as they were
other_bit : (m k j : ℕ) → j ≢ k → bit_or m (2 ^ k) / 2 ^ j % 2 ≡ m / 2 ^ j % 2
other_bit m k j apart =
    rw (or_shr m (2 ^ k) j) (last_bit (m / 2 ^ j) (2 ^ k / 2 ^ j) ∙ rw (lone_bit k j apart) (max-zero (m / 2 ^ j % 2)))

-- ---- marks

-- the mark of a key
abbrev pub mark_of : List ℕ → ℕ → ℕ
mark_of marks key = get_or marks (key / 64) 0 / 2 ^ (key % 64) % 2

-- the marks with a key more, as the code makes them
abbrev pub with_mark : List ℕ → ℕ → List ℕ
with_mark marks key = set marks (key / 64) (bit_or (get_or marks (key / 64) 0) (1 * 2 ^ (key % 64) % 2 ^ 64))

-- the bit of a key is one of 64
its_bit : (key : ℕ) → 1 * 2 ^ (key % 64) % 2 ^ 64 ≡ 2 ^ (key % 64)
its_bit key = shl_exact {a = 1} 1 (key % 64) 64 (omega arith) (omega arith) ∙ one-mul (2 ^ (key % 64))

module _ (marks : List ℕ) (key : ℕ) (within : key / 64 < length marks) where
  -- the key is marked
  marks_key : mark_of (with_mark marks key) key ≡ 1
  marks_key =
      rw (its_bit key, get_or-set_same marks (key / 64) (bit_or (get_or marks (key / 64) 0) (2 ^ (key % 64))) 0 within)
      (with_bit (get_or marks (key / 64) 0) (key % 64))

  -- no other key is marked
  marks_no_other : (other : ℕ) → other ≢ key → mark_of (with_mark marks key) other ≡ mark_of marks other
  marks_no_other other apart =
      ⊎_elim
      (λ same.
      let here : other / 64 ≡ key / 64 = eqb-true (other / 64) (key / 64) same in
      rw (its_bit key, here, get_or-set_same marks (key / 64) (bit_or (get_or marks (key / 64) 0) (2 ^ (key % 64))) 0 within)
      (other_bit (get_or marks (key / 64) 0) (key % 64) (other % 64) (λ bit. apart (omega (arith, here, bit)))))
      (λ away. rw (
        its_bit key,
        get_or-set_other marks (key / 64) (other / 64) (bit_or (get_or marks (key / 64) 0) (2 ^ (key % 64))) 0 (eqb-false (other / 64) (key / 64) away),
      ))
      (decided (eqb (other / 64) (key / 64)))

-- ---- the keys of calls

-- the number of a key
abbrev pub key_of : ℕ → ℕ → ℕ
key_of phase vector = phase * 88 + vector

-- the marks are those of a row's keys
abbrev pub Marks : List ℕ → List Call → Type 0
Marks marks row =
    (phase vector : ℕ) → phase ≤ 3 → vector ≤ 87 → mark_of marks (key_of phase vector) ≡ bit_of (holds phase vector row)

-- a row of nothing
zeros : (n k : ℕ) → ◌≡◌ {A = ℕ} (get_or (replicate n 0) k 0) 0
zeros zero k = refl
zeros (suc n) zero = refl
zeros (suc n) (suc k) = zeros n k

-- no marks, no calls
pub none_marked : (n : ℕ) → Marks (replicate n 0) []
unfolding first_that
none_marked n phase vector p v =
    rw (zeros n (key_of phase vector / 64), zero-div (2 ^ (key_of phase vector % 64)))

-- a key has a call in a row where the first is of it, or the rest has one
holds_first : (phase vector : ℕ) (c : Call) (row : List Call) → holds phase vector (c ∷ row) ≡ (is_of phase vector c || holds phase vector row)
unfolding first_that
holds_first phase vector c row = by_test (is_of phase vector c)
  where
    by_test : (this : Bool) → ltb (pick this 0 (suc (find phase vector row))) (suc (length row)) ≡ (this || holds phase vector row)
    by_test true = lt-ltb 0 (suc (length row)) (omega arith)
    by_test false =
        ⊎_elim
        (λ there. lt-ltb (suc (find phase vector row)) (suc (length row)) (omega (arith, ltb-true (find phase vector row) (length row) there)) ∙ sym there)
        (λ none. le-ltb (suc (find phase vector row)) (suc (length row)) (omega (arith, ltb-false (find phase vector row) (length row) none)) ∙ sym none)
        (decided (ltb (find phase vector row) (length row)))

-- one call more, its key marked
pub one_marked : (marks : List ℕ) (c : Call) (row : List Call) → length marks ≡ 6 → c.phase ≤ 3 → c.vector ≤ 87
    → Marks marks row → Marks (with_mark marks (key_of c.phase c.vector)) (c ∷ row)
one_marked marks c row six low few so_far phase vector p v =
    let key = key_of c.phase c.vector in
    let within : key / 64 < length marks = omega arith in
    ⊎_elim
    (λ is.
    let same_phase : c.phase ≡ phase = eqb-true c.phase phase (first_of (eqb c.phase phase) (eqb c.vector vector) is) in
    let same_vector : c.vector ≡ vector = eqb-true c.vector vector (second_of (eqb c.phase phase) (eqb c.vector vector) is) in
    let same : key_of phase vector ≡ key = omega arith in
    ap (mark_of (with_mark marks key)) same ∙ marks_key marks key within
    ∙ sym (ap bit_of (holds_first phase vector c row ∙ ap (λ (this : Bool). this || holds phase vector row) is)))
    (λ none.
    let apart : key_of phase vector ≢ key =
    λ same.
    let same_phase : c.phase ≡ phase = omega arith in
    let same_vector : c.vector ≡ vector = omega arith in
    not_both (is_of phase vector c) (rw (eq-eqb c.phase phase same_phase, eq-eqb c.vector vector same_vector)) none
    in
    marks_no_other marks key within (key_of phase vector) apart ∙ so_far phase vector p v
    ∙ sym (ap bit_of (holds_first phase vector c row ∙ ap (λ (this : Bool). this || holds phase vector row) none)))
    (decided (is_of phase vector c))
