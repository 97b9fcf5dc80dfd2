-- The first word of a fragment: the numbers in it, and K below them.
use Rattle.std.proofs.Common.{◌≡◌, ℕ, ◌+◌, ◌*◌, ◌<◌, Bool, true, false, T, List, [], ◌∷◌, ◌++◌, refl, arith}
use Rattle.laws.specs.Layouts.{Layout, field, unused, size, fields_of, fit, packed}
use Rattle.laws.proofs.Layouts.{laid, fit_before, fit_other, packed_last, packed_lt, read_packed}
use Rattle.sums.specs.Sums.{whole, ten_bits}
use Rattle.sums.proofs.Laws.{k_unread, sum_fits}
use Rattle.fragment.specs.Fragments.{head_of, words_of, fragment_with, check_in}

-- Tables 44 and 45: what stands above K
abbrev pub above_k : Bool → Layout
above_k true = field 1 ∷ field 1 ∷ field 6 ∷ field 2 ∷ field 1 ∷ []
above_k false = unused 2 ∷ field 6 ∷ field 2 ∷ field 1 ∷ []

-- a head is what stands above K, and K after it
head_parts : (first : Bool) → head_of first ≡ above_k first ++ field 10 ∷ []
head_parts true = refl
head_parts false = refl

-- a head is a word's 21 bits
laid_head : (first : Bool) → T (laid (head_of first))
laid_head true = tt
laid_head false = tt

head_size : (first : Bool) → size (head_of first) ≡ 21
head_size true = refl
head_size false = refl

-- what stands above K fits a word, and so it does with K after it
laid_above : (first : Bool) → T (laid (above_k first))
laid_above true = tt
laid_above false = tt

laid_parts : (first : Bool) → T (laid (above_k first ++ field 10 ∷ []))
laid_parts true = tt
laid_parts false = tt

-- numbers that fit a head fit above K
above_fits : (first : Bool) (head : List ℕ) (k : ℕ) → fit (head_of first) (head ++ k ∷ []) ≡ true → fit (above_k first) head ≡ true
above_fits first head k fits = fit_before (above_k first) head 10 k (rw (head_parts first) at fits)

-- numbers that fit a head with one K fit it with any other
pub fit_with : (first : Bool) (head : List ℕ) (k other : ℕ) → fit (head_of first) (head ++ k ∷ []) ≡ true
    → other < 1024 → fit (head_of first) (head ++ other ∷ []) ≡ true
fit_with first head k other fits small = rw (head_parts first) (fit_other (above_k first) head 10 k other (rw (head_parts first) at fits) small)

module _ (first : Bool) (head : List ℕ) (fits : fit (head_of first) (head ++ 0 ∷ []) ≡ true) where
  module _ (k : ℕ) (small : k < 1024) where
    -- K is the lowest ten bits of the first word
    pub packed_with : packed (head_of first) (head ++ k ∷ []) ≡ packed (above_k first) head * 1024 + k
    packed_with = rw (head_parts first) (packed_last (above_k first) head 10 k (laid_above first) (laid_parts first) (above_fits first head 0 fits) small)

    -- the first word has 21 bits in all
    pub packed_small : packed (head_of first) (head ++ k ∷ []) < 0x200000
    packed_small = rw (head_size first) at (packed_lt (head_of first) (head ++ k ∷ []) (laid_head first) (fit_with first head 0 k fits small))

    -- the numbers are read back
    pub packed_reads : fields_of (head_of first) (packed (head_of first) (head ++ k ∷ [])) ≡ head ++ k ∷ []
    packed_reads = read_packed (head_of first) (head ++ k ∷ []) (laid_head first) (fit_with first head 0 k fits small)

    -- K is read back, whichever fragment it is
    pub k_read : (cells : List ℕ) → check_in (fragment_with first head k cells) ≡ k
    k_read cells = rw packed_with (omega arith)

  -- K is not summed
  pub k_unsummed : (k : ℕ) (cells : List ℕ) → k < 1024 → ten_bits (fragment_with first head k cells) ≡ ten_bits (fragment_with first head 0 cells)
  k_unsummed k cells small =
      k_unread 10 10 _ _ whole (words_of cells) (rw (packed_with k small, packed_with 0 (omega arith)) (omega arith))

-- K of a fragment has ten bits
pub k_small : (words : List ℕ) → ten_bits words < 1024
k_small words = sum_fits 10 10 whole words
