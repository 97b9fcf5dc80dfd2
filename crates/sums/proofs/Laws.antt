-- What document 01 and S8.8.6 say of the sums: no bit above a word's 21 is looked at, K is never part of its own sum, and a sum fits its bits.
use Rattle.std.proofs.Common.{◌≡◌, ℕ, ◌/◌, ◌%◌, ◌^◌, ◌<◌, List, ◌∷◌, ap, ◌∙◌, arith}
use native.Mathlib.Nat.{mod-mod}
use lib.Pow.{field, mod-mod-pow, ones_sub-lt}
use Rattle.sums.specs.Sums.{groups_of, checksum}

-- bits above the 21 of a word are not looked at
pub high_unread : (word : ℕ) → groups_of (word % 2 ^ 21) ≡ groups_of word
high_unread word =
    let first : word % 2 ^ 21 % 2 ^ 8 ≡ word % 2 ^ 8 = omega arith in
    let second : word % 2 ^ 21 / 2 ^ 8 % 2 ^ 8 ≡ word / 2 ^ 8 % 2 ^ 8 =
    ap (λ (n : ℕ). n % 2 ^ 8) (field word 13 8) ∙ mod-mod-pow (word / 2 ^ 8) 5 8 in
    let third : word % 2 ^ 21 / 2 ^ 16 % 2 ^ 5 ≡ word / 2 ^ 16 % 2 ^ 5 =
    ap (λ (n : ℕ). n % 2 ^ 5) (field word 5 16) ∙ mod-mod (word / 2 ^ 16) (2 ^ 5) in
    rw (first, second, third)

-- K is never part of its own sum: words that differ in the first word's K bits alone have the same
pub k_unread : (held wide first other : ℕ) (rule : ℕ → ℕ) (rest : List ℕ) → first / 2 ^ held ≡ other / 2 ^ held
    → checksum held rule wide (first ∷ rest) ≡ checksum held rule wide (other ∷ rest)
k_unread held wide first other rule rest same = rw same

-- a sum fits its bits
pub sum_fits : (held wide : ℕ) (rule : ℕ → ℕ) (words : List ℕ) → checksum held rule wide words < 2 ^ wide
sum_fits held wide rule words = ones_sub-lt wide _
