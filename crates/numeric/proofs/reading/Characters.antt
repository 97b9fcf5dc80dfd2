-- The characters' codes in the bits of the words.
use Prim.Native.Nat.{ℕ, suc, ◌+◌, ◌-◌, ◌*◌, ◌/◌, ◌%◌, ◌^◌, ◌≤◌, ◌<◌}
use mathlib.Core.Bool.{true}
use mathlib.Core.Path.{◌≡◌, sym, ap, ◌∙◌}
use mathlib.Core.List.{List, []}
use native.Mathlib.Nat.{add-mul-div_left, mul_assoc, mul_comm, mul-zero, add-zero, mul-add}
use native.Mathlib.Numerals.{add-one}
use native.Mathlib.Omega.{arith}
use lib.ListN.{length, drop, get_or, drop_of_length-le}
use lib.Pow.{pow-add, pow_pos, shr-shr}
use lib.Seq.{drop-cons}
use Rattle.laws.specs.Numerals.{number}
use Rattle.laws.proofs.Numerals.{number_drop, pow_mul}
use Rattle.sums.specs.Words.{undamaged}

-- a word and those after it, from a bit of the word on
from_bit : (place word rest : ℕ) → place < 21 → (word + 2 ^ 21 * rest) / 2 ^ place ≡ word / 2 ^ place + 2 ^ (21 - place) * rest
from_bit place word rest h =
    let both : place + (21 - place) ≡ 21 = omega arith in
    let apart : 2 ^ 21 * rest ≡ 2 ^ place * (2 ^ (21 - place) * rest) =
    ap (λ (n : ℕ). 2 ^ n * rest) (sym both) ∙ rw (pow-add 2 place (21 - place)) (mul_assoc (2 ^ place) (2 ^ (21 - place)) rest) in
    rw apart (add-mul-div_left word (2 ^ (21 - place) * rest) (pow_pos place))

-- a code that ends within its word
pub within_word : (place word rest : ℕ) → place < 18 → (word + 2 ^ 21 * rest) / 2 ^ place % 16 ≡ word / 2 ^ place % 16
within_word place word rest h =
    let four : 21 - place ≡ 4 + (17 - place) = omega arith in
    let times : 2 ^ (21 - place) * rest ≡ 16 * (2 ^ (17 - place) * rest) =
    ap (λ (n : ℕ). 2 ^ n * rest) four ∙ rw (pow-add 2 4 (17 - place)) (mul_assoc (2 ^ 4) (2 ^ (17 - place)) rest) in
    rw (from_bit place word rest (omega arith), times) (omega arith)

-- three factors in another order
swapped : (a b c : ℕ) → a * (b * c) ≡ b * (a * c)
swapped a b c = sym (mul_assoc a b c) ∙ rw (mul_comm a b) (mul_assoc b a c)

-- a code that goes on in the next word
pub over_words : (place word next rest : ℕ) → place < 21
    → (word + 2 ^ 21 * (next + 2 ^ 21 * rest)) / 2 ^ place % 16 ≡ (word / 2 ^ place % 16 + next * 2 ^ (21 - place) % 2 ^ 32 % 16) % 16
over_words place word next rest h =
    let weight = 2 ^ (21 - place) in
    let far : weight * (2 ^ 21 * rest) ≡ 2 ^ 21 * (weight * rest) = swapped weight (2 ^ 21) rest in
    rw (from_bit place word (next + 2 ^ 21 * rest) h, mul-add weight next (2 ^ 21 * rest), mul_comm weight next, far) (omega arith)

module _ (words : List ℕ) (at place : ℕ) (good : undamaged words ≡ true) (inside : at < length words) (bit : place < 21) where
  -- the page's bits from a bit of a word on
  from_word : number (2 ^ 21) words / 2 ^ (21 * at + place) ≡ (get_or words at 0 + 2 ^ 21 * number (2 ^ 21) (drop (suc at) words)) / 2 ^ place
  unfolding number
  from_word =
      sym (shr-shr (number (2 ^ 21) words) (21 * at) place)
      ∙ rw (← pow_mul 2 21 at, number_drop (2 ^ 21) words at good, drop-cons words at 0 inside)

  -- the code there, where it ends within the word
  pub code_within : place < 18 → number (2 ^ 21) words / 2 ^ (21 * at + place) % 16 ≡ get_or words at 0 / 2 ^ place % 16
  code_within low = rw from_word (within_word place (get_or words at 0) (number (2 ^ 21) (drop (suc at) words)) low)

  -- the code there, where no word follows
  pub code_last : at + 1 ≡ length words → number (2 ^ 21) words / 2 ^ (21 * at + place) % 16 ≡ get_or words at 0 / 2 ^ place % 16
  unfolding number
  code_last last =
      let end : length words ≤ suc at = omega arith in
      let none : drop (suc at) words ≡ [] = drop_of_length-le words end in
      rw (from_word, none, mul-zero, add-zero)

  -- the code there, where it goes on in the next word
  pub code_over : at + 1 < length words
      → number (2 ^ 21) words / 2 ^ (21 * at + place) % 16 ≡ (get_or words at 0 / 2 ^ place % 16 + get_or words (at + 1) 0 * 2 ^ (21 - place) % 2 ^ 32 % 16) % 16
  unfolding number
  code_over more =
      let next : suc at < length words = omega arith in
      rw (from_word, drop-cons words (suc at) 0 next, add-one)
      (over_words place (get_or words at 0) (get_or words (suc at) 0) (number (2 ^ 21) (drop (suc (suc at)) words)) bit)

-- the bits after the head and so many characters
pub after_characters : (n head i place : ℕ) → place ≡ head + 4 * i → n / 2 ^ place ≡ n / 2 ^ head / 16 ^ i
after_characters n head i place e = rw (e, ← shr-shr n head (4 * i), ← pow_mul 2 4 i)

-- where a code ends: within its word, in the last word, or in the next
pub ruleset code_ends = (code_within, code_last, code_over)
