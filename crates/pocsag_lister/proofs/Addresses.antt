-- Digits written from the last to the first.
use Prim.Native.Nat.{ℕ, suc, ◌+◌, ◌/◌, ◌%◌, ◌≤◌, ◌<◌}
use mathlib.Core.List.{List, [], ◌∷◌}
use mathlib.Core.Path.{◌≡◌, sym, ap, ◌∙◌}
use native.Mathlib.Numerals.{add-one}
use native.Mathlib.Omega.{arith}
use lib.ListN.{length, set}
use Rattle.laws.specs.Lists.{put}
use Rattle.laws.proofs.Writing.{put_one, put_before}
use Rattle.capcode.specs.Text.{digits}
use Rattle.capcode.proofs.Writes.{length_digits}

-- one digit is written at a place; those before it are still to come
digit_set : (out : List ℕ) (start rest n : ℕ) → start + suc n ≤ length out
    → put (set out (start + n) (48 + rest % 10)) start (digits n (rest / 10)) ≡ put out start (digits (suc n) rest)
unfolding digits
digit_set out start rest n room =
    let digit = (48 + rest % 10) ∷ [] in
    let wide : length (digits n (rest / 10)) ≡ n = length_digits n (rest / 10) in
    let fits : start + length (digits n (rest / 10)) + 1 ≤ length out = omega arith in
    let one : start + n < length out = omega arith in
    ap (λ (b : List ℕ). put b start (digits n (rest / 10)))
    (put_one out (start + n) (48 + rest % 10) one ∙ ap (λ (k : ℕ). put out (start + k) digit) (sym wide))
    ∙ put_before out (digits n (rest / 10)) digit start fits

-- the same from the first place on
pub digit_written : (out : List ℕ) (rest n : ℕ) → n < length out
    → put (set out n (48 + rest % 10)) 0 (digits n (rest / 10)) ≡ put out 0 (digits (n + 1) rest)
digit_written out rest n room =
    let there : 0 + n ≡ n = omega arith in
    rw (add-one n) (rw there at (digit_set out 0 rest n (omega arith)))
