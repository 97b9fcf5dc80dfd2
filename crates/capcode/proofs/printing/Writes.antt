-- Digits written from the last to the first, and a text put together.
use Prim.Native.Nat.{ℕ, zero, suc, ◌+◌, ◌-◌, ◌*◌, ◌/◌, ◌%◌, ◌≤◌, ◌<◌}
use mathlib.Core.Path.{◌≡◌, sym, ap, ◌∙◌}
use mathlib.Core.List.{List, [], ◌∷◌}
use native.Mathlib.Omega.{arith}
use lib.ListN.{length, set}
use Rattle.laws.specs.Lists.{put}
use Rattle.laws.proofs.Writing.{put_one, put_before, put_joined}
use Rattle.capcode.specs.declared.Capcode.{Capcode}
use Rattle.capcode.specs.Text.{digits, width_of, head_width, text_of}
use Rattle.capcode.proofs.Writes.{length_digits, text_numbers}

module _ (out : List ℕ) (place rest : ℕ) where
  -- one digit is written; those before it are still to come
  turn : (n : ℕ) → place + suc n ≤ length out → put (set out (place + n) (48 + rest % 10)) place (digits n (rest / 10)) ≡ put out place (digits (suc n) rest)
  unfolding digits
  turn n room =
      let digit = (48 + rest % 10) ∷ [] in
      let wide : length (digits n (rest / 10)) ≡ n = length_digits n (rest / 10) in
      let fits : place + length (digits n (rest / 10)) + 1 ≤ length out = omega arith in
      let one : place + n < length out = omega arith in
      ap (λ (b : List ℕ). put b place (digits n (rest / 10)))
      (put_one out (place + n) (48 + rest % 10) one ∙ ap (λ (k : ℕ). put out (place + k) digit) (sym wide))
      ∙ put_before out (digits n (rest / 10)) digit place fits

  -- the same by how many are left
  pub write_turn : (left : ℕ) → 0 < left → place + left ≤ length out
      → put (set out (place + (left - 1)) (48 + rest % 10)) place (digits (left - 1) (rest / 10)) ≡ put out place (digits left rest)
  write_turn zero some room = absurd (omega arith)
  write_turn (suc n) some room =
      let same : suc n - 1 ≡ n = omega arith in
      rw same (turn n room)

-- the head, the letter and the address written one after the other are the text
pub text_written : (c : Capcode) (buffer : List ℕ) → c.collapse ≤ 9 → head_width c + (1 + width_of c.address) ≤ length buffer
    → put (set (put buffer 0 (digits (head_width c) (c.frame * 10 + c.collapse))) (head_width c) c.letter)
    (head_width c + 1) (digits (width_of c.address) c.address)
    ≡ put buffer 0 (text_of c)
text_written c buffer small room =
    let xs = digits (head_width c) (c.frame * 10 + c.collapse) in
    let ys = digits (width_of c.address) c.address in
    let wide : length xs ≡ head_width c = length_digits (head_width c) (c.frame * 10 + c.collapse) in
    let here : head_width c ≡ 0 + length xs = omega arith in
    ap (λ (n : ℕ). put (set (put buffer 0 xs) n c.letter) (n + 1) ys) here
    ∙ put_joined buffer xs ys 0 c.letter (omega arith)
    ∙ ap (put buffer 0) (sym (text_numbers c small))
