-- Texts put into a buffer one after the other, from the front or from the back, and the first part of what is joined.
use Prim.Native.Nat.{ℕ, zero, suc, ◌+◌, ◌-◌, ◌/◌, ◌%◌, ◌^◌, ◌≤◌, ◌<◌}
use mathlib.Core.Path.{◌≡◌, refl, sym, ap, ◌∙◌}
use mathlib.Core.List.{List, [], ◌∷◌, ◌++◌, map, append_assoc, append-nil}
use native.Mathlib.Nat.{add-zero, add_assoc, zero-add}
use native.Mathlib.Numerals.{add-one}
use native.Mathlib.Omega.{arith}
use lib.ListN.{length, get_or, take, drop, set, length-append, take-append-drop, length-drop, drop_of_length-le}
use lib.Seq.{drop-cons, length-take-le, take_all, take-add, take_at, drop_at, take-take, drop-drop, take-append-le}
use lib.Seq.{drop-append-le, drop-append-add, set_split, append_snoc}
use Rattle.laws.specs.Lists.{put}
use Rattle.laws.specs.Numerals.{digits}
use Rattle.laws.proofs.Numerals.{digits_next}

module _ {ℓ} {A : Type ℓ} where
  -- an empty text changes nothing
  pub put_nothing : (buffer : List A) (place : ℕ) → put buffer place [] ≡ buffer
  put_nothing buffer place = rw (append-nil, add-zero) (take-append-drop place buffer)

  -- a store is a text of one
  pub put_one : (buffer : List A) (place : ℕ) (a : A) → place < length buffer → set buffer place a ≡ put buffer place (a ∷ [])
  put_one buffer place a within = set_split buffer place a within ∙ rw (add-one, append_snoc)

  -- a text goes on after what was put
  pub put_after : (buffer xs ys : List A) (place : ℕ) → place ≤ length buffer → put (put buffer place xs) (place + length xs) ys ≡ put buffer place (xs ++ ys)
  put_after buffer xs ys place within =
      let front = take place buffer ++ xs in
      let back = drop (place + length xs) buffer in
      let here : length front ≡ place + length xs =
      length-append (take place buffer) xs ∙ ap (λ (n : ℕ). n + length xs) (length-take-le place buffer within) in
      let rest : drop (place + length xs + length ys) (front ++ back) ≡ drop (place + length xs + length ys) buffer =
      ap (λ (n : ℕ). drop (n + length ys) (front ++ back)) (sym here) ∙ drop-append-add front back (length ys)
      ∙ drop-drop (length ys) (place + length xs) buffer in
      rw (take_at front back (place + length xs) here, rest, length-append xs ys, ← add_assoc place (length xs) (length ys)) (simp append_assoc)

  -- a text goes on after what was put, where what was put, and where it ends, is known by name
  pub put_on : (buffer after xs ys : List A) (place next : ℕ) → place ≤ length buffer
      → after ≡ put buffer place xs → next ≡ place + length xs → put after next ys ≡ put buffer place (xs ++ ys)
  put_on buffer after xs ys place next within is there = rw (is, there) (put_after buffer xs ys place within)

  -- a store, and a text after it
  pub put_next : (buffer text : List A) (place : ℕ) (a : A) → place < length buffer → put (set buffer place a) (suc place) text ≡ put buffer place (a ∷ text)
  put_next buffer text place a within =
      rw (put_one buffer place a within, ← add-one place) (put_after buffer (a ∷ []) text place (omega arith))

  -- a text is put in front of what was put
  pub put_before : (buffer xs ys : List A) (place : ℕ) → place + length xs + length ys ≤ length buffer
      → put (put buffer (place + length xs) ys) place xs ≡ put buffer place (xs ++ ys)
  put_before buffer xs ys place within =
      let front = take (place + length xs) buffer in
      let back = ys ++ drop (place + length xs + length ys) buffer in
      let here : length front ≡ place + length xs = length-take-le (place + length xs) buffer (omega arith) in
      let first : take place (front ++ back) ≡ take place buffer =
      take-append-le place front back (omega arith) ∙ take-take place (place + length xs) buffer (omega arith) in
      rw
      (append_assoc front ys _, first, drop_at front back (place + length xs) here, length-append xs ys, ← add_assoc place (length xs) (length ys))
      (simp append_assoc)

  -- a buffer keeps its length
  pub length_put : (buffer xs : List A) (place : ℕ) → place + length xs ≤ length buffer → length (put buffer place xs) ≡ length buffer
  length_put buffer xs place within =
      let before : length (take place buffer) ≡ place = length-take-le place buffer (omega arith) in
      simp (length-append, length-drop) (omega arith)

  -- a text, one element more, and a text after it
  pub put_joined : (buffer xs ys : List A) (place : ℕ) (a : A) → place + length xs + 1 ≤ length buffer
      → put (set (put buffer place xs) (place + length xs) a) (place + length xs + 1) ys ≡ put buffer place (xs ++ a ∷ ys)
  put_joined buffer xs ys place a within =
      let kept : length (put buffer place xs) ≡ length buffer = length_put buffer xs place (omega arith) in
      let longer : place + length (xs ++ a ∷ []) ≡ place + length xs + 1 =
      ap (λ (n : ℕ). place + n) (length-append xs (a ∷ [])) ∙ sym (add_assoc place (length xs) 1) in
      ap (λ (b : List A). put b (place + length xs + 1) ys)
      (put_one (put buffer place xs) (place + length xs) a (omega arith) ∙ put_after buffer xs (a ∷ []) place (omega arith))
      ∙ ap (λ (n : ℕ). put (put buffer place (xs ++ a ∷ [])) n ys) (sym longer)
      ∙ put_after buffer (xs ++ a ∷ []) ys place (omega arith)
      ∙ ap (put buffer place) (append_snoc xs a ys)

  -- the first n of what is joined, where of the one part the first n are taken before
  pub take_joined : (n : ℕ) (xs ys : List A) → take n (take n xs ++ ys) ≡ take n (xs ++ ys)
  take_joined zero xs ys = refl
  take_joined (suc n) [] ys = refl
  take_joined (suc n) (x ∷ xs) ys = rw (take_joined n xs ys)

  -- a part of what is joined that ends within the first row is a part of it
  pub part_joined : (n place : ℕ) (xs ys : List A) → place + n ≤ length xs → take n (drop place (xs ++ ys)) ≡ take n (drop place xs)
  part_joined n place xs ys within =
      rw (drop-append-le place xs ys (omega arith)) (take-append-le n (drop place xs) ys (simp length-drop (omega arith)))

  -- what was put leaves what stands before it
  pub put_keeps_before : (buffer xs : List A) (place n from : ℕ) → from + n ≤ place → place ≤ length buffer
      → take n (drop from (put buffer place xs)) ≡ take n (drop from buffer)
  put_keeps_before buffer xs place n from before within =
      let here : length (take place buffer) ≡ place = length-take-le place buffer within in
      let back = drop (place + length xs) buffer in
      rw (append_assoc (take place buffer) xs back)
      (part_joined n from (take place buffer) (xs ++ back) (omega arith)
      ∙ sym (part_joined n from (take place buffer) (drop place buffer) (omega arith))
      ∙ rw (take-append-drop place buffer))

  -- what was put leaves all that stands after it
  pub put_keeps_after : (buffer xs : List A) (place from : ℕ) → place + length xs ≤ from → place ≤ length buffer
      → drop from (put buffer place xs) ≡ drop from buffer
  put_keeps_after buffer xs place from past within =
      let front = take place buffer ++ xs in
      let here : length front ≡ place + length xs =
      length-append (take place buffer) xs ∙ ap (λ (n : ℕ). n + length xs) (length-take-le place buffer within) in
      let apart : from ≡ length front + (from - (place + length xs)) = omega arith in
      let again : place + length xs + (from - (place + length xs)) ≡ from = omega arith in
      ap (λ (n : ℕ). drop n (put buffer place xs)) apart
      ∙ drop-append-add front (drop (place + length xs) buffer) (from - (place + length xs))
      ∙ drop-drop (from - (place + length xs)) (place + length xs) buffer
      ∙ rw again

  -- so many from a place on, of the first up to their end
  pub take_from : (buffer : List A) (place n : ℕ) → place ≤ length buffer → drop place (take (place + n) buffer) ≡ take n (drop place buffer)
  take_from buffer place n within =
      rw (take-add place n buffer) (drop_at (take place buffer) (take n (drop place buffer)) place (length-take-le place buffer within))

  -- a text put after what stands from a place on: from there on it is what stood there, then the text
  pub put_grows : (buffer xs : List A) (place n : ℕ) → place + n ≤ length buffer
      → take (n + length xs) (drop place (put buffer (place + n) xs)) ≡ take n (drop place buffer) ++ xs
  put_grows buffer xs place n within =
      let front : length (take (place + n) buffer) ≡ place + n = length-take-le (place + n) buffer within in
      let long : length (take (place + n) buffer ++ xs) ≡ place + n + length xs =
      length-append (take (place + n) buffer) xs ∙ ap (λ (k : ℕ). k + length xs) front in
      let some : length (take n (drop place buffer)) ≡ n = length-take-le n (drop place buffer) (simp length-drop (omega arith)) in
      part_joined (n + length xs) place (take (place + n) buffer ++ xs) (drop (place + n + length xs) buffer) (omega arith)
      ∙ rw (drop-append-le place (take (place + n) buffer) xs (omega arith), take_from buffer place n (omega arith))
      (take_all (n + length xs) (take n (drop place buffer) ++ xs) (simp length-append (omega arith)))

  -- what was put at a place stands there
  pub put_there : (buffer xs : List A) (place : ℕ) → place ≤ length buffer → take (length xs) (drop place (put buffer place xs)) ≡ xs
  put_there buffer xs place within = rw (zero-add, add-zero) at (put_grows buffer xs place 0 (omega arith))

-- a rule applied to each number of a row: one is stored, and the others are still to come
pub put_each : (rule : ℕ → ℕ) (out row : List ℕ) (i : ℕ) → i < length row → i < length out
    → put (set out i (rule (get_or row i 0))) (i + 1) (map rule (drop (i + 1) row)) ≡ put out i (map rule (drop i row))
put_each rule out row i more fits =
    rw (drop-cons row i 0 more, add-one i) (put_next out (map rule (drop (suc i) row)) i (rule (get_or row i 0)) fits)

-- at the end of the row all are stored
pub put_all : (rule : ℕ → ℕ) (out row : List ℕ) (i : ℕ) → length row ≤ i → out ≡ put out i (map rule (drop i row))
put_all rule out row i end = rw (drop_of_length-le row end) (sym (put_nothing out i))

-- digits of a number spelled, so many, each by a rule: one is stored, and the others are still to come
pub spelled_turn : (base : ℕ) (rule : ℕ → ℕ) (out : List ℕ) (room i x : ℕ) → i < room → room ≤ length out
    → put (set out i (rule (x / base ^ i % base))) (i + 1) (map rule (digits base (room - (i + 1)) (x / base ^ (i + 1))))
    ≡ put out i (map rule (digits base (room - i) (x / base ^ i)))
spelled_turn base rule out room i x more fits =
    rw (digits_next base room x i more, add-one i) (put_next out _ i (rule (x / base ^ i % base)) (omega arith))
