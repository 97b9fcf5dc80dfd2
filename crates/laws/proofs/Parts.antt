-- A part of lent memory: shown as so many elements from a place on; lent on to a function and given back.
use Prim.Native.Nat.{ℕ, ◌+◌, ◌-◌, ◌≤◌, ◌<◌}
use mathlib.Core.List.{List, [], ◌++◌, append_assoc}
use mathlib.Core.Path.{◌≡◌, sym, ap, ◌∙◌}
use native.Mathlib.Nat.{zero-add}
use native.Mathlib.Omega.{arith}
use borrow.Rule.Slice.PartMut.{mid_of, put_mid, Post-is, mid_len}
use lib.ListN.{length, take, drop, take-append-drop, drop_of_length-le, length-drop}
use lib.Seq.{drop-append-le, drop-drop, take-nil, take_all}
use Rattle.laws.specs.Lists.{put}

module _ {A : Type 0} (buffer : List A) (place count : ℕ) where
  -- a part that begins after the buffer's end is empty
  pub part_none : length buffer ≤ place → [] ≡ take count (drop place buffer)
  part_none out = sym (ap (take count) (drop_of_length-le buffer out) ∙ take-nil count)

  -- where the buffer ends before so many, the part is its rest
  pub part_rest : place ≤ length buffer → length buffer - place < count → take (length buffer - place) (drop place buffer) ≡ take count (drop place buffer)
  part_rest within fewer =
      let rest = drop place buffer in
      let room : length rest ≡ length buffer - place = length-drop place buffer in
      take_all (length buffer - place) rest (omega arith) ∙ sym (take_all count rest (omega arith))

  -- else the part is what lies from the place to the end of so many
  pub part_whole : take (place + count - place) (drop place buffer) ≡ take count (drop place buffer)
  part_whole =
      let size : place + count - place ≡ count = omega arith in
      ap (λ (n : ℕ). take n (drop place buffer)) size

module _ {A : Type 0} (buffer : List A) (start end : ℕ) (before : start ≤ end) (within : end ≤ length buffer) where
  -- a part whose elements are given back is what was put at its place
  pub part_put : (part : List A) → length part ≡ end - start → put_mid start (end - start) buffer part ≡ put buffer start part
  part_put part same =
      let ends : start + length part ≡ end = omega arith in
      rw ends
      (ap (λ (rest : List A). take start buffer ++ (part ++ rest)) (Post-is start end buffer before)
      ∙ sym (append_assoc (take start buffer) part (drop end buffer)))

  -- a text that is put at the start of a part is put at the part's place
  pub part_written : (text : List A) → length text ≤ end - start
      → put_mid start (end - start) buffer (put (mid_of start (end - start) buffer) 0 text) ≡ put buffer start text
  part_written text fits =
      let part = mid_of start (end - start) buffer in
      let size : length part ≡ end - start = mid_len start end buffer within in
      let rest : drop (length text) part ++ drop (end - start) (drop start buffer) ≡ drop (start + length text) buffer =
      sym (drop-append-le (length text) part (drop (end - start) (drop start buffer)) (omega arith))
      ∙ ap (drop (length text)) (take-append-drop (end - start) (drop start buffer))
      ∙ drop-drop (length text) start buffer in
      let later = drop (end - start) (drop start buffer) in
      rw (zero-add (length text), append_assoc text (drop (length text) part) later, rest)
      (sym (append_assoc (take start buffer) text (drop (start + length text) buffer)))
