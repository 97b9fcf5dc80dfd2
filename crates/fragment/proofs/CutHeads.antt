-- First words: how large their numbers are, and what they make.
use Rattle.std.proofs.Common.{◌≡◌, ℕ, zero, suc, ◌+◌, ◌-◌, ◌*◌, ◌%◌, ◌<◌, true, false, ◌&&◌, eqb, ltb, [], ◌∷◌, ◌++◌, sym, ◌∙◌, zero-add, arith, ltb-true, lt-ltb, eq-eqb, ne_eqb}
use mathlib.Core.Bool.{and-true}
use Rattle.laws.specs.Choice.{pick}
use Rattle.laws.specs.Layouts.{fit, packed}
use Rattle.laws.proofs.Layouts.{packed_is}
use Rattle.laws.proofs.Tests.{first_of, second_of}
use Rattle.fragment.specs.Fragments.{head_of}
use Rattle.fragment.specs.declared.Marks.{Marks}
use Rattle.fragment.specs.Cutting.{fragment_number, continued, head_at, marked}

-- a place after the first
no_first : (n : ℕ) → eqb (suc n) 0 ≡ false
no_first n = ne_eqb (suc n) 0 (λ same. omega (arith, same))

-- C has one bit
pub continued_small : (left : ℕ) → continued left < 2
continued_small zero = omega arith
continued_small (suc left) = rw (no_first left) (omega arith)

module _ (marks : Marks) (good : marked marks ≡ true) where
  -- what the question says
  each : (ltb marks.mail_drop 2 && ltb marks.retrieval 2 && ltb marks.message_number 64) ≡ true
  each = sym (and-true _) ∙ sym (and-true _) ∙ sym (and-true _) ∙ good

  -- M, R and N fit their bits
  pub marks_small : (marks.mail_drop < 2) × (marks.retrieval < 2) × (marks.message_number < 64)
  marks_small =
      let two = first_of (ltb marks.mail_drop 2 && ltb marks.retrieval 2) (ltb marks.message_number 64) each in (
        ltb-true _ _ (first_of (ltb marks.mail_drop 2) (ltb marks.retrieval 2) two),
        ltb-true _ _ (second_of (ltb marks.mail_drop 2) (ltb marks.retrieval 2) two),
        ltb-true _ _ (second_of (ltb marks.mail_drop 2 && ltb marks.retrieval 2) (ltb marks.message_number 64) each),
      )

  -- every fragment's numbers fit its head
  pub head_fits : (place left : ℕ) → fit (head_of (eqb place 0)) (head_at marks place left ++ 0 ∷ []) ≡ true
  head_fits zero left =
      let small = marks_small in
      rw (
        lt-ltb marks.mail_drop 2 small.0,
        lt-ltb marks.retrieval 2 small.1,
        lt-ltb marks.message_number 64 small.2,
        lt-ltb (continued left) 2 (continued_small left),
      )
  head_fits (suc place) left =
      let small = marks_small in
      rw (
        no_first place,
        lt-ltb marks.message_number 64 small.2,
        lt-ltb ((suc place - 1) % 3) 4 (omega arith),
        lt-ltb (continued left) 2 (continued_small left),
      )

  -- a first word is its numbers, each times the weight of its place
  head_is : (place left : ℕ)
      → packed (head_of (eqb place 0)) (head_at marks place left ++ 0 ∷ [])
      ≡ pick (eqb place 0) (marks.mail_drop * 0x100000 + marks.retrieval * 0x80000) 0
      + (marks.message_number * 0x2000 + fragment_number place * 0x800 + continued left * 0x400)
  head_is zero left = packed_is (head_of true) (head_at marks zero left ++ 0 ∷ []) tt (head_fits zero left) ∙ omega arith
  head_is (suc place) left =
      rw (no_first place)
      (packed_is (head_of false) (marks.message_number ∷ (suc place - 1) % 3 ∷ continued left ∷ 0 ∷ []) tt
      (rw (no_first place) at (head_fits (suc place) left))
      ∙ omega arith)

  -- the first word of the first fragment has M and R among its numbers
  pub head_first : (place left : ℕ) → place ≡ 0
      → packed (head_of (eqb place 0)) (head_at marks place left ++ 0 ∷ [])
      ≡ marks.mail_drop * 0x100000 + marks.retrieval * 0x80000 + (marks.message_number * 0x2000 + fragment_number place * 0x800 + continued left * 0x400)
  head_first place left first = head_is place left ∙ rw (eq-eqb place 0 first)

  -- the first word of every other fragment has neither M nor R
  pub head_later : (place left : ℕ) → (place ≡ 0 → ⊥)
      → packed (head_of (eqb place 0)) (head_at marks place left ++ 0 ∷ [])
      ≡ marks.message_number * 0x2000 + fragment_number place * 0x800 + continued left * 0x400
  head_later place left later = head_is place left ∙ rw (ne_eqb place 0 later) (zero-add _)
