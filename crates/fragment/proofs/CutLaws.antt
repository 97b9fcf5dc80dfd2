-- What document 01 promises of a text that is cut: what is accepted, how large the fragments are, that each is read, and that their texts joined are the text.
use Rattle.std.proofs.Common.{◌≡◌, ℕ, zero, suc, ◌+◌, ◌-◌, ◌*◌, ◌%◌, ◌<◌, ◌≤◌, min, Bool, true, false, not, eqb, ltb, ◌↔◌, List, [], ◌∷◌, ◌++◌, map, length, get_or, take, drop, replicate, sym, refl, ap, ◌∙◌, inl, ⊎_elim, mul-le-mul_left, mul-zero, arith, length-drop, length-take, take_all, get_or-take, drop-drop, take-add, ltb-false, le-ltb, lt-ltb, ne_eqb, eqb-true}
use mathlib.Core.Bool.{and-eq-true_iff}
use mathlib.Core.List.{flatten}
use native.Mathlib.Nat.{mod-mod, sub-zero, zero-sub, div_self}
use borrow.Author.Tests.{eqb-false, not-true, not-false}
use lib.Seq.{take-nil, drop-nil, take-append_seam, drop-append-add}
use Rattle.laws.specs.Choice.{pick, bit_of}
use Rattle.laws.specs.Lists.{all, sum_by}
use Rattle.laws.specs.Numerals.{are_digits}
use Rattle.laws.proofs.Bits.{bit_le}
use Rattle.laws.proofs.Rows.{all_append, all_part, all_replicate, all_weaker, parts_next, sum_join}
use Rattle.laws.proofs.Writing.{part_joined}
use Rattle.laws.proofs.Tests.{first_of, second_of}
use Rattle.sums.specs.Sums.{whole, signature_of}
use Rattle.refusal.specs.declared.Refusal.TheVariants as refusals
use Rattle.refusal.specs.Told.{Told, told, given, number_told, value_told}
use Rattle.refusal.proofs.Laws.{passed, plain_ask}
use Rattle.fragment.specs.Fragments.{most_characters, is_size, etx, first_number, is_first, without_fill, text_in, sum_in}
use Rattle.fragment.specs.Answers.{heading_of}
use Rattle.fragment.proofs.Cells.{all_fill}
use Rattle.fragment.proofs.Laws.{size_limits, Good, Held, heading_told_lem, built_good, cells_read, reads}
use Rattle.fragment.specs.declared.Marks.{Marks}
use Rattle.fragment.specs.Cutting.{is_text, sendable, filled, message_of, words_for, fragment_number, continued}
use Rattle.fragment.specs.Cutting.{marked, cells_for, room_for, fragments_for, cells_at, fragment_at, fragments_from}
use Rattle.fragment.specs.Cutting.{cut}
use Rattle.fragment.specs.CutAnswers.{cut_of, words_after, as_cut}
use Rattle.fragment.proofs.CutCounts.{enough, not_too_many, some_fragment, cells_at_length, fragment_length, message_length, count, total}
use Rattle.fragment.proofs.CutHeads.{head_fits}
use Rattle.fragment.proofs.cutting.Writing.{words_before, starts_within, part_size, ends_within}

-- numbers that fit the head, a largest size of 2 to 85 words, and up to 1,008 characters, none over 7FH and none ETX
pub record Cuttable (marks : Marks) (largest : ℕ) (text : List ℕ) : Type 0 where
  pub numbers : marked marks ≡ true
  pub size : is_size largest ≡ true
  pub short : length text ≤ most_characters
  pub characters : sendable text ≡ true

-- ---- what is accepted

module _ (lent : ℕ) (marks : Marks) (largest : ℕ) (text : List ℕ) where
  -- what is accepted is told with the number of fragments and of words
  pub accepted_told : Cuttable marks largest text → fragments_for largest (length text) + words_for (length text) ≤ lent
      → cut_of lent marks largest text ≡ given (fragments_for largest (length text) ∷ (fragments_for largest (length text) + words_for (length text)) ∷ [])
  unfolding cut_of
  accepted_told a room =
      rw (
        a.numbers,
        a.size,
        le-ltb most_characters (length text) a.short,
        a.characters,
        total marks largest text (size_limits largest a.size).0,
        le-ltb lent (fragments_for largest (length text) + words_for (length text)) room,
        count marks largest text,
      )

  -- nothing is refused exactly if the text can be cut and words enough are lent
  pub accepted : (number_told (cut_of lent marks largest text) ≡ 0) ↔
      (Cuttable marks largest text × (fragments_for largest (length text) + words_for (length text) ≤ lent))
  unfolding cut_of
  accepted = (not-refused, λ a. ap number_told (accepted_told a.0 a.1))
    where
      not-refused : number_told (cut_of lent marks largest text) ≡ 0
          → Cuttable marks largest text × (fragments_for largest (length text) + words_for (length text) ≤ lent)
      not-refused e =
          let packet = passed (not (marked marks)) refusals.Packet _ e in
          let size = passed (not (is_size largest)) refusals.Size _ packet.1 in
          let long = passed (ltb most_characters (length text)) refusals.TooLong _ size.1 in
          let character = passed (not (sendable text)) refusals.Character _ long.1 in
          let room = passed _ refusals.Room _ character.1 in
          let good = not-false _ size.0 in (
            record { numbers = not-false _ packet.0; size = good; short = ltb-false _ _ long.0; characters = not-false _ character.0 },
            rw (total marks largest text (size_limits largest good).0) at (ltb-false lent _ room.0),
          )

  -- a refusal tells its number and nothing besides
  pub cut_plain : (number_told (cut_of lent marks largest text) ≡ 0 → ⊥) → cut_of lent marks largest text ≡ told (number_told (cut_of lent marks largest text)) []
  unfolding cut_of
  cut_plain some =
      ⊎_elim (λ none. absurd (some none)) (λ e. e)
      (plain_ask (not (marked marks)) refusals.Packet _
      (plain_ask (not (is_size largest)) refusals.Size _
      (plain_ask (ltb most_characters (length text)) refusals.TooLong _
      (plain_ask (not (sendable text)) refusals.Character _
      (plain_ask (ltb lent (length (flatten (cut marks largest text)))) refusals.Room _ (inl refl))))))

-- ---- the fragments, one by one

module _ (marks : Marks) (largest : ℕ) (text : List ℕ) where
  -- so many fragments from a place on, one of them
  from_at : (place left k : ℕ) → k < left → get_or (fragments_from marks largest text place left) k [] ≡ fragment_at marks largest text (place + k)
  unfolding fragments_from
  from_at place zero k within = absurd (omega arith)
  from_at place (suc left) zero within = let here : place + 0 ≡ place = omega arith in rw here
  from_at place (suc left) (suc k) within =
      let next : place + suc k ≡ suc place + k = omega arith in
      rw next (from_at (suc place) left k (omega arith))

  -- the first k of so many fragments from a place on
  from_take : (place left k : ℕ) → k ≤ left → take k (fragments_from marks largest text place left) ≡ fragments_from marks largest text place k
  unfolding fragments_from
  from_take place left zero within = refl
  from_take place zero (suc k) within = absurd (omega arith)
  from_take place (suc left) (suc k) within =
      ap (λ (row : List (List ℕ)). fragment_at marks largest text place ∷ row) (from_take (suc place) left k (omega arith))

  -- as many fragments as there are, taken from the cut, are all of them
  all_taken : take (fragments_for largest (length text)) (cut marks largest text) ≡ cut marks largest text
  all_taken = take_all (fragments_for largest (length text)) (cut marks largest text) (omega (arith, count marks largest text))

  -- the fragment at a place
  pub at_place : (place : ℕ) → place < fragments_for largest (length text) → get_or (cut marks largest text) place [] ≡ fragment_at marks largest text place
  unfolding cut
  at_place place within =
      let here : 0 + place ≡ place = omega arith in
      rw here at (from_at 0 (fragments_for largest (length text)) place within)

-- ---- how large they are

module _ (marks : Marks) (largest : ℕ) (text : List ℕ) (two : 2 ≤ largest) where
  -- each ends where the largest size does, or where all end
  pub ends : (place : ℕ) → place < fragments_for largest (length text)
      → length (fragment_at marks largest text place) ≡ min largest (fragments_for largest (length text) + words_for (length text) - largest * place)
  ends place within = fragment_length largest text place marks ∙ sym (part_size largest text place two within)

  -- each but the last has the largest size
  pub sizes : (place : ℕ) → place + 1 < fragments_for largest (length text) → length (fragment_at marks largest text place) ≡ largest
  sizes place more = omega (arith, ends place (omega arith), starts_within largest text (place + 1) two more)

  -- the last has at least two words, and with one fewer signature and text would not fit
  pub last_size : let count = fragments_for largest (length text) in
      let last = length (fragment_at marks largest text (count - 1)) in
      (2 ≤ last) × (last ≤ largest) × (cells_for largest * (count - 1) + 3 * (last - 2) < 1 + length text)
  last_size =
      let last = fragments_for largest (length text) - 1 in
      let before = words_before largest text last two (omega (arith, some_fragment largest (length text) two)) in
      rw (fragment_length largest text last marks) (omega arith)

-- an empty text is one fragment of two words
pub empty_text : (marks : Marks) (largest : ℕ) → 2 ≤ largest
    → (cut marks largest [] ≡ fragment_at marks largest [] 0 ∷ []) × (length (fragment_at marks largest [] 0) ≡ 2)
unfolding cut fragments_from
empty_text marks largest two =
    let all : 1 + (largest - 2) ≡ largest - 1 = omega arith in
    let one : fragments_for largest 0 ≡ 1 = rw all (div_self (omega arith)) in
    (rw one, fragment_length largest [] 0 marks ∙ omega arith)

-- ---- what is read of each

-- every cell of a message has seven bits
message_digits : (text : List ℕ) → sendable text ≡ true → are_digits 128 (message_of text) ≡ true
unfolding message_of sendable all
message_digits text good =
    let small : ℕ → Bool = λ c. ltb c 128 in
    let characters = all_weaker is_text small text (λ c e. first_of (ltb c 128) (not (eqb c etx)) e) good in
    let signature : signature_of (filled text) < 128 = omega arith in
    rw (lt-ltb (signature_of (filled text)) 128 signature)
    (all_append small text _ ∙ rw (characters, all_replicate small (2 - length text % 3) etx refl))

-- F is 3 in the first fragment alone
pub first_number_lem : (place : ℕ) → eqb (fragment_number place) first_number ≡ eqb place 0
first_number_lem place = by_test (eqb place 0)
  where
    by_test : (first : Bool) → eqb (pick first first_number ((place - 1) % 3)) first_number ≡ first
    by_test true = refl
    by_test false = ne_eqb ((place - 1) % 3) first_number (λ e. omega arith)

-- the first cell of the message is its signature
signature_first : (largest : ℕ) (text : List ℕ) (place : ℕ) → 2 ≤ largest
    → pick (eqb place 0) (get_or (cells_at largest text place) 0 0) 0 ≡ pick (eqb place 0) (signature_of (filled text)) 0
unfolding message_of
signature_first largest text place two = by_test (eqb place 0) refl
  where
    by_test : (first : Bool) → eqb place 0 ≡ first → pick first (get_or (cells_at largest text place) 0 0) 0 ≡ pick first (signature_of (filled text)) 0
    by_test true e =
        rw (eqb-true place 0 e, mul-zero (cells_for largest))
        (get_or-take (cells_for largest) (message_of text) 0 0 (omega arith))
    by_test false e = refl

-- what the fragment at a place tells: C, F, N, R and M, the signature in the first one, the sum of its cells, and how many characters its text has
abbrev pub heading_with : Marks → ℕ → List ℕ → ℕ → ℕ → Told
heading_with marks largest text place characters =
    let first = eqb place 0 in
    given
    (continued (fragments_for largest (length text) - 1 - place) ∷ fragment_number place ∷ marks.message_number
    ∷ pick first marks.retrieval 0 ∷ pick first marks.mail_drop 0 ∷ pick first (signature_of (filled text)) 0
    ∷ sum_by whole (cells_at largest text place) % 128 ∷ characters ∷ [])

module _ {marks : Marks} {largest : ℕ} {text : List ℕ} (a : Cuttable marks largest text) (place : ℕ)
    (within : place < fragments_for largest (length text)) where
  -- the cells of the fragment at a place are such as a fragment can hold
  pub cells_held : Held (cells_at largest text place)
  cells_held =
      let limits = size_limits largest a.size in
      let long = cells_at_length largest text place in
      let before = words_before largest text place limits.0 within in
      record {
        threes = omega arith;
        least = omega arith;
        most = omega arith;
        seven = all_part (λ c. ltb c 128) (message_of text) (cells_for largest) (cells_for largest * place) (message_digits text a.characters);
      }

  -- what is read of the fragment at a place: its numbers, the signature in the first one, the sum of its cells, and its text
  fragment_reads : let words = fragment_at marks largest text place in
      let part = without_fill (drop (bit_of (eqb place 0)) (cells_at largest text place)) in
      (heading_of words ≡ heading_with marks largest text place (length part)) × (text_in words ≡ part)
  unfolding fragment_at
  fragment_reads =
      let left = fragments_for largest (length text) - 1 - place in
      rw (← signature_first largest text place (size_limits largest a.size).0)
      (reads (eqb place 0) marks.mail_drop marks.retrieval marks.message_number (fragment_number place)
      (continued left) (cells_at largest text place) (first_number_lem place)
      (head_fits marks a.numbers place left) cells_held)

  -- each fragment of a text is good, and tells its own numbers
  pub good : heading_of (fragment_at marks largest text place) ≡ heading_with marks largest text place (length (text_in (fragment_at marks largest text place)))
  good = rw fragment_reads.1 fragment_reads.0

  -- the fragment at a place is good, as every fragment that is built
  pub fragment_good : Good (fragment_at marks largest text place)
  unfolding fragment_at
  fragment_good =
      let left = fragments_for largest (length text) - 1 - place in
      built_good (eqb place 0) _ (cells_at largest text place) (head_fits marks a.numbers place left) cells_held

  -- the fragment at the first place alone is read as a first one
  pub first_alone : is_first (fragment_at marks largest text place) ≡ eqb place 0
  first_alone =
      let told = sym (heading_told_lem (fragment_at marks largest text place) fragment_good) ∙ good in
      ap (λ (t : Told). eqb (value_told t 1) first_number) told ∙ first_number_lem place

  -- the sum that is read of the fragment at a place is that of its cells
  pub sum_at : sum_in (fragment_at marks largest text place) ≡ sum_by whole (cells_at largest text place) % 128
  unfolding fragment_at
  sum_at = rw (cells_read (eqb place 0) _ (cells_at largest text place) cells_held)

-- ---- the text

-- characters of a text, and fill after it: fill is dropped, and no character is
text_part : (text : List ℕ) (fill n place : ℕ) → sendable text ≡ true
    → without_fill (take n (drop place (text ++ replicate fill etx))) ≡ take n (drop place text)
unfolding sendable without_fill all
text_part [] fill n place good =
    let is_fill : ℕ → Bool = λ c. eqb c etx in
    rw (drop-nil place, take-nil n)
    (all_fill (take n (drop place (replicate fill etx))) (all_part is_fill (replicate fill etx) n place (all_replicate is_fill fill etx refl)))
text_part (c ∷ text) fill n (suc place) good = text_part text fill n place ((and-eq-true_iff (is_text c) (sendable text)).0 good).1
text_part (c ∷ text) fill zero zero good = refl
text_part (c ∷ text) fill (suc n) zero good =
    let both = (and-eq-true_iff (is_text c) (sendable text)).0 good in
    let kept : eqb c etx ≡ false = not-true (eqb c etx) (second_of (ltb c 128) (not (eqb c etx)) both.0) in
    rw kept (ap (λ (row : List ℕ). c ∷ row) (text_part text fill n zero both.1))

-- the characters of a text in the fragment at a place: the first one has a signature before them
abbrev pub part_at : ℕ → List ℕ → ℕ → List ℕ
part_at largest text place = take (cells_for largest - bit_of (eqb place 0)) (drop (cells_for largest * place - 1) text)

-- what is read of the fragment at a place is its part of the text
part_is : (size : ℕ) (text : List ℕ) (place : ℕ) → 1 ≤ size → sendable text ≡ true
    → without_fill (drop (bit_of (eqb place 0)) (take size (drop (size * place) (message_of text))))
    ≡ take (size - bit_of (eqb place 0)) (drop (size * place - 1) text)
unfolding message_of
part_is zero text place some good = absurd (omega arith)
part_is (suc size) text zero some good =
    let fewer : suc size - 1 ≡ size = omega arith in
    rw (mul-zero (suc size), fewer) (text_part text (2 - length text % 3) size 0 good)
part_is (suc size) text (suc place) some good =
    let cells : suc size * suc place ≡ suc (size + suc size * place) = omega arith in
    let fewer : suc (size + suc size * place) - 1 ≡ size + suc size * place = omega arith in
    rw (cells, fewer, ne_eqb (suc place) 0 (λ e. omega arith), sub-zero (suc size))
    (text_part text (2 - length text % 3) (suc size) (size + suc size * place) good)

-- the characters of a text in its first fragments, so many of them
abbrev pub text_so_far : ℕ → List ℕ → ℕ → List ℕ
text_so_far largest text so = take (cells_for largest * so - 1) text

-- a part and those after it, where the first of all is shorter by one
parts_short : (size place left : ℕ) → 1 ≤ size
    → let short = bit_of (eqb place 0) in (size - short + size * left ≡ size * suc left - short) × (size * place - 1 + (size - short) ≡ size * suc place - 1)
parts_short size zero left some = omega arith
parts_short size (suc place) left some = rw (ne_eqb (suc place) 0 (λ e. omega arith)) (omega arith)

module _ {marks : Marks} {largest : ℕ} {text : List ℕ} (a : Cuttable marks largest text) where
  -- the text of the fragment at a place
  pub text_at : (place : ℕ) → place < fragments_for largest (length text) → text_in (fragment_at marks largest text place) ≡ part_at largest text place
  text_at place within =
      (fragment_reads a place within).1
      ∙ part_is (cells_for largest) text place (omega (arith, (size_limits largest a.size).0)) a.characters

  -- the texts of so many fragments from a place on
  texts_from : (place left : ℕ) → place + left ≤ fragments_for largest (length text)
      → flatten (map text_in (fragments_from marks largest text place left))
      ≡ take (cells_for largest * left - bit_of (eqb place 0)) (drop (cells_for largest * place - 1) text)
  unfolding fragments_from flatten
  texts_from place zero within = rw (mul-zero (cells_for largest), zero-sub)
  texts_from place (suc left) within =
      let size = cells_for largest in
      let short = bit_of (eqb place 0) in
      let parts = parts_short size place left (omega (arith, (size_limits largest a.size).0)) in
      let rest : flatten (map text_in (fragments_from marks largest text (suc place) left)) ≡ take (size * left) (drop (size * suc place - 1) text) =
      rw (ne_eqb (suc place) 0 (λ e. omega arith), sub-zero (size * left)) at (texts_from (suc place) left (omega arith)) in
      rw (
        text_at place (omega arith),
        rest,
        ← parts.0,
        take-add (size - short) (size * left) (drop (size * place - 1) text),
        drop-drop (size - short) (size * place - 1) text,
        parts.1,
      )

  -- the texts of the first fragments, so many of them, joined
  pub text_so_far_lem : (so : ℕ) → so ≤ fragments_for largest (length text) → flatten (map text_in (take so (cut marks largest text))) ≡ text_so_far largest text so
  unfolding cut
  text_so_far_lem so within =
      rw (from_take marks largest text 0 (fragments_for largest (length text)) so within) (texts_from 0 so (omega arith) ∙ rw (mul-zero (cells_for largest)))

  -- the text of the first fragments with that of the next joined to it
  pub text_step : (so : ℕ) → so < fragments_for largest (length text)
      → text_so_far largest text so ++ text_in (fragment_at marks largest text so) ≡ text_so_far largest text (suc so)
  text_step so within =
      let size = cells_for largest in
      let parts = parts_short size so 0 (omega (arith, (size_limits largest a.size).0)) in
      rw (text_at so within, ← parts.1) (sym (take-add (size * so - 1) (size - bit_of (eqb so 0)) text))

  -- the text of all fragments is the whole text
  pub text_ends : text_so_far largest text (fragments_for largest (length text)) ≡ text
  text_ends =
      take_all (cells_for largest * fragments_for largest (length text) - 1) text
      (omega (arith, enough largest (length text) (size_limits largest a.size).0))

  -- the texts of all fragments joined are the text
  pub texts : flatten (map text_in (cut marks largest text)) ≡ text
  texts =
      (rw (all_taken marks largest text) at (text_so_far_lem (fragments_for largest (length text)) (omega arith))) ∙ text_ends

  -- the last fragment of a text that is not empty has a character of it
  pub last_speaks : 1 ≤ length text → 1 ≤ length (text_in (fragment_at marks largest text (fragments_for largest (length text) - 1)))
  last_speaks some =
      let two = (size_limits largest a.size).0 in
      rw (text_at (fragments_for largest (length text) - 1) (omega (arith, some_fragment largest (length text) two)), length-take, length-drop)
      (omega (arith, not_too_many largest (length text) two, bit_le (eqb (fragments_for largest (length text) - 1) 0)))

-- ---- how full they are

-- 01, "that large and full": a fragment of so many words whose text fills its room
pub record Full (largest : ℕ) (words : List ℕ) : Type 0 where
  pub large : length words ≡ largest
  pub filling : length (text_in words) ≡ room_for (is_first words) largest

-- 01, "the shortest that holds the rest, never under two words, and has a character of the text unless the text is empty":
-- a fragment of two words, or of so many that fewer have no room for its text
pub record Shortest (largest : ℕ) (text words : List ℕ) : Type 0 where
  pub least : 2 ≤ length words
  pub most : length words ≤ largest
  pub needed : (fewer : ℕ) → 2 ≤ fewer → fewer < length words → room_for (is_first words) fewer < length (text_in words)
  pub speaks : 1 ≤ length text → 1 ≤ length (text_in words)

-- what 01 says of the fragments of a text, whoever cut it: "Every fragment but the last is that large and full;
-- the last is the shortest that holds the rest", and all of them together hold the text
pub record WellCut (largest : ℕ) (text : List ℕ) (fragments : List (List ℕ)) : Type 0 where
  pub some : 1 ≤ length fragments
  pub full : (place : ℕ) → place + 1 < length fragments → Full largest (get_or fragments place [])
  pub shortest : Shortest largest text (get_or fragments (length fragments - 1) [])
  pub whole_text : flatten (map text_in fragments) ≡ text

-- the first of all fragments has nothing before it; each other begins with a character
begins : (largest place : ℕ) (first : Bool) → 2 ≤ largest → eqb place 0 ≡ first
    → pick first (cells_for largest * place ≡ 0) (1 ≤ cells_for largest * place)
begins largest place true two e = rw (eqb-true place 0 e) (mul-zero (cells_for largest))
begins largest place false two e =
    let later : 1 ≤ place = omega (arith, eqb-false place 0 e) in
    omega (arith, mul-le-mul_left (cells_for largest) later)

-- where the text goes on after a fragment, it fills the fragment's room
room_filled : (largest place characters : ℕ) (first : Bool) → 2 ≤ largest → eqb place 0 ≡ first
    → cells_for largest * (place + 1) ≤ characters
    → min (cells_for largest - bit_of first) (characters - (cells_for largest * place - 1)) ≡ room_for first largest
room_filled largest place characters true two e more = omega (arith, begins largest place true two e)
room_filled largest place characters false two e more = omega (arith, begins largest place false two e)

-- what is less than each of two numbers is less than the smaller
less_than_both : (a b c : ℕ) → a < b → a < c → a < min b c
less_than_both a b c one other = omega arith

-- where signature and text do not fit one word fewer, the text has no room in fewer
room_needed : (largest place characters last fewer : ℕ) (first : Bool) → eqb place 0 ≡ first → last ≤ largest
    → cells_for largest * place + 3 * (last - 2) < 1 + characters → 2 ≤ fewer → fewer < last
    → room_for first fewer < min (cells_for largest - bit_of first) (characters - (cells_for largest * place - 1))
room_needed largest place characters last fewer first e most more least less =
    less_than_both _ _ _ (within first) (left first e)
  where
    within : (first : Bool) → room_for first fewer < cells_for largest - bit_of first
    within true = omega arith
    within false = omega arith

    left : (first : Bool) → eqb place 0 ≡ first → room_for first fewer < characters - (cells_for largest * place - 1)
    left true e = omega (arith, begins largest place true (omega arith) e)
    left false e = omega (arith, begins largest place false (omega arith) e)

module _ {marks : Marks} {largest : ℕ} {text : List ℕ} (a : Cuttable marks largest text) where
  -- how many characters the fragment at a place has: as many as there is room for, or what is left
  characters_at : (place : ℕ) → place < fragments_for largest (length text)
      → length (text_in (fragment_at marks largest text place)) ≡ min (cells_for largest - bit_of (eqb place 0)) (length text - (cells_for largest * place - 1))
  characters_at place within = rw (text_at a place within, length-take, length-drop)

  -- each fragment but the last is full
  full_at : (place : ℕ) → place + 1 < fragments_for largest (length text) → Full largest (fragment_at marks largest text place)
  full_at place more =
      let two = (size_limits largest a.size).0 in
      let on : cells_for largest * (place + 1) ≤ length text = omega (arith, words_before largest text (place + 1) two more) in
      record {
        large = sizes marks largest text two place more;
        filling =
            rw (characters_at place (omega arith), first_alone a place (omega arith))
            (room_filled largest place (length text) (eqb place 0) two refl on);
      }

  -- the last fragment is the shortest that holds the rest
  shortest_last : Shortest largest text (fragment_at marks largest text (fragments_for largest (length text) - 1))
  shortest_last =
      let two = (size_limits largest a.size).0 in
      let place = fragments_for largest (length text) - 1 in
      let within : place < fragments_for largest (length text) = omega (arith, some_fragment largest (length text) two) in
      let size = last_size marks largest text two in
      record {
        least = size.0;
        most = size.1;
        needed = λ fewer least less.
            rw (characters_at place within, first_alone a place within)
            (room_needed largest place (length text) _ fewer (eqb place 0) refl size.1 size.2 least less);
        speaks = last_speaks a;
      }

  -- a text that is cut is cut as 01 says
  pub well_cut : WellCut largest text (cut marks largest text)
  well_cut =
      let some = some_fragment largest (length text) (size_limits largest a.size).0 in
      record {
        some = rw (count marks largest text) some;
        full = λ place more.
            let inside : place + 1 < fragments_for largest (length text) = rw (count marks largest text) at more in
            rw (at_place marks largest text place (omega arith)) (full_at place inside);
        shortest =
            rw (count marks largest text, at_place marks largest text (fragments_for largest (length text) - 1) (omega arith))
            shortest_last;
        whole_text = texts a;
      }

-- ---- the sum

-- the cells of a text's first fragments, so many of them, summed
abbrev pub sum_so_far : ℕ → List ℕ → ℕ → ℕ
sum_so_far largest text so = sum_by whole (take (cells_for largest * so) (message_of text)) % 128

-- the signature is such that all cells of a message make 127
pub message_sum : (text : List ℕ) → sum_by whole (message_of text) % 128 ≡ 127
unfolding message_of sum_by
message_sum text = omega arith

-- a sum and a sum that is reduced
sum_reduced : (here rest all : ℕ) → rest % 128 ≡ all % 128 → (here % 128 + rest) % 128 ≡ (here + all) % 128
sum_reduced here rest all same = omega arith

module _ {marks : Marks} {largest : ℕ} {text : List ℕ} (a : Cuttable marks largest text) where
  -- the sums of so many fragments from a place on
  sums_from : (place left : ℕ) → place + left ≤ fragments_for largest (length text)
      → sum_by whole (map sum_in (fragments_from marks largest text place left)) % 128
      ≡ sum_by whole (take (cells_for largest * left) (drop (cells_for largest * place) (message_of text))) % 128
  unfolding fragments_from sum_by
  sums_from place zero within = rw (mul-zero (cells_for largest))
  sums_from place (suc left) within =
      rw (
        sum_at a place (omega arith),
        parts_next (cells_for largest) (message_of text) place left,
        sum_join whole (cells_at largest text place) (take (cells_for largest * left) (drop (cells_for largest * suc place) (message_of text))),
      )
      (sum_reduced (sum_by whole (cells_at largest text place)) _ _ (sums_from (suc place) left (omega arith)))

  -- the sums of the first fragments, so many of them, added
  pub sum_so_far_lem : (so : ℕ) → so ≤ fragments_for largest (length text)
      → sum_by whole (map sum_in (take so (cut marks largest text))) % 128 ≡ sum_so_far largest text so
  unfolding cut
  sum_so_far_lem so within =
      rw (from_take marks largest text 0 (fragments_for largest (length text)) so within) (sums_from 0 so (omega arith) ∙ rw (mul-zero (cells_for largest)))

  -- the sum of the first fragments with that of the next added to it
  pub sum_step : (so : ℕ) → so < fragments_for largest (length text)
      → (sum_so_far largest text so + sum_in (fragment_at marks largest text so)) % 128 ≡ sum_so_far largest text (suc so)
  sum_step so within =
      let size = cells_for largest in
      let more : size * suc so ≡ size * so + size = omega arith in
      rw (sum_at a so within, more, take-add (size * so) size (message_of text), sum_join whole (take (size * so) (message_of text)) (cells_at largest text so))
      (sum_reduced (sum_by whole (take (size * so) (message_of text))) _ _ (mod-mod (sum_by whole (cells_at largest text so)) 128))

  -- the sum of all fragments is 127: signature, text and fill
  pub sum_ends : sum_so_far largest text (fragments_for largest (length text)) ≡ 127
  sum_ends =
      let all : length (message_of text) ≤ cells_for largest * fragments_for largest (length text) =
      omega (arith, message_length text, enough largest (length text) (size_limits largest a.size).0) in
      rw (take_all (cells_for largest * fragments_for largest (length text)) (message_of text) all) (message_sum text)

  -- the sums of all fragments make 127
  pub running_sum : sum_by whole (map sum_in (cut marks largest text)) % 128 ≡ 127
  running_sum =
      (rw (all_taken marks largest text) at (sum_so_far_lem (fragments_for largest (length text)) (omega arith))) ∙ sum_ends

-- ---- the fragments one after the other

module _ (marks : Marks) (largest : ℕ) (text : List ℕ) (two : 2 ≤ largest) where
  -- from a place on, one of them begins at a multiple of the largest size
  part_from : (place left k : ℕ) → place + left ≡ fragments_for largest (length text) → k < left
      → let words = fragment_at marks largest text (place + k) in take (length words)
      (drop (largest * k) (flatten (fragments_from marks largest text place left)))
      ≡ words
  unfolding fragments_from flatten
  part_from place zero k all within = absurd (omega arith)
  part_from place (suc left) zero all within =
      let here : place + 0 ≡ place = omega arith in
      rw (here, mul-zero largest) (take-append_seam (fragment_at marks largest text place) (flatten (fragments_from marks largest text (suc place) left)))
  part_from place (suc left) (suc k) all within =
      let next : place + suc k ≡ suc place + k = omega arith in
      let size : length (fragment_at marks largest text place) ≡ largest = sizes marks largest text two place (omega arith) in
      let later : largest * suc k ≡ length (fragment_at marks largest text place) + largest * k = omega arith in
      rw (next, later, drop-append-add (fragment_at marks largest text place) (flatten (fragments_from marks largest text (suc place) left)) (largest * k))
      (part_from (suc place) left k (omega arith) (omega arith))

  -- the fragment at a place begins at so many times the largest size
  pub part_at_lem : (place : ℕ) → place < fragments_for largest (length text)
      → take (length (fragment_at marks largest text place)) (drop (largest * place) (flatten (cut marks largest text))) ≡ fragment_at marks largest text place
  unfolding cut
  part_at_lem place within =
      let here : 0 + place ≡ place = omega arith in
      rw here at (part_from 0 (fragments_for largest (length text)) place (omega arith) within)

-- ---- in lent memory

-- the part of the lent words that holds the fragment at a place
abbrev pub lent_part : ℕ → ℕ → List ℕ → ℕ → List ℕ
lent_part largest words row place = take (min largest (words - largest * place)) (drop (largest * place) row)

-- what was cut into lent words stands there fragment by fragment: each begins at so many times the largest size, ends
-- where the next begins or where all end, and is read
pub there_and_back : (marks : Marks) (largest : ℕ) (text lent : List ℕ) (place : ℕ)
    → let answer = as_cut (cut_of (length lent) marks largest text) in
    let part = lent_part largest answer.words (words_after marks largest text lent) place in
    answer.number ≡ 0 → place < answer.fragments
    → (part ≡ fragment_at marks largest text place)
    × (heading_of part ≡ heading_with marks largest text place (length (part_at largest text place)))
    × (text_in part ≡ part_at largest text place)
there_and_back marks largest text lent place e within =
    let fragment = fragment_at marks largest text place in
    let fragments = flatten (cut marks largest text) in
    let accept = (accepted (length lent) marks largest text).0 e in
    let a = accept.0 in
    let two = (size_limits largest a.size).0 in
    let told = accepted_told (length lent) marks largest text a accept.1 in
    let inside : place < fragments_for largest (length text) = rw told at within in
    let stands = part_at_lem marks largest text two place inside in
    let ended : largest * place + length fragment ≤ length fragments = rw (total marks largest text two) (ends_within marks largest text two place inside) in
    let part : lent_part largest (fragments_for largest (length text) + words_for (length text)) (fragments ++ drop (0 + length fragments) lent) place
    ≡ fragment =
    rw (← ends marks largest text two place inside)
    (part_joined (length fragment) (largest * place) fragments (drop (0 + length fragments) lent) ended ∙ stands) in
    rw (told, part) (refl, rw (← text_at a place inside) (good a place inside), text_at a place inside)
