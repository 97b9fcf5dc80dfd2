-- What document 01 promises of numeric pages, for any set of characters: what is accepted, how many words are used,
-- K, that what was written is read, and that no zero is lost.
use Prim.Native.Nat.{ℕ, zero, suc, ◌+◌, ◌-◌, ◌*◌, ◌/◌, ◌%◌, ◌^◌, ◌≤◌, ◌<◌}
use Prim.Native.Char.{code}
use mathlib.Core.Bool.{Bool, true, false}
use mathlib.Core.List.{List, [], ◌∷◌, ◌++◌, map}
use mathlib.Core.Logic.{◌↔◌}
use mathlib.Core.Path.{◌≡◌, refl, sym, ap, ◌∙◌}
use native.Mathlib.Nat.{add_assoc, div-add-mod, div-eq_of_lt, lt_of_lt_of_le}
use native.Mathlib.Omega.{arith}
use borrow.Author.Tests.{eq-eqb, le-leb, le-ltb, lt-ltb, ltb-false, not-false}
use lib.Dec.{ltb}
use lib.ListN.{length, get_or, take, drop, replicate}
use lib.Pow.{field, pow_mono}
use lib.Seq.{take-append_seam}
use Rattle.laws.specs.Layouts.{size, bits_at, fit}
use Rattle.laws.specs.Lists.{put, place_in}
use Rattle.laws.specs.Numerals.{number, digits}
use Rattle.laws.proofs.Layouts.{bits_above, bits_are}
use Rattle.laws.proofs.Numerals.{digits_are, digits_low, digit_bits, pow_mul}
use Rattle.laws.proofs.Rows.{all_append, all_replicate, map_at}
use Rattle.laws.proofs.Tests.{first_of, second_of}
use Rattle.sums.specs.Sums.{six_bits}
use Rattle.packet.specs.Vectors.{is_numeric}
use Rattle.refusal.specs.declared.Refusal.TheVariants as refusals
use Rattle.refusal.specs.Told.{refused, given, number_told}
use Rattle.refusal.proofs.Laws.{passed}
use Rattle.numeric.specs.declared.Numbering.{Numbering}
use Rattle.numeric.specs.declared.PageRead.{PageRead}
use Rattle.sums.specs.Words.{word_bits, undamaged}
use Rattle.numeric.specs.Pages.{Set, set_with, spaced, spaces_at_end, most_words, head_of, room_of, words_for, filled, row_of, words_with}
use Rattle.numeric.specs.Pages.{check_of, in_vector, page_of, text_in, is_numbered, in_set, headed, checked}
use Rattle.numeric.specs.Answers.{flags_of, written_of, words_after, as_written, read_of, text_after, as_read}
use Rattle.numeric.proofs.Bits.{some_word, room_enough, page_length, filled_length, head_read, k_of_page}
use Rattle.numeric.proofs.Bits.{k_in_word, head_sent, codes_digits, row_below, number_page, above_head}
use Rattle.numeric.proofs.Bits.{text_read}
use Rattle.numeric.proofs.Codes.{sixteen_of, space_of}

-- a set of sixteen characters, the space among them
pub record Usable (set : Set) : Type 0 where
  pub sixteen : length set ≡ 16
  pub space : place_in set (code " ") < 16

-- each set of Table 39 is such a set
pub usable_set : (chinese : Bool) → Usable (set_with chinese)
usable_set chinese = record { sixteen = sixteen_of chinese; space = rw (space_of chinese) (omega arith) }

-- what a page can hold: numbers that fit its head, and characters of the set
pub record Fits (set : Set) (numbered : Bool) (flags text : List ℕ) : Type 0 where
  pub head : fit (head_of numbered) (flags ++ 0 ∷ []) ≡ true
  pub known : in_set set text ≡ true

-- ---- how many words

-- no word has more than 21 bits
pub words_small : (set : Set) (numbered : Bool) (flags text : List ℕ) → undamaged (page_of set numbered flags text) ≡ true
unfolding page_of words_with
words_small set numbered flags text = digits_are (2 ^ word_bits) (words_for numbered (length text)) _ (omega arith)

-- a text within the room of eight words needs no more
eight_words : (numbered : Bool) (n : ℕ) → n ≤ room_of numbered most_words → words_for numbered n ≤ most_words
eight_words true n short = omega arith
eight_words false n short = omega arith

-- a page has as many words as its text needs, at least one, and at most eight for a text within their room
pub page_size : (set : Set) (numbered : Bool) (flags text : List ℕ) → length text ≤ room_of numbered most_words
    → (length (page_of set numbered flags text) ≡ words_for numbered (length text))
    × (1 ≤ length (page_of set numbered flags text)) × (length (page_of set numbered flags text) ≤ most_words)
page_size set numbered flags text short =
    let words = page_length set numbered flags text in
    (words, rw words (some_word numbered (length text)), rw words (eight_words numbered (length text) short))

-- fewer words have no room for so many characters
fewer_short : (numbered : Bool) (n w : ℕ) → 1 ≤ w → w < words_for numbered n → room_of numbered w < n
fewer_short true n w some few = omega arith
fewer_short false n w some few = omega arith

-- so many words have room for so many characters, and fewer have not
pub fewest : (numbered : Bool) (n : ℕ) → (n ≤ room_of numbered (words_for numbered n)) × ((w : ℕ) → 1 ≤ w → w < words_for numbered n → room_of numbered w < n)
fewest numbered n = (room_enough numbered n, fewer_short numbered n)

-- ---- K

-- K as it is sent, in the vector and in the first word, is that of the words, and was taken with K as 0
pub k_right : (set : Set) (numbered : Bool) (flags text : List ℕ) → fit (head_of numbered) (flags ++ 0 ∷ []) ≡ true
    → (checked (in_vector (check_of set numbered flags text)) (page_of set numbered flags text) ≡ true)
    × (six_bits (page_of set numbered flags text) ≡ check_of set numbered flags text)
k_right set numbered flags text e =
    let k = k_of_page set numbered flags text e in
    (eq-eqb _ _ (k ∙ rw (k_in_word set numbered flags text e) (omega arith)), k)

-- ---- what is accepted

-- the page for a vector's type
abbrev pub page_for : Set → ℕ → Numbering → List ℕ → List ℕ
page_for set kind numbering text = page_of set (is_numbered kind) (flags_of numbering) text

-- K for the vector of that page
abbrev pub check_for : Set → ℕ → Numbering → List ℕ → ℕ
check_for set kind numbering text = in_vector (check_of set (is_numbered kind) (flags_of numbering) text)

-- a numeric page's type, what the page can hold, a text within the room of eight words, and words enough that are lent
pub record Accepted (set : Set) (lent kind : ℕ) (numbering : Numbering) (text : List ℕ) : Type 0 where
  pub numeric : is_numeric kind ≡ true
  pub fits : Fits set (is_numbered kind) (flags_of numbering) text
  pub short : length text ≤ room_of (is_numbered kind) most_words
  pub enough : length (page_for set kind numbering text) ≤ lent

module _ (set : Set) (lent kind : ℕ) (numbering : Numbering) (text : List ℕ) where
  -- what is accepted is told with K for the vector and the number of words
  pub accepted_told : Accepted set lent kind numbering text
      → written_of set lent kind numbering text ≡ given (check_for set kind numbering text ∷ length (page_for set kind numbering text) ∷ [])
  unfolding written_of
  accepted_told a =
      rw (
        a.numeric,
        a.fits.head,
        le-ltb (room_of (is_numbered kind) most_words) (length text) a.short,
        a.fits.known,
        le-ltb lent (length (page_for set kind numbering text)) a.enough,
      )

  -- nothing is refused exactly if the page is accepted
  pub accepted : (number_told (written_of set lent kind numbering text) ≡ 0) ↔ Accepted set lent kind numbering text
  unfolding written_of
  accepted = (not-refused, λ a. ap number_told (accepted_told a))
    where
      not-refused : number_told (written_of set lent kind numbering text) ≡ 0 → Accepted set lent kind numbering text
      not-refused e =
          let packet = passed _ _ _ e in
          let long = passed _ _ _ packet.1 in
          let character = passed _ _ _ long.1 in
          let room = passed _ _ _ character.1 in
          let head = not-false _ packet.0 in
          record {
            numeric = first_of (is_numeric kind) _ head;
            fits = record { head = second_of (is_numeric kind) _ head; known = not-false _ character.0 };
            short = ltb-false _ _ long.0;
            enough = ltb-false _ _ room.0;
          }

  -- a text of the set within the room of eight words is accepted where eight words are lent
  pub room_kept : headed kind (flags_of numbering) ≡ true → in_set set text ≡ true
      → length text ≤ room_of (is_numbered kind) most_words → most_words ≤ lent
      → number_told (written_of set lent kind numbering text) ≡ 0
  room_kept head known short eight =
      accepted.1
      (record {
        numeric = first_of (is_numeric kind) _ head;
        fits = record { head = second_of (is_numeric kind) _ head; known = known };
        short = short;
        enough = omega (arith, (page_size set (is_numbered kind) (flags_of numbering) text short).2);
      })

  -- a text over the room of eight words is too long, whatever its characters and however many words are lent
  pub one_more : headed kind (flags_of numbering) ≡ true → room_of (is_numbered kind) most_words < length text
      → written_of set lent kind numbering text ≡ refused refusals.TooLong
  unfolding written_of
  one_more head long = rw (head, lt-ltb (room_of (is_numbered kind) most_words) (length text) long)

-- ---- what was written is read

-- a text of the set and its spaces are in the set
pub spaced_known : {set : Set} → Usable set → (room : ℕ) (text : List ℕ) → in_set set text ≡ true → in_set set (spaced room text) ≡ true
unfolding in_set
spaced_known {set} usable room text known =
    let test : ℕ → Bool = λ c. ltb (place_in set c) (length set) in
    let space : test (code " ") ≡ true = lt-ltb (place_in set (code " ")) (length set) (omega (arith, usable.sixteen, usable.space)) in
    all_append test text _ ∙ rw (known, all_replicate test (room - length text) (code " ") space)

-- a text and its spaces are in the set
filled_known : {set : Set} {numbered : Bool} {flags text : List ℕ} → Usable set → Fits set numbered flags text → in_set set (filled numbered text) ≡ true
filled_known {numbered} {text} usable fits = spaced_known usable (room_of numbered (words_for numbered (length text))) text fits.known

-- the text in a page's words is the text and its spaces
pub text_back : {set : Set} {numbered : Bool} {flags text : List ℕ} → Usable set → Fits set numbered flags text
    → text_in set numbered (page_of set numbered flags text) ≡ filled numbered text
text_back {set} {numbered} {flags} {text} usable fits = text_read set numbered flags text fits.head usable.sixteen (filled_known usable fits)

-- reading what was written gives the writer's own S, R and N, and the text and its spaces, with those at its end counted
pub read_written : (set : Set) (lent room kind : ℕ) (numbering : Numbering) (text : List ℕ) → Usable set
    → number_told (written_of set lent kind numbering text) ≡ 0
    → room_of (is_numbered kind) (length (page_for set kind numbering text)) ≤ room
    → (read_of set room kind (check_for set kind numbering text) (page_for set kind numbering text)
    ≡ given (numbering.special_format ∷ numbering.retrieval ∷ numbering.message_number
    ∷ length (filled (is_numbered kind) text) ∷ spaces_at_end (filled (is_numbered kind) text) ∷ []))
    × (text_in set (is_numbered kind) (page_for set kind numbering text) ≡ filled (is_numbered kind) text)
unfolding read_of
read_written set lent room kind numbering text usable e enough =
    let a = (accepted set lent kind numbering text).0 e in
    let flags = flags_of numbering in
    let page = page_for set kind numbering text in
    let sizes = page_size set (is_numbered kind) flags text a.short in
    let small : ltb (check_for set kind numbering text) 16 ≡ true = lt-ltb (check_for set kind numbering text) 16 (omega arith) in
    let all_read : length (filled (is_numbered kind) text) ≡ room_of (is_numbered kind) (length page) = rw sizes.0 (filled_length (is_numbered kind) text) in (
      rw (
        a.numeric,
        small,
        le-leb 1 (length page) sizes.1,
        le-leb (length page) most_words sizes.2,
        words_small set (is_numbered kind) flags text,
        (k_right set (is_numbered kind) flags text a.fits.head).0,
        le-ltb room (room_of (is_numbered kind) (length page)) enough,
        head_read set (is_numbered kind) flags text a.fits.head,
        all_read,
        text_back usable a.fits,
      ),
      text_back usable a.fits,
    )

-- what is told of a page and what the lent bytes hold are the numbering and the text with its spaces, those at its end counted
abbrev pub ReadBack : ℕ → Numbering → List ℕ → List ℕ → PageRead → List ℕ → Type 0
ReadBack kind numbering text bytes told after =
    (told ≡ record {
      number = 0;
      numbering = numbering;
      characters = length (filled (is_numbered kind) text);
      spaces_at_end = spaces_at_end (filled (is_numbered kind) text);
    })
    × (after ≡ put bytes 0 (filled (is_numbered kind) text))

-- the lent words, as many as were told, with K as it was told, give the numbering again, and in the lent bytes the text and its spaces
pub there_and_back : (set : Set) (kind : ℕ) (numbering : Numbering) (text words bytes : List ℕ) → Usable set
    → let written = as_written (written_of set (length words) kind numbering text) in
    let page = take written.words (words_after set kind numbering text words) in
    written.number ≡ 0 → room_of (is_numbered kind) written.words ≤ length bytes
    → ReadBack kind numbering text bytes (as_read (read_of set (length bytes) kind written.check page)) (text_after set kind written.check page bytes)
there_and_back set kind numbering text words bytes usable e enough =
    let page = page_for set kind numbering text in
    let told = accepted_told set (length words) kind numbering text ((accepted set (length words) kind numbering text).0 e) in
    let back = read_written set (length words) (length bytes) kind numbering text usable e (rw told at enough) in
    rw (told, take-append_seam page (drop (0 + length page) words), back.0, back.1) (refl, refl)

-- pages of the same words have the same text and spaces
pub same_words : {set : Set} {numbered : Bool} {flags flags' text text' : List ℕ} → Usable set
    → Fits set numbered flags text → Fits set numbered flags' text'
    → page_of set numbered flags text ≡ page_of set numbered flags' text' → filled numbered text ≡ filled numbered text'
same_words {set} {numbered} usable fits fits' same = sym (text_back usable fits) ∙ ap (text_in set numbered) same ∙ text_back usable fits'

-- a character before a text is seen, where the text ends in others
first_seen : (c fill : ℕ) (text : List ℕ) (m n : ℕ) → (c ≡ fill → ⊥) → (c ∷ text) ++ replicate m fill ≡ text ++ replicate n fill → ⊥
first_seen c fill [] m zero other same = let none : suc (length (replicate m fill)) ≡ 0 = ap length same in omega arith
first_seen c fill [] m (suc n) other same = other (ap (λ (row : List ℕ). get_or row 0 0) same)
first_seen c fill (d ∷ text) m n other same =
    let first : c ≡ d = ap (λ (row : List ℕ). get_or row 0 0) same in
    first_seen c fill text m n other (ap (λ (x : ℕ). (x ∷ text) ++ replicate m fill) first ∙ ap (drop 1) same)

-- a text, and the same text with a zero before it, are never the same words
pub leading_zero : {set : Set} {numbered : Bool} {flags flags' text : List ℕ} → Usable set
    → Fits set numbered flags (code "0" ∷ text) → Fits set numbered flags' text
    → page_of set numbered flags (code "0" ∷ text) ≡ page_of set numbered flags' text → ⊥
leading_zero {numbered} {text} usable fits fits' same =
    let spaces : ℕ → ℕ = λ n. room_of numbered (words_for numbered n) - n in
    first_seen (code "0") (code " ") text (spaces (suc (length text))) (spaces (length text)) (λ e. omega arith) (same_words usable fits fits' same)

-- ---- the bits of Tables 41 and 42

module _ {set : Set} {numbered : Bool} {flags text : List ℕ} (usable : Usable set) (fits : Fits set numbered flags text) where
  -- the words hold the page's bits, 21 in a word
  word_bits_lem : (place : ℕ)
      → bits_at (place % word_bits) 1 (get_or (page_of set numbered flags text) (place / word_bits) 0)
      ≡ bits_at place 1 (number (2 ^ word_bits) (page_of set numbered flags text))
  word_bits_lem place =
      sym (digit_bits word_bits (page_of set numbered flags text) (place / word_bits) (place % word_bits) 1 (words_small set numbered flags text) (omega arith))
      ∙ rw (div-add-mod place word_bits)

  -- bit k of character j stands after the head and the characters before it
  pub cell : (j k : ℕ) → j < length (filled numbered text) → k < 4
      → let place = size (head_of numbered) + 4 * j + k in bits_at (place % word_bits) 1 (get_or (page_of set numbered flags text) (place / word_bits) 0)
      ≡ bits_at k 1 (place_in set (get_or (filled numbered text) j 0))
  cell j k within four =
      let known = filled_known usable fits in
      word_bits_lem (size (head_of numbered) + 4 * j + k)
      ∙ rw (
        add_assoc (size (head_of numbered)) (4 * j) k,
        bits_above (size (head_of numbered)) (4 * j + k) 1 _,
        above_head set numbered flags text fits.head usable.sixteen known,
      )
      (digit_bits 4 (map (place_in set) (filled numbered text)) j k 1 (codes_digits set numbered flags text fits.head usable.sixteen known) (omega arith)
      ∙ rw (map_at (place_in set) (filled numbered text) j within))

  -- each bit after the last character is 0
  pub left_over : (place : ℕ) → size (head_of numbered) + 4 * length (filled numbered text) ≤ place
      → bits_at (place % word_bits) 1 (get_or (page_of set numbered flags text) (place / word_bits) 0) ≡ 0
  left_over place past =
      let known = filled_known usable fits in
      let small =
      lt_of_lt_of_le (row_below set numbered flags text fits.head usable.sixteen known)
      (pow_mono {j = place} (omega (arith, filled_length numbered text))) in
      word_bits_lem place
      ∙ rw (
        number_page set numbered flags text fits.head usable.sixteen known,
        bits_are place 1 (row_of set numbered (head_sent set numbered flags text) text),
        div-eq_of_lt small,
      )

-- so many characters are read from no more bits than theirs, after the head
low_characters : (room head row : ℕ) → digits 16 room (row % 2 ^ (4 * room + head) / 2 ^ head) ≡ digits 16 room (row / 2 ^ head)
low_characters room head row = rw (field row (4 * room) head, ← pow_mul 2 4 room) (digits_low 16 room (row / 2 ^ head) (omega arith))

-- the bits after the last character are not looked at in reading: words that agree in all others have the same text
pub left_over_unread : (set : Set) (numbered : Bool) (words words' : List ℕ) → length words ≡ length words'
    → let bits = 4 * room_of numbered (length words) + size (head_of numbered) in number (2 ^ word_bits) words % 2 ^ bits
    ≡ number (2 ^ word_bits) words' % 2 ^ bits
    → text_in set numbered words ≡ text_in set numbered words'
unfolding text_in
left_over_unread set numbered words words' long same =
    let room = room_of numbered (length words) in
    let head = size (head_of numbered) in
    rw (← long)
    (ap (map (λ (c : ℕ). get_or set c 0))
    (sym (low_characters room head (number (2 ^ word_bits) words))
    ∙ ap (λ (row : ℕ). digits 16 room (row / 2 ^ head)) same
    ∙ low_characters room head (number (2 ^ word_bits) words')))
