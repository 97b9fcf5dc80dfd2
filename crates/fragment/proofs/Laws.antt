-- What document 01 promises of any fragment: one that is built has its K and is read back, one that is read is built again, and what is refused.
use Rattle.std.proofs.Common.{◌≡◌, ℕ, ◌+◌, ◌/◌, ◌%◌, ◌^◌, ◌<◌, ◌≤◌, Bool, true, false, not, eqb, ltb, leb, ◌↔◌, List, [], ◌∷◌, ◌++◌, length, get_or, drop, sym, refl, ap, ◌∙◌, ap₂, inl, ⊎_elim, mod-eq_of_lt, arith, ltb-false, ltb-true, le-ltb, lt-ltb, eq-eqb, ne_eqb, eqb-true, le-leb, leb-true}
use mathlib.Core.Bool.{and-eq-true_iff}
use borrow.Author.Tests.{not-false}
use lib.Bits.{and_mask}
use Rattle.laws.specs.Choice.{pick, bit_of}
use Rattle.laws.specs.Layouts.{bits_at, fields_of, fit, packed}
use Rattle.laws.specs.Lists.{all, sum_by}
use Rattle.laws.specs.Numerals.{are_digits}
use Rattle.laws.proofs.Layouts.{fit_read, packed_read, packed_read_whole, shows_each}
use Rattle.laws.proofs.Tests.{first_of, second_of}
use Rattle.sums.specs.Sums.{whole, ten_bits}
use Rattle.sums.specs.Words.{word_bits, undamaged}
use Rattle.refusal.specs.declared.Refusal.TheVariants as refusals
use Rattle.refusal.specs.Told.{Told, told, given, ask, number_told, value_told}
use Rattle.refusal.proofs.Laws.{passed, plain_ask, Plain}
use Rattle.fragment.specs.Fragments.{is_size, first_number, head_of, head_for, fragment_with, fragment_of, head_in}
use Rattle.fragment.specs.Fragments.{numbers_in, message_number_in, fragment_number_in, continued_in, check_in}
use Rattle.fragment.specs.Fragments.{is_first, mail_drop_in, retrieval_in, cells_after_head, without_fill, text_in}
use Rattle.fragment.specs.Fragments.{checked}
use Rattle.fragment.specs.Answers.{heading_told, when_good, heading_of, read_of, text_of}
use Rattle.fragment.proofs.Cells.{there, back, words_length, words_small}
use Rattle.fragment.proofs.Heads.{packed_small, packed_reads, fit_with, k_read, k_unsummed, k_small}

-- ---- what is accepted

-- what a size says, both ways
pub size_limits : (words : ℕ) → is_size words ≡ true → (2 ≤ words) × (words ≤ 85)
size_limits words e = (leb-true 2 words (first_of (leb 2 words) (leb words 85) e), leb-true words 85 (second_of (leb 2 words) (leb words 85) e))

pub is_size_lem : (words : ℕ) → 2 ≤ words → words ≤ 85 → is_size words ≡ true
is_size_lem words least most = rw (le-leb 2 words least, le-leb words 85 most)

-- 2 to 85 words, none over 21 bits, and K as it came is theirs
pub record Good (words : List ℕ) : Type 0 where
  pub size : is_size (length words) ≡ true
  pub intact : undamaged words ≡ true
  pub sum : checked words ≡ true

module _ (words : List ℕ) where
  -- of a good fragment the questions of every fragment are passed
  pub good_passes : (rest : Told) → Good words → when_good words rest ≡ rest
  good_passes rest g = rw (g.size, g.intact, g.sum)

  -- a fragment that passes them is good, and what follows is not refused either
  passed_good : (rest : Told) → number_told (when_good words rest) ≡ 0 → Good words × (number_told rest ≡ 0)
  passed_good rest e =
      let size = passed (not (is_size (length words))) refusals.Size _ e in
      let damaged = passed (not (undamaged words)) refusals.Damaged _ size.1 in
      let sum = passed (not (checked words)) refusals.Checksum _ damaged.1 in
      (record { size = not-false _ size.0; intact = not-false _ damaged.0; sum = not-false _ sum.0 }, sum.1)

  -- a heading is refused by one of them, or else tells all
  pub heading_told_lem : Good words → heading_of words ≡ heading_told words
  unfolding heading_of
  heading_told_lem g = good_passes (heading_told words) g

  -- nothing is refused exactly if the fragment is good
  pub accepted : (number_told (heading_of words) ≡ 0) ↔ Good words
  unfolding heading_of
  accepted = (λ e. (passed_good (heading_told words) e).0, λ g. ap number_told (heading_told_lem g))

  -- a refusal tells its number and nothing besides
  when_plain : (rest : Told) → Plain rest → Plain (when_good words rest)
  when_plain rest p =
      plain_ask (not (is_size (length words))) refusals.Size _
      (plain_ask (not (undamaged words)) refusals.Damaged _
      (plain_ask (not (checked words)) refusals.Checksum rest p))

  pub heading_plain : (number_told (heading_of words) ≡ 0 → ⊥) → heading_of words ≡ told (number_told (heading_of words)) []
  unfolding heading_of
  heading_plain some = ⊎_elim (λ none. absurd (some none)) (λ e. e) (when_plain (heading_told words) (inl refl))

  -- a fragment that is not good is refused in the same way whatever follows these questions
  pub bad_stops : (rest : Told) → (number_told (heading_of words) ≡ 0 → ⊥) → when_good words rest ≡ told (number_told (heading_of words)) []
  unfolding heading_of
  bad_stops rest some = by_tests (not (is_size (length words))) (not (undamaged words)) (not (checked words)) some
    where
      by_tests : (size damaged sum : Bool)
          → let asked : Told → Told = λ t. ask size refusals.Size (ask damaged refusals.Damaged (ask sum refusals.Checksum t)) in
          (number_told (asked (heading_told words)) ≡ 0 → ⊥) → asked rest ≡ told (number_told (asked (heading_told words))) []
      by_tests true damaged sum some = refl
      by_tests false true sum some = refl
      by_tests false false true some = refl
      by_tests false false false some = absurd (some refl)

  module _ (lent : ℕ) where
    -- a good fragment is read with its text where there is room for it
    pub read_told : Good words → length (text_in words) ≤ lent → read_of lent words ≡ heading_told words
    unfolding read_of
    read_told g room = good_passes _ g ∙ rw (le-ltb lent (length (text_in words)) room)

    pub read_accepted : (number_told (read_of lent words) ≡ 0) ↔ (Good words × (length (text_in words) ≤ lent))
    unfolding read_of
    read_accepted = (not-refused, λ g. ap number_told (read_told g.0 g.1))
      where
        not-refused : number_told (read_of lent words) ≡ 0 → Good words × (length (text_in words) ≤ lent)
        not-refused e =
            let p = passed_good _ e in
            (p.0, ltb-false lent (length (text_in words)) (passed (ltb lent (length (text_in words))) refusals.Room (heading_told words) p.1).0)

    pub read_plain : (number_told (read_of lent words) ≡ 0 → ⊥) → read_of lent words ≡ told (number_told (read_of lent words)) []
    unfolding read_of
    read_plain some =
        ⊎_elim (λ none. absurd (some none)) (λ e. e)
        (when_plain _ (plain_ask (ltb lent (length (text_in words))) refusals.Room (heading_told words) (inl refl)))

    -- the text alone is refused where there is no room for it
    pub text_told : length (text_in words) ≤ lent → text_of lent words ≡ given (length (text_in words) ∷ [])
    unfolding text_of
    text_told room = rw (le-ltb lent (length (text_in words)) room)

    pub text_accepted : (number_told (text_of lent words) ≡ 0) ↔ (length (text_in words) ≤ lent)
    unfolding text_of
    text_accepted =
        (λ e. ltb-false lent (length (text_in words)) (passed (ltb lent (length (text_in words))) refusals.Room _ e).0, λ room. ap number_told (text_told room))

    pub text_plain : (number_told (text_of lent words) ≡ 0 → ⊥) → text_of lent words ≡ told (number_told (text_of lent words)) []
    unfolding text_of
    text_plain some =
        ⊎_elim (λ none. absurd (some none)) (λ e. e)
        (plain_ask (ltb lent (length (text_in words))) refusals.Room (given (length (text_in words) ∷ [])) (inl refl))

-- ---- a fragment that is built

-- cells that a fragment can hold: whole words of three, one to 84 of them, each cell below 128
pub record Held (cells : List ℕ) : Type 0 where
  pub threes : length cells % 3 ≡ 0
  pub least : 3 ≤ length cells
  pub most : length cells ≤ 252
  pub seven : are_digits 128 cells ≡ true

module _ (first : Bool) (head cells : List ℕ) where
  -- a fragment that is built has a word for each three cells, and one before them
  pub fragment_size : length cells % 3 ≡ 0 → length (fragment_of first head cells) ≡ 1 + length cells / 3
  unfolding fragment_of
  fragment_size threes = omega (arith, words_length cells threes)

  -- the cells are read back
  pub cells_read : Held cells → cells_after_head (fragment_of first head cells) ≡ cells
  unfolding fragment_of
  cells_read h = there cells h.threes h.seven

  module _ (fits : fit (head_of first) (head ++ 0 ∷ []) ≡ true) where
    -- the K of a fragment that is built is that of its words
    pub k_right : checked (fragment_of first head cells) ≡ true
    unfolding fragment_of
    k_right =
        let k = ten_bits (fragment_with first head 0 cells) in
        let small = k_small (fragment_with first head 0 cells) in
        eq-eqb _ _ (k_unsummed first head fits k cells small ∙ sym (k_read first head fits k small cells))

    -- no word has more than 21 bits
    pub fragment_undamaged : are_digits 128 cells ≡ true → undamaged (fragment_of first head cells) ≡ true
    unfolding fragment_of all
    fragment_undamaged seven =
        rw (lt-ltb _ (2 ^ word_bits) (packed_small first head fits (ten_bits (fragment_with first head 0 cells)) (k_small (fragment_with first head 0 cells))))
        (words_small cells seven)

    -- a fragment that is built is good
    pub built_good : Held cells → Good (fragment_of first head cells)
    built_good h =
        let words = fragment_size h.threes in
        record {
          size = is_size_lem (length (fragment_of first head cells)) (omega (arith, h.least)) (omega (arith, h.most));
          intact = fragment_undamaged h.seven;
          sum = k_right;
        }

    -- the numbers of a fragment that is built are read back
    pub numbers_read : fields_of (head_of first) (head_in (fragment_of first head cells)) ≡ head ++ ten_bits (fragment_with first head 0 cells) ∷ []
    unfolding fragment_of
    numbers_read = packed_reads first head fits (ten_bits (fragment_with first head 0 cells)) (k_small (fragment_with first head 0 cells))

-- N, F, C and K stand at the same places in either head
same_places : (first : Bool) (m r n f c k word : ℕ)
    → fields_of (head_of first) word ≡ head_for first m r n f c ++ k ∷ []
    → fields_of (head_of false) word ≡ n ∷ f ∷ c ∷ k ∷ []
same_places true m r n f c k word e = ap (drop 2) e
same_places false m r n f c k word e = e

-- M and R stand in the head of a first fragment alone
first_alone : (first : Bool) (m r n f c k word : ℕ) → fields_of (head_of first) word ≡ head_for first m r n f c ++ k ∷ []
    → (pick first (get_or (fields_of (head_of true) word) 0 0) 0 ≡ pick first m 0) × (pick first (get_or (fields_of (head_of true) word) 1 0) 0 ≡ pick first r 0)
first_alone true m r n f c k word e = (ap (λ (row : List ℕ). get_or row 0 0) e, ap (λ (row : List ℕ). get_or row 1 0) e)
first_alone false m r n f c k word e = (refl, refl)

-- what is read of a fragment that is built: its own numbers, the signature of a first one, the sum of its cells, and its text
pub reads : (first : Bool) (m r n f c : ℕ) (cells : List ℕ) → eqb f first_number ≡ first
    → fit (head_of first) (head_for first m r n f c ++ 0 ∷ []) ≡ true → Held cells
    → let words = fragment_of first (head_for first m r n f c) cells in
    let text = without_fill (drop (bit_of first) cells) in
    (heading_of words ≡ given (c ∷ f ∷ n ∷ pick first r 0 ∷ pick first m 0 ∷ pick first (get_or cells 0 0) 0 ∷ sum_by whole cells % 128 ∷ length text ∷ []))
    × (text_in words ≡ text)
reads first m r n f c cells is fits held =
    let head = head_for first m r n f c in
    let k = ten_bits (fragment_with first head 0 cells) in
    let read = numbers_read first head cells fits in
    let row = same_places first m r n f c k _ read in
    let alone = first_alone first m r n f c k _ read in
    let number : (place : ℕ) → get_or (numbers_in (fragment_of first head cells)) place 0 ≡ get_or (n ∷ f ∷ c ∷ k ∷ []) place 0 =
    λ place. ap (λ (row : List ℕ). get_or row place 0) row in
    let kind : is_first (fragment_of first head cells) ≡ first = ap (λ (number : ℕ). eqb number first_number) (number 1) ∙ is in
    rw
    (heading_told_lem _ (built_good first head cells fits held), kind, alone.0, alone.1, number 0, number 1, number 2, cells_read first head cells held)
    (refl, refl)

-- what is read of a first fragment that is built
pub first_reads : (m r n c : ℕ) (cells : List ℕ) → fit (head_of true) (m ∷ r ∷ n ∷ 3 ∷ c ∷ 0 ∷ []) ≡ true → Held cells
    → let words = fragment_of true (m ∷ r ∷ n ∷ 3 ∷ c ∷ []) cells in
    let text = without_fill (drop 1 cells) in
    (heading_of words ≡ given (c ∷ 3 ∷ n ∷ r ∷ m ∷ get_or cells 0 0 ∷ sum_by whole cells % 128 ∷ length text ∷ [])) × (text_in words ≡ text)
first_reads m r n c cells fits held = reads true m r n 3 c cells refl fits held

-- what is read of a later fragment that is built
pub later_reads : (n f c : ℕ) (cells : List ℕ) → f < 3 → fit (head_of false) (n ∷ f ∷ c ∷ 0 ∷ []) ≡ true → Held cells
    → let words = fragment_of false (n ∷ f ∷ c ∷ []) cells in
    let text = without_fill cells in
    (heading_of words ≡ given (c ∷ f ∷ n ∷ 0 ∷ 0 ∷ 0 ∷ sum_by whole cells % 128 ∷ length text ∷ [])) × (text_in words ≡ text)
later_reads n f c cells later fits held = reads false 0 0 n f c cells (ne_eqb f 3 (λ e. omega arith)) fits held

-- ---- what is not looked at

-- U and V: later fragments that differ in bits 19 and 20 of the first word alone tell the same, and have the same text
pub unread : (first other : ℕ) (rest : List ℕ) → first % 2 ^ 19 ≡ other % 2 ^ 19 → is_first (first ∷ rest) ≡ false
    → (heading_told (first ∷ rest) ≡ heading_told (other ∷ rest)) × (text_in (first ∷ rest) ≡ text_in (other ∷ rest))
unread first other rest same later =
    let n : first / 2 ^ 13 % 2 ^ 6 ≡ other / 2 ^ 13 % 2 ^ 6 = omega arith in
    let f : first / 2 ^ 11 % 2 ^ 2 ≡ other / 2 ^ 11 % 2 ^ 2 = omega arith in
    let c : first / 2 ^ 10 % 2 ^ 1 ≡ other / 2 ^ 10 % 2 ^ 1 = omega arith in
    let too : is_first (other ∷ rest) ≡ false = ap (λ (number : ℕ). eqb number first_number) (sym f) ∙ later in
    rw (later, too, n, f, c) (refl, refl)

-- ---- a fragment that is read

-- the numbers of a fragment's head, as they are read
abbrev head_read : List ℕ → List ℕ
head_read words = head_for (is_first words) (mail_drop_in words) (retrieval_in words) (message_number_in words) (fragment_number_in words) (continued_in words)

-- the numbers of a head and K after them are all that is read of the first word
all_read : (words : List ℕ) (first : Bool) → is_first words ≡ first → fields_of (head_of first) (head_in words) ≡ head_read words ++ check_in words ∷ []
all_read words true is = rw is
all_read words false is = rw is

-- bits 19 and 20 of the first word are M and R, or else 0
abbrev pub WithoutUV : List ℕ → Type 0
WithoutUV words = is_first words ≡ false → bits_at 19 2 (head_in words) ≡ 0

-- a first word with U and V 0 is made again of the numbers that are read from it
word_again : (word : ℕ) (first : Bool) → word < 2 ^ 21 → (first ≡ false → bits_at 19 2 word ≡ 0) → packed (head_of first) (fields_of (head_of first) word) ≡ word
word_again word true small without = packed_read_whole (head_of true) word tt small (shows_each (head_of true) word tt) refl
word_again word false small without =
    let low : word < 2 ^ 19 = omega (arith, without refl) in
    packed_read (head_of false) word tt (shows_each (head_of false) word tt) ∙ and_mask word 19 ∙ mod-eq_of_lt low

-- a good fragment with U and V 0 is made again of the numbers and cells that are read from it
read_again : (words : List ℕ) → Good words → WithoutUV words → fragment_of (is_first words) (head_read words) (cells_after_head words) ≡ words
unfolding fragment_of all
read_again [] g without = absurd (omega (arith, size_limits 0 g.size))
read_again (word ∷ rest) g without =
    let words = word ∷ rest in
    let each = (and-eq-true_iff (ltb word (2 ^ word_bits)) (undamaged rest)).0 g.intact in
    let read = all_read words (is_first words) refl in
    let own : fragment_with (is_first words) (head_read words) (check_in words) (cells_after_head words) ≡ words =
    ap₂ ◌∷◌
    (ap (packed (head_of (is_first words))) (sym read) ∙ word_again word (is_first words) (ltb-true word (2 ^ word_bits) each.0) without)
    (back rest each.1) in
    let fits : fit (head_of (is_first words)) (head_read words ++ check_in words ∷ []) ≡ true =
    ap (fit (head_of (is_first words))) (sym read) ∙ fit_read (head_of (is_first words)) word in
    let k : ten_bits (fragment_with (is_first words) (head_read words) 0 (cells_after_head words)) ≡ check_in words =
    sym
    (k_unsummed (is_first words) (head_read words)
    (fit_with (is_first words) (head_read words) (check_in words) 0 fits (omega arith)) (check_in words)
    (cells_after_head words) (omega arith))
    ∙ ap ten_bits own ∙ eqb-true (ten_bits words) (check_in words) g.sum in
    ap (λ (k : ℕ). fragment_with (is_first words) (head_read words) k (cells_after_head words)) k ∙ own

-- the fragment with the numbers that are told of one, and with these cells
abbrev pub fragment_told : Told → List ℕ → List ℕ
fragment_told t cells =
    let first = eqb (value_told t 1) first_number in
    fragment_of first (head_for first (value_told t 4) (value_told t 3) (value_told t 2) (value_told t 1) (value_told t 0)) cells

-- what is told of a good fragment and its cells make it again, where U and V are 0
pub built_again : (words : List ℕ) → Good words → WithoutUV words → fragment_told (heading_of words) (cells_after_head words) ≡ words
built_again words g without = ap (λ (t : Told). fragment_told t (cells_after_head words)) (heading_told_lem words g) ∙ read_again words g without

-- no two good fragments with U and V 0 tell the same and have the same cells
pub told_apart : (words other : List ℕ) → Good words → Good other → WithoutUV words → WithoutUV other
    → heading_of words ≡ heading_of other → cells_after_head words ≡ cells_after_head other → words ≡ other
told_apart words other g h without too same cells = sym (built_again words g without) ∙ ap₂ fragment_told same cells ∙ built_again other h too
