-- The words of calls in lent memory: a message word goes to every call that lacks it, and changes nothing else (document 01, "Calls in a frame").
use Prim.Native.Nat.{ℕ, zero, suc, ◌+◌, ◌*◌, ◌/◌, ◌%◌, ◌^◌, ◌≤◌, ◌<◌}
use mathlib.Core.Bool.{Bool, true, false, ◌&&◌, and-false, or_comm}
use mathlib.Core.List.{List, [], ◌∷◌}
use mathlib.Core.Logic.{⊎_elim}
use mathlib.Core.Path.{◌≡◌, refl, sym, ap, ◌∙◌}
use native.Mathlib.Nat.{pow-succ', div-one, mod-eq_of_lt}
use native.Mathlib.Omega.{arith}
use borrow.Author.Tests.{eqb-true, eqb-false, ne_eqb, lt-leb, lt-ltb, ltb-true, ltb-false}
use lib.Dec.{leb, ltb, eqb}
use lib.ListN.{length, get_or, take, drop, set, replicate, drop_of_length-le, length-set, length-replicate, get_or-eq_default}
use lib.Seq.{get_or-set_same, get_or-set_other}
use Rattle.laws.specs.Choice.{pick, bit_of}
use Rattle.laws.specs.Lists.{put, any_of}
use Rattle.laws.proofs.Bits.{bit_le, lowest, higher}
use Rattle.laws.proofs.Lists.{at_within, part_alike, those_most}
use Rattle.laws.proofs.Tests.{decided, first_of, second_of, neither}
use Rattle.laws.proofs.Writing.{put_there, put_keeps_before, put_keeps_after}
use Rattle.sums.specs.Words.{undamaged}
use Rattle.packet.specs.declared.heard.Message.{Message}
use Rattle.call.specs.declared.Call.{Call}
use Rattle.call.specs.Calls.{blank, has_vector, is_long, numbers_of, in_limits}
use Rattle.call.specs.Words.{lacking, memory_size, place_of, words_of, is_complete, position, holds_word, word_place}
use Rattle.call.specs.Words.{lacks, offered, completes, given_to, finished, is_lacked}
use Rattle.call.proofs.Invariants.{Placed}
use Rattle.call.proofs.Spans.{fits_words, numbers_length, numbers_none, span_within, position_found, position_of}

-- ---- call by call

module _ (m : Message) where
  -- the calls that a word completes are told in as many bits as there are calls
  pub finished_small : (row : List Call) (memory : List ℕ) → finished row m memory < 2 ^ length row
  unfolding finished
  finished_small [] memory = omega arith
  finished_small (c ∷ row) memory =
      one_more (completes c m (given_to row m memory)) (finished row m memory) (length row) (finished_small row memory)
    where
      one_more : (bit : Bool) (rest n : ℕ) → rest < 2 ^ n → bit_of bit + 2 * rest < 2 ^ suc n
      one_more bit rest n less = rw pow-succ' (omega (arith, bit_le bit))

  -- the memory keeps its length
  pub offered_length : (c : Call) (memory : List ℕ) → length (offered c m memory) ≡ length memory
  offered_length c memory = by_test (lacks c m memory)
    where
      by_test : (test : Bool) → length (pick test (set memory (word_place c m) m.bits) memory) ≡ length memory
      by_test true = length-set memory (word_place c m) m.bits
      by_test false = refl

  -- the memory keeps its length when the word has been offered to every call of a row
  pub given_length : (row : List Call) (memory : List ℕ) → length (given_to row m memory) ≡ length memory
  unfolding given_to
  given_length [] memory = refl
  given_length (c ∷ row) memory = offered_length c (given_to row m memory) ∙ given_length row memory

  module _ (row : List Call) (i : ℕ) (memory : List ℕ) where
    -- at the end it is offered to none
    pub given_end : length row ≤ i → given_to (drop i row) m memory ≡ memory
    unfolding given_to
    given_end done = rw (drop_of_length-le row done)

    -- at the end it completes none
    pub finished_end : length row ≤ i → finished (drop i row) m memory ≡ 0
    unfolding finished
    finished_end done = rw (drop_of_length-le row done)

-- ---- one call

-- whether the word that came is the k-th of a call, and the call lacks it
abbrev pub goes_to : Call → ℕ → Message → List ℕ → Bool
goes_to c k m memory =
    eqb c.phase m.phase && eqb (get_or (numbers_of c) k 0) m.word && leb lacking (get_or memory (place_of c + k) 0)

-- a call within its limits has at most 85 words
pub words_most : (c : Call) → in_limits c ≡ true → has_vector c ≡ true → c.words ≤ 85
words_most c good has =
    ⊎_elim
    (λ some. (fits_words (is_long c) c.vector c.start c.words (span_within c good has (ltb-true 0 c.words some))).1)
    (λ none. omega (arith, ltb-false 0 c.words none))
    (decided (ltb 0 c.words))

-- a call whose span holds a word has its vector
pub holds_vector : (c : Call) (m : Message) → holds_word c m ≡ true → has_vector c ≡ true
holds_vector c m held =
    ⊎_elim
    (λ has. has)
    (λ none.
    let inside =
    ltb-true (position c m.word) (length (numbers_of c)) (second_of (eqb c.phase m.phase) (ltb (position c m.word) (length (numbers_of c))) held) in
    absurd (omega (arith, ap length (numbers_none c none))))
    (decided (has_vector c))

-- a word that a call's span holds is one of its words
pub holds_within : (c : Call) (m : Message) → holds_word c m ≡ true → position c m.word < c.words
holds_within c m held =
    let many = numbers_length c (holds_vector c m held) in
    let inside =
    ltb-true (position c m.word) (length (numbers_of c)) (second_of (eqb c.phase m.phase) (ltb (position c m.word) (length (numbers_of c))) held) in
    omega arith

-- a store at a place, or none: what stands there then
stored_here : (test : Bool) (memory : List ℕ) (p q a : ℕ) → p ≡ q → q < length memory
    → get_or (pick test (set memory p a) memory) q 0 ≡ pick test a (get_or memory q 0)
stored_here true memory p q a same within = rw same (get_or-set_same memory q a 0 within)
stored_here false memory p q a same within = refl

-- a store at a place, or none: what stands elsewhere is as it was
stored_there : (test : Bool) (memory : List ℕ) (p q a d : ℕ) → (test ≡ true → q ≡ p → ⊥) → get_or (pick test (set memory p a) memory) q d ≡ get_or memory q d
stored_there true memory p q a d other = get_or-set_other memory p q a d (other refl)
stored_there false memory p q a d other = refl

module _ (c : Call) (m : Message) (memory : List ℕ) where
  -- a word offered to a call changes no place but its own
  pub offered_other : (q d : ℕ) → (holds_word c m ≡ true → q ≡ word_place c m → ⊥) → get_or (offered c m memory) q d ≡ get_or memory q d
  offered_other q d other =
      stored_there (lacks c m memory) memory (word_place c m) q m.bits d
      (λ lacked. other (first_of (holds_word c m) (leb lacking (get_or memory (word_place c m) lacking)) lacked))

  -- a word offered to a call stands at its own place then, if the call lacked it
  pub offered_own : has_vector c ≡ true → in_limits c ≡ true → (k : ℕ) → k < c.words
      → get_or (offered c m memory) (place_of c + k) 0 ≡ pick (goes_to c k m memory) m.bits (get_or memory (place_of c + k) 0)
  offered_own has good k within =
      ⊎_elim
      (λ this. ⊎_elim (λ inside. here this (ltb-true (place_of c + k) (length memory) inside))
      (λ out. nowhere (ltb-false (place_of c + k) (length memory) out))
      (decided (ltb (place_of c + k) (length memory))))
      (λ other.
      offered_other (place_of c + k) 0 (there (eqb-false number m.word other))
      ∙ rw (other, and-false))
      (decided (eqb number m.word))
    where
      number : ℕ
      number = get_or (numbers_of c) k 0

      here : eqb number m.word ≡ true → place_of c + k < length memory
          → get_or (offered c m memory) (place_of c + k) 0 ≡ pick (goes_to c k m memory) m.bits (get_or memory (place_of c + k) 0)
      here this inside =
          let is : number ≡ m.word = eqb-true number m.word this in
          let at : position c m.word ≡ k = ap (position c) (sym is) ∙ position_of c has (span_within c good has (omega arith)) k within in
          let many = numbers_length c has in
          let held : ltb (position c m.word) (length (numbers_of c)) ≡ true = lt-ltb (position c m.word) (length (numbers_of c)) (omega arith) in
          let what : get_or memory (word_place c m) lacking ≡ get_or memory (place_of c + k) 0 =
          ap (λ (n : ℕ). get_or memory (place_of c + n) lacking) at ∙ at_within memory (place_of c + k) lacking 0 inside in
          let same : lacks c m memory ≡ goes_to c k m memory = rw (held, this, what) in
          stored_here (lacks c m memory) memory (word_place c m) (place_of c + k) m.bits (ap (λ (n : ℕ). place_of c + n) at) inside
          ∙ ap (λ (test : Bool). pick test m.bits (get_or memory (place_of c + k) 0)) same

      nowhere : length memory ≤ place_of c + k
          → get_or (offered c m memory) (place_of c + k) 0 ≡ pick (goes_to c k m memory) m.bits (get_or memory (place_of c + k) 0)
      nowhere out =
          let none : get_or memory (place_of c + k) 0 ≡ 0 = get_or-eq_default memory 0 out in
          get_or-eq_default (offered c m memory) 0 (rw (offered_length m c memory) out) ∙ rw (none, and-false)

      there : (number ≡ m.word → ⊥) → holds_word c m ≡ true → place_of c + k ≡ word_place c m → ⊥
      there other held same =
          let at : position c m.word ≡ k = omega arith in
          let many = numbers_length c has in
          let found = position_found c m.word (omega (arith, holds_within c m held)) in
          other (ap (λ (n : ℕ). get_or (numbers_of c) n 0) (sym at) ∙ found)

-- ---- a row of calls

-- each call is within its limits
abbrev pub Within : List Call → Type 0
Within row = (i : ℕ) → i < length row → in_limits (get_or row i blank) ≡ true

-- no two calls that have their vector have their words at one place
abbrev pub OwnPlaces : List Call → Type 0
OwnPlaces row =
    (i j : ℕ) → i < length row → j < length row → has_vector (get_or row i blank) ≡ true
    → has_vector (get_or row j blank) ≡ true → place_of (get_or row i blank) ≡ place_of (get_or row j blank) → i ≡ j

-- areas of their own are places of their own: there are as many as calls
pub own_places : (row : List Call) → Placed row → length row ≤ 8 → OwnPlaces row
own_places row placed few i j within-i within-j has_i has_j same =
    let low-i = placed.below i within-i has_i in
    let low-j = placed.below j within-j has_j in
    let most = those_most has_vector row in
    let whole-i : (get_or row i blank).area % 8 ≡ (get_or row i blank).area = mod-eq_of_lt (omega arith) in
    let whole-j : (get_or row j blank).area % 8 ≡ (get_or row j blank).area = mod-eq_of_lt (omega arith) in
    placed.apart i j within-i within-j has_i has_j (omega arith)

-- places of two words of calls that have words at two places
places_apart : (c d : Call) (k n : ℕ) → k < 85 → n < 85 → (place_of c ≡ place_of d → ⊥) → place_of c + k ≡ place_of d + n → ⊥
places_apart c d k n within-k within-n other same = other (omega arith)

-- a word of a call is not where another call has the word that came
not_there : (c d : Call) (m : Message) → in_limits c ≡ true → in_limits d ≡ true → has_vector c ≡ true → (has_vector d ≡ true → place_of c ≡ place_of d → ⊥)
    → (k : ℕ) → k < c.words → holds_word d m ≡ true → place_of c + k ≡ word_place d m → ⊥
not_there c d m good-c good-d has other k within held =
    let has-d = holds_vector d m held in
    let most-c = words_most c good-c has in
    let most-d = words_most d good-d has-d in
    let inside = holds_within d m held in
    places_apart c d k (position d m.word) (omega arith) (omega arith) (other has-d)

-- places of their own are so also of the calls after the first
own_later : (c : Call) (row : List Call) → OwnPlaces (c ∷ row) → OwnPlaces row
own_later c row own i j within-i within-j has_i has_j same =
    let next = own (suc i) (suc j) (omega arith) (omega arith) has_i has_j same in
    omega arith

-- a word of one call in such a row is not where another has the word that came
other_there : (row : List Call) (m : Message) → OwnPlaces row → Within row → (i j : ℕ) → i < length row
    → j < length row → (i ≡ j → ⊥) → has_vector (get_or row i blank) ≡ true
    → (k : ℕ) → k < (get_or row i blank).words → holds_word (get_or row j blank) m ≡ true → place_of (get_or row i blank) + k ≡ word_place (get_or row j blank) m → ⊥
other_there row m own good i j within-i within-j other has =
    not_there (get_or row i blank) (get_or row j blank) m (good i within-i) (good j within-j) has (λ has_j same. other (own i j within-i within-j has has_j same))

module _ (m : Message) (memory : List ℕ) where
  -- what no call that holds the word has at its place for it stays as it was
  pub given_other : (row : List Call) (q d : ℕ)
      → ((j : ℕ) → j < length row → holds_word (get_or row j blank) m ≡ true → q ≡ word_place (get_or row j blank) m → ⊥)
      → get_or (given_to row m memory) q d ≡ get_or memory q d
  unfolding given_to
  given_other [] q d other = refl
  given_other (c ∷ row) q d other =
      offered_other c m (given_to row m memory) q d (other 0 (omega arith))
      ∙ given_other row q d (λ j within. other (suc j) (omega arith))

  -- 01: "A word goes to the calls that still lack it": at the place of each word of a call stands the word that came,
  -- if it is that and the call lacked it, and else what stood there
  given_at : (row : List Call) → OwnPlaces row → Within row → (i k : ℕ) → i < length row → has_vector (get_or row i blank) ≡ true → k < (get_or row i blank).words
      → let c = get_or row i blank in
      get_or (given_to row m memory) (place_of c + k) 0 ≡ pick (goes_to c k m memory) m.bits (get_or memory (place_of c + k) 0)
  unfolding given_to
  given_at [] own good i k within has inside = absurd (omega arith)
  given_at (c ∷ row) own good zero k within has inside =
      let before : get_or (given_to row m memory) (place_of c + k) 0 ≡ get_or memory (place_of c + k) 0 =
      given_other row (place_of c + k) 0
      (λ j near. other_there (c ∷ row) m own good 0 (suc j) within (omega arith) (λ same. omega arith) has k inside) in
      offered_own c m (given_to row m memory) has (good 0 (omega arith)) k inside
      ∙ ap (λ (w : ℕ). pick (eqb c.phase m.phase && eqb (get_or (numbers_of c) k 0) m.word && leb lacking w) m.bits w) before
  given_at (d ∷ row) own good (suc i) k within has inside =
      let c = get_or row i blank in
      offered_other d m (given_to row m memory) (place_of c + k) 0
      (other_there (d ∷ row) m own good (suc i) 0 within (omega arith) (λ same. omega arith) has k inside)
      ∙ given_at row (own_later d row own) (λ j near. good (suc j) (omega arith)) i k (omega arith) has inside

  -- a word offered to other calls before changes nothing for a call
  lacks_later : (c : Call) (row : List Call) → OwnPlaces (c ∷ row) → Within (c ∷ row) → lacks c m (given_to row m memory) ≡ lacks c m memory
  lacks_later c row own good =
      ⊎_elim
      (λ held.
      ap (λ (w : ℕ). holds_word c m && leb lacking w)
      (given_other row (word_place c m) lacking
      (λ j near. other_there (c ∷ row) m own good 0 (suc j) (omega arith) (omega arith) (λ same. omega arith)
      (holds_vector c m held) (position c m.word) (holds_within c m held))))
      (λ none. rw none)
      (decided (holds_word c m))

  -- bit by bit, the calls that the word completes
  finished_at : (row : List Call) → OwnPlaces row → Within row → (i : ℕ) → i < length row
      → let c = get_or row i blank in
      finished row m memory / 2 ^ i % 2 ≡ bit_of (lacks c m memory && is_complete c (given_to row m memory))
  unfolding finished given_to
  finished_at [] own good i within = absurd (omega arith)
  finished_at (c ∷ row) own good zero within =
      ap (λ (n : ℕ). n % 2) (div-one (finished (c ∷ row) m memory))
      ∙ lowest (completes c m (given_to row m memory)) (finished row m memory)
      ∙ ap (λ (test : Bool). bit_of (test && is_complete c (offered c m (given_to row m memory)))) (lacks_later c row own good)
  finished_at (d ∷ row) own good (suc i) within =
      let c = get_or row i blank in
      ap (λ (n : ℕ). n % 2) (higher (completes d m (given_to row m memory)) (finished row m memory) i)
      ∙ finished_at row (own_later d row own) (λ j near. good (suc j) (omega arith)) i (omega arith)
      ∙ ap (λ (test : Bool). bit_of (lacks c m memory && test)) (sym complete)
    where
      complete : is_complete (get_or row i blank) (offered d m (given_to row m memory)) ≡ is_complete (get_or row i blank) (given_to row m memory)
      complete =
          ⊎_elim
          (λ has.
          ap (λ (words : List ℕ). has_vector (get_or row i blank) && undamaged words)
          (part_alike (offered d m (given_to row m memory)) (given_to row m memory) 0 (place_of (get_or row i blank))
          (get_or row i blank).words (offered_length m d (given_to row m memory))
          (λ k near. offered_other d m (given_to row m memory) (place_of (get_or row i blank) + k) 0
          (other_there (d ∷ row) m own good (suc i) 0 within (omega arith) (λ same. omega arith) has k near))))
          (λ none. rw none)
          (decided (has_vector (get_or row i blank)))

  -- a word that no call lacks changes nothing
  pub not_lacked : (row : List Call) → is_lacked row m memory ≡ false → given_to row m memory ≡ memory
  unfolding given_to any_of
  not_lacked [] none = refl
  not_lacked (c ∷ row) none =
      rw (
        not_lacked row (neither (lacks c m memory) (is_lacked row m memory) none),
        neither (is_lacked row m memory) (lacks c m memory) (or_comm (is_lacked row m memory) (lacks c m memory) ∙ none),
      )

  -- ---- what 01 promises of a word, in a row that the host's own runs keep

  module _ (row : List Call) (placed : Placed row) (few : length row ≤ 8) (good : Within row) where
    -- bit i of the answer is set exactly if the call at i lacked the word and is complete then
    pub finished_bit : (i : ℕ) → i < length row
        → let c = get_or row i blank in
        finished row m memory / 2 ^ i % 2 ≡ bit_of (lacks c m memory && is_complete c (given_to row m memory))
    finished_bit = finished_at row (own_places row placed few) good

    module _ (i k : ℕ) (within : i < length row) (has : has_vector (get_or row i blank) ≡ true) (inside : k < (get_or row i blank).words) where
      -- 01: "A word goes to the calls that still lack it": at the place of each word of a call stands the word that
      -- came, if it is that word and the call lacked it, and else what stood there
      pub word-given : let c = get_or row i blank in
          get_or (given_to row m memory) (place_of c + k) 0 ≡ pick (goes_to c k m memory) m.bits (get_or memory (place_of c + k) 0)
      word-given = given_at row (own_places row placed few) good i k within has inside

      -- what a call has stays
      pub has-stays : let at = place_of (get_or row i blank) + k in
          get_or memory at 0 < lacking → get_or (given_to row m memory) at 0 ≡ get_or memory at 0
      has-stays less = word-given ∙ rw (lt-leb lacking (get_or memory (place_of (get_or row i blank) + k) 0) less, and-false)

      -- a word of another number stays
      pub other_number : let at = place_of (get_or row i blank) + k in
          (get_or (numbers_of (get_or row i blank)) k 0 ≡ m.word → ⊥) → get_or (given_to row m memory) at 0 ≡ get_or memory at 0
      other_number other = word-given ∙ rw (ne_eqb (get_or (numbers_of (get_or row i blank)) k 0) m.word other, and-false)

      -- a call of another phase keeps its words
      pub other_phase : let at = place_of (get_or row i blank) + k in
          ((get_or row i blank).phase ≡ m.phase → ⊥) → get_or (given_to row m memory) at 0 ≡ get_or memory at 0
      other_phase other = word-given ∙ rw (ne_eqb (get_or row i blank).phase m.phase other)

-- ---- a vector that is taken

module _ (memory : List ℕ) (c : Call) (few : c.words ≤ 85) (enough : memory_size ≤ length memory) where
  -- its call lacks all its words
  pub vector_lacks_all : words_of c (put memory (place_of c) (replicate c.words lacking)) ≡ replicate c.words lacking
  vector_lacks_all =
      let lacked = replicate c.words lacking in
      ap (λ (n : ℕ). take n (drop (place_of c) (put memory (place_of c) lacked))) (sym (length-replicate c.words lacking))
      ∙ put_there memory lacked (place_of c) (omega arith)

  -- a call with its words at another place keeps them
  pub vector_keeps : (d : Call) → d.words ≤ 85 → (place_of d ≡ place_of c → ⊥)
      → words_of d (put memory (place_of c) (replicate c.words lacking)) ≡ words_of d memory
  vector_keeps d less other =
      let long = length-replicate c.words lacking in
      ⊎_elim
      (λ lower.
      let before = ltb-true (place_of d) (place_of c) lower in
      put_keeps_before memory (replicate c.words lacking) (place_of c) d.words (place_of d) (omega arith) (omega arith))
      (λ higher.
      let past = ltb-false (place_of d) (place_of c) higher in
      ap (take d.words) (put_keeps_after memory (replicate c.words lacking) (place_of c) (place_of d) (omega arith) (omega arith)))
      (decided (ltb (place_of d) (place_of c)))
