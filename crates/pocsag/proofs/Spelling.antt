-- The characters of a page, spelled from its message words: the bits that are held, and those of the words still to come.
use Prim.Native.Nat.{ℕ, suc, ◌+◌, ◌-◌, ◌*◌, ◌/◌, ◌%◌, ◌^◌, ◌≤◌, ◌<◌}
use mathlib.Core.Bool.{Bool, true, false}
use mathlib.Core.List.{List}
use mathlib.Core.Logic.{⊎_elim}
use mathlib.Core.Path.{◌≡◌, sym, ap, ◌∙◌}
use native.Mathlib.Nat.{add_assoc, add-mul, mul-add, mul_assoc, mul_comm, mul-zero, one-mul, zero-add, pow-zero, pow-suc, div-one}
use native.Mathlib.Nat.{mul-le-mul_right, add-mul-div_left, add-mul-mod_self_left, div-div-eq-div-mul, mod-lt}
use native.Mathlib.Numerals.{add-one}
use native.Mathlib.Omega.{arith}
use borrow.Author.Tests.{le-leb, lt-leb, leb-true, leb-false, ltb-true}
use lib.Dec.{leb, ltb}
use lib.ListN.{length, get_or, drop}
use lib.Pow.{pow-add, pow_mono, pow_pos, shl_exact, shr_lt}
use lib.Seq.{drop-cons}
use Rattle.laws.specs.Choice.{pick}
use Rattle.laws.specs.Numerals.{number, are_digits}
use Rattle.laws.proofs.Rows.{all_at}
use Rattle.laws.proofs.Tests.{decided}
use Rattle.pocsag.specs.Texts.{is_text, width_of, room_of}

-- ---- room

-- two comparisons that follow from each other are alike
alike : (a b c d : ℕ) → (a ≤ b → c ≤ d) → (c ≤ d → a ≤ b) → leb a b ≡ leb c d
alike a b c d there back =
    ⊎_elim
    (λ yes. yes ∙ sym (le-leb c d (there (leb-true a b yes))))
    (λ no. no ∙ sym (lt-leb c d (not_there (leb-false a b no))))
    (decided (leb a b))
  where
    not_there : b < a → d < c
    not_there less = ⊎_elim (λ yes. absurd (omega (arith, back (leb-true c d yes), less))) (λ no. leb-false c d no) (decided (leb c d))

-- five characters a word
pub numeric_room : (words lent : ℕ) → leb words (lent / 5) ≡ leb (20 * words / 4) lent
numeric_room words lent = alike words (lent / 5) (20 * words / 4) lent (λ h. omega arith) (λ h. omega arith)

-- twenty characters in seven words, and so many in the others
pub text_room : (words lent : ℕ) → words / 7 ≤ lent / 20 → leb (20 * (words % 7) / 7) (lent - 20 * (words / 7)) ≡ leb (20 * words / 7) lent
text_room words lent few =
    alike (20 * (words % 7) / 7) (lent - 20 * (words / 7)) (20 * words / 7) lent (λ h. omega (arith, few)) (λ h. omega (arith, few))

-- no room where seven words alone have none
pub no_text_room : (words lent : ℕ) → lent / 20 < words / 7 → false ≡ leb (20 * words / 7) lent
no_text_room words lent many = sym (lt-leb (20 * words / 7) lent (omega (arith, many)))

-- the room of words, in parts
pub room_parts : (words : ℕ) → 20 * (words / 7) + 20 * (words % 7) / 7 ≡ 20 * words / 7
room_parts words = omega arith

-- a character within the room ends within the words
pub room_bits : (kind words i : ℕ) → i < room_of kind words → width_of kind * (i + 1) ≤ 20 * words
room_bits kind words i = by_kind (is_text kind)
  where
    by_kind : (text : Bool) → i < 20 * words / pick text 7 4 → pick text 7 4 * (i + 1) ≤ 20 * words
    by_kind true within = omega (arith, within)
    by_kind false within = omega (arith, within)

-- a character has one to seven bits
pub width_small : (kind : ℕ) → (1 ≤ width_of kind) × (width_of kind ≤ 7)
width_small kind = by_kind (is_text kind)
  where
    by_kind : (text : Bool) → (1 ≤ pick text 7 4) × (pick text 7 4 ≤ 7)
    by_kind true = (omega arith, omega arith)
    by_kind false = (omega arith, omega arith)

-- ---- what is held

-- after so many characters of a width: so many bits are held of the words before a place, and those from there on are still to come
pub record Held (width : ℕ) (words : List ℕ) (held bits at i : ℕ) : Type 0 where
  pub reached : bits + width * i ≡ 20 * at
  pub few : at ≤ length words
  pub low : held < 2 ^ bits
  pub rest : held + 2 ^ bits * number (2 ^ 20) (drop at words) ≡ number (2 ^ 20) words / (2 ^ width) ^ i

-- at first nothing is held
pub held_starts : (width : ℕ) (words : List ℕ) → Held width words 0 0 0 0
held_starts width words =
    record {
      reached = rw (mul-zero width) (omega arith);
      few = omega arith;
      low = omega arith;
      rest =
          zero-add (1 * number (2 ^ 20) words)
          ∙ one-mul (number (2 ^ 20) words)
          ∙ sym (ap (λ (n : ℕ). number (2 ^ 20) words / n) (pow-zero (2 ^ width)) ∙ div-one (number (2 ^ 20) words));
    }

module _ (width : ℕ) (words : List ℕ) (held bits at i : ℕ) (so : Held width words held bits at i) where
  -- a word is still to come where too few bits are held for a character within the room
  pub word_left : bits < width → width * (i + 1) ≤ 20 * length words → at < length words
  word_left short within =
      let next : width * (i + 1) ≡ width * i + width * 1 = mul-add width i 1 in
      let one : width * 1 ≡ width = omega arith in
      omega (arith, so.reached, short, within, next, one)

  module _ (there : at < length words) (good : are_digits (2 ^ 20) words ≡ true) where
    -- the next word has twenty bits
    pub word_small : get_or words at 0 < 2 ^ 20
    word_small = ltb-true (get_or words at 0) (2 ^ 20) (all_at (λ digit. ltb digit (2 ^ 20)) words at good there)

    -- the next word's bits come after those that are held
    pub refilled : Held width words (held + get_or words at 0 * 2 ^ bits) (bits + 20) (at + 1) i
    unfolding number
    refilled =
        let word = get_or words at 0 in
        let more = number (2 ^ 20) (drop (suc at) words) in
        let most : (word + 1) * 2 ^ bits ≤ 2 ^ 20 * 2 ^ bits = mul-le-mul_right (2 ^ bits) (omega (arith, word_small)) in
        let apart : (word + 1) * 2 ^ bits ≡ word * 2 ^ bits + 1 * 2 ^ bits = add-mul word 1 (2 ^ bits) in
        let wide : 2 ^ (bits + 20) ≡ 2 ^ bits * 2 ^ 20 = pow-add 2 bits 20 in
        record {
          reached = omega (arith, so.reached);
          few = omega (arith, there);
          low = rw (wide, mul_comm (2 ^ bits) (2 ^ 20)) (omega (arith, so.low, most, apart));
          rest =
              rw (wide, add-one at, add_assoc held (word * 2 ^ bits) (2 ^ bits * 2 ^ 20 * more), mul_assoc (2 ^ bits) (2 ^ 20) more, mul_comm word (2 ^ bits))
              (ap (λ (n : ℕ). held + n) (sym (mul-add (2 ^ bits) word (2 ^ 20 * more)))
              ∙ ap (λ (row : List ℕ). held + 2 ^ bits * number (2 ^ 20) row) (sym (drop-cons words at 0 there))
              ∙ so.rest);
        }

  module _ (enough : width ≤ bits) where
    -- what is left is the held bits, and whole characters' weights of the others
    apart_from : 2 ^ bits * number (2 ^ 20) (drop at words) ≡ 2 ^ width * (2 ^ (bits - width) * number (2 ^ 20) (drop at words))
    apart_from =
        let both : width + (bits - width) ≡ bits = omega arith in
        ap (λ (n : ℕ). 2 ^ n * number (2 ^ 20) (drop at words)) (sym both)
        ∙ rw (pow-add 2 width (bits - width)) (mul_assoc (2 ^ width) (2 ^ (bits - width)) (number (2 ^ 20) (drop at words)))

    -- the next character's code is the lowest of the held bits
    pub code_held : held % 2 ^ width ≡ number (2 ^ 20) words / (2 ^ width) ^ i % 2 ^ width
    code_held =
        sym (add-mul-mod_self_left held (2 ^ width) (2 ^ (bits - width) * number (2 ^ 20) (drop at words)))
        ∙ ap (λ (n : ℕ). n % 2 ^ width) (ap (λ (n : ℕ). held + n) (sym apart_from) ∙ so.rest)

    -- after it the others are held
    pub spelled_on : Held width words (held / 2 ^ width) (bits - width) at (i + 1)
    spelled_on =
        let both : (bits - width) + width ≡ bits = omega arith in
        let next : width * (i + 1) ≡ width * i + width * 1 = mul-add width i 1 in
        let one : width * 1 ≡ width = omega arith in
        record {
          reached = omega (arith, so.reached, next, one);
          few = so.few;
          low = shr_lt (bits - width) width (rw both so.low);
          rest =
              sym (add-mul-div_left held (2 ^ (bits - width) * number (2 ^ 20) (drop at words)) (pow_pos width))
              ∙ ap (λ (n : ℕ). n / 2 ^ width) (ap (λ (n : ℕ). held + n) (sym apart_from) ∙ so.rest)
              ∙ div-div-eq-div-mul (number (2 ^ 20) words) ((2 ^ width) ^ i) (2 ^ width)
              ∙ rw (add-one i, pow-suc (2 ^ width) i);
        }

-- ---- a character's bits are ready

-- enough bits are held for a character
pub record Ready (width : ℕ) (words : List ℕ) (held bits at i : ℕ) : Type 0 where
  pub so : Held width words held bits at i
  pub enough : width ≤ bits
  pub most : bits < 20 + width

module _ (width : ℕ) (words : List ℕ) (held bits at i : ℕ) (so : Held width words held bits at i) where
  -- where there were too few, after the next word
  pub ready_taken : bits < width → width ≤ 7 → at < length words → are_digits (2 ^ 20) words ≡ true
      → Ready width words (held + get_or words at 0 * 2 ^ bits % 2 ^ 32) (bits + 20) (at + 1) i
  ready_taken short narrow there good =
      let exact : get_or words at 0 * 2 ^ bits % 2 ^ 32 ≡ get_or words at 0 * 2 ^ bits =
      shl_exact 20 bits 32 (word_small width words held bits at i so there good) (omega (arith, short, narrow)) in
      rw exact
      (record {
        so = refilled width words held bits at i so there good;
        enough = omega (arith, narrow);
        most = omega (arith, short);
      })

  -- where there were enough
  pub ready_left : width ≤ bits → bits < 20 → Ready width words held bits at i
  ready_left enough few = record { so = so; enough = enough; most = omega arith }

  -- the sum of what is held and the next word's bits is no number of more than 32 bits
  pub held_fits : bits < width → width ≤ 7 → at < length words → are_digits (2 ^ 20) words ≡ true
      → held + get_or words at 0 * 2 ^ bits % 2 ^ 32 < 2 ^ 32
  held_fits short narrow there good =
      let ready = ready_taken short narrow there good in
      let wide : 2 ^ (bits + 20) ≤ 2 ^ 32 = pow_mono {i = bits + 20} {j = 32} (omega (arith, short, narrow)) in
      omega (arith, ready.so.low, wide)

-- a code of a character is small
pub code_small : (kind held : ℕ) → held % 2 ^ width_of kind < 128
code_small kind held =
    let less : held % 2 ^ width_of kind < 2 ^ width_of kind = mod-lt held (pow_pos (width_of kind)) in
    let most : 2 ^ width_of kind ≤ 2 ^ 7 = pow_mono {i = width_of kind} {j = 7} (width_small kind).1 in
    omega (arith, less, most)
