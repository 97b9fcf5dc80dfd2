-- What the code of POCSAG can be relied on for (02, item 5): which words are sent, what the table has of one or two wrong bits, and what is mended.
use Prim.Native.Nat.{ℕ, zero, suc, ◌+◌, ◌*◌, ◌/◌, ◌%◌, ◌^◌, ◌≤◌, ◌<◌}
use mathlib.Core.Bool.{Bool, true, false, not, ◌&&◌, ◌||◌, and-true, and-false}
use mathlib.Core.List.{[], ◌∷◌}
use mathlib.Core.Logic.{◌⊎◌, ◌↔◌, ⊎_elim, inl, inr}
use mathlib.Core.Path.{◌≡◌, refl, sym, ap, ap₂, ◌∙◌}
use native.Mathlib.Nat.{mod-lt, pow-suc}
use native.Mathlib.Omega.{arith}
use borrow.Author.Tests.{eqb-true, eqb-false, ltb-true, eq-eqb, ne_eqb, lt-ltb}
use lib.Bits.{bit_xor, xor_shr, xor_shifted}
use lib.Count.{ones, ones_in, ones_step}
use lib.Dec.{T, ltb, eqb, eqb→eq}
use lib.Pow.{pow_pos, pow-lt, shl_lt}
use mir.Facts.{and_yes}
use Rattle.laws.specs.Choice.{pick, implies}
use Rattle.laws.proofs.Bits.{ones_within, ones_xor, ones_above}
use Rattle.laws.proofs.Counting.{all_below, of_all_below}
use Rattle.laws.proofs.Tests.{decided, not_both, first_of, second_of}
use Rattle.laws.proofs.Xor.{xor_assoc, xor_comm, xor_self, xor_zero_r, xor_cancel, xor_back, xor_last, xor_lt}
use Rattle.refusal.specs.declared.Refusal.TheVariants.{BeyondRepair}
use Rattle.refusal.specs.Told.{Told, given, refused, ask, number_told, value_told}
use Rattle.pocsag.specs.Codewords.{divided, remainder_of, is_even, is_sent, checked_bits, sent_word, bit_at, bits_named, names_bits, how_many}
use Rattle.pocsag.specs.Codewords.{has_remainder, wrong_bits, flipped, Near}
use Rattle.pocsag.specs.Mending.{changed, mended_of}
use Rattle.pocsag.proofs.Division.{divided_xor, divided_small, divided_lower}
use Rattle.pocsag.proofs.Entries.{searched, wrong_most}

-- ---- sent words

-- the remainder of a xor is the xor of the remainders, so that wrong bits have the same remainder in every sent word
pub remainder_xor : (a b : ℕ) → remainder_of (bit_xor a b) ≡ bit_xor (remainder_of a) (remainder_of b)
remainder_xor a b = rw (xor_shr a b 1) (divided_xor 21 (a / 2) (b / 2))

-- what is known of a sent word
sent_is : (word : ℕ) → is_sent word ≡ true → (word < 2 ^ 32) × (remainder_of word ≡ 0) × (ones word % 2 ≡ 0)
sent_is word sent =
    let two = first_of (ltb word (2 ^ 32) && eqb (remainder_of word) 0) (is_even word) sent in (
      ltb-true word (2 ^ 32) (first_of (ltb word (2 ^ 32)) (eqb (remainder_of word) 0) two),
      eqb-true (remainder_of word) 0 (second_of (ltb word (2 ^ 32)) (eqb (remainder_of word) 0) two),
      eqb-true (ones word % 2) 0 (second_of (ltb word (2 ^ 32) && eqb (remainder_of word) 0) (is_even word) sent),
    )

-- what makes a word a sent one
is_sent_lem : (word : ℕ) → word < 2 ^ 32 → remainder_of word ≡ 0 → ones word % 2 ≡ 0 → is_sent word ≡ true
is_sent_lem word below none even = rw (lt-ltb word (2 ^ 32) below, eq-eqb (remainder_of word) 0 none, eq-eqb (ones word % 2) 0 even)

-- the ten bits that are put after 21
checks_small : (bits : ℕ) → bits < 2 ^ 21 → divided 21 (bits * 2 ^ 10) < 2 ^ 10
checks_small bits below = divided_lower 21 (bits * 2 ^ 10) (shl_lt 21 10 below)

-- 21 bits with others below them: the remainder is that of the 21 bits, with the others taken away
remainder_after : (bits low : ℕ) → low < 2 ^ 10 → divided 21 (bits * 2 ^ 10 + low) ≡ bit_xor (divided 21 (bits * 2 ^ 10)) low
remainder_after bits low small =
    ap (divided 21) (sym (xor_shifted bits 10 low small))
    ∙ divided_xor 21 (bits * 2 ^ 10) low
    ∙ ap (bit_xor (divided 21 (bits * 2 ^ 10))) (divided_small 21 low small)

-- the word for 21 bits is a sent one
pub sent_word_lem : (bits : ℕ) → bits < 2 ^ 21 → is_sent (sent_word bits) ≡ true
sent_word_lem bits below =
    let low = divided 21 (bits * 2 ^ 10) in
    let small : low < 2 ^ 10 = checks_small bits below in
    let half : sent_word bits / 2 ≡ checked_bits bits = omega arith in
    is_sent_lem (sent_word bits) (omega (arith, small, below)) (rw half (remainder_after bits low small ∙ xor_self low))
    (rw (ones_step (sent_word bits), half) (omega arith))

-- it has its 21 bits at the top
pub sent_bits : (bits : ℕ) → bits < 2 ^ 21 → sent_word bits / 2 ^ 11 ≡ bits
sent_bits bits below = omega (arith, checks_small bits below)

-- each sent word is the one for its 21 bits, so that there is no other way to send them
pub sent_form : (word : ℕ) → is_sent word ≡ true → word ≡ sent_word (word / 2 ^ 11)
sent_form word sent =
    let facts = sent_is word sent in
    let high = word / 2 ^ 11 in
    let low = word / 2 % 2 ^ 10 in
    let parts : word / 2 ≡ high * 2 ^ 10 + low = omega arith in
    let none : bit_xor (divided 21 (high * 2 ^ 10)) low ≡ 0 = sym (remainder_after high low (omega arith)) ∙ ap (divided 21) (sym parts) ∙ facts.1 in
    let same : divided 21 (high * 2 ^ 10) ≡ low = sym (xor_cancel (divided 21 (high * 2 ^ 10)) low) ∙ ap (λ (n : ℕ). bit_xor n low) none in
    let half : checked_bits high ≡ word / 2 = ap (λ (n : ℕ). high * 2 ^ 10 + n) same ∙ sym parts in
    rw half (omega (arith, ones_step word, facts.2))

-- ---- the rule of the table

-- 02, item 5: "the named bits have that remainder"
pub named_bits : (remainder : ℕ) → (wrong_bits remainder ≡ 0 → ⊥) → has_remainder remainder (wrong_bits remainder) ≡ true
named_bits remainder some = ⊎_elim (λ found. found.0) (λ none. absurd (some none.0)) (searched 1023 remainder)

-- 02, item 5: "where none stands no one or two bits have it"
pub none_named : (remainder : ℕ) → wrong_bits remainder ≡ 0 → (entry : ℕ) → entry < 1024 → has_remainder remainder entry ≡ false
none_named remainder zeros zero few = refl
none_named remainder zeros (suc n) few =
    ⊎_elim
    (λ found. absurd (not_both (has_remainder remainder 0) (ap (has_remainder remainder) (sym zeros) ∙ found.0) refl))
    (λ none. none.1 (suc n) (omega arith) (omega arith))
    (searched 1023 remainder)

-- the bits that stand for a remainder have it
its_remainder : (remainder : ℕ) → eqb (wrong_bits remainder) 0 ≡ false → remainder_of (bits_named (wrong_bits remainder)) ≡ remainder
its_remainder remainder some =
    eqb-true _ _ (second_of (names_bits (wrong_bits remainder)) _ (named_bits remainder (eqb-false (wrong_bits remainder) 0 some)))

-- the bits at two places are within a word
pub bits_within : (a b : ℕ) → a < 32 → b < 32 → bit_xor (bit_at a) (bit_at b) < 2 ^ 32
bits_within a b within_a within_b =
    xor_lt 32 (bit_at a) (bit_at b) (omega (arith, pow-lt {i = a} {j = 32} within_a)) (omega (arith, pow-lt {i = b} {j = 32} within_b))

-- so are those that an entry names
named_within : (entry : ℕ) → entry < 1024 → bits_named entry < 2 ^ 32
named_within entry few = bits_within (entry % 32) (entry / 32) (omega arith) (omega arith)

-- whether an entry that names one or two bits is said to name so many
abbrev rightly_counted : ℕ → Bool
rightly_counted entry = implies (names_bits entry) (eqb (how_many entry) (ones_in 32 (bits_named entry)))

-- this is computed for all entries
all_counted : T (all_below rightly_counted 1024)
unfolding ones_in
all_counted = tt

-- as many bits are said to be wrong as are named
pub number_named : (remainder : ℕ) → how_many (wrong_bits remainder) ≡ ones (bits_named (wrong_bits remainder))
unfolding ones
number_named remainder =
    let entry = wrong_bits remainder in
    let right = of_all_below rightly_counted 1024 all_counted entry (wrong_most remainder) in
    ⊎_elim
    (λ found. eqb→eq _ _ (rw (first_of (names_bits entry) _ found.0) at right)
    ∙ sym (ones_within 32 (bits_named entry) (named_within entry (wrong_most remainder))))
    (λ none. rw none.0)
    (searched 1023 remainder)

-- ---- one or two bits, or none, are found by their remainder

-- the entries below a number that name bits, each at the place of its remainder in a number to the base 1,024
unfoldable packed : ℕ → ℕ
packed zero = 0
packed (suc n) = packed n + pick (names_bits n) (n * 1024 ^ remainder_of (bits_named n)) 0

-- what stands at the place of a remainder
unfoldable at_place : ℕ → ℕ
at_place remainder = packed 1024 / 1024 ^ remainder % 1024

-- whether such an entry names just these bits, and in the way that an entry does
abbrev found_there : ℕ → ℕ → Bool
found_there entry bits = (names_bits entry || eqb entry 0) && eqb (bits_named entry) bits

-- whether the bits of a pair of places, one and 32 times the other in one number, are found at the place of their remainder
abbrev pair_there : ℕ → Bool
pair_there n = found_there (at_place (remainder_of (bits_named n))) (bits_named n)

-- this is computed for all pairs: no two that name different bits have the same remainder
all_there : T (all_below pair_there 1024)
unfolding packed at_place divided
all_there = tt

-- what that says of one pair
pair_found : (n : ℕ) → n < 1024 → let entry = at_place (remainder_of (bits_named n)) in T (names_bits entry || eqb entry 0) × (bits_named entry ≡ bits_named n)
pair_found n few =
    let entry = at_place (remainder_of (bits_named n)) in
    let both = and_yes (names_bits entry || eqb entry 0) (eqb (bits_named entry) (bits_named n)) (of_all_below pair_there 1024 all_there n few) in
    (both.0, eqb→eq (bits_named entry) (bits_named n) both.1)

-- an entry is below 1,024
at_place_most : (remainder : ℕ) → at_place remainder < 1024
unfolding at_place
at_place_most remainder = mod-lt (packed 1024 / 1024 ^ remainder) (omega arith)

-- two pairs of places with the same remainder name the same bits
pub same_bits : (n m : ℕ) → n < 1024 → m < 1024 → remainder_of (bits_named n) ≡ remainder_of (bits_named m) → bits_named n ≡ bits_named m
same_bits n m few-n few-m same = sym (pair_found n few-n).1 ∙ rw same (pair_found m few-m).1

-- the bits of a pair of places are found by their remainder
pair_named : (n : ℕ) → n < 1024 → bits_named (wrong_bits (remainder_of (bits_named n))) ≡ bits_named n
pair_named n few =
    let remainder = remainder_of (bits_named n) in
    let entry = at_place remainder in
    let found = pair_found n few in
    ⊎_elim
    (λ zeros. let none : wrong_bits remainder ≡ 0 = eqb-true _ _ zeros in
    let no_bits : names_bits entry ≡ false =
    sym (and-true (names_bits entry))
    ∙ ap (λ (t : Bool). names_bits entry && t) (sym (eq-eqb _ _ (ap remainder_of found.1)))
    ∙ none_named remainder none entry (at_place_most remainder) in
    ap bits_named (none ∙ sym (eqb→eq entry 0 (rw no_bits at found.0))) ∙ found.1)
    (λ some. same_bits (wrong_bits remainder) n (wrong_most remainder) few (its_remainder remainder some))
    (decided (eqb (wrong_bits remainder) 0))

-- the one or two bits at any places, or none, are found by their remainder
pub bits_found : (a b : ℕ) → a < 32 → b < 32 → bits_named (wrong_bits (remainder_of (bit_xor (bit_at a) (bit_at b)))) ≡ bit_xor (bit_at a) (bit_at b)
bits_found a b within_a within_b =
    let first : (a + 32 * b) % 32 ≡ a = omega arith in
    let second : (a + 32 * b) / 32 ≡ b = omega arith in
    rw (first, second) at (pair_named (a + 32 * b) (omega arith))

-- and so is their number
pub number_found : (a b : ℕ) → a < 32 → b < 32 → how_many (wrong_bits (remainder_of (bit_xor (bit_at a) (bit_at b)))) ≡ ones (bit_xor (bit_at a) (bit_at b))
number_found a b within_a within_b = number_named (remainder_of (bit_xor (bit_at a) (bit_at b))) ∙ ap ones (bits_found a b within_a within_b)

-- ---- mending

-- no bits stand for a remainder exactly if there is one after those that do are changed
nothing_stands : (remainder : ℕ)
    → (not (eqb remainder 0) && eqb (wrong_bits remainder) 0) ≡ not (eqb (bit_xor remainder (remainder_of (bits_named (wrong_bits remainder)))) 0)
nothing_stands remainder =
    let nothing : remainder_of (bits_named 0) ≡ 0 = divided_small 21 0 (omega arith) in
    ⊎_elim
    (λ zeros. rw (eqb-true (wrong_bits remainder) 0 zeros, nothing, xor_zero_r remainder) (and-true (not (eqb remainder 0))))
    (λ some. rw (its_remainder remainder some, xor_self remainder, some) (and-false (not (eqb remainder 0))))
    (decided (eqb (wrong_bits remainder) 0))

-- two questions with the same refusal are one
asked_once : (first second : Bool) (rest : Told)
    → ask (not first) BeyondRepair (ask (not second) BeyondRepair rest) ≡ ask (not (first && second)) BeyondRepair rest
asked_once true second rest = refl
asked_once false second rest = refl

-- a word has 32 bits after the change as it has before
changed_within : (word : ℕ) → word < 2 ^ 32 → changed word < 2 ^ 32
changed_within word below = xor_lt 32 word _ below (named_within (wrong_bits (remainder_of word)) (wrong_most (remainder_of word)))

-- a word is mended exactly if it is a sent one after the change
pub mended_word : (word : ℕ) → word < 2 ^ 32
    → mended_of word ≡ ask (not (is_sent (changed word))) BeyondRepair (given (changed word ∷ how_many (wrong_bits (remainder_of word)) ∷ []))
unfolding mended_of
mended_word word below =
    let left = remainder_xor word (bits_named (wrong_bits (remainder_of word))) in
    rw (nothing_stands (remainder_of word), ← left, lt-ltb (changed word) (2 ^ 32) (changed_within word below))
    (asked_once (eqb (remainder_of (changed word)) 0) (is_even (changed word)) _)

-- a word is mended to what it is after the change, or is beyond repair
outcome : (word : ℕ) → word < 2 ^ 32
    → ((is_sent (changed word) ≡ true) × (mended_of word ≡ given (changed word ∷ how_many (wrong_bits (remainder_of word)) ∷ [])))
    ⊎ (mended_of word ≡ refused BeyondRepair)
outcome word below =
    ⊎_elim (λ is. inl (is, mended_word word below ∙ rw is)) (λ is_not. inr (mended_word word below ∙ rw is_not)) (decided (is_sent (changed word)))

-- the number that is told of a word is 0, where it is mended, or 25
pub number_told_lem : (word : ℕ) → word < 2 ^ 32 → (number_told (mended_of word) ≡ 0) ⊎ (number_told (mended_of word) ≡ 25)
number_told_lem word below = ⊎_elim (λ mended. inl (ap number_told mended.1)) (λ beyond. inr (ap number_told beyond)) (outcome word below)

-- ---- words with at most two wrong bits

-- a word with the code bits at two places changed is near the word, and the word near it
pub flipped_near : (word a b : ℕ) → a < 32 → b < 32 → Near word (flipped a b word)
flipped_near word a b within_a within_b =
    record { first = a; second = b; first_within = within_a; second_within = within_b; received = refl }

pub near_flipped : (word a b : ℕ) → a < 32 → b < 32 → Near (flipped a b word) word
near_flipped word a b within_a within_b =
    record { first = a; second = b; first_within = within_a; second_within = within_b; received = sym (xor_cancel word (bit_xor (bit_at a) (bit_at b))) }

-- what is near a word of 32 bits has 32 bits
near_within : (sent word : ℕ) → sent < 2 ^ 32 → Near sent word → word < 2 ^ 32
near_within sent word below near =
    rw near.received (xor_lt 32 sent _ below (bits_within near.first near.second near.first_within near.second_within))

-- the wrong bits of a word that is near a sent one are found
wrong_found : (sent word : ℕ) → is_sent sent ≡ true → (near : Near sent word)
    → bits_named (wrong_bits (remainder_of word)) ≡ bit_xor (bit_at near.first) (bit_at near.second)
wrong_found sent word is near =
    let bits = bit_xor (bit_at near.first) (bit_at near.second) in
    let same : remainder_of word ≡ remainder_of bits =
    ap remainder_of near.received ∙ remainder_xor sent bits ∙ ap (λ (n : ℕ). bit_xor n (remainder_of bits)) (sent_is sent is).1 in
    ap (λ (n : ℕ). bits_named (wrong_bits n)) same ∙ bits_found near.first near.second near.first_within near.second_within

-- with them changed it is the sent one
changed_back : (sent word : ℕ) → is_sent sent ≡ true → Near sent word → changed word ≡ sent
changed_back sent word is near =
    ap (bit_xor word) (wrong_found sent word is near) ∙ rw near.received (xor_cancel sent (bit_xor (bit_at near.first) (bit_at near.second)))

-- 02, item 5: "Of the 31 code bits at most two are changed": a sent word with at most two of its code bits wrong is mended to itself, and it is told how
-- many were wrong
pub mended_sent : (sent word : ℕ) → is_sent sent ≡ true → Near sent word → mended_of word ≡ given (sent ∷ ones (bit_xor sent word) ∷ [])
mended_sent sent word is near =
    let many : how_many (wrong_bits (remainder_of word)) ≡ ones (bit_xor sent word) =
    number_named (remainder_of word)
    ∙ ap ones (wrong_found sent word is near ∙ sym (ap (bit_xor sent) near.received ∙ xor_back sent _)) in
    mended_word word (near_within sent word (sent_is sent is).0 near) ∙ rw (changed_back sent word is near, is, many)

-- no more than two are wrong
pub at_most_two : (sent word : ℕ) → Near sent word → ones (bit_xor sent word) ≤ 2
at_most_two sent word near =
    let bits = bit_xor (bit_at near.first) (bit_at near.second) in
    let many : how_many (wrong_bits (remainder_of bits)) ≡ ones (bit_xor sent word) =
    number_found near.first near.second near.first_within near.second_within
    ∙ ap ones (sym (ap (bit_xor sent) near.received ∙ xor_back sent bits)) in
    rw (← many) (most (eqb (wrong_bits (remainder_of bits)) 0) (eqb (wrong_bits (remainder_of bits) / 32) 0))
  where
    most : (none single : Bool) → pick {A = ℕ} none 0 (pick single 1 2) ≤ 2
    most true single = omega arith
    most false true = omega arith
    most false false = omega arith

-- a word that is mended is mended to a sent word that is within two code bits of it
pub mended_near : (word : ℕ) → word < 2 ^ 32 → number_told (mended_of word) ≡ 0
    → (is_sent (value_told (mended_of word) 0) ≡ true) × Near (value_told (mended_of word) 0) word
mended_near word below mended =
    let entry = wrong_bits (remainder_of word) in
    ⊎_elim
    (λ told. rw told.1 (told.0, near_flipped word (entry % 32) (entry / 32) (omega arith) (omega (arith, wrong_most (remainder_of word)))))
    (λ beyond. absurd (omega (arith, sym mended ∙ ap number_told beyond)))
    (outcome word below)

-- 02, item 5: "25 beyond repair": it is told exactly if no sent word is within two code bits
pub beyond_exactly : (word : ℕ) → word < 2 ^ 32 → (number_told (mended_of word) ≡ 25) ↔ ((sent : ℕ) → is_sent sent ≡ true → Near sent word → ⊥)
beyond_exactly word below = (
  λ beyond sent is near. omega (arith, sym beyond ∙ ap number_told (mended_sent sent word is near)),
  λ none. ⊎_elim
      (λ mended. absurd (none (value_told (mended_of word) 0) (mended_near word below mended).0 (mended_near word below mended).1))
      (λ beyond. beyond)
      (number_told_lem word below),
)

-- 02, item 5: "no two different sent words can come from one received word under that rule"
pub one_sender : (first second word : ℕ) → is_sent first ≡ true → is_sent second ≡ true → Near first word → Near second word → first ≡ second
one_sender first second word is-first is-second near-first near-second =
    sym (changed_back first word is-first near-first) ∙ changed_back second word is-second near-second

-- ---- other wrong bits

-- 02, item 5: "parity is then tested (wrong parity is 25)"
pub wrong_parity : (word : ℕ) → word < 2 ^ 32 → is_even (changed word) ≡ false → number_told (mended_of word) ≡ 25
wrong_parity word below odd =
    ⊎_elim
    (λ told. absurd (eqb-false (ones (changed word) % 2) 0 odd (sent_is (changed word) told.0).2))
    (λ beyond. ap number_told beyond)
    (outcome word below)

-- a sent word with at most two of its code bits wrong, and its parity bit, is beyond repair
pub parity_also : (sent word : ℕ) → is_sent sent ≡ true → Near sent word → number_told (mended_of (bit_xor word 1)) ≡ 25
unfolding ones
parity_also sent word is near =
    let facts = sent_is sent is in
    let same : remainder_of (bit_xor word 1) ≡ remainder_of word = remainder_xor word 1 ∙ rw (divided_small 21 0 (omega arith)) (xor_zero_r (remainder_of word)) in
    let back : changed (bit_xor word 1) ≡ bit_xor sent 1 =
    ap (λ (n : ℕ). bit_xor (bit_xor word 1) (bits_named (wrong_bits n))) same
    ∙ xor_last word 1 _
    ∙ ap (λ (n : ℕ). bit_xor n 1) (changed_back sent word is near) in
    wrong_parity (bit_xor word 1) (xor_lt 32 word 1 (near_within sent word facts.0 near) (omega arith))
    (rw back (ne_eqb (ones (bit_xor sent 1) % 2) 0 (λ even. omega (arith, ones_xor sent 1, facts.2, even))))

-- a sent word with its parity bit alone wrong is beyond repair
pub parity_beyond : (sent : ℕ) → is_sent sent ≡ true → number_told (mended_of (bit_xor sent 1)) ≡ 25
parity_beyond sent is =
    parity_also sent sent is
    (record { first = 0; second = 0; first_within = omega arith; second_within = omega arith; received = sym (xor_zero_r sent) })

-- a code bit above all others is one more
bit_above : (place bits : ℕ) → 1 ≤ place → bits < 2 ^ place → ones (bit_xor (bit_at place) bits) ≡ suc (ones bits)
bit_above zero bits some below = absurd (omega arith)
bit_above (suc k) bits some below =
    let same : bit_at (suc k) ≡ 2 ^ suc k = omega (arith, pow-suc 2 k) in
    ap (λ (n : ℕ). ones (bit_xor n bits)) same ∙ ones_above (suc k) bits below

-- where an odd number of bits is named, it is one
one_named : (entry : ℕ) → how_many entry % 2 ≡ 1 → (entry / 32 ≡ 0) × (how_many entry ≡ 1)
one_named entry odd = let one = by_tests (eqb entry 0) (eqb (entry / 32) 0) odd in (eqb-true (entry / 32) 0 one.0, one.1)
  where
    by_tests : (none single : Bool) → pick {A = ℕ} none 0 (pick single 1 2) % 2 ≡ 1 → (single ≡ true) × (pick {A = ℕ} none 0 (pick single 1 2) ≡ 1)
    by_tests true single odd = absurd (omega (arith, odd))
    by_tests false true odd = (refl, refl)
    by_tests false false odd = absurd (omega (arith, odd))

-- three different code bits are three ones
three_ones : (a b c : ℕ) → 1 ≤ a → a < b → b < c → ones (bit_xor (bit_xor (bit_at b) (bit_at a)) (bit_at c)) ≡ 3
unfolding ones
three_ones a b c some lower higher =
    let first : bit_at a < 2 ^ b = omega (arith, pow-lt {i = a} {j = b} lower) in
    let second : bit_at b < 2 ^ c = omega (arith, pow-lt {i = b} {j = c} higher) in
    let third : bit_at a < 2 ^ c = omega (arith, pow-lt {i = a} {j = c} (omega arith)) in
    ap ones (xor_comm (bit_xor (bit_at b) (bit_at a)) (bit_at c))
    ∙ bit_above c (bit_xor (bit_at b) (bit_at a)) (omega arith) (xor_lt c (bit_at b) (bit_at a) second third)
    ∙ ap suc (bit_above b (bit_at a) (omega arith) first ∙ ap suc (ap ones (sym (xor_zero_r (bit_at a))) ∙ bit_above a 0 some (pow_pos a)))

-- a sent word with three of its code bits wrong is beyond repair
pub three_beyond : (sent a b c : ℕ) → is_sent sent ≡ true → 1 ≤ a → a < b → b < c → c < 32
    → number_told (mended_of (flipped c 0 (flipped b a sent))) ≡ 25
three_beyond sent a b c is some lower higher within =
    ⊎_elim (λ told. absurd (another told.0)) (λ beyond. ap number_told beyond) (outcome word below)
  where
    two : ℕ
    two = flipped b a sent

    word : ℕ
    word = flipped c 0 two

    two_near : Near sent two
    two_near = flipped_near sent b a (omega arith) (omega arith)

    below : word < 2 ^ 32
    below = near_within two word (near_within sent two (sent_is sent is).0 two_near) (flipped_near two c 0 within (omega arith))

    -- the three bits
    wrong : ℕ
    wrong = bit_xor (bit_xor (bit_at b) (bit_at a)) (bit_at c)

    third : bit_xor two (bit_at c) ≡ word
    third = ap (bit_xor two) (sym (xor_zero_r (bit_at c)))

    together : bit_xor sent wrong ≡ word
    together = sym (xor_assoc sent (bit_xor (bit_at b) (bit_at a)) (bit_at c)) ∙ third

    -- were it mended, one bit would be changed, as the ones of a sent word are even in number. The word with two wrong bits would then be near both
    -- sent words, so that they were the same, and three bits one
    another : is_sent (changed word) ≡ true → ⊥
    another is-other =
        let entry = wrong_bits (remainder_of word) in
        let bits = bits_named entry in
        let three = three_ones a b c some lower higher in
        let many = number_named (remainder_of word) in
        let odd : how_many entry % 2 ≡ 1 =
        omega (arith, ones_xor word bits, ap ones together, ones_xor sent wrong, three, (sent_is sent is).2, (sent_is (changed word) is-other).2, many) in
        let one = one_named entry odd in
        let fourth : bits ≡ bit_at (entry % 32) = rw one.0 (xor_zero_r (bit_at (entry % 32))) in
        let other : changed word ≡ flipped c (entry % 32) two = ap₂ bit_xor (sym third) fourth ∙ xor_assoc two (bit_at c) (bit_at (entry % 32)) in
        let same : sent ≡ changed word =
        one_sender sent (changed word) two is is-other two_near (rw other (near_flipped two c (entry % 32) within (omega arith))) in
        let alike : wrong ≡ bits =
        sym (xor_back sent wrong)
        ∙ ap (bit_xor sent) (together ∙ sym (ap (λ (n : ℕ). bit_xor n bits) same ∙ xor_cancel word bits))
        ∙ xor_back sent bits in
        omega (arith, three, ap ones alike, many, one.1)
