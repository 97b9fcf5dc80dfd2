-- The text that is sent is read: by its characters and the fill after them, in either kind.
use Prim.Native.Nat.{ℕ, ◌+◌, ◌-◌, ◌*◌, ◌/◌, ◌^◌, ◌≤◌, ◌<◌}
use mathlib.Core.Bool.{Bool, true, false, ◌||◌}
use mathlib.Core.List.{List, [], ◌∷◌, map}
use mathlib.Core.Path.{◌≡◌, refl, sym, ap, ◌∙◌}
use native.Mathlib.Nat.{mod-eq_of_lt, lt_of_lt_of_le}
use native.Mathlib.Omega.{arith}
use borrow.Author.Tests.{ltb-true}
use lib.Dec.{ltb, eqb}
use lib.ListN.{length, get_or, replicate, length-append, length-replicate, length-map}
use lib.Pow.{pow_mono}
use Rattle.laws.specs.Choice.{pick}
use Rattle.laws.specs.Lists.{all, place_in}
use Rattle.laws.specs.Numerals.{number, digits, are_digits}
use Rattle.laws.proofs.Endings.{only_last}
use Rattle.laws.proofs.Numerals.{length_digits, digits_are, number_digits, digits_number, number_below, pow_mul}
use Rattle.laws.proofs.Rows.{all_append, all_map, all_replicate, place_found}
use Rattle.laws.proofs.Tests.{first_of, second_of}
use Rattle.numeric.specs.Pages.{set_of, is_space}
use Rattle.numeric.proofs.Codes.{sixteen_of, space_of}
use Rattle.pocsag.specs.Texts.{is_text, width_of, message_bits, character_of, room_of, text_in, is_fill, fill_at_end}
use Rattle.pocsag.specs.Sender.{code_of, is_sendable, fill_of, words_for, filled, message_of}

-- a rule that changes none of a row's numbers leaves the row
unchanged : (test : ℕ → Bool) (rule : ℕ → ℕ) → ((c : ℕ) → test c ≡ true → rule c ≡ c) → (row : List ℕ) → all test row ≡ true → map rule row ≡ row
unfolding all
unchanged test rule same [] so = refl
unchanged test rule same (c ∷ row) so =
    rw (same c (first_of (test c) (all test row) so), unchanged test rule same row (second_of (test c) (all test row) so))

-- two rules one after the other
map_map : (f g : ℕ → ℕ) (row : List ℕ) → map f (map g row) ≡ map (λ c. f (g c)) row
map_map f g [] = refl
map_map f g (c ∷ row) = rw (map_map f g row)

module _ (kind : ℕ) where
  -- the code of a character that can be sent has the character
  code_back : (c : ℕ) → ltb (code_of kind c) (2 ^ width_of kind) ≡ true → character_of kind (code_of kind c) ≡ c
  code_back c = by_kind (is_text kind)
    where
      by_kind : (text : Bool) → ltb (pick text c (place_in (set_of kind) c)) (2 ^ pick text 7 4) ≡ true
          → pick text (pick text c (place_in (set_of kind) c)) (get_or (set_of kind) (pick text c (place_in (set_of kind) c)) 0) ≡ c
      by_kind true small = refl
      by_kind false small =
          place_found (set_of kind) c (omega (arith, ltb-true (place_in (set_of kind) c) (2 ^ 4) small, sixteen_of (eqb kind 1)))

  -- fill can be sent
  fill_sendable : ltb (code_of kind (fill_of kind)) (2 ^ width_of kind) ≡ true
  fill_sendable = by_kind (is_text kind)
    where
      by_kind : (text : Bool) → ltb (pick text (pick text 0 32) (place_in (set_of kind) (pick text 0 32))) (2 ^ pick text 7 4) ≡ true
      by_kind true = refl
      by_kind false = rw (space_of (eqb kind 1))

  -- fill is told as fill
  fill_is_fill : is_fill kind (fill_of kind) ≡ true
  fill_is_fill = by_kind (is_text kind)
    where
      by_kind : (text : Bool) → pick text (eqb (pick text 0 32) 0 || eqb (pick text 0 32) 3 || eqb (pick text 0 32) 4) (is_space (pick text 0 32)) ≡ true
      by_kind true = refl
      by_kind false = refl

  -- the fewest words have room for the characters, and characters within their room end within them
  enough : (n : ℕ) → (n ≤ room_of kind (words_for kind n)) × (width_of kind * room_of kind (words_for kind n) ≤ 20 * words_for kind n)
  enough n = by_kind (is_text kind)
    where
      by_kind : (text : Bool) → let words = (pick text 7 4 * n + 19) / 20 in
          (n ≤ 20 * words / pick text 7 4) × (pick text 7 4 * (20 * words / pick text 7 4) ≤ 20 * words)
      by_kind true = (omega arith, omega arith)
      by_kind false = (omega arith, omega arith)

  module _ (text : List ℕ) where
    -- the words of a text, and the characters that they have room for
    abbrev words : ℕ
    words = words_for kind (length text)

    -- a text and its fill have the room's length
    filled_length : length (filled kind text) ≡ room_of kind words
    filled_length = simp (length-append, length-replicate) (omega (arith, (enough (length text)).0))

    -- the codes of a text and its fill
    abbrev codes : List ℕ
    codes = map (code_of kind) (filled kind text)

    -- there are as many
    codes_length : length codes ≡ room_of kind words
    codes_length = length-map (filled kind text) (code_of kind) ∙ filled_length

    -- the message of a text has so many words, each of twenty bits
    pub message_words : (length (message_of kind text) ≡ words_for kind (length text)) × (are_digits (2 ^ message_bits) (message_of kind text) ≡ true)
    unfolding message_of
    message_words = (
      length_digits (2 ^ message_bits) words (number (2 ^ width_of kind) codes),
      digits_are (2 ^ message_bits) words (number (2 ^ width_of kind) codes) (omega arith),
    )

    module _ (good : is_sendable kind text ≡ true) where
      -- a text and its fill can be sent
      all-sendable : all (λ c. ltb (code_of kind c) (2 ^ width_of kind)) (filled kind text) ≡ true
      unfolding is_sendable
      all-sendable =
          all_append (λ c. ltb (code_of kind c) (2 ^ width_of kind)) text (replicate (room_of kind words - length text) (fill_of kind))
          ∙ rw (good, all_replicate (λ c. ltb (code_of kind c) (2 ^ width_of kind)) (room_of kind words - length text) (fill_of kind) fill_sendable)

      -- their codes are within the width
      codes-small : are_digits (2 ^ width_of kind) codes ≡ true
      codes-small = all_map (λ code. ltb code (2 ^ width_of kind)) (code_of kind) (filled kind text) ∙ all-sendable

      -- the number of the codes has no more bits than the words
      number_small : number (2 ^ width_of kind) codes < (2 ^ message_bits) ^ words
      number_small =
          let below : number (2 ^ width_of kind) codes < (2 ^ width_of kind) ^ room_of kind words =
          rw codes_length at (number_below (2 ^ width_of kind) codes codes-small) in
          let fits : 2 ^ (width_of kind * room_of kind words) ≤ 2 ^ (message_bits * words) = pow_mono (enough (length text)).1 in
          rw (pow_mul 2 message_bits words) (lt_of_lt_of_le (rw (pow_mul 2 (width_of kind) (room_of kind words)) at below) fits)

      -- what is sent is read, with the fill after it
      pub sent-read : text_in kind (message_of kind text) ≡ filled kind text
      unfolding text_in message_of
      sent-read =
          let whole : number (2 ^ message_bits) (digits (2 ^ message_bits) words (number (2 ^ width_of kind) codes)) ≡ number (2 ^ width_of kind) codes =
          number_digits (2 ^ message_bits) words (number (2 ^ width_of kind) codes) (omega arith) ∙ mod-eq_of_lt number_small in
          let back : digits (2 ^ width_of kind) (room_of kind words) (number (2 ^ width_of kind) codes) ≡ codes =
          ap (λ (n : ℕ). digits (2 ^ width_of kind) n (number (2 ^ width_of kind) codes)) (sym codes_length)
          ∙ digits_number (2 ^ width_of kind) codes codes-small in
          ap (λ (n : ℕ). map (character_of kind) (digits (2 ^ width_of kind) (room_of kind n) (number (2 ^ message_bits) (message_of kind text)))) message_words.0
          ∙ ap (λ (n : ℕ). map (character_of kind) (digits (2 ^ width_of kind) (room_of kind words) n)) whole
          ∙ ap (map (character_of kind)) back
          ∙ map_map (character_of kind) (code_of kind) (filled kind text)
          ∙ unchanged (λ c. ltb (code_of kind c) (2 ^ width_of kind)) (λ c. character_of kind (code_of kind c)) code_back (filled kind text) all-sendable

      -- where a text does not end in fill itself, it is what stands before the fill that is told
      pub fill-told : fill_at_end kind text ≡ 0 → fill_at_end kind (text_in kind (message_of kind text)) ≡ room_of kind (words_for kind (length text)) - length text
      fill-told none =
          ap (fill_at_end kind) sent-read
          ∙ only_last (is_fill kind) text (replicate (room_of kind words - length text) (fill_of kind)) none
          (all_replicate (is_fill kind) (room_of kind words - length text) (fill_of kind) fill_is_fill)
          ∙ length-replicate (room_of kind words - length text) (fill_of kind)
