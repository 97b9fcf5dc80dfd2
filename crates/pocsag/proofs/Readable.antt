-- What is known of a page's words that the text reader does not refuse, and what a refusal tells.
use Prim.Native.Nat.{ℕ, ◌^◌, ◌≤◌}
use mathlib.Core.Bool.{Bool, true, false, not}
use mathlib.Core.List.{List, [], ◌∷◌}
use mathlib.Core.Logic.{⊎_elim, inl}
use mathlib.Core.Path.{◌≡◌, refl, sym, ap, ◌∙◌}
use native.Mathlib.Omega.{arith}
use borrow.Author.Tests.{leb-true, leb-false, lt-ltb, le-ltb, ltb-false, not-false}
use lib.Dec.{leb, ltb}
use lib.ListN.{length, take, length-map}
use lib.Seq.{take_at}
use Rattle.laws.specs.Lists.{put}
use Rattle.laws.specs.Numerals.{number, digits, are_digits}
use Rattle.laws.proofs.Numerals.{length_digits}
use Rattle.laws.proofs.Writing.{length_put}
use Rattle.refusal.specs.declared.Refusal.TheVariants as refusals
use Rattle.refusal.specs.declared.Refusal.{Refusal}
use Rattle.refusal.specs.Told.{Told, told, refused, given, ask, number_of, number_told, number_unless}
use Rattle.refusal.proofs.Laws.{passed, plain_ask, number_positive}
use Rattle.pocsag.specs.declared.TextKind.{TextKind}
use Rattle.pocsag.specs.declared.TextKind.TheVariants.{Numeric, NumericChinese, SevenBit}
use Rattle.pocsag.specs.Texts.{is_kind, kind_number, message_bits, width_of, character_of, room_of, text_in, fill_at_end, read_of}

-- the words have twenty bits, and there is room for their characters
pub record Readable (kind lent : ℕ) (words : List ℕ) : Type 0 where
  pub whole : are_digits (2 ^ message_bits) words ≡ true
  pub room : room_of kind (length words) ≤ lent

-- what is told of words that are not refused
abbrev pub read_told : ℕ → List ℕ → Told
read_told kind words = given (room_of kind (length words) ∷ fill_at_end kind (text_in kind words) ∷ [])

-- words that are not refused can be read
pub readable : (kind lent : ℕ) (words : List ℕ) → number_told (read_of kind lent words) ≡ 0
    → Readable kind lent words × (read_of kind lent words ≡ read_told kind words)
unfolding read_of
readable kind lent words e =
    let p = passed (not (is_kind kind)) refusals.Packet _ e in
    let q = passed (not (are_digits (2 ^ message_bits) words)) refusals.Damaged _ p.1 in
    let r = passed (ltb lent (room_of kind (length words))) refusals.Room _ q.1 in
    (record { whole = not-false _ q.0; room = ltb-false _ _ r.0 }, simp (p.0, q.0, r.0))

-- a text has as many characters as its words have room for
pub text_length : (kind : ℕ) (words : List ℕ) → length (text_in kind words) ≡ room_of kind (length words)
unfolding text_in
text_length kind words =
    length-map (digits (2 ^ width_of kind) (room_of kind (length words)) (number (2 ^ message_bits) words)) (character_of kind)
    ∙ length_digits (2 ^ width_of kind) (room_of kind (length words)) (number (2 ^ message_bits) words)

-- a refusal tells its number alone
pub read_plain : (kind lent : ℕ) (words : List ℕ) → (number_told (read_of kind lent words) ≡ 0 → ⊥)
    → read_of kind lent words ≡ told (number_told (read_of kind lent words)) []
unfolding read_of
read_plain kind lent words some =
    ⊎_elim (λ none. absurd (some none)) (λ e. e)
    (plain_ask (not (is_kind kind)) refusals.Packet _
    (plain_ask (not (are_digits (2 ^ message_bits) words)) refusals.Damaged _
    (plain_ask (ltb lent (room_of kind (length words))) refusals.Room (read_told kind words) (inl refl))))

-- and a refusal of that number is what is told
pub refused_alone : (kind lent : ℕ) (words : List ℕ) (r : Refusal) → number_of r ≡ number_told (read_of kind lent words)
    → refused r ≡ read_of kind lent words
refused_alone kind lent words r e =
    ap (λ (n : ℕ). told n []) e ∙ sym (read_plain kind lent words (λ none. omega (arith, number_positive r, e, none)))

-- a kind that the code has is one that a caller may choose
pub kind_known : (kind : TextKind) → is_kind (kind_number kind) ≡ true
kind_known Numeric = refl
kind_known NumericChinese = refl
kind_known SevenBit = refl

module _ (kind : ℕ) (words lent : List ℕ) where
  -- a text that is written keeps the lent memory's length
  pub text_fits : room_of kind (length words) ≤ length lent → length (put lent 0 (text_in kind words)) ≡ length lent
  text_fits enough = length_put lent (text_in kind words) 0 (omega (arith, enough, text_length kind words))

  -- the first bytes are then the text
  pub text_first : take (room_of kind (length words)) (put lent 0 (text_in kind words)) ≡ text_in kind words
  text_first = take_at (text_in kind words) _ (room_of kind (length words)) (text_length kind words)

-- the question about the room, asked the other way round
pub room_asked : (kind lent : ℕ) (words : List ℕ)
    → number_unless refusals.Room (leb (room_of kind (length words)) lent)
    ≡ number_told (ask (ltb lent (room_of kind (length words))) refusals.Room (read_told kind words))
room_asked kind lent words = by_room (leb (room_of kind (length words)) lent) refl
  where
    by_room : (fits : Bool) → leb (room_of kind (length words)) lent ≡ fits
        → number_unless refusals.Room fits ≡ number_told (ask (ltb lent (room_of kind (length words))) refusals.Room (read_told kind words))
    by_room true e = rw (le-ltb lent (room_of kind (length words)) (leb-true _ _ e))
    by_room false e = rw (lt-ltb lent (room_of kind (length words)) (leb-false _ _ e))
