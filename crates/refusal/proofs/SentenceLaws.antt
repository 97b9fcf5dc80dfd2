-- No sentence is longer than 96 bytes or has a line feed, none stands twice, and every refusal has one.
use Prim.Native.Nat.{ℕ, zero, suc, ◌+◌, ◌*◌, ◌≤◌, ◌<◌}
use mathlib.Core.Bool.{Bool, true, not, ◌&&◌, ◌||◌}
use mathlib.Core.List.{List, [], ◌∷◌, map}
use mathlib.Core.Logic.{⊎_elim}
use mathlib.Core.Path.{◌≡◌, refl, sym, ap, ◌∙◌}
use native.Mathlib.Omega.{arith}
use mir.Facts.{or_yes}
use borrow.Author.Tests.{leb-true, ltb-true, ltb-false}
use lib.Dec.{T, leb, ltb, eqb, eqb→eq}
use lib.ListN.{length, get_or, get_or-eq_default}
use Rattle.laws.specs.Lists.{place_in, all}
use Rattle.laws.proofs.Counting.{all_below, of_all_below}
use Rattle.laws.proofs.Tests.{first_of, second_of, decided}
use Rattle.refusal.specs.declared.Refusal.{Refusal}
use Rattle.refusal.specs.declared.Refusal.TheVariants.{Room, State, Text, «Type», Range, Offset, Packet}
use Rattle.refusal.specs.declared.Refusal.TheVariants.{Address, Size, Damaged, Checksum, Full, NoChain}
use Rattle.refusal.specs.declared.Refusal.TheVariants.{OutOfTurn, TooLong, Signature, NoCall, Character}
use Rattle.refusal.specs.declared.Refusal.TheVariants.{DigitBeforeLetter, LeadingFour, DigitAfterLetter, BeyondRepair, NoSync}
use Rattle.refusal.specs.Told.{number_of}
use Rattle.refusal.specs.Sentences.{sentences, sentence_at}

-- whether a row has at most 96 bytes, and no line feed
abbrev fits : List ℕ → Bool
fits row = leb (length row) 96 && all (λ byte. not (eqb byte 10)) row

-- whether each of the rows fits so
unfoldable all_fit : List (List ℕ) → Bool
all_fit [] = true
all_fit (row ∷ rows) = fits row && all_fit rows

-- all sentences fit
all_fit_lem : all_fit sentences ≡ true
unfolding all_fit all sentences
all_fit_lem = refl

-- a row of rows that fit is short enough, and so is one that is not there
row_fits : (rows : List (List ℕ)) (n : ℕ) → all_fit rows ≡ true → length (get_or rows n []) ≤ 96
unfolding all_fit
row_fits [] n fit = omega arith
row_fits (row ∷ rows) zero fit = leb-true (length row) 96 (first_of (leb (length row) 96) _ (first_of (fits row) (all_fit rows) fit))
row_fits (row ∷ rows) (suc n) fit = row_fits rows n (second_of (fits row) (all_fit rows) fit)

-- no sentence is longer than a line of a screen takes
pub sentence_short : (row : ℕ) → length (sentence_at row) ≤ 96
sentence_short row = row_fits sentences row all_fit_lem

-- a sentence as a number, a digit to the base 256 for each byte
unfoldable as_number : List ℕ → ℕ
as_number [] = 0
as_number (byte ∷ row) = byte + 256 * as_number row

-- the first row that has a sentence
unfoldable row_of : List ℕ → ℕ
unfolding place_in
row_of sentence = place_in (map as_number sentences) (as_number sentence)

-- whether a row is empty, or the first that has its sentence
unfoldable is_first : ℕ → Bool
is_first row = eqb (length (sentence_at row)) 0 || eqb (row_of (sentence_at row)) row

-- no row of the table has the sentence of a row before it
all_first : T (all_below is_first (length sentences))
unfolding is_first row_of as_number sentences
all_first = tt

-- a row is found by its sentence
row_found : (row : ℕ) → 0 < length (sentence_at row) → row_of (sentence_at row) ≡ row
unfolding is_first
row_found row some =
    let within : row < length sentences =
    ⊎_elim
    (ltb-true row (length sentences))
    (λ past. let none = get_or-eq_default sentences [] (ltb-false row (length sentences) past) in absurd (omega (arith, ap length none)))
    (decided (ltb row (length sentences)))
    in
    ⊎_elim
    (λ none. absurd (omega (arith, eqb→eq (length (sentence_at row)) 0 none)))
    (eqb→eq (row_of (sentence_at row)) row)
    (or_yes (eqb (length (sentence_at row)) 0) (eqb (row_of (sentence_at row)) row) (of_all_below is_first (length sentences) all_first row within))

-- no sentence stands in two rows
pub sentences_differ : (a b : ℕ) → 0 < length (sentence_at a) → sentence_at a ≡ sentence_at b → a ≡ b
sentences_differ a b some alike = sym (row_found a some) ∙ ap row_of alike ∙ row_found b (rw (← alike) some)

-- a row that has a sentence
abbrev pub has_sentence : ℕ → Bool
has_sentence row = ltb 0 (length (sentence_at row))

-- every refusal has a sentence
pub refusal_said : (r : Refusal) → has_sentence (number_of r) ≡ true
unfolding sentences
refusal_said Room = refl
refusal_said State = refl
refusal_said Text = refl
refusal_said «Type» = refl
refusal_said Range = refl
refusal_said Offset = refl
refusal_said Packet = refl
refusal_said Address = refl
refusal_said Size = refl
refusal_said Damaged = refl
refusal_said Checksum = refl
refusal_said Full = refl
refusal_said NoChain = refl
refusal_said OutOfTurn = refl
refusal_said TooLong = refl
refusal_said Signature = refl
refusal_said NoCall = refl
refusal_said Character = refl
refusal_said DigitBeforeLetter = refl
refusal_said LeadingFour = refl
refusal_said DigitAfterLetter = refl
refusal_said BeyondRepair = refl
refusal_said NoSync = refl
