-- Worked examples: 01's marked cases 6 and 7, its examples of the listing and of the form, and some besides.
use Prim.Native.Char.{code}
use Prim.Native.Nat.{ℕ}
use Prim.Native.String.{String}
use Rattle.std.specs.Prelude.{Option, Some, None}
use mathlib.Core.Bool.{Bool, true, false}
use mathlib.Core.Path.{◌≡◌, refl}
use mathlib.Core.List.{List, [], ◌∷◌, map}
use Rattle.laws.specs.Lists.{all, first_that}
use Rattle.laws.specs.Texts.{bytes_of}
use Rattle.refusal.specs.declared.Refusal.TheVariants.{Text, «Type», Range, Offset, DigitBeforeLetter, LeadingFour, DigitAfterLetter}
use Rattle.refusal.specs.Told.{Told, refused, refused_at, given}
use Rattle.capcode.specs.Ranges.{rows, class_in, class_of}
use Rattle.capcode.specs.Assigned.{asked}
use Rattle.capcode.specs.Reads.{step_of, follow, form_of, fault_at, read_of}
use Rattle.capcode.specs.Advice.{wrong_advice, advice_of}

-- texts, each with what it is to be read as: letter, frame, collapse, address, phase (any-phase is 4) and base frame, or the refusal, with its place
unfoldable pub table : List (String × Told)
table =
    -- marked case 6
    ("D0000002", refused Offset)
    -- marked case 7: phase A, frame 0
    ∷ ("D0000003", given (68 ∷ 0 ∷ 4 ∷ 3 ∷ 0 ∷ 0 ∷ []))
    -- zeros are written: these are two texts
    ∷ ("E0001234", given (69 ∷ 0 ∷ 4 ∷ 1234 ∷ 4 ∷ 77 ∷ []))
    ∷ ("E1234", refused_at DigitAfterLetter 5)
    -- more than 2031614 is ten digits, and up to 2031614 is seven
    ∷ ("A2101249", refused_at DigitAfterLetter 8)
    ∷ ("A0002101249", given (65 ∷ 0 ∷ 4 ∷ 2101249 ∷ 0 ∷ 0 ∷ []))
    ∷ ("A0000001234", refused_at DigitAfterLetter 8)
    -- no digit means 4
    ∷ ("4A0001234", refused_at LeadingFour 0)
    ∷ ("I0001234", refused «Type»)
    ∷ ("0775Y0001234", given (89 ∷ 77 ∷ 5 ∷ 1234 ∷ 4 ∷ 77 ∷ []))
    ∷ ("A1933313", refused Range)
    -- 02, item 1: a frame over 127; a digit after a collapse digit; a collapse over 5; a fifth digit
    ∷ ("1284Y0001234", refused_at DigitBeforeLetter 2)
    ∷ ("23A0001234", refused_at DigitBeforeLetter 1)
    ∷ ("0776U0001234", refused_at DigitBeforeLetter 3)
    ∷ ("07744U0001234", refused_at DigitBeforeLetter 4)
    -- no digit at all: lower case, a letter after the letter, a blank at the end
    ∷ ("e0001234", refused_at Text 0)
    ∷ ("EE001234", refused_at Text 1)
    ∷ ("E0001234 ", refused_at Text 8)
    -- texts that only stop too soon, the first of them empty
    ∷ ("", refused_at DigitAfterLetter 0)
    ∷ ("077", refused_at DigitAfterLetter 3)
    -- a digit after the ten
    ∷ ("A00021012490", refused_at DigitAfterLetter 11)
    ∷ []

-- the definitions give these answers
pub examples : map {A = String × Told} {B = Told} (λ row. read_of (bytes_of row.0)) table ≡ map {A = String × Told} {B = Told} (λ row. row.1) table
unfolding table form_of follow step_of all fault_at asked class_of class_in rows
examples = refl

-- texts, each with the row of the sentence that a person is told, and the letter to write after it; the last says whether it is the first line of a file
unfoldable pub advised : List (String × ℕ × Option ℕ × Bool)
advised =
    -- nothing is refused, and the sentences of 4, 5 and 6
    ("E0001234", 0, None, false)
    ∷ ("I0001234", 4, None, false)
    ∷ ("A1933313", 5, None, false)
    ∷ ("D0000002", 6, None, false)
    -- a digit before the letter
    ∷ ("1284Y0001234", 19, None, false)
    ∷ ("4A0001234", 20, None, false)
    -- texts that stop too soon
    ∷ ("", 40, None, false)
    ∷ ("077", 41, None, false)
    ∷ ("E1234", 42, None, false)
    ∷ ("A2101249", 43, None, false)
    -- a digit too many
    ∷ ("A0000001234", 44, None, false)
    ∷ ("0774YA0021012490", 52, None, false)
    ∷ ("0774Y00021012490", 45, None, false)
    -- blanks
    ∷ ("E0001234  ", 47, None, false)
    ∷ ("E0001234 x", 48, None, false)
    ∷ ("E1234 ", 48, None, false)
    -- letters: small ones, an O, and one after the wrong digits
    ∷ ("e0001234", 49, Some (code "E"), false)
    ∷ ("077e0001234", 52, None, false)
    ∷ ("E00O1234", 50, None, false)
    ∷ ("00A0001234", 51, None, false)
    ∷ ("EE001234", 52, None, false)
    ∷ []

-- the definitions give these
pub advice_examples :
    map {A = String × ℕ × Option ℕ × Bool} {B = ℕ × Option ℕ} (λ row. ((advice_of row.3 (bytes_of row.0)).row, (advice_of row.3 (bytes_of row.0)).letter)) advised
    ≡ map {A = String × ℕ × Option ℕ × Bool} {B = ℕ × Option ℕ} (λ row. (row.1, row.2)) advised
unfolding advised form_of follow step_of all first_that fault_at wrong_advice asked class_of class_in rows
advice_examples = refl

-- a byte-order mark is told of the first line of a file, and of no other
pub mark_examples :
    ((advice_of true (0xEF ∷ 0xBB ∷ 0xBF ∷ bytes_of "E0001234")).row ≡ 46)
    × ((advice_of true (0xFF ∷ 0xFE ∷ code "E" ∷ 0 ∷ [])).row ≡ 46)
    × ((advice_of true (0xFE ∷ 0xFF ∷ 0 ∷ code "E" ∷ [])).row ≡ 46)
    × ((advice_of false (0xEF ∷ 0xBB ∷ 0xBF ∷ bytes_of "E0001234")).row ≡ 52)
unfolding form_of follow step_of all first_that fault_at wrong_advice
mark_examples = (refl, refl, refl, refl)
