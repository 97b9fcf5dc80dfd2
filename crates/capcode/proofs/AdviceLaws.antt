-- What a person is told of a text, line by line of the definitions.
use Rattle.std.specs.Prelude.{Option, Result, Ok, Err}
use Prim.Native.Char.{code}
use Prim.Native.Nat.{ℕ, ◌+◌, ◌-◌, ◌≤◌}
use mathlib.Core.Bool.{Bool, true, false, not, ◌&&◌, ◌||◌, false≢true}
use mathlib.Core.List.{List, [], ◌∷◌}
use mathlib.Core.Logic.{◌↔◌, ◌⊎◌, inl, inr}
use mathlib.Core.Path.{◌≡◌, refl, sym, ap, ◌∙◌}
use native.Mathlib.Omega.{arith}
use lib.Dec.{ltb, eqb}
use lib.ListN.{length, take, drop, get_or}
use Rattle.laws.specs.Choice.{pick}
use Rattle.laws.specs.Lists.{all}
use Rattle.laws.proofs.Searches.{first_most}
use Rattle.refusal.specs.declared.Refusal.{Refusal}
use Rattle.refusal.specs.declared.Refusal.TheVariants.{Text, «Type», Range, Offset, Packet}
use Rattle.refusal.specs.Told.{Told, number_of, given, ask, number_told}
use Rattle.refusal.specs.Sentences.{sentences}
use Rattle.refusal.proofs.Laws.{number_positive, of_number}
use Rattle.refusal.proofs.SentenceLaws.{has_sentence, refusal_said}
use Rattle.capcode.specs.declared.Capcode.{Capcode}
use Rattle.capcode.specs.Ranges.{accepted}
use Rattle.capcode.specs.Assigned.{standard, framed, all_phase, offset_of, phase_of, base_of, fields_fit, asked}
use Rattle.capcode.specs.Reads.{is_digit, form_of, before_letter, fault_at, read_by, read_of}
use Rattle.std.specs.Option.{unwrap_or}
use Rattle.capcode.specs.declared.Advice.{Advice}
use Rattle.capcode.specs.Advice.{Advised, told_advice, say, head_digits, short_advice, many_advice, is_marked, is_blank, is_said, blank_advice}
use Rattle.capcode.specs.Advice.{capital_of, goes_on_as, letter_advice, other_advice, wrong_advice, advice_by, advice_of}

-- no more digits stand at the start of a text than it has bytes
pub head_within : (text : List ℕ) → head_digits text ≤ length text
head_within text = first_most (λ byte. not (is_digit byte)) text

-- ---- a text that is refused gets a sentence, and no other

-- advice that has a sentence
record Says (advice : Advised) : Type 0 where
  pub has : has_sentence advice.row ≡ true

pick_says : (test : Bool) (a b : Advised) → Says a → Says b → Says (pick test a b)
pick_says true a b first second = first
pick_says false a b first second = second

-- the rows of a text that stops too soon, of a digit too many, of a blank, and of any other byte have a sentence
short_says : (empty headed few : Bool) → Says (pick empty (say 40) (pick headed (say 41) (pick few (say 42) (say 43))))
unfolding sentences
short_says true headed few = record { has = refl }
short_says false true few = record { has = refl }
short_says false false true = record { has = refl }
short_says false false false = record { has = refl }

many_says : (seven : Bool) → Says (pick seven (say 44) (say 45))
unfolding sentences
many_says true = record { has = refl }
many_says false = record { has = refl }

blank_says : (end : Bool) → Says (pick end (say 47) (say 48))
unfolding sentences
blank_says true = record { has = refl }
blank_says false = record { has = refl }

letter-says : (small zero known : Bool) (letter : Option ℕ)
    → Says (pick small (record { row = 49; letter = letter }) (pick zero (say 50) (pick known (say 51) (say 52))))
unfolding sentences
letter-says true zero known letter = record { has = refl }
letter-says false true known letter = record { has = refl }
letter-says false false true letter = record { has = refl }
letter-says false false false letter = record { has = refl }

mark_says : Says (say 46)
unfolding sentences
mark_says = record { has = refl }

-- whatever is wrong with a text, there is a sentence for it
wrong_says : (first : Bool) (text : List ℕ) (place : ℕ) → Says (wrong_advice first text place)
unfolding wrong_advice
wrong_says first text place =
    pick_says (eqb place (length text)) (short_advice text) _ short (pick_says (not (is_digit byte)) (other_advice first text place byte) _ other
    (pick_says (before_letter text place) (say (number_of (fault_at text place))) (many_advice text place)
    (record { has = refusal_said (fault_at text place) }) (many_says (ltb place (head_digits text + 11)))))
  where
    byte : ℕ
    byte = get_or text place 0

    short : Says (short_advice text)
    short = short_says (eqb (length text) 0) (eqb (head_digits text) (length text)) (ltb (length text) (head_digits text + 8))

    blank : Says (blank_advice text place)
    blank = blank_says ((is_said (form_of (take place text)) && all is_blank (drop place text)) && ltb (length text) 16)

    letter : Says (letter_advice text place byte)
    letter =
        letter-says (goes_on_as place (capital_of byte) && before_letter text place)
        ((eqb byte (code "O") || eqb byte (code "o")) && not (before_letter text place))
        ((standard byte || framed byte) && before_letter text place)
        (capital_of byte)

    other : Says (other_advice first text place byte)
    other =
        pick_says (first && is_marked text) (say 46) _ mark_says
        (pick_says (is_blank byte) (blank_advice text place) (letter_advice text place byte) blank letter)

-- what is asked of every CAPCODE refuses it, whatever would be answered else, or passes it on
record Alike (a b : Told) : Type 0 where
  pub number : number_told a ≡ number_told b
  pub one : (number_told a ≡ 0) ⊎ ((r : Refusal) × (number_told a ≡ number_of r))

alike_ask : (test : Bool) (r : Refusal) (a b : Told) → Alike a b → Alike (ask test r a) (ask test r b)
alike_ask true r a b rest = record { number = refl; one = inr (r, refl) }
alike_ask false r a b rest = rest

alike_asked : (c : Capcode) (a b : Told) → Alike a b → Alike (asked c a) (asked c b)
unfolding asked
alike_asked c a b rest =
    alike_ask (not (standard c.letter || framed c.letter)) Text _ _
    (alike_ask (all_phase c.letter) «Type» _ _
    (alike_ask (not (accepted c.address)) Range _ _
    (alike_ask (ltb c.address (offset_of c.letter)) Offset _ _
    (alike_ask (not (fields_fit c)) Packet a b rest))))

-- a number that is 0, or that of a refusal, has a sentence exactly if it is not 0
of_capcode : (n m : ℕ) → n ≡ m → (n ≡ 0) ⊎ ((r : Refusal) × (n ≡ number_of r)) → (has_sentence n ≡ true) ↔ (m ≡ 0 → ⊥)
unfolding sentences
of_capcode n m same (inl none) = (
  λ says. let no : ◌≡◌ {A = Bool} false true = rw none at says in absurd (false≢true no),
  λ some. absurd (some (sym same ∙ none)),
)
of_capcode n m same (inr refused) = (
  λ says none. omega (arith, same, refused.1, number_positive refused.0),
  λ some. rw refused.1 (refusal_said refused.0),
)

-- a sentence is told of a text exactly if it is refused
pub said_exactly : (first : Bool) (text : List ℕ) → (has_sentence (advice_of first text).row ≡ true) ↔ (number_told (read_of text) ≡ 0 → ⊥)
said_exactly first text = by_form (form_of text)
  where
    by_form : (form : Result Capcode ℕ) → (has_sentence (advice_by first text form).row ≡ true) ↔ (number_told (read_by text form) ≡ 0 → ⊥)
    by_form (Ok c) =
        let alike = alike_asked c (given (phase_of c ∷ base_of c ∷ [])) (given (c.letter ∷ c.frame ∷ c.collapse ∷ c.address ∷ phase_of c ∷ base_of c ∷ []))
        (record { number = refl; one = inl refl }) in
        of_capcode _ _ alike.number alike.one
    by_form (Err place) = (λ says none. omega (arith, number_positive (fault_at text place)), λ some. (wrong_says first text place).has)

-- ---- one telling, one advice

-- the advice of a row and a letter
abbrev advice_at : Advised → Advice
advice_at told =
    pick (eqb told.row 0) Advice.Fine
    (pick (ltb told.row 40) (Advice.Refused (of_number told.row))
    (get_or
    (Advice.EmptyLine ∷ Advice.NoLetter ∷ Advice.TooFewOfSeven ∷ Advice.TooFewOfTen ∷ Advice.TooManyOfSeven ∷ Advice.TooManyOfTen
    ∷ Advice.ByteOrderMark ∷ Advice.BlankAtTheEnd ∷ Advice.Blank ∷ Advice.LowerCase (unwrap_or told.letter 0) ∷ Advice.LetterO
    ∷ Advice.DigitsBefore ∷ Advice.Character ∷ [])
    (told.row - 40)
    Advice.Fine))

refusal_back : (r : Refusal) → advice_at (told_advice (Advice.Refused r)) ≡ Advice.Refused r
refusal_back Refusal.Room = refl
refusal_back Refusal.State = refl
refusal_back Refusal.Text = refl
refusal_back Refusal.«Type» = refl
refusal_back Refusal.Range = refl
refusal_back Refusal.Offset = refl
refusal_back Refusal.Packet = refl
refusal_back Refusal.Address = refl
refusal_back Refusal.Size = refl
refusal_back Refusal.Damaged = refl
refusal_back Refusal.Checksum = refl
refusal_back Refusal.Full = refl
refusal_back Refusal.NoChain = refl
refusal_back Refusal.OutOfTurn = refl
refusal_back Refusal.TooLong = refl
refusal_back Refusal.Signature = refl
refusal_back Refusal.NoCall = refl
refusal_back Refusal.Character = refl
refusal_back Refusal.DigitBeforeLetter = refl
refusal_back Refusal.LeadingFour = refl
refusal_back Refusal.DigitAfterLetter = refl
refusal_back Refusal.BeyondRepair = refl
refusal_back Refusal.NoSync = refl

advice_back : (advice : Advice) → advice_at (told_advice advice) ≡ advice
advice_back Advice.Fine = refl
advice_back (Advice.Refused r) = refusal_back r
advice_back Advice.EmptyLine = refl
advice_back Advice.NoLetter = refl
advice_back Advice.TooFewOfSeven = refl
advice_back Advice.TooFewOfTen = refl
advice_back Advice.TooManyOfSeven = refl
advice_back Advice.TooManyOfTen = refl
advice_back Advice.ByteOrderMark = refl
advice_back Advice.BlankAtTheEnd = refl
advice_back Advice.Blank = refl
advice_back (Advice.LowerCase capital) = refl
advice_back Advice.LetterO = refl
advice_back Advice.DigitsBefore = refl
advice_back Advice.Character = refl

-- two advices told alike are the same
pub advice_tells : (a b : Advice) → told_advice a ≡ told_advice b → a ≡ b
advice_tells a b e = sym (advice_back a) ∙ ap advice_at e ∙ advice_back b
