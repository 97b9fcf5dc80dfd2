-- Where a text goes wrong: the first place at which no text in the form could go on.
use Rattle.std.specs.Prelude.{Option, Some, None, Result, Ok, Err}
use Prim.Native.Char.{code}
use Prim.Native.Nat.{ℕ, zero, suc, ◌+◌, ◌-◌, ◌*◌, ◌%◌, ◌≤◌, ◌<◌}
use mathlib.Core.Bool.{Bool, true, false, ◌&&◌, ◌||◌}
use mathlib.Core.Path.{◌≡◌, refl, sym, ap, ◌∙◌}
use mathlib.Core.Logic.{◌↔◌, ◌⊎◌, inl, inr, ⊎_elim}
use mathlib.Core.List.{List, [], ◌∷◌, ◌++◌, append_assoc, append-nil}
use native.Mathlib.Omega.{arith}
use lib.Dec.{leb, eqb}
use lib.ListN.{length, take, drop, length-append, take-append-drop}
use lib.Seq.{take-length, take-take, length-take-le}
use borrow.Author.Tests.{le-leb, leb-true, leb-false, eqb-true, eqb-false, ne_eqb}
use Rattle.laws.specs.Choice.{pick}
use Rattle.laws.proofs.Tests.{decided, first_of, second_of, one_of}
use Rattle.refusal.specs.declared.Refusal.{Refusal}
use Rattle.refusal.specs.declared.Refusal.TheVariants.{LeadingFour}
use Rattle.refusal.specs.Told.{refused_at}
use Rattle.capcode.specs.declared.Capcode.{Capcode}
use Rattle.capcode.specs.declared.reading.Reading.{Reading}
use Rattle.capcode.specs.Reads.{is_digit, head_goes_on, letter_goes_on, address_goes_on, with_head, with_letter}
use Rattle.capcode.specs.Reads.{with_address, address_digit, step_of, Course, going, stopped, onward, follow}
use Rattle.capcode.specs.Reads.{blank, is_whole, said_by, end_of, form_of, fault_at, read_by, read_of}
use Rattle.capcode.specs.Text.{text_of, Sayable}
use Rattle.capcode.specs.Underway.{Digits, Sound}
use Rattle.capcode.proofs.Steps.{step_head, step_letter, step_address}
use Rattle.capcode.proofs.Sound.{sound_blank}
use Rattle.capcode.proofs.Course.{follow_stopped}
use Rattle.capcode.proofs.Spoken.{follow_append, digit_byte, read_of_printed}
use Rattle.capcode.proofs.Heard.{heard, printed_of_read}
use Rattle.capcode.proofs.Faults.{leading_four}
use Rattle.capcode.proofs.Laws.{text_upto}

-- some bytes end the reading in the form
abbrev Completes : Reading → Type 0
Completes s = (rest : List ℕ) × (c : Capcode) × ((i : ℕ) → end_of (follow (going i s) rest) ≡ Ok c)

whole_completes : (s : Reading) → is_whole s ≡ true → Completes s
unfolding follow
whole_completes s whole = ([], said_by s, λ i. rw whole)

step_completes : (s t : Reading) (byte : ℕ) → step_of s byte ≡ Some t → Completes t → Completes s
unfolding follow
step_completes s t byte step rest = (byte ∷ rest.0, rest.1, λ i. rw step (rest.2 (suc i)))

-- ---- after the letter

-- one digit more
address_more : (s : Reading) (digit : ℕ) → digit ≤ 9 → (s.letter ≡ 0 → ⊥)
    → address_goes_on (s.after + 1) (s.address * 10 + digit) ≡ true → Completes (with_address s digit) → Completes s
address_more s digit small some goes rest =
    let back : 48 + digit - 48 ≡ digit = omega arith in
    step_completes s (with_address s digit) (48 + digit)
    (sym (step_address s (48 + digit) (digit_byte digit small) some) ∙ ap (address_digit s) back ∙ rw goes) rest

complete_ten : (s : Reading) → (s.letter ≡ 0 → ⊥) → s.after ≡ 10 → Completes s
complete_ten s some e = whole_completes s (rw (ne_eqb s.letter 0 some, e))

complete_nine : (s : Reading) → (s.letter ≡ 0 → ⊥) → s.after ≡ 9 → 203161 ≤ s.address → Completes s
complete_nine s some e large =
    address_more s 9 (omega arith) some (rw (e, le-leb 2031615 (s.address * 10 + 9) (omega arith))) (complete_ten (with_address s 9) some (rw e))

complete_eight : (s : Reading) → (s.letter ≡ 0 → ⊥) → s.after ≡ 8 → 20316 ≤ s.address → Completes s
complete_eight s some e large =
    address_more s 9 (omega arith) some (rw (e, le-leb 203161 (s.address * 10 + 9) (omega arith))) (complete_nine (with_address s 9) some (rw e) (omega arith))

complete_seven_by : (s : Reading) (small : Bool) → leb s.address 2031614 ≡ small → (s.letter ≡ 0 → ⊥) → s.after ≡ 7 → Completes s
complete_seven_by s true test some e = whole_completes s (rw (ne_eqb s.letter 0 some, e, test))
complete_seven_by s false test some e =
    let large = leb-false s.address 2031614 test in
    address_more s 9 (omega arith) some (rw (e, le-leb 20316 (s.address * 10 + 9) (omega arith))) (complete_eight (with_address s 9) some (rw e) (omega arith))

-- up to seven digits are filled up with zeros, and more with nines
complete_upto : (n : ℕ) (s : Reading) → (s.letter ≡ 0 → ⊥) → s.after + n ≡ 7 → Completes s
complete_upto zero s some e = complete_seven_by s (leb s.address 2031614) refl some (omega arith)
complete_upto (suc n) s some e =
    address_more s 0 (omega arith) some (rw (le-leb (s.after + 1) 7 (omega arith))) (complete_upto n (with_address s 0) some (omega arith))

complete_after : (s : Reading) (after : ℕ) → (s.letter ≡ 0 → ⊥) → s.after ≡ after → Digits address_goes_on after s.address → Completes s
complete_after s zero some e digits = complete_upto 7 s some (omega arith)
complete_after s (suc n) some e digits = by_count (one_of _ _ _ _ digits.0)
  where
    by_count :
        (leb (suc n) 7 ≡ true)
        ⊎ (((eqb (suc n) 8 && leb 20316 s.address) ≡ true)
        ⊎ (((eqb (suc n) 9 && leb 203161 s.address) ≡ true) ⊎ ((eqb (suc n) 10 && leb 2031615 s.address) ≡ true)))
        → Completes s
    by_count (inl few) = complete_upto (7 - suc n) s some (omega (arith, leb-true (suc n) 7 few))
    by_count (inr (inl eight)) =
        complete_eight s some (omega (arith, eqb-true (suc n) 8 (first_of _ _ eight))) (leb-true 20316 s.address (second_of (eqb (suc n) 8) _ eight))
    by_count (inr (inr (inl nine))) =
        complete_nine s some (omega (arith, eqb-true (suc n) 9 (first_of _ _ nine))) (leb-true 203161 s.address (second_of (eqb (suc n) 9) _ nine))
    by_count (inr (inr (inr ten))) = complete_ten s some (omega (arith, eqb-true (suc n) 10 (first_of _ _ ten)))

-- ---- before the letter

-- the letter
letter-more : (s : Reading) (byte : ℕ) → s.letter ≡ 0 → is_digit byte ≡ false → letter_goes_on s.before byte ≡ true → (byte ≡ 0 → ⊥) → Completes s
letter-more s byte none letter goes some =
    step_completes s (with_letter s byte) byte (sym (step_letter s byte letter none) ∙ rw goes) (complete_upto 7 (with_letter s byte) some (omega arith))

-- a digit 0
head_more : (s : Reading) → s.letter ≡ 0 → head_goes_on (s.before + 1) (s.number * 10 + 0) ≡ true → Completes (with_head s 0) → Completes s
head_more s none goes rest = step_completes s (with_head s 0) 48 (sym (step_head s 48 refl none) ∙ rw goes) rest

complete_few : (s : Reading) → s.letter ≡ 0 → (eqb s.before 0 || eqb s.before 1) ≡ true → Completes s
complete_few s none few = letter-more s 65 none refl (rw few) (λ zero. omega arith)

complete_four : (s : Reading) → s.letter ≡ 0 → s.before ≡ 4 → Completes s
complete_four s none e = letter-more s 85 none refl (rw e) (λ zero. omega arith)

complete_three : (s : Reading) → s.letter ≡ 0 → s.before ≡ 3 → Completes s
complete_three s none e =
    head_more s none (rw (e, le-leb ((s.number * 10 + 0) % 10) 5 (omega arith))) (complete_four (with_head s 0) refl (rw e))

complete_two : (s : Reading) → s.letter ≡ 0 → s.before ≡ 2 → s.number ≤ 12 → Completes s
complete_two s none e small =
    head_more s none (rw (e, le-leb (s.number * 10 + 0) 127 (omega arith))) (complete_three (with_head s 0) refl (rw e))

complete_before : (s : Reading) (before : ℕ) → s.letter ≡ 0 → s.before ≡ before → Digits head_goes_on before s.number → Completes s
complete_before s zero none e digits = complete_few s none (rw e)
complete_before s (suc n) none e digits = by_count (one_of _ _ _ _ digits.0)
  where
    by_count :
        ((eqb (suc n) 1 && (leb s.number 3 || eqb s.number 5)) ≡ true)
        ⊎ (((eqb (suc n) 2 && leb s.number 12) ≡ true)
        ⊎ (((eqb (suc n) 3 && leb s.number 127) ≡ true) ⊎ ((eqb (suc n) 4 && leb (s.number % 10) 5) ≡ true)))
        → Completes s
    by_count (inl one) = complete_few s none (rw (e ∙ eqb-true (suc n) 1 (first_of _ _ one)))
    by_count (inr (inl two)) = complete_two s none (e ∙ eqb-true (suc n) 2 (first_of _ _ two)) (leb-true s.number 12 (second_of (eqb (suc n) 2) _ two))
    by_count (inr (inr (inl three))) = complete_three s none (e ∙ eqb-true (suc n) 3 (first_of _ _ three))
    by_count (inr (inr (inr four))) = complete_four s none (e ∙ eqb-true (suc n) 4 (first_of _ _ four))

-- every reading under way can be ended in the form
sound_completes : (s : Reading) (none : Bool) → eqb s.letter 0 ≡ none → Sound s → Completes s
sound_completes s true e sound = complete_before s s.before (eqb-true s.letter 0 e) refl sound.head
sound_completes s false e sound = complete_after s s.after (eqb-false s.letter 0 e) refl sound.address

-- ---- the place

-- a text that could go on: some bytes after it make it a text in the form
abbrev pub CouldGoOn : List ℕ → Type 0
CouldGoOn text = (rest : List ℕ) × (c : Capcode) × (form_of (text ++ rest) ≡ Ok c)

-- a text whose reading is under way could go on
going_could : (text : List ℕ) (i : ℕ) (s : Reading) → follow (going 0 blank) text ≡ going i s → CouldGoOn text
unfolding form_of
going_could text i s e =
    let k = sound_completes s (eqb s.letter 0) refl (heard text 0 i blank s sound_blank e).0 in
    (k.0, k.1, rw (follow_append, e) (k.2 i))

-- one whose reading has stopped is wrong at that place, whatever follows
stopped_could_not : (text : List ℕ) (place : ℕ) → follow (going 0 blank) text ≡ stopped place → (rest : List ℕ) → form_of (text ++ rest) ≡ Err place
unfolding form_of
stopped_could_not text place e rest = rw (follow_append, e, follow_stopped)

-- a reading that comes to the end has taken every byte
going_end : (text : List ℕ) (j i : ℕ) (s t : Reading) → follow (going j s) text ≡ going i t → i ≡ j + length text
unfolding follow
going_end [] j i s t e = let same : j ≡ i = cc in omega arith
going_end (byte ∷ text) j i s t e = by_step (step_of s byte) e (λ u. going_end text (suc j) i u t)
  where
    by_step : (step : Option Reading) → follow (onward j step) text ≡ going i t
        → ((u : Reading) → follow (going (suc j) u) text ≡ going i t → i ≡ suc j + length text)
        → i ≡ j + suc (length text)
    by_step (Some u) f later = omega (arith, later u f)
    by_step None f later = absurd (let no : ◌≡◌ {A = ℕ} 0 1 = cc (sym (follow_stopped j text) ∙ f) in omega arith)

-- a reading that stops at a place: up to there it was under way, and with the byte there it stops
record Stopping (j : ℕ) (s : Reading) (text : List ℕ) (place : ℕ) : Type 0 where
  pub past : ℕ
  pub at : place ≡ j + past
  pub within : past < length text
  pub reading : Reading
  pub before : follow (going j s) (take past text) ≡ going place reading
  pub there : follow (going j s) (take (suc past) text) ≡ stopped place

stopping : (text : List ℕ) (j place : ℕ) (s : Reading) → follow (going j s) text ≡ stopped place → Stopping j s text place
unfolding follow
stopping [] j place s e = absurd (let no : ◌≡◌ {A = ℕ} 0 1 = cc in omega arith)
stopping (byte ∷ text) j place s e = by_step (step_of s byte) refl e (λ u. stopping text (suc j) place u)
  where
    by_step : (step : Option Reading) → step_of s byte ≡ step → follow (onward j step) text ≡ stopped place
        → ((u : Reading) → follow (going (suc j) u) text ≡ stopped place → Stopping (suc j) u text place)
        → Stopping j s (byte ∷ text) place
    by_step (Some u) h f later =
        let r = later u f in
        record {
          past = suc r.past;
          at = omega (arith, r.at);
          within = omega (arith, r.within);
          reading = r.reading;
          before = ap (λ (next : Option Reading). follow (onward j next) (take r.past text)) h ∙ r.before;
          there = ap (λ (next : Option Reading). follow (onward j next) (take (suc r.past) text)) h ∙ r.there;
        }
    by_step None h f later =
        let here : j ≡ place = cc (sym (follow_stopped j text) ∙ f) in
        record { past = 0; at = omega arith; within = omega arith; reading = s; before = ap (λ (n : ℕ). going n s) here; there = rw h (ap stopped here) }

-- the first place at which no text in the form could go on: what stands before it could, and with the byte there
-- nothing can; it is the length of a text that only stops too soon
pub record FirstWrong (text : List ℕ) (place : ℕ) : Type 0 where
  pub within : place ≤ length text
  pub before : CouldGoOn (take place text)
  pub there : place < length text → (rest : List ℕ) → form_of (take (suc place) text ++ rest) ≡ Err place

-- a text that is wrong is wrong at that place
pub first_wrong : (text : List ℕ) (place : ℕ) → form_of text ≡ Err place → FirstWrong text place
unfolding form_of
first_wrong text place e = by_course (follow (going 0 blank) text) refl e
  where
    at_end : (i : ℕ) (s : Reading) (whole : Bool) → follow (going 0 blank) text ≡ going i s
        → pick whole (Ok (said_by s)) (Err i) ≡ Err place → FirstWrong text place
    at_end i s true f g = absurd (let no : ◌≡◌ {A = ℕ} 0 1 = cc in omega arith)
    at_end i s false f g =
        let here : i ≡ place = cc in
        let end : place ≡ length text = omega (arith, going_end text 0 i blank s f) in
        let all : take place text ≡ text = rw end (take-length text) in
        record { within = omega arith; before = rw all (going_could text i s f); there = λ short. absurd (omega arith) }

    by_course : (course : Course) → follow (going 0 blank) text ≡ course → end_of course ≡ Err place → FirstWrong text place
    by_course (going i s) f g = at_end i s (is_whole s) f g
    by_course (stopped i) f g =
        let here : i ≡ place = cc in
        let r = stopping text 0 place blank (f ∙ ap stopped here) in
        let same : r.past ≡ place = omega (arith, r.at) in
        record {
          within = omega (arith, r.within);
          before = rw same at (going_could (take r.past text) place r.reading r.before);
          there = λ short. rw same at (stopped_could_not (take (suc r.past) text) place r.there);
        }

-- ---- 02's sentence

-- a correct text is one in 01's form: the text of a CAPCODE that a text could have, I to L and Z among its letters
abbrev pub Correct : List ℕ → Type 0
Correct text = (c : Capcode) × (text_of c ≡ text) × Sayable c

-- some correct text begins so
abbrev pub Begins : List ℕ → Type 0
Begins text = (rest : List ℕ) × Correct (text ++ rest)

-- 02, item 1: "the first byte at which no correct text could go on". Its place is the length of the longest beginning of the text with which some
-- correct text begins
pub record Longest (text : List ℕ) (place : ℕ) : Type 0 where
  pub within : place ≤ length text
  pub begins : Begins (take place text)
  pub longest : (n : ℕ) → n ≤ length text → Begins (take n text) → n ≤ place

-- a text that could go on is one with which some correct text begins
could_begins : (text : List ℕ) → CouldGoOn text → Begins text
could_begins text could =
    let said = printed_of_read (text ++ could.0) could.1 could.2 in
    (could.0, (could.1, said.0, said.1))

-- a text that is wrong is no correct one
wrong_not_correct : (text : List ℕ) (place : ℕ) → form_of text ≡ Err place → Correct text → ⊥
wrong_not_correct text place e correct =
    let says : form_of text ≡ Ok correct.0 = ap form_of (sym correct.1) ∙ read_of_printed correct.0 correct.2 in
    let no : ◌≡◌ {A = ℕ} 0 1 = cc in
    absurd (omega arith)

-- no beginning that reaches past the place is one with which a correct text begins
past_not_begins : (text : List ℕ) (place n : ℕ) → FirstWrong text place → n ≤ length text → place < n → Begins (take n text) → ⊥
past_not_begins text place n first within past begins =
    let rest : List ℕ = drop (suc place) (take n text) ++ begins.0 in
    let parts : take (suc place) text ++ rest ≡ take n text ++ begins.0 =
    sym (append_assoc (take (suc place) text) (drop (suc place) (take n text)) begins.0)
    ∙ ap (λ (l : List ℕ). (l ++ drop (suc place) (take n text)) ++ begins.0) (sym (take-take (suc place) n text (omega arith)))
    ∙ ap (λ (l : List ℕ). l ++ begins.0) (take-append-drop (suc place) (take n text)) in
    wrong_not_correct (take n text ++ begins.0) place (ap form_of (sym parts) ∙ first.there (omega arith) rest) begins.1

-- the place where a text is wrong is that of the sentence
wrong_longest : (text : List ℕ) (place : ℕ) → form_of text ≡ Err place → Longest text place
wrong_longest text place e =
    let first = first_wrong text place e in
    record {
      within = first.within;
      begins = could_begins (take place text) first.before;
      longest = λ n within begins. ⊎_elim (λ (few : leb n place ≡ true). leb-true n place few) (λ (past : leb n place ≡ false). absurd
          (past_not_begins text place n first within (leb-false n place past) begins)) (decided (leb n place));
    }

-- one text has one such place
longest_one : (text : List ℕ) (n m : ℕ) → Longest text n → Longest text m → n ≡ m
longest_one text n m p q = omega (arith, q.longest n p.within p.begins, p.longest m q.within q.begins)

-- a text is wrong at a place exactly if it is no correct one and the place is that of the sentence
pub wrong_exactly : (text : List ℕ) (place : ℕ) → (form_of text ≡ Err place) ↔ ((Correct text → ⊥) × Longest text place)
wrong_exactly text place = (λ e. (wrong_not_correct text place e, wrong_longest text place e), by_form (form_of text) refl)
  where
    by_form : (form : Result Capcode ℕ) → form_of text ≡ form → (Correct text → ⊥) × Longest text place → form ≡ Err place
    by_form (Ok c) e both =
        let said = printed_of_read text c e in
        absurd (both.0 (c, said.0, said.1))
    by_form (Err n) e both = ap Err (longest_one text n place (wrong_longest text n e) both.1)

-- a text that is no correct one is refused by the byte at that place, and the place is told
pub refused_there : (text : List ℕ) (place : ℕ) → (Correct text → ⊥) → Longest text place → read_of text ≡ refused_at (fault_at text place) place
refused_there text place other longest = ap (read_by text) ((wrong_exactly text place).1 (other, longest))

-- a correct text has such a place too, its end, and is not refused there: so it must be known that the text is no correct one
pub correct_longest : (text : List ℕ) → Correct text → Longest text (length text)
correct_longest text correct =
    let all : take (length text) text ++ [] ≡ text = append-nil _ ∙ take-length text in
    record {
      within = omega arith;
      begins = ([], (correct.0, correct.1 ∙ sym all, correct.2));
      longest = λ n within begins. within;
    }

-- no place is over 15, since no correct text is longer
pub place_upto : (text : List ℕ) (place : ℕ) → form_of text ≡ Err place → place ≤ 15
place_upto text place e =
    let longest = wrong_longest text place e in
    let begins = longest.begins in
    omega (
      arith,
      ap length begins.1.1,
      text_upto begins.1.0 begins.1.2,
      length-append (take place text) begins.0,
      length-take-le place text longest.within,
    )

-- a text that begins with a 4 is refused 20 at place 0, whatever follows
pub four_first : (text : List ℕ) → read_of (code "4" ∷ text) ≡ refused_at LeadingFour 0
unfolding form_of follow step_of
four_first text =
    rw (follow_stopped 0 text) (ap (λ (r : Refusal). refused_at r 0) (sym (leading_four (code "4" ∷ text) 0 refl)))
