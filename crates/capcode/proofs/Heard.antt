-- A text in the form is the text of the CAPCODE that it says.
use Rattle.std.specs.Prelude.{Option, Some, None, Ok, Err}
use Prim.Native.Nat.{ℕ, suc, ◌+◌, ◌-◌, ◌*◌, ◌/◌, ◌%◌, ◌≤◌}
use mathlib.Core.Bool.{Bool, true, false, not}
use mathlib.Core.Path.{◌≡◌, refl, sym, ap, ◌∙◌, subst}
use mathlib.Core.Logic.{◌⊎◌, inl, inr}
use mathlib.Core.List.{List, [], ◌∷◌, ◌++◌, append-nil, append_assoc}
use native.Mathlib.Numerals.{add-one}
use native.Mathlib.Omega.{arith}
use lib.Dec.{eqb}
use lib.Seq.{append_snoc}
use borrow.Author.Tests.{eqb-false, eq-eqb, ne_eqb, not-true}
use Rattle.laws.specs.Choice.{pick}
use Rattle.capcode.specs.declared.Capcode.{Capcode}
use Rattle.capcode.specs.declared.reading.Reading.{Reading}
use Rattle.capcode.specs.Text.{digits, text_of, Sayable}
use Rattle.capcode.specs.Reads.{letter_goes_on, step_of, Course, going, stopped, onward, follow, blank, is_whole, said_by, end_of, form_of}
use Rattle.capcode.specs.Underway.{Sound}
use Rattle.capcode.proofs.Steps.{Stepped, by_head, by_letter, by_address, stepped, digit_from, digit_to}
use Rattle.capcode.proofs.Sound.{sound_blank, sound_step, address_below}
use Rattle.capcode.proofs.Course.{follow_stopped}
use Rattle.capcode.proofs.Parts.{lettered, headed, Ended, width_of_lem}
use Rattle.capcode.proofs.Spoken.{letter_high}
use Rattle.laws.proofs.Tests.{first_of, second_of}

-- the bytes that a reading has taken
abbrev bytes : Reading → List ℕ
bytes s = digits s.before s.number ++ pick (eqb s.letter 0) [] (s.letter ∷ digits s.after s.address)

-- a digit's byte stands after those of the number before it
digits_byte : (n number byte : ℕ) → 48 ≤ byte → byte ≤ 57 → digits (n + 1) (number * 10 + (byte - 48)) ≡ digits n number ++ byte ∷ []
unfolding digits
digits_byte n number byte low high =
    let last : 48 + (number * 10 + (byte - 48)) % 10 ≡ byte = omega arith in
    let first : (number * 10 + (byte - 48)) / 10 ≡ number = omega arith in
    rw (add-one n, first, last)

-- one byte more, whatever it is, stands after those that were taken
bytes_by : (s t : Reading) (byte : ℕ) → Stepped s byte t → bytes t ≡ bytes s ++ byte ∷ []
unfolding digits
bytes_by s t byte (by_head digit none goes_on_lem same) =
    ap bytes (sym same)
    ∙ simp (eq-eqb s.letter 0 none, append-nil) (digits_byte s.before s.number byte (digit_from byte digit) (digit_to byte digit))
bytes_by s t byte (by_letter none goes_on_lem same) =
    let high = letter_high s.before byte (lettered s.before byte goes_on_lem) in
    let some : byte ≡ 0 → ⊥ = λ zero. omega arith in
    ap bytes (sym same) ∙ rw (eq-eqb s.letter 0 none, ne_eqb byte 0 some, append-nil)
bytes_by s t byte (by_address digit some goes_on_lem same) =
    ap bytes (sym same)
    ∙ rw (ne_eqb s.letter 0 some, digits_byte s.after s.address byte (digit_from byte digit) (digit_to byte digit))
    (sym (append_assoc (digits s.before s.number) (s.letter ∷ digits s.after s.address) (byte ∷ [])))

-- a reading that comes to the end of a text has taken it
heard_by : (text : List ℕ) (byte i j : ℕ) (s t : Reading) (next : Option Reading) → step_of s byte ≡ next → Sound s → follow (onward i next) text ≡ going j t
    → ((u : Reading) → Sound u → follow (going (suc i) u) text ≡ going j t → Sound t × (bytes t ≡ bytes u ++ text))
    → Sound t × (bytes t ≡ bytes s ++ byte ∷ text)
heard_by text byte i j s t (Some u) step sound e rest =
    let r = rest u (sound_step s u byte sound step) e in
    (r.0, r.1 ∙ ap (λ (b : List ℕ). b ++ text) (bytes_by s u byte (stepped s u byte step)) ∙ append_snoc (bytes s) byte text)
heard_by text byte i j s t None step sound e rest = absurd (let no : ◌≡◌ {A = ℕ} 0 1 = cc (sym (follow_stopped i text) ∙ e) in omega arith)

pub heard : (text : List ℕ) (i j : ℕ) (s t : Reading) → Sound s → follow (going i s) text ≡ going j t → Sound t × (bytes t ≡ bytes s ++ text)
unfolding follow
heard [] i j s t sound e =
    let same : s ≡ t = cc in
    (subst (λ (u : Reading). Sound u) same sound, ap bytes (sym same) ∙ sym (append-nil (bytes s)))
heard (byte ∷ text) i j s t sound e = heard_by text byte i j s t (step_of s byte) refl sound e (λ u. heard text (suc i) j u t)

-- a course that ends in the form, and the CAPCODE that it says
record Ending (course : Course) (c : Capcode) : Type 0 where
  pub place : ℕ
  pub reading : Reading
  pub here : course ≡ going place reading
  pub whole : is_whole reading ≡ true
  pub says : said_by reading ≡ c

ending_by : (place : ℕ) (c d : Capcode) (whole : Bool) → pick whole (Ok d) (Err place) ≡ Ok c → (whole ≡ true) × (d ≡ c)
ending_by place c d true e = (refl, cc)
ending_by place c d false e = absurd (let no : ◌≡◌ {A = ℕ} 0 1 = cc in omega arith)

ending : (course : Course) (c : Capcode) → end_of course ≡ Ok c → Ending course c
ending (going place s) c e =
    let r = ending_by place c (said_by s) (is_whole s) e in
    record { place = place; reading = s; here = refl; whole = r.0; says = r.1 }
ending (stopped place) c e = absurd (let no : ◌≡◌ {A = ℕ} 0 1 = cc in omega arith)

-- the letter of a reading that has one goes on
follows_of : (s : Reading) → eqb s.letter 0 ≡ false
    → (s.letter ≡ 0) ⊎ (letter_goes_on s.before s.letter ≡ true) → letter_goes_on s.before s.letter ≡ true
follows_of s some (inl none) = absurd (eqb-false s.letter 0 some none)
follows_of s some (inr follows) = follows

-- a reading that is whole has taken the text of the CAPCODE that it says
said : (s : Reading) → Sound s → is_whole s ≡ true → (text_of (said_by s) ≡ bytes s) × Sayable (said_by s)
unfolding text_of
said s sound whole =
    let some : eqb s.letter 0 ≡ false = not-true _ (first_of _ _ whole) in
    let end : Ended s.address s.after = record { goes_on_lem = sound.address; whole = second_of (not (eqb s.letter 0)) _ whole } in
    let follows : letter_goes_on s.before s.letter ≡ true = follows_of s some sound.letter in
    let head = headed (said_by s) s.number (lettered s.before s.letter follows) sound.head refl refl in (
      rw (head.written, width_of_lem s.address s.after end, some),
      record {
        letter = head.letter;
        fields = head.fields;
        address = address_below s.address s.after sound.address;
      },
    )

-- a text in the form is the text of what it says, which is sayable
pub printed_of_read : (text : List ℕ) (c : Capcode) → form_of text ≡ Ok c → (text_of c ≡ text) × Sayable c
unfolding form_of digits
printed_of_read text c e =
    let end = ending (follow (going 0 blank) text) c e in
    let taken = heard text 0 end.place blank end.reading sound_blank end.here in
    let says = said end.reading taken.0 end.whole in
    (ap text_of (sym end.says) ∙ says.0 ∙ taken.1, subst (λ (x : Capcode). Sayable x) end.says says.1)
