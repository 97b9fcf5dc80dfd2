-- What writes write, one after the other, and what is said of a line.
use Rattle.std.proofs.Common.{◌≡◌, ℕ, zero, suc, ◌<◌, arith, true, false, List, [], ◌∷◌, ◌++◌, take, min, refl, Result, Ok, Err, OnOk}
use lib.Dec.{eqb}
use Rattle.std.specs.declared.option.Option.{Option}
use Rattle.std.specs.Io.KnownBytes.{Appends}
use Rattle.std.proofs.KnownBytes.{Appends-trans}
use Rattle.refusal.specs.declared.Refusal.{Refusal}
use Rattle.refusal.specs.Told.{told, number_of}
use Rattle.refusal.proofs.Laws.{number_positive}
use Rattle.capcode.specs.Advice.{advice_of}
use Rattle.laws.specs.Texts.{bytes_of}
use Rattle.capcode.specs.declared.Fault.{Fault}
use Rattle.capcode.specs.Reads.{read_of, told_read}
use Rattle.std.proofs.lemmas.Grind.{common_steps}
use Rattle.explaining.specs.Remarks.{caret, sentence_of, is_refused, remark_by, remark, entry, kept_by, kept}

-- what was written, and what a call that went well wrote after it
pub written_then : {T E : Type 0} (r : Result T E) (held between holds : Option (List ℕ)) (xs ys : List ℕ)
    → Appends held between xs → OnOk r (Appends between holds ys) → OnOk r (Appends held holds (xs ++ ys))
written_then (Ok x) held between holds xs ys first then = Appends-trans held between holds xs ys first then
written_then (Err e) held between holds xs ys first then = tt

-- no refusal has the number 0
number_after : (n : ℕ) → 0 < n → (k : ℕ) × (n ≡ suc k)
number_after zero some = absurd (omega arith)
number_after (suc k) some = (k, refl)

number_some : (r : Refusal) → (k : ℕ) × (number_of r ≡ suc k)
number_some r = number_after (number_of r) (number_positive r)

-- what is said of a line that is refused, and of one that is refused at a place
said_refused : (n : ℕ) → (k : ℕ) × (n ≡ suc k) → (sentence kept : List ℕ)
    → (remark_by (told n []) sentence ≡ sentence) × (kept_by (told n []) kept ≡ []) × (is_refused (told n []) ≡ true)
said_refused n (k, e) sentence kept = rw e (refl, refl, refl)

said_wrong : (n place : ℕ) → (k : ℕ) × (n ≡ suc k) → (sentence kept : List ℕ)
    → (remark_by (told n (place ∷ [])) sentence ≡ caret place ++ sentence) × (kept_by (told n (place ∷ [])) kept ≡ []) × (is_refused (told n (place ∷ [])) ≡ true)
said_wrong n place (k, e) sentence kept = rw e (refl, refl, refl)

-- what is said of a line, by how its text was read
pub line_accepted : (text : List ℕ) (line : ℕ) (values : List ℕ) → told zero values ≡ read_of text
    → (remark text line ≡ []) × (kept text line ≡ entry text line) × (is_refused (read_of text) ≡ false)
unfolding remark kept
line_accepted text line values e = rw (← e) (refl, refl, refl)

pub line_refused : (text : List ℕ) (line : ℕ) (fault : Fault) (r : Refusal) → fault ≡ Fault.Refused r → told_read (Err fault) ≡ read_of text
    → (remark text line ≡ sentence_of line (advice_of (eqb line 1) text)) × (kept text line ≡ []) × (is_refused (read_of text) ≡ true)
unfolding remark kept
line_refused text line fault r is e =
    let told : told (number_of r) [] ≡ read_of text = rw is at e in
    rw (← told) (said_refused (number_of r) (number_some r) _ _)

pub line_wrong : (text : List ℕ) (line : ℕ) (fault : Fault) (r : Refusal) (place : ℕ) → fault ≡ Fault.Wrong r place → told_read (Err fault) ≡ read_of text
    → (remark text line ≡ caret place ++ sentence_of line (advice_of (eqb line 1) text)) × (kept text line ≡ []) × (is_refused (read_of text) ≡ true)
unfolding remark kept
line_wrong text line fault r place is e =
    let told : told (number_of r) (place ∷ []) ≡ read_of text = rw is at e in
    rw (← told) (said_wrong (number_of r) place (number_some r) _ _)

-- there are no more than fifteen blanks before a caret
pub cut_blanks : (place n : ℕ) → n ≡ min place 15 → take n (bytes_of "               ") ≡ take place (bytes_of "               ")
cut_blanks place n e = rw e (grind (arith, common_steps))
