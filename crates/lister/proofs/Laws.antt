-- What the listing promises.
use Prim.Native.Nat.{ℕ, suc, ◌-◌, ◌≤◌, ◌<◌}
use mathlib.Core.Bool.{Bool, true, false}
use mathlib.Core.Path.{◌≡◌, refl, sym, ap, ◌∙◌}
use mathlib.Core.List.{List, [], ◌∷◌, ◌++◌, append_assoc}
use native.Mathlib.Omega.{arith}
use lib.Dec.{leb}
use lib.ListN.{length, take, length-append}
use borrow.Author.Tests.{leb-true, le-leb}
use Rattle.laws.specs.Choice.{pick}
use Rattle.laws.specs.Texts.{bytes_of}
use Rattle.capcode.specs.Ranges.{rows, class_in, class_of}
use Rattle.capcode.specs.Words.{words_of}
use Rattle.capcode.specs.Assigned.{asked}
use Rattle.capcode.specs.Text.{digits}
use Rattle.capcode.specs.declared.Capcode.{Capcode}
use Rattle.std.specs.Prelude.{Ok}
use Rattle.capcode.specs.Reads.{step_of, follow, form_of, fault_at, read_of}
use Rattle.lister.specs.Stands.{Stand, stand_of, fresh}
use Rattle.lister.specs.Texts.{header}
use Rattle.lister.specs.declared.Fed.{Fed}
use Rattle.lister.specs.Verdicts.{verdict_of}
use Rattle.lister.specs.Lines.{shown, without_return, listed_from, listing}
use Rattle.lister.specs.Portions.{kept, writes, next, writes_all, next_all, most_written, taken_of, closes, FedAll}
use Rattle.lister.proofs.Lengths.{writes_short}
use Rattle.lister.proofs.Progress.{next_joined, writes_joined}
use Rattle.lister.proofs.Said.{said_shown}
use Rattle.lister.proofs.Listed.{listed}
use Rattle.lister.proofs.Reading.{RefusedEarly, too_long, kept_read, kept_verdict}

-- a text of sixteen bytes or more is not in the form, and goes wrong within its first sixteen bytes
pub long_refused : (text : List ℕ) → 16 ≤ length text → RefusedEarly text
long_refused = too_long

-- the sixteen bytes that are kept of a text are read as the whole text is, and the listing shows the same after them
pub kept_tell : (text : List ℕ) → (read_of (kept text) ≡ read_of text) × (verdict_of (kept text) ≡ verdict_of text)
kept_tell text = (kept_read text, kept_verdict text)

-- a text that is not refused is shown as it is
pub accepted_shown : (text : List ℕ) (c : Capcode) → form_of text ≡ Ok c → shown text ≡ text
accepted_shown = said_shown

-- no byte of the input writes more than `most_written` bytes
pub most_written_lem : (s : Stand) (byte : ℕ) → length (writes s byte) ≤ most_written
most_written_lem = writes_short

-- portions of any size give the same listing: two, one after the other, write what they write joined, and lead where they lead joined
pub portions_join : (s : Stand) (input more : List ℕ)
    → (writes_all s (input ++ more) ≡ writes_all s input ++ writes_all (next_all s input) more) × (next_all s (input ++ more) ≡ next_all (next_all s input) more)
portions_join s input more = (writes_joined s input more, next_joined s input more)

-- an input listed by portions from the start to the end is the listing of 01
pub portions_list : (input : List ℕ) → header ++ writes_all fresh input ++ closes (next_all fresh input) ≡ listing input
unfolding shown kept without_return
portions_list input =
    append_assoc header (writes_all fresh input) (closes (next_all fresh input))
    ∙ ap (λ (lines : List ℕ). header ++ lines) (listed input [] [] false refl refl)

-- no portion is taken that is longer than the input
pub taken_within : (s : Stand) (room : ℕ) (input : List ℕ) → taken_of s room input ≤ length input
unfolding taken_of
taken_within s room [] = omega arith
taken_within s room (byte ∷ input) = by_test (leb most_written room) (taken_within (next s byte) (room - length (writes s byte)) input)
  where
    by_test : (b : Bool) {n m : ℕ} → n ≤ m → pick b (suc n) 0 ≤ suc m
    by_test true less = omega arith
    by_test false less = omega arith

-- with room for whatever one byte may write, a byte is taken if there is one
pub some_taken : (s : Stand) (room : ℕ) (input : List ℕ) → most_written ≤ room → 0 < length input → 0 < taken_of s room input
unfolding taken_of
some_taken s room [] enough some = absurd (omega arith)
some_taken s room (byte ∷ input) enough some = rw (le-leb most_written room enough) (omega arith)

-- what is taken writes no more than there is room for
pub written_within : (s : Stand) (room : ℕ) (input : List ℕ) → length (writes_all s (take (taken_of s room input) input)) ≤ room
unfolding taken_of writes_all
written_within s room [] = omega arith
written_within s room (byte ∷ input) =
    by_test (leb most_written room) (taken_of (next s byte) (room - length (writes s byte)) input) refl
    (written_within (next s byte) (room - length (writes s byte)) input)
  where
    by_test : (b : Bool) (n : ℕ) → leb most_written room ≡ b
        → length (writes_all (next s byte) (take n input)) ≤ room - length (writes s byte)
        → length (writes_all s (take (pick b (suc n) 0) (byte ∷ input))) ≤ room
    by_test true n e less =
        omega (arith, length-append (writes s byte) (writes_all (next s byte) (take n input)), writes_short s byte, leb-true most_written room e)
    by_test false n e less = omega arith

-- what `feed` takes and writes lies within the input and the buffer
pub fed_within : (s : Stand) (input buffer : List ℕ) (fed : Fed) (after : List ℕ) → FedAll s input buffer (taken_of s (length buffer) input) fed after
    → (fed.taken ≤ length input) × (fed.written ≤ length buffer)
fed_within s input buffer fed after f =
    (rw f.taken (taken_within s (length buffer) input), omega (arith, f.wrote.ends, written_within s (length buffer) input))

-- `feed` takes and writes so much and no other, leaves one buffer, and stands at one place
pub fed_one : (s : Stand) (input buffer : List ℕ) (n : ℕ) (a b : Fed) (after other : List ℕ)
    → FedAll s input buffer n a after → FedAll s input buffer n b other
    → (a.taken ≡ b.taken) × (a.written ≡ b.written) × (stand_of a.lister ≡ stand_of b.lister) × (after ≡ other)
fed_one s input buffer n a b after other p q =
    (p.taken ∙ sym q.taken, p.wrote.ends ∙ sym q.wrote.ends, p.stands ∙ sym q.stands, p.wrote.holds ∙ sym q.wrote.holds)

-- 01's sample: "E0001234", "A0002101249" and "E1234", a line each, and the four lines of their listing
pub sample :
    listing (bytes_of "E0001234\nA0002101249\nE1234\n")
    ≡ bytes_of "ADDRESS FIRST SECOND PHASE FRAME COLLAPSE\n"
    ++ bytes_of "E0001234 0084D2 ------ * 077 4\n"
    ++ bytes_of "A0002101249 000001 1FFFFE A 000 4\n"
    ++ bytes_of "E1234 REFUSED 21 5\n"
unfolding header shown verdict_of without_return listed_from form_of follow step_of fault_at asked words_of class_of class_in rows digits
sample = refl
