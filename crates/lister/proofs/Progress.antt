-- The listing of a portion, byte by byte: where it stands, and what is left.
use Prim.Native.Nat.{ℕ, suc, ◌+◌, ◌-◌, ◌≤◌, ◌<◌}
use mathlib.Core.Path.{◌≡◌, refl, sym, ap, ◌∙◌}
use mathlib.Core.List.{List, [], ◌∷◌, ◌++◌, append_assoc, append-nil}
use mathlib.Core.Logic.{◌⊎◌, ⊎_elim}
use native.Mathlib.Numerals.{add-one}
use native.Mathlib.Omega.{arith}
use lib.ListN.{length, take, drop, get_or, drop_of_length-le, length-append}
use lib.Seq.{take-add, drop-cons}
use borrow.Author.Tests.{le-leb, lt-leb}
use Rattle.lister.specs.Stands.{Stand, stand_of}
use Rattle.lister.specs.Texts.{Wrote}
use Rattle.lister.specs.declared.Lister.{Lister}
use Rattle.lister.specs.declared.Fed.{Fed}
use Rattle.lister.specs.Portions.{writes, next, writes_all, next_all, most_written, taken_of, FedByte, between, FedOn, FedAll}
use Rattle.lister.proofs.Writes.{wrote_none, wrote_same, wrote_then}
use Rattle.lister.proofs.Lengths.{writes_short}

-- where two portions one after the other lead
pub next_joined : (s : Stand) (input more : List ℕ) → next_all s (input ++ more) ≡ next_all (next_all s input) more
unfolding next_all
next_joined s [] more = refl
next_joined s (byte ∷ input) more = next_joined (next s byte) input more

-- what they write
pub writes_joined : (s : Stand) (input more : List ℕ) → writes_all s (input ++ more) ≡ writes_all s input ++ writes_all (next_all s input) more
unfolding next_all writes_all
writes_joined s [] more = refl
writes_joined s (byte ∷ input) more =
    rw (writes_joined (next s byte) input more)
    (sym (append_assoc (writes s byte) (writes_all (next s byte) input) (writes_all (next_all (next s byte) input) more)))

-- a byte is taken where there is room for whatever it may write
taken_byte : (s : Stand) (room byte : ℕ) (input : List ℕ) → most_written ≤ room
    → taken_of s room (byte ∷ input) ≡ suc (taken_of (next s byte) (room - length (writes s byte)) input)
unfolding taken_of
taken_byte s room byte input enough = rw (le-leb most_written room enough)

-- no byte is taken where there is no room for whatever one may write
taken_none : (s : Stand) (room : ℕ) (input : List ℕ) → room < most_written → taken_of s room input ≡ 0
unfolding taken_of
taken_none s room [] short = refl
taken_none s room (byte ∷ input) short = rw (lt-leb most_written room short)

-- no byte is taken after the last
taken_end : (s : Stand) (room : ℕ) (input : List ℕ) (i : ℕ) → length input ≤ i → taken_of s room (drop i input) ≡ 0
unfolding taken_of
taken_end s room input i past = rw (drop_of_length-le input past)

-- all of some bytes are taken where there is room for what they write and for whatever one byte more may write
pub taken_run : (s : Stand) (room : ℕ) (bytes rest : List ℕ) → most_written + length (writes_all s bytes) ≤ room
    → taken_of s room (bytes ++ rest) ≡ length bytes + taken_of (next_all s bytes) (room - length (writes_all s bytes)) rest
unfolding next_all writes_all
taken_run s room [] rest enough =
    let all : room - 0 ≡ room = omega arith in
    rw all (omega arith)
taken_run s room (byte ∷ bytes) rest enough =
    let joined = length-append (writes s byte) (writes_all (next s byte) bytes) in
    let less : room - length (writes s byte) - length (writes_all (next s byte) bytes) ≡ room - length (writes s byte ++ writes_all (next s byte) bytes) =
    omega (arith, joined) in
    taken_byte s room byte (bytes ++ rest) (omega arith)
    ∙ ap suc (taken_run (next s byte) (room - length (writes s byte)) bytes rest (omega (arith, joined)))
    ∙ rw less (omega arith)

-- one byte more, where there is a byte and room for whatever it may write
pub byte_on : (before : Fed) (input buffer : List ℕ) (fed : Fed) (after : List ℕ)
    → before.taken < length input → before.written + most_written ≤ length buffer
    → FedByte before buffer (get_or input before.taken 0) fed after → FedOn before input buffer fed after
unfolding next_all writes_all
byte_on before input buffer fed after some room f =
    let i : ℕ = before.taken in
    let byte : ℕ = get_or input i 0 in
    let here : Stand = stand_of before.lister in
    let one : fed.taken ≡ suc i = f.taken ∙ add-one i in
    let just : byte ∷ [] ≡ between before fed input =
    let single : fed.taken - i ≡ 1 = omega arith in
    rw (single, drop-cons input i 0 some) in
    let short = writes_short here byte in
    let less : length buffer - before.written - length (writes here byte) ≡ length buffer - fed.written = omega (arith, f.wrote.ends) in
    let step : taken_of here (length buffer - before.written) (drop i input)
    ≡ suc (taken_of (stand_of fed.lister) (length buffer - fed.written) (drop fed.taken input)) =
    rw (drop-cons input i 0 some)
    (taken_byte here (length buffer - before.written) byte (drop (suc i) input) (omega arith)
    ∙ rw (less, f.stands, one)) in
    record {
      some = omega arith;
      within = omega arith;
      fits = omega (arith, f.wrote.ends);
      stands = f.stands ∙ ap (next_all here) just;
      wrote = wrote_same _ _ _ _ _ _ (sym (append-nil (writes here byte)) ∙ ap (writes_all here) just) f.wrote;
      rest = omega (arith, step);
    }

-- what holds between two bytes of a portion that is listed from `s` into `buffer`
pub record Progress (s : Stand) (input buffer : List ℕ) (fed : Fed) (out : List ℕ) : Type 0 where
  pub within : fed.taken ≤ length input
  pub fits : fed.written ≤ length buffer
  pub same : length out ≡ length buffer
  pub stands : stand_of fed.lister ≡ next_all s (take fed.taken input)
  pub wrote : Wrote buffer 0 (writes_all s (take fed.taken input)) fed.written out
  pub rest : taken_of s (length buffer) input ≡ fed.taken + taken_of (stand_of fed.lister) (length buffer - fed.written) (drop fed.taken input)

-- before the first byte
pub progress_start : (lister : Lister) (input buffer : List ℕ)
    → Progress (stand_of lister) input buffer (record { lister = lister; taken = 0; written = 0 }) buffer
unfolding next_all writes_all
progress_start lister input buffer =
    let all : length buffer - 0 ≡ length buffer = omega arith in
    record {
      within = omega arith;
      fits = omega arith;
      same = refl;
      stands = refl;
      wrote = wrote_none buffer 0;
      rest = rw all (omega arith);
    }

module _ (s : Stand) (input buffer : List ℕ) (fed : Fed) (out : List ℕ) (p : Progress s input buffer fed out) where
  -- some bytes more
  pub progress_turn : (fed₁ : Fed) (out₁ : List ℕ) → length out₁ ≡ length buffer → FedOn fed input out fed₁ out₁ → Progress s input buffer fed₁ out₁
  progress_turn fed₁ out₁ same f =
      let i : ℕ = fed.taken in
      let bytes : List ℕ = between fed fed₁ input in
      let all : i + (fed₁.taken - i) ≡ fed₁.taken = omega (arith, f.some) in
      let more : take i input ++ bytes ≡ take fed₁.taken input = sym (take-add i (fed₁.taken - i) input) ∙ ap (λ (n : ℕ). take n input) all in
      let text : writes_all s (take i input) ++ writes_all (stand_of fed.lister) bytes ≡ writes_all s (take fed₁.taken input) =
      ap (λ (t : Stand). writes_all s (take i input) ++ writes_all t bytes) p.stands
      ∙ sym (writes_joined s (take i input) bytes)
      ∙ ap (writes_all s) more in
      let left = rw p.same at f.rest in
      record {
        within = f.within;
        fits = omega (arith, f.fits, p.same);
        same = same;
        stands = f.stands ∙ ap (λ (t : Stand). next_all t bytes) p.stands ∙ sym (next_joined s (take i input) bytes) ∙ ap (next_all s) more;
        wrote = wrote_same _ _ _ _ _ _ text (wrote_then _ _ _ _ _ _ _ _ (omega arith) p.wrote f.wrote);
        rest = omega (arith, p.rest, left, f.some);
      }

  -- where no byte is left, or no room, what was taken is all that is taken
  pub progress_end : (length input ≤ fed.taken) ⊎ (length buffer - fed.written < 32)
      → FedAll s input buffer (taken_of s (length buffer) input) fed out
  progress_end ends =
      let all : taken_of s (length buffer) input ≡ fed.taken =
      ⊎_elim
      (λ (past : length input ≤ fed.taken). omega
      (arith, p.rest, taken_end (stand_of fed.lister) (length buffer - fed.written) input fed.taken past))
      (λ (short : length buffer - fed.written < 32). omega
      (arith, p.rest, taken_none (stand_of fed.lister) (length buffer - fed.written) (drop fed.taken input) short))
      ends in
      record {
        taken = sym all;
        stands = rw all p.stands;
        wrote = rw all p.wrote;
      }
