-- A whole line of an accepted text: what its bytes write, and where the listing then stands.
use Prim.Native.Nat.{ℕ, ◌+◌, ◌-◌, ◌≤◌, ◌<◌}
use mathlib.Core.Bool.{Bool, true, false, not, ◌&&◌}
use mathlib.Core.Path.{◌≡◌, refl, sym, ap, ◌∙◌}
use mathlib.Core.List.{List, [], ◌∷◌, ◌++◌, append_assoc, append-nil}
use native.Mathlib.Numerals.{add-one}
use native.Mathlib.Omega.{arith}
use lib.Dec.{leb, eqb}
use lib.ListN.{length, take, drop, get_or, length-append, length-drop, take-append-drop}
use lib.Seq.{take-take, take-suc, drop-drop, get_or-drop, length-take-le}
use Rattle.laws.specs.Choice.{pick}
use Rattle.laws.proofs.Writing.{take_joined}
use Rattle.lister.specs.Stands.{stand, stand_of, fresh}
use Rattle.std.specs.Prelude.{Some}
use Rattle.lister.specs.declared.Fed.{Fed}
use Rattle.lister.specs.Verdicts.{line_feed, verdict_of}
use Rattle.lister.specs.Lines.{shown_byte, shown}
use Rattle.lister.specs.Portions.{kept, as_it_is, next, writes_all, next_all, taken_of, Ahead, LineWritten, FedOn}
use Rattle.lister.proofs.Writes.{wrote_same, writes_line}
use Rattle.lister.proofs.Keeping.{next_line}
use Rattle.lister.proofs.AsItIs.{writes_itself, stands_after}
use Rattle.lister.proofs.line_end.Lengths.{verdict_short}
use Rattle.lister.proofs.Progress.{next_joined, writes_joined, taken_run}
use Rattle.lister.proofs.Reading.{kept_verdict}

-- every byte of a text is shown as it is
abbrev AllAsItIs : List ℕ → Type 0
AllAsItIs [] = Unit {0}
AllAsItIs (byte ∷ text) = (as_it_is byte ≡ true) × AllAsItIs text

-- a byte is shown as one byte or more, and as two or more if not as it is
shown_least : (byte : ℕ) → (1 ≤ length (shown_byte byte)) × (as_it_is byte ≡ false → 2 ≤ length (shown_byte byte))
shown_least byte = by_tests (leb 32 byte && leb byte 126) (eqb byte 92) _
  where
    by_tests : (plain slash : Bool) (others : List ℕ)
        → (1 ≤ length (pick slash (92 ∷ 92 ∷ []) (pick plain (byte ∷ []) (92 ∷ 120 ∷ others))))
        × ((plain && not slash) ≡ false → 2 ≤ length (pick slash (92 ∷ 92 ∷ []) (pick plain (byte ∷ []) (92 ∷ 120 ∷ others))))
    by_tests plain true others = (omega arith, λ e. omega arith)
    by_tests true false others = (omega arith, λ e. let no : ◌≡◌ {A = ℕ} 0 1 = cc in absurd (omega arith))
    by_tests false false others = (omega arith, λ e. omega arith)

-- a text is shown as no fewer bytes
shown_longer : (text : List ℕ) → length text ≤ length (shown text)
unfolding shown
shown_longer [] = omega arith
shown_longer (byte ∷ text) = omega (arith, shown_longer text, (shown_least byte).0, length-append (shown_byte byte) (shown text))

-- a text that is shown as so many bytes as it has is shown as it is, byte by byte
all_as_it_is : (text : List ℕ) → length (shown text) ≡ length text → AllAsItIs text
unfolding shown
all_as_it_is [] e = tt
all_as_it_is (byte ∷ text) e = by_test (as_it_is byte) refl (all_as_it_is text)
  where
    by_test : (test : Bool) → as_it_is byte ≡ test → (length (shown text) ≡ length text → AllAsItIs text) → (as_it_is byte ≡ true) × AllAsItIs text
    by_test true plain others =
        (plain, others (omega (arith, e, shown_longer text, (shown_least byte).0, length-append (shown_byte byte) (shown text))))
    by_test false other others =
        absurd (omega (arith, e, shown_longer text, (shown_least byte).1 other, length-append (shown_byte byte) (shown text)))

-- what such a text writes, and where it leads
plain_text : (text before : List ℕ) → before ≡ kept before → AllAsItIs text
    → (writes_all (stand before false) text ≡ text) × (next_all (stand before false) text ≡ stand (kept (before ++ text)) false)
unfolding writes_all next_all kept
plain_text [] before same plain = (refl, ap (λ (k : List ℕ). stand k false) (same ∙ ap kept (sym (append-nil before))))
plain_text (byte ∷ text) before same plain =
    let then : List ℕ = kept (before ++ byte ∷ []) in
    let step : next (stand before false) byte ≡ stand then false =
    sym (stands_after byte plain.0 before then (same ∙ ap kept (sym (append-nil before))) refl) in
    let rest = plain_text text then (sym (take-take 16 16 (before ++ byte ∷ []) (omega arith))) plain.1 in
    let joined : kept (then ++ text) ≡ kept (before ++ byte ∷ text) =
    take_joined 16 (before ++ byte ∷ []) text ∙ ap kept (append_assoc before (byte ∷ []) text) in (
      rw (step, ← writes_itself byte plain.0 before) (ap (λ (l : List ℕ). byte ∷ l) rest.0),
      rw step (rest.1 ∙ ap (λ (k : List ℕ). stand k false) joined),
    )

-- what the line of a text that is shown as it is writes, and where it leads
whole_line : (text : List ℕ) → shown text ≡ text
    → (writes_all fresh (text ++ line_feed ∷ []) ≡ text ++ verdict_of text) × (next_all fresh (text ++ line_feed ∷ []) ≡ fresh)
unfolding writes_all next_all kept
whole_line text same =
    let plain = plain_text text [] refl (all_as_it_is text (ap length same)) in
    let end : writes_all (stand (kept text) false) (line_feed ∷ []) ≡ verdict_of text =
    append-nil _ ∙ sym (writes_line (kept text) false line_feed refl) ∙ kept_verdict text in (
      writes_joined fresh text (line_feed ∷ [])
          ∙ rw (plain.0, plain.1) (ap (λ (l : List ℕ). text ++ l) end),
      next_joined fresh text (line_feed ∷ [])
          ∙ rw plain.1 (sym (next_line (kept text) false line_feed refl)),
    )

-- the bytes of a line that is ahead
line_bytes : (before : Fed) (input : List ℕ) (room n : ℕ) → Ahead before input room n
    → take (n + 1) (drop before.taken input) ≡ take n (drop before.taken input) ++ line_feed ∷ []
line_bytes before input room n ahead =
    let within : n < length (drop before.taken input) = omega (arith, ahead.within, length-drop before.taken input) in
    let last : get_or (drop before.taken input) n 0 ≡ line_feed = get_or-drop before.taken input n 0 ∙ ahead.ends in
    rw (add-one n) (take-suc (drop before.taken input) n 0 within ∙ rw last)

-- the text of a line that is ahead is so long
pub line_length : (before : Fed) (input : List ℕ) (room n : ℕ) → Ahead before input room n
    → length (take (before.taken + n - before.taken) (drop before.taken input)) ≡ n
line_length before input room n ahead =
    let count : before.taken + n - before.taken ≡ n = omega arith in
    rw count (length-take-le n (drop before.taken input) (omega (arith, ahead.within, length-drop before.taken input)))

-- a line that was written whole
pub line_on : (before : Fed) (input buffer : List ℕ) (n end : ℕ) (after : List ℕ)
    → n < 16 → before.written ≤ length buffer
    → Ahead before input (length buffer - before.written) n
    → LineWritten buffer before.written (take (before.taken + n - before.taken) (drop before.taken input)) (Some end) after
    → FedOn before input buffer (record { lister = before.lister; taken = before.taken + n + 1; written = end }) after
line_on before input buffer n end after few fits ahead done =
    let i : ℕ = before.taken in
    let text : List ℕ = take n (drop i input) in
    let room : ℕ = length buffer - before.written in
    let part : i + n - i ≡ n = omega arith in
    let written : LineWritten buffer before.written text (Some end) after = rw part at done in
    let whole = whole_line text written.1 in
    let start : stand_of before.lister ≡ fresh = rw (ahead.begins.0, ahead.begins.1) in
    let count : i + n + 1 - i ≡ n + 1 = omega arith in
    let bytes : take (i + n + 1 - i) (drop i input) ≡ text ++ line_feed ∷ [] =
    ap (λ (k : ℕ). take k (drop i input)) count ∙ line_bytes before input room n ahead in
    let long : length text ≡ n = rw part at (line_length before input room n ahead) in
    let wrote : length (writes_all fresh (text ++ line_feed ∷ [])) ≡ n + length (verdict_of text) =
    ap length whole.0 ∙ length-append text (verdict_of text) ∙ ap (λ (k : ℕ). k + length (verdict_of text)) long in
    let after-it : i + n + 1 ≡ i + (n + 1) = omega arith in
    let rest : (text ++ line_feed ∷ []) ++ drop (i + n + 1) input ≡ drop i input =
    ap (λ (l : List ℕ). l ++ drop (i + n + 1) input) (sym (line_bytes before input room n ahead))
    ∙ ap (λ (l : List ℕ). take (n + 1) (drop i input) ++ l) (ap (λ (k : ℕ). drop k input) after-it ∙ sym (drop-drop (n + 1) i input))
    ∙ take-append-drop (n + 1) (drop i input) in
    let ones : length (text ++ line_feed ∷ []) ≡ n + 1 = omega (arith, length-append text (line_feed ∷ []), long) in
    let left : room - length (writes_all fresh (text ++ line_feed ∷ [])) ≡ length buffer - end =
    omega (arith, wrote, written.0.ends, length-append text (verdict_of text), long) in
    let all : taken_of fresh room ((text ++ line_feed ∷ []) ++ drop (i + n + 1) input) ≡ n + 1 + taken_of fresh (length buffer - end) (drop (i + n + 1) input) =
    taken_run fresh room (text ++ line_feed ∷ []) (drop (i + n + 1) input) (omega (arith, wrote, verdict_short text, ahead.roomy))
    ∙ rw (whole.1, left, ones) in
    record {
      some = omega arith;
      within = omega (arith, ahead.within);
      fits = omega (arith, written.0.ends, length-append text (verdict_of text), verdict_short text, ahead.roomy, long);
      stands = rw (start, bytes) (sym whole.1);
      wrote = wrote_same _ _ _ _ _ _ (sym (rw (start, bytes) whole.0)) written.0;
      rest = rw (start, count) (ap (taken_of fresh room) (sym rest) ∙ all);
    }
