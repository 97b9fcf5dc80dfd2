-- The listing by portions is the listing.
use Prim.Native.Nat.{ℕ}
use mathlib.Core.Bool.{Bool, true, false}
use mathlib.Core.Path.{◌≡◌, refl, sym, ap, ◌∙◌}
use mathlib.Core.List.{List, [], ◌∷◌, ◌++◌, append_assoc, append-nil}
use lib.Dec.{eqb}
use lib.ListN.{take}
use borrow.Author.Tests.{eqb-true}
use Rattle.laws.specs.Choice.{pick}
use Rattle.laws.proofs.Writing.{take_joined}
use Rattle.lister.specs.Stands.{Stand, stand, fresh}
use Rattle.lister.specs.Verdicts.{line_feed, verdict_of}
use Rattle.lister.specs.Lines.{carriage_return, shown_byte, shown, line_of, without_return, listed_from}
use Rattle.lister.specs.Portions.{kept, held_bytes, held_shown, writes, next, writes_all, next_all, closed_text, closes}
use Rattle.lister.proofs.Reading.{kept_verdict}
use Rattle.lister.proofs.Said.{shown_joined}

-- a carriage return that was held back is shown as any byte of the line
shown_held : (held : Bool) → shown (held_bytes held) ≡ held_shown held
unfolding shown
shown_held true = refl
shown_held false = refl

-- a byte is shown as it is written
shown_one : (byte : ℕ) → shown (byte ∷ []) ≡ shown_byte byte
unfolding shown
shown_one byte = append-nil (shown_byte byte)

-- the carriage return at the end of a line is dropped
return_dropped : (line : List ℕ) → without_return (line ++ carriage_return ∷ []) ≡ line
unfolding without_return
return_dropped [] = refl
return_dropped (b ∷ []) = refl
return_dropped (b ∷ c ∷ line) = rw (return_dropped (c ∷ line))

-- any other byte there stays
other_stays : (line : List ℕ) (byte : ℕ) → eqb byte carriage_return ≡ false → without_return (line ++ byte ∷ []) ≡ line ++ byte ∷ []
unfolding without_return
other_stays [] byte e = rw e
other_stays (b ∷ []) byte e = rw e
other_stays (b ∷ c ∷ line) byte e = rw (other_stays (c ∷ line) byte e)

-- an empty line has none to drop
none_dropped : without_return [] ≡ []
unfolding without_return
none_dropped = refl

-- of a joined text without bytes the first part has none
none_before : (xs ys : List ℕ) → xs ++ ys ≡ [] → xs ≡ []
none_before [] ys e = refl
none_before (x ∷ xs) ys e = cc

-- what the end of the input writes
closed : (before : List ℕ) (held : Bool) (line : List ℕ) → before ++ held_shown held ≡ shown line → before ++ closed_text (kept line) held ≡ listed_from line []
unfolding shown listed_from kept
closed before held [] e = rw (none_before before (held_shown held) e)
closed before held (b ∷ line) e =
    sym (append_assoc before (held_shown held) (verdict_of (kept (b ∷ line))))
    ∙ rw (e, kept_verdict (b ∷ line))

-- a line of which one byte more is listed
listed_byte : (line : List ℕ) (byte : ℕ) (input : List ℕ)
    → listed_from line (byte ∷ input) ≡ pick (eqb byte line_feed) (line_of (without_return line) ++ listed_from [] input) (listed_from (line ++ byte ∷ []) input)
unfolding listed_from
listed_byte [] byte input = refl
listed_byte (b ∷ line) byte input = refl

-- what is still to be listed of a portion, from where the listing stands
abbrev Rest : Stand → List ℕ → List ℕ
Rest s input = writes_all s input ++ closes (next_all s input)

-- at the start of a line nothing is shown yet
list_fresh : (input : List ℕ) → shown [] ++ Rest (stand (kept []) false) input ≡ listed_from [] input → Rest fresh input ≡ listed_from [] input
unfolding shown kept
list_fresh input e = e

rest_byte : (s : Stand) (byte : ℕ) (input : List ℕ) → Rest s (byte ∷ input) ≡ writes s byte ++ Rest (next s byte) input
unfolding writes_all next_all
rest_byte s byte input = append_assoc (writes s byte) (writes_all (next s byte) input) (closes (next_all (next s byte) input))

module _ (body line : List ℕ) (held : Bool) (byte : ℕ) (input : List ℕ) where
  -- where the line feed comes, the line is the body
  list_line : eqb byte line_feed ≡ true → without_return line ≡ body → Rest fresh input ≡ listed_from [] input
      → shown body ++ Rest (stand (kept body) held) (byte ∷ input) ≡ listed_from line (byte ∷ input)
  unfolding writes next
  list_line feed ends rest =
      let s : Stand = stand (kept body) held in
      let w : writes s byte ≡ verdict_of body = rw feed (kept_verdict body) in
      let n : next s byte ≡ fresh = rw feed in
      ap (λ (l : List ℕ). shown body ++ l)
      (rest_byte s byte input
      ∙ ap (λ (l : List ℕ). l ++ Rest (next s byte) input) w
      ∙ ap (λ (t : Stand). verdict_of body ++ Rest t input) n
      ∙ ap (λ (l : List ℕ). verdict_of body ++ l) rest)
      ∙ sym (append_assoc (shown body) (verdict_of body) (listed_from [] input))
      ∙ sym (listed_byte line byte input ∙ rw (feed, ends))

  -- any other byte makes the body longer, or is held back
  list_byte : (piece longer : List ℕ) (after : Bool) → eqb byte line_feed ≡ false
      → writes (stand (kept body) held) byte ≡ piece
      → next (stand (kept body) held) byte ≡ stand (kept longer) after
      → shown body ++ piece ≡ shown longer
      → shown longer ++ Rest (stand (kept longer) after) input ≡ listed_from (line ++ byte ∷ []) input
      → shown body ++ Rest (stand (kept body) held) (byte ∷ input) ≡ listed_from line (byte ∷ input)
  list_byte piece longer after feed w n whole rest =
      let s : Stand = stand (kept body) held in
      ap (λ (l : List ℕ). shown body ++ l)
      (rest_byte s byte input
      ∙ ap (λ (l : List ℕ). l ++ Rest (next s byte) input) w
      ∙ ap (λ (t : Stand). piece ++ Rest t input) n)
      ∙ sym (append_assoc (shown body) piece (Rest (stand (kept longer) after) input))
      ∙ ap (λ (l : List ℕ). l ++ Rest (stand (kept longer) after) input) whole
      ∙ rest
      ∙ sym (listed_byte line byte input ∙ rw feed)

module _ (body line : List ℕ) (held : Bool) (is-line : line ≡ body ++ held_bytes held) where
  -- the body and what is held back are shown as the line
  whole_shown : shown body ++ held_shown held ≡ shown line
  whole_shown = rw is-line (sym (shown_joined body (held_bytes held) ∙ rw (shown_held held)))

  -- the body and what is held back are kept as the line
  whole_kept : kept (kept body ++ held_bytes held) ≡ kept line
  unfolding kept
  whole_kept = take_joined 16 body (held_bytes held) ∙ ap (take 16) (sym is-line)

  -- with one byte more they are kept as the line with that byte
  longer_kept : (byte : ℕ) → kept (kept body ++ held_bytes held ++ byte ∷ []) ≡ kept (line ++ byte ∷ [])
  unfolding kept
  longer_kept byte =
      ap (take 16) (append_assoc (take 16 body) (held_bytes held) (byte ∷ []))
      ∙ take_joined 16 body (held_bytes held ++ byte ∷ [])
      ∙ ap (take 16) (sym (append_assoc body (held_bytes held) (byte ∷ [])) ∙ ap (λ (l : List ℕ). l ++ byte ∷ []) (sym is-line))

  longer_shown : (byte : ℕ) → shown body ++ (held_shown held ++ shown_byte byte) ≡ shown (line ++ byte ∷ [])
  longer_shown byte =
      sym (append_assoc (shown body) (held_shown held) (shown_byte byte))
      ∙ ap (λ (l : List ℕ). l ++ shown_byte byte) whole_shown
      ∙ sym (shown_joined line (byte ∷ []) ∙ ap (λ (l : List ℕ). shown line ++ l) (shown_one byte))

  -- a carriage return is held back: the line so far is the body
  list_return : (byte : ℕ) (input : List ℕ) → eqb byte line_feed ≡ false → eqb byte carriage_return ≡ true
      → shown line ++ Rest (stand (kept line) true) input ≡ listed_from (line ++ carriage_return ∷ []) input
      → shown body ++ Rest (stand (kept body) held) (byte ∷ input) ≡ listed_from line (byte ∷ input)
  unfolding writes next
  list_return byte input e f rest =
      list_byte body line held byte input (held_shown held) line true e
      (rw (e, f) (append-nil (held_shown held)))
      (rw (e, f) (ap (λ (l : List ℕ). stand l true) whole_kept))
      whole_shown
      (rw (eqb-true byte carriage_return f) rest)

  -- any other byte belongs to the body, with what was held back
  list_other : (byte : ℕ) (input : List ℕ) → eqb byte line_feed ≡ false → eqb byte carriage_return ≡ false
      → shown (line ++ byte ∷ []) ++ Rest (stand (kept (line ++ byte ∷ [])) false) input ≡ listed_from (line ++ byte ∷ []) input
      → shown body ++ Rest (stand (kept body) held) (byte ∷ input) ≡ listed_from line (byte ∷ input)
  unfolding writes next
  list_other byte input e f rest =
      list_byte body line held byte input (held_shown held ++ shown_byte byte) (line ++ byte ∷ []) false e
      (rw (e, f))
      (rw (e, f) (ap (λ (l : List ℕ). stand l false) (longer_kept byte)))
      (longer_shown byte)
      rest

-- from any place in a line: `line` is what came of it, `body` what came before a carriage return that is held back
pub listed : (input body line : List ℕ) (held : Bool) → line ≡ body ++ held_bytes held → without_return line ≡ body
    → shown body ++ (writes_all (stand (kept body) held) input ++ closes (next_all (stand (kept body) held) input)) ≡ listed_from line input
unfolding writes_all next_all closes
listed [] body line held is-line ends = rw (whole_kept body line held is-line) (closed (shown body) held line (whole_shown body line held is-line))
listed (byte ∷ input) body line held is-line ends =
    by_byte (eqb byte line_feed) (eqb byte carriage_return) refl refl
    (λ longer more after e f. listed input longer more after e f)
  where
    by_byte : (feed return : Bool) → eqb byte line_feed ≡ feed → eqb byte carriage_return ≡ return
        → ((longer more : List ℕ) (after : Bool) → more ≡ longer ++ held_bytes after → without_return more ≡ longer
        → shown longer ++ Rest (stand (kept longer) after) input ≡ listed_from more input)
        → shown body ++ Rest (stand (kept body) held) (byte ∷ input) ≡ listed_from line (byte ∷ input)
    by_byte true return e f rest = list_line body line held byte input e ends (list_fresh input (rest [] [] false refl none_dropped))
    by_byte false true e f rest = list_return body line held is-line byte input e f (rest line (line ++ carriage_return ∷ []) true refl (return_dropped line))
    by_byte false false e f rest =
        list_other body line held is-line byte input e f
        (rest (line ++ byte ∷ []) (line ++ byte ∷ []) false (sym (append-nil (line ++ byte ∷ []))) (other_stays line byte f))
