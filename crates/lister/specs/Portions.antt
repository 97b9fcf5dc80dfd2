-- The listing by portions: what each byte writes, and where the listing then stands.
use Rattle.std.specs.Prelude.{ℕ, suc, ◌+◌, ◌-◌, ◌≤◌, ◌<◌, Bool, true, false, not, ◌&&◌, ◌≡◌, List, [], ◌∷◌, ◌++◌, leb, eqb, length, take, drop, get_or, Option, Some, None}
use Prim.Native.Char.{code}
use Rattle.laws.specs.Choice.{pick}
use Rattle.lister.specs.Stands.{Stand, stand, stand_of, fresh}
use Rattle.lister.specs.Texts.{Wrote}
use Rattle.lister.specs.declared.Fed.{Fed}
use Rattle.lister.specs.Verdicts.{line_feed, verdict_of}
use Rattle.lister.specs.Lines.{carriage_return, printable, shown_byte, shown}

-- a byte that the listing shows as it is
abbrev pub as_it_is : ℕ → Bool
as_it_is byte = printable byte && not (eqb byte (code "\\"))

-- the bytes kept of a line: no correct text has more than fifteen, so sixteen tell all
unfoldable pub kept : List ℕ → List ℕ
kept text = take 16 text

-- the carriage return that was held back
abbrev pub held_bytes : Bool → List ℕ
held_bytes true = carriage_return ∷ []
held_bytes false = []

-- the carriage return that was held back, as the listing shows it
abbrev pub held_shown : Bool → List ℕ
held_shown true = shown_byte carriage_return
held_shown false = []

-- what a byte writes
unfoldable pub writes : Stand → ℕ → List ℕ
writes (stand text held) byte =
    pick (eqb byte line_feed) (verdict_of text)
    (held_shown held ++ pick (eqb byte carriage_return) [] (shown_byte byte))

-- where the listing stands after a byte
unfoldable pub next : Stand → ℕ → Stand
next (stand text held) byte =
    pick (eqb byte line_feed) fresh
    (pick (eqb byte carriage_return) (stand (kept (text ++ held_bytes held)) true)
    (stand (kept (text ++ held_bytes held ++ byte ∷ [])) false))

-- what a portion writes
unfoldable pub writes_all : Stand → List ℕ → List ℕ
writes_all s [] = []
writes_all s (byte ∷ input) = writes s byte ++ writes_all (next s byte) input

-- where the listing stands after a portion
unfoldable pub next_all : Stand → List ℕ → Stand
next_all s [] = s
next_all s (byte ∷ input) = next_all (next s byte) input

-- no byte writes more than this
abbrev pub most_written : ℕ
most_written = 32

-- how many bytes of a portion are taken into so much room: a byte is taken while the room holds whatever it may write
unfoldable pub taken_of : Stand → ℕ → List ℕ → ℕ
taken_of s room [] = 0
taken_of s room (byte ∷ input) =
    pick (leb most_written room) (suc (taken_of (next s byte) (room - length (writes s byte)) input)) 0

-- what is written at the end of the input: the end of a line that has a byte and no line feed
abbrev pub closed_text : List ℕ → Bool → List ℕ
closed_text [] held = []
closed_text (b ∷ text) held = held_shown held ++ verdict_of (b ∷ text)

-- what is written at the end of the input, from where the listing stands
unfoldable pub closes : Stand → List ℕ
closes (stand text held) = closed_text (kept (text ++ held_bytes held)) held

-- what one byte more of a portion does: to where its listing stands, and to the buffer
pub record FedByte (before : Fed) (buffer : List ℕ) (byte : ℕ) (fed : Fed) (after : List ℕ) : Type 0 where
  pub taken : fed.taken ≡ before.taken + 1
  pub stands : stand_of fed.lister ≡ next (stand_of before.lister) byte
  pub wrote : Wrote buffer before.written (writes (stand_of before.lister) byte) fed.written after

-- the line of a text that is ahead, n bytes long: it begins here, ends with a line feed, and there is room for 15
-- bytes of text, 23 of its end, and whatever one byte more may write
pub record Ahead (before : Fed) (input : List ℕ) (room n : ℕ) : Type 0 where
  pub begins : (before.lister.count ≡ 0) × (before.lister.held ≡ false)
  pub roomy : 70 ≤ room
  pub within : before.taken + n < length input
  pub ends : get_or input (before.taken + n) 0 ≡ line_feed

-- a line was written at a place, its text as it is, or nothing was
abbrev pub LineWritten : List ℕ → ℕ → List ℕ → Option ℕ → List ℕ → Type 0
LineWritten buffer place text (Some end) after = Wrote buffer place (text ++ verdict_of text) end after × (shown text ≡ text)
LineWritten buffer place text None after = after ≡ buffer

-- the bytes taken between two places of a portion
abbrev pub between : Fed → Fed → List ℕ → List ℕ
between before fed input = take (fed.taken - before.taken) (drop before.taken input)

-- what some bytes more of a portion do: to where its listing stands, to the buffer, and to how many bytes are taken in all
pub record FedOn (before : Fed) (input buffer : List ℕ) (fed : Fed) (after : List ℕ) : Type 0 where
  pub some : before.taken < fed.taken
  pub within : fed.taken ≤ length input
  pub fits : fed.written ≤ length buffer
  pub stands : stand_of fed.lister ≡ next_all (stand_of before.lister) (between before fed input)
  pub wrote : Wrote buffer before.written (writes_all (stand_of before.lister) (between before fed input)) fed.written after
  pub rest :
      taken_of (stand_of before.lister) (length buffer - before.written) (drop before.taken input)
      ≡ fed.taken - before.taken + taken_of (stand_of fed.lister) (length buffer - fed.written) (drop fed.taken input)

-- what is done with a portion: how much of it is taken, where the listing then stands, and what was written
pub record FedAll (s : Stand) (input buffer : List ℕ) (n : ℕ) (fed : Fed) (after : List ℕ) : Type 0 where
  pub taken : fed.taken ≡ n
  pub stands : stand_of fed.lister ≡ next_all s (take n input)
  pub wrote : Wrote buffer 0 (writes_all s (take n input)) fed.written after
