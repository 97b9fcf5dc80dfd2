-- The listing's first line, and what is answered when a text is written into a lent buffer.
use Rattle.std.specs.Prelude.{ℕ, ◌+◌, ◌≡◌, List, [], ◌∷◌, Result, ltb, length}
use Rattle.laws.specs.Choice.{pick}
use Rattle.laws.specs.Lists.{put}
use Rattle.laws.specs.Texts.{bytes_of}
use Rattle.refusal.specs.declared.Refusal.{Refusal}
use Rattle.refusal.specs.declared.Refusal.TheVariants.{Room}
use Rattle.refusal.specs.Told.{Told, told_by, given, ask}

-- the first line
unfoldable pub header : List ℕ
header = bytes_of "ADDRESS FIRST SECOND PHASE FRAME COLLAPSE\n"

-- what is answered when a text is written at the start of a buffer: its length, or 1 where the buffer is shorter
abbrev pub answer_of : List ℕ → List ℕ → Told
answer_of buffer text = ask (ltb (length buffer) (length text)) Room (given (length text ∷ []))

-- what the buffer holds then: the text at its start, or after a refusal what it held
abbrev pub buffer_after : List ℕ → List ℕ → List ℕ
buffer_after buffer text = pick (ltb (length buffer) (length text)) buffer (put buffer 0 text)

-- how it is told
abbrev pub told_written : Result ℕ Refusal → Told
told_written = told_by (λ n. n ∷ [])

-- a text was written at a buffer's start, or refused: what is told, and what the buffer holds
pub record Answered (buffer text : List ℕ) (written : Result ℕ Refusal) (after : List ℕ) : Type 0 where
  pub tells : told_written written ≡ answer_of buffer text
  pub holds : after ≡ buffer_after buffer text

-- a text was written at a place: `end` is the place after it, and `after` what the buffer holds
pub record Wrote (buffer : List ℕ) (place : ℕ) (text : List ℕ) (end : ℕ) (after : List ℕ) : Type 0 where
  pub ends : end ≡ place + length text
  pub holds : after ≡ put buffer place text
