-- Rows of words: what is told of them, in portions of any size, and at the close.
use Rattle.std.specs.Prelude.{ℕ, ◌+◌, Bool, false, not, ◌&&◌, List, [], ◌∷◌, eqb, length}
use Rattle.laws.specs.Choice.{pick}
use Rattle.pocsag.specs.declared.PocsagReader.{PocsagReader}
use Rattle.pocsag.specs.declared.PocsagPage.{PocsagPage}
use Rattle.pocsag.specs.declared.PocsagHeard.{PocsagHeard}
use Rattle.pocsag.specs.Mending.{mended_of, as_mended}
use Rattle.pocsag.specs.Batches.{StepTold, no_page, page_of, step_by, stored_by}

-- what a received word does
abbrev pub step_of : ℕ → PocsagReader → ℕ → StepTold
step_of lent r word = step_by lent r (as_mended (mended_of word))

-- the lent memory after it
abbrev pub stored_of : PocsagReader → ℕ → List ℕ → List ℕ
stored_of r word lent = stored_by r (as_mended (mended_of word)) lent

-- whether a word has something to tell: a number, or a page that ended
abbrev pub tells : StepTold → Bool
tells s = not (eqb s.number 0 && eqb s.page.is_ended 0)

-- the answer after a word that has something to tell
abbrev pub heard_at : StepTold → PocsagHeard
heard_at s = record { number = s.number; taken = 1; page = s.page; reader = s.reader }

-- the answer where no word has
abbrev pub silent : PocsagReader → PocsagHeard
silent r = record { number = 0; taken = 0; page = no_page; reader = r }

-- an answer after so many words more
abbrev pub after : ℕ → PocsagHeard → PocsagHeard
after n h = record { number = h.number; taken = n + h.taken; page = h.page; reader = h.reader }

-- a row of words, taken up to the first that has something to tell
unfoldable pub heard_of : ℕ → PocsagReader → List ℕ → PocsagHeard
heard_of lent r [] = silent r
heard_of lent r (word ∷ words) =
    pick (tells (step_of lent r word)) (heard_at (step_of lent r word)) (after 1 (heard_of lent (step_of lent r word).reader words))

-- the lent memory after it
unfoldable pub lent_heard : PocsagReader → List ℕ → List ℕ → List ℕ
lent_heard r lent [] = lent
lent_heard r lent (word ∷ words) =
    pick (tells (step_of (length lent) r word)) (stored_of r word lent)
    (lent_heard (step_of (length lent) r word).reader (stored_of r word lent) words)

-- the close: an open page ends, and its end was not heard
abbrev pub closed_page : PocsagReader → PocsagPage
closed_page r = page_of false 0 r
