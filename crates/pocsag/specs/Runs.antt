-- A run: any row of words from where the reading stands, and the pages that end in it.
use Rattle.std.specs.Prelude.{ℕ, List, [], ◌∷◌, ◌++◌, ◌≡◌, eqb, length, take}
use Rattle.laws.specs.Choice.{pick}
use Rattle.pocsag.specs.declared.PocsagReader.{PocsagReader}
use Rattle.pocsag.specs.declared.PocsagPage.{PocsagPage}
use Rattle.pocsag.specs.declared.Meaning.{Meaning}
use Rattle.pocsag.specs.declared.Meaning.TheVariants as means
use Rattle.pocsag.specs.Mending.{mended_of, as_mended}
use Rattle.pocsag.specs.Batches.{meaning_of}
use Rattle.pocsag.specs.Hearing.{step_of, stored_of}

-- a page that ended, with its message words
pub record Ended : Type 0 where
  pub page : PocsagPage
  pub message : List ℕ

-- the pages that end in a row of words, each with the message words that the lent memory has for it then
unfoldable pub pages_in : PocsagReader → List ℕ → List ℕ → List Ended
pages_in r lent [] = []
pages_in r lent (word ∷ words) =
    let s = step_of (length lent) r word in
    let later = pages_in s.reader (stored_of r word lent) words in
    pick (eqb s.page.is_ended 0) later (record { page = s.page; message = take s.page.words lent } ∷ later)

-- where the reading stands after a row of words
unfoldable pub reader_in : PocsagReader → List ℕ → List ℕ → PocsagReader
reader_in r lent [] = r
reader_in r lent (word ∷ words) = reader_in (step_of (length lent) r word).reader (stored_of r word lent) words

-- the lent memory after it
unfoldable pub memory_in : PocsagReader → List ℕ → List ℕ → List ℕ
memory_in r lent [] = lent
memory_in r lent (word ∷ words) = memory_in (step_of (length lent) r word).reader (stored_of r word lent) words

-- the number of each of its words
unfoldable pub numbers_in : PocsagReader → List ℕ → List ℕ → List ℕ
numbers_in r lent [] = []
numbers_in r lent (word ∷ words) = (step_of (length lent) r word).number ∷ numbers_in (step_of (length lent) r word).reader (stored_of r word lent) words

-- ---- what the words say

-- a page as the words so far say it, if it is whole: an address, a function, and message bits
pub data Said : Type 0 where
  nothing : Said
  whole : ℕ → ℕ → List ℕ → Said

-- a message word more
abbrev pub said_more : Said → ℕ → Said
said_more nothing bits = nothing
said_more (whole address function message) bits = whole address function (message ++ bits ∷ [])

-- after one word more, by what it means: an address word begins a page, a message word goes on with it, and so does a sync word in its place. Every other
-- word ends it, one beyond repair too
abbrev pub said_after : Said → Meaning → Said
said_after said means.Sync = said
said_after said means.SyncDamaged = nothing
said_after said means.SyncMissing = nothing
said_after said means.SyncEarly = nothing
said_after said means.Damaged = nothing
said_after said means.Idle = nothing
said_after said (means.Address address function) = whole address function []
said_after said (means.Message bits) = said_more said bits

-- what the words say at each end of a page in a row of them, for a lent memory of so many words
unfoldable pub pages_said : Said → ℕ → PocsagReader → List ℕ → List Said
pages_said said room r [] = []
pages_said said room r (word ∷ words) =
    let later = pages_said (said_after said (meaning_of r.left (as_mended (mended_of word)))) room (step_of room r word).reader words in
    pick (eqb (step_of room r word).page.is_ended 0) later (said ∷ later)

-- whether each page of a row that is handed out is what the words said there
abbrev pub Truthful : List Ended → List Said → Type 0
Truthful [] [] = Unit {0}
Truthful [] (said ∷ row) = ⊥
Truthful (ended ∷ pages) [] = ⊥
Truthful (ended ∷ pages) (said ∷ row) =
    (ended.page.number ≡ 0 → said ≡ whole ended.page.address ended.page.function ended.message) × Truthful pages row
