-- That the telling of a page is its own: written or read.
use Rattle.std.specs.Prelude.{Result}
use Prim.Native.Nat.{ℕ}
use mathlib.Core.Path.{◌≡◌, ap}
use mathlib.Core.List.{List}
use lib.ListN.{get_or}
use Rattle.refusal.specs.declared.Refusal.{Refusal}
use Rattle.refusal.specs.Told.{told_by}
use Rattle.refusal.proofs.Laws.{told_by_tells}
use Rattle.numeric.specs.declared.PageText.{PageText}
use Rattle.numeric.specs.declared.PageWords.{PageWords}
use Rattle.numeric.specs.Answers.{as_numbering, read_values, written_values}

-- the values of a page that was written tell K and how many words
words_apart : (a b : PageWords) → written_values a ≡ written_values b → a ≡ b
words_apart a b e = ap (λ (t : List ℕ). record { check = get_or t 0 0; words = get_or t 1 0 }) e

-- the values of a page that was read tell what its head says, how many characters, and how many spaces at their end
text_apart : (a b : PageText) → read_values a ≡ read_values b → a ≡ b
text_apart a b e = ap (λ (t : List ℕ). record { numbering = as_numbering t; characters = get_or t 3 0; spaces_at_end = get_or t 4 0 }) e

-- one telling, one answer to `write`
pub page_written_tells : (a b : Result PageWords Refusal) → told_by written_values a ≡ told_by written_values b → a ≡ b
page_written_tells a b = told_by_tells written_values words_apart a b

-- one telling, one answer to `read`
pub page_read_tells : (a b : Result PageText Refusal) → told_by read_values a ≡ told_by read_values b → a ≡ b
page_read_tells a b = told_by_tells read_values text_apart a b
