-- Characters counted word by word: those so far, and those still to come.
use Rattle.std.proofs.Common.{◌≡◌, ℕ, ◌+◌, ◌*◌, ◌<◌, ◌≤◌, List, length, get_or, drop, ap, arith}
use Rattle.fragment.specs.Fragments.{cells_in, without_fill}
use Rattle.fragment.specs.Cells.{plain_text}
use Rattle.fragment.proofs.text.Cells.{few, length_next, text_end}

-- so many are counted before a word: three a word at most, and with those still to come they are all
pub record Counted (words : List ℕ) (count at : ℕ) : Type 0 where
  pub most : count ≤ 3 * at
  pub all : count + length (plain_text (drop at words)) ≡ length (plain_text words)

module _ (words : List ℕ) where
  -- the characters counted with those of one word more
  pub counted_more : (count at more : ℕ) → Counted words count at → at < length words
      → more ≡ length (without_fill (cells_in (get_or words at 0))) → Counted words (count + more) (at + 1)
  counted_more count at more so_far within is =
      record { most = omega (arith, few (get_or words at 0)); all = omega (arith, length_next words at within) }

  -- the characters counted when the last word was reached
  pub counted_last : (count at : ℕ) → Counted words count at → length words ≤ at → count ≡ length (plain_text words)
  counted_last count at so_far done = omega (arith, ap length (text_end words at done))
