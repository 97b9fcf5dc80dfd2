-- A word whose three cells are all text.
use Rattle.std.specs.Prelude.{ℕ, ◌/◌, ◌%◌, Bool, not, ◌&&◌, ◌==◌}
use Rattle.fragment.specs.Fragments.{etx}

-- whether no cell of a word is fill
abbrev pub is_full : ℕ → Bool
is_full word = not (word % 128 == etx) && not (word / 128 % 128 == etx) && not (word / 16384 % 128 == etx)
