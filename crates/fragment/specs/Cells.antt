-- How the code leaves the signature out of the text: the first cell of a first fragment's second word is taken as fill, which is dropped.
use Rattle.std.specs.Prelude.{ℕ, ◌+◌, ◌*◌, ◌/◌, ◌^◌, Bool, List, ◌∷◌, drop}
use Rattle.laws.specs.Choice.{pick}
use Rattle.fragment.specs.Fragments.{cell_bits, cells_of, etx, without_fill}

-- a second word without the signature, which a first fragment has
abbrev pub unsigned : Bool → ℕ → ℕ
unsigned first word = pick first (word / 2 ^ cell_bits * 2 ^ cell_bits + etx) word

-- the text of words, all of whose cells are characters or fill
abbrev pub plain_text : List ℕ → List ℕ
plain_text words = without_fill (cells_of words)

-- the text of a second word and of all words after it
abbrev pub text_from : ℕ → List ℕ → List ℕ
text_from second words = plain_text (second ∷ drop 2 words)
