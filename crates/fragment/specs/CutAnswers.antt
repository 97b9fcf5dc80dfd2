-- What is answered when a text is cut, a line a refusal, in the order of 01's table.
use Rattle.std.specs.Prelude.{ℕ, not, List, [], ◌∷◌, length, nat_lt}
use mathlib.Core.List.{flatten}
use Rattle.refusal.specs.declared.Refusal.TheVariants.{Room, Packet, Size, TooLong, Character}
use Rattle.refusal.specs.Told.{Told, given, ask, number_told, value_told, written_by}
use Rattle.fragment.specs.Fragments.{most_characters, is_size}
use Rattle.fragment.specs.declared.Marks.{Marks}
use Rattle.fragment.specs.declared.CutSize.{CutSize}
use Rattle.fragment.specs.declared.TextCut.{TextCut}
use Rattle.fragment.specs.Cutting.{marked, sendable, cut}

-- a text cut: 7, 9, 15, 18, and last of all 1 for a buffer of `lent` words; else how many fragments, and how many words they are together
unfoldable pub cut_of : ℕ → Marks → ℕ → List ℕ → Told
cut_of lent marks largest text =
    ask (not (marked marks)) Packet
    (ask (not (is_size largest)) Size
    (ask (nat_lt most_characters (length text)) TooLong
    (ask (not (sendable text)) Character
    (ask (nat_lt lent (length (flatten (cut marks largest text)))) Room
    (given (length (cut marks largest text) ∷ length (flatten (cut marks largest text)) ∷ []))))))

-- what the lent words are then: the fragments, one after the other
abbrev pub words_after : Marks → ℕ → List ℕ → List ℕ → List ℕ
words_after marks largest text lent = written_by (cut_of (length lent) marks largest text) lent (flatten (cut marks largest text))

-- what is told of a cut: how many fragments, how many words
abbrev pub of_cut : CutSize → List ℕ
of_cut c = c.fragments ∷ c.words ∷ []

-- the answer as C has it: 01's number, how many fragments, how many words
abbrev pub as_cut : Told → TextCut
as_cut t = record { number = number_told t; fragments = value_told t 0; words = value_told t 1 }
