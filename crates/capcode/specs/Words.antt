-- Addresses as words, and words as addresses (document 01, "Words (Table 24, hexadecimal)").
use Rattle.std.specs.Prelude.{ℕ, ◌+◌, ◌-◌, ◌*◌, ◌/◌, ◌%◌, ◌^◌, ◌≤◌, ◌<◌, Bool, true, false, ◌&&◌, List, [], ◌∷◌, leb, eqb, Result}
use Rattle.laws.specs.Choice.{pick}
use Rattle.refusal.specs.declared.Refusal.{Refusal}
use Rattle.refusal.specs.declared.Refusal.TheVariants.{Range}
use Rattle.refusal.specs.Told.{Told, told, refused, given, told_by}
use Rattle.capcode.specs.declared.Class.{Class}
use Rattle.capcode.specs.declared.Class.TheVariants.{Short, InformationService, Network, Operator, Set12}
use Rattle.capcode.specs.declared.Class.TheVariants.{Set13, Set14, Set23Country, Set23InformationService}
use Rattle.capcode.specs.declared.wording.Layout.{Layout}
use Rattle.capcode.specs.declared.wording.Layout.TheVariants.{OneWord, Words12, Words13, Words23}
use Rattle.capcode.specs.declared.Words.{Words}
use Rattle.capcode.specs.Ranges.{class_of}

-- 01: "one word, address + 8000"
abbrev pub one_word : ℕ → List ℕ
one_word address = (address + 0x8000) ∷ []

-- 01: "Sets 1-2, 1-3, 1-4: d = address - 1F9001; first word 1 + d mod 8000", the second by d div 8000
abbrev pub first_of_set1 : ℕ → ℕ
first_of_set1 address = 1 + (address - 0x1F9001) % 0x8000

-- 01: "second 1FFFFF - d div 8000 for 1-2"
abbrev pub pair12 : ℕ → List ℕ
pair12 address = first_of_set1 address ∷ (0x1FFFFF - (address - 0x1F9001) / 0x8000) ∷ []

-- 01: "1D8000 + d div 8000 for 1-3 and 1-4"
abbrev pub pair13 : ℕ → List ℕ
pair13 address = first_of_set1 address ∷ (0x1D8000 + (address - 0x1F9001) / 0x8000) ∷ []

-- 01: "Set 2-3: d = address - 1F8FFF; first 1F7FFF + d mod 8000, second 1C8000 + d div 8000"
abbrev pub pair23 : ℕ → List ℕ
pair23 address = (0x1F7FFF + (address - 0x1F8FFF) % 0x8000) ∷ (0x1C8000 + (address - 0x1F8FFF) / 0x8000) ∷ []

-- Table 24: which of its four lines a class goes by
abbrev pub layout_of : Class → Layout
layout_of Short = OneWord
layout_of InformationService = OneWord
layout_of Network = OneWord
layout_of Operator = OneWord
layout_of Set12 = Words12
layout_of Set13 = Words13
layout_of Set14 = Words13
layout_of Set23Country = Words23
layout_of Set23InformationService = Words23

-- the words of an address by a line of Table 24
abbrev pub words_as : Layout → ℕ → List ℕ
words_as OneWord address = one_word address
words_as Words12 address = pair12 address
words_as Words13 address = pair13 address
words_as Words23 address = pair23 address

-- the addresses whose words by that line are words of 21 bits, with no difference below 0
abbrev pub FitsAs : Layout → ℕ → Type 0
FitsAs OneWord address = address ≤ 0x1F7FFE
FitsAs Words12 address = (0x1F9001 ≤ address) × (address < 2 ^ 32)
FitsAs Words13 address = (0x1F9001 ≤ address) × (address < 2 ^ 32)
FitsAs Words23 address = (0x1F8FFF ≤ address) × (address < 2 ^ 32)

-- the words of an address whose class was looked up
abbrev pub words_by : Result Class Refusal → ℕ → Told
words_by found address = told_by (λ class. words_as (layout_of class) address) found

-- the words of an address, or 5
unfoldable pub words_of : ℕ → Told
words_of address = words_by (class_of address) address

-- two lists of numbers are the same
unfoldable pub same : List ℕ → List ℕ → Bool
same [] [] = true
same [] (y ∷ ys) = false
same (x ∷ xs) [] = false
same (x ∷ xs) (y ∷ ys) = eqb x y && same xs ys

-- an answer gives just these words
abbrev pub gives : Told → List ℕ → Bool
gives (told n values) words = eqb n 0 && same values words

-- the address that Table 24, read backwards, leads to from one word
abbrev pub from_word : ℕ → ℕ
from_word word = word - 0x8000

-- and from two: the first word's bank tells the set (Table 23: bank 1 ends at 8000), in set 1 the second's (bank 2 begins at 1F7FFF)
unfoldable pub from_pair : ℕ → ℕ → ℕ
from_pair first second =
    pick (leb first 0x8000)
    (pick (leb 0x1F7FFF second)
    (0x1F9001 + (0x1FFFFF - second) * 0x8000 + (first - 1))
    (0x1F9001 + (second - 0x1D8000) * 0x8000 + (first - 1)))
    (0x1F8FFF + (second - 0x1C8000) * 0x8000 + (first - 0x1F7FFF))

-- 01: "The way back answers the address for the words of an accepted address, and refuses all other words": an address is answered only if its words are these
unfoldable pub confirmed : ℕ → List ℕ → Told
confirmed address words = pick (gives (words_of address) words) (given (address ∷ [])) (refused Range)

-- the way back from a list of words
abbrev pub address_of : List ℕ → Told
address_of [] = refused Range
address_of (word ∷ []) = confirmed (from_word word) (word ∷ [])
address_of (first ∷ second ∷ []) = confirmed (from_pair first second) (first ∷ second ∷ [])
address_of (first ∷ second ∷ third ∷ more) = refused Range

-- one word or two as a list
abbrev pub listed : Words → List ℕ
listed (Words.One word) = word ∷ []
listed (Words.Two first second) = first ∷ second ∷ []

-- how words are told
abbrev pub told_worded : Result Words Refusal → Told
told_worded answer = told_by listed answer

-- how an address is told
abbrev pub told_addressed : Result ℕ Refusal → Told
told_addressed answer = told_by (λ address. address ∷ []) answer
