-- Texts and pages worked by hand.
use mathlib.Core.List.{[], ◌∷◌}
use mathlib.Core.Path.{◌≡◌, refl}
use Rattle.laws.specs.Lists.{all, first_that}
use Rattle.laws.specs.Texts.{bytes_of}
use Rattle.capcode.specs.Text.{digits}
use Rattle.std.specs.Prelude.{Some, None}
use Rattle.pocsag.specs.declared.TextKind.TheVariants.{Numeric, NumericChinese, SevenBit}
use Rattle.pocsag_lister.specs.declared.Kind.TheVariants as kinds
use Rattle.pocsag_lister.specs.Inputs.{word_found}
use Rattle.pocsag_lister.specs.RawWords.{words_in}
use Rattle.pocsag_lister.specs.Runs.{hex_number, wrong_found, run_found, runs_from, runs_of}
use Rattle.pocsag_lister.specs.Pages.{kind_chosen, listed_kind, kind_of, listed_as}

-- the sync word in capitals, and the idle word in small letters
two_words : run_found 1 0 (bytes_of "7CD215D8") ∷ run_found 1 9 (bytes_of "7a89c197") ∷ [] ≡ word_found 0x7CD215D8 ∷ word_found 0x7A89C197 ∷ []
unfolding hex_number all
two_words = refl

-- a digit too few and one too many are told by the place of the first, a character that is no digit by its own, however many there are
wrong_runs : run_found 1 4 (bytes_of "7CD215D") ∷ run_found 2 4 (bytes_of "7CD215D80") ∷ run_found 3 4 (bytes_of "7G89H19") ∷ []
    ≡ wrong_found 9 1 4 ∷ wrong_found 9 2 4 ∷ wrong_found 18 3 5 ∷ []
unfolding hex_number all first_that
wrong_runs = refl

-- runs are counted by lines, and by places in their line; the last has no blank after it
lines_and_places : runs_of (bytes_of "A\t\n B-") ≡ wrong_found 9 1 0 ∷ wrong_found 18 2 2 ∷ []
unfolding runs_from hex_number all first_that
lines_and_places = refl

-- blanks alone are no run
no_runs : runs_of (bytes_of " \t\r\n \n") ≡ []
unfolding runs_from
no_runs = refl

-- the sync word as bytes, with two left over
raw_words : words_in (0x7C ∷ 0xD2 ∷ 0x15 ∷ 0xD8 ∷ 0x7A ∷ 0x89 ∷ []) ≡ 0x7CD215D8 ∷ []
unfolding words_in
raw_words = refl

-- by convention function 0 is numeric and every other text, unless a kind was chosen
kinds_by_function : kind_of 3 0 ∷ kind_of 3 1 ∷ kind_of 3 2 ∷ kind_of 3 3 ∷ [] ≡ 0 ∷ 2 ∷ 2 ∷ 2 ∷ []
kinds_by_function = refl

-- a kind that was chosen
kinds_chosen : kind_of 0 3 ∷ kind_of 1 3 ∷ kind_of 2 0 ∷ [] ≡ 0 ∷ 1 ∷ 2 ∷ []
kinds_chosen = refl

-- a page without message words is a tone by any kind
kinds_listed : listed_as 2 0 ∷ listed_as 0 0 ∷ listed_as 0 1 ∷ listed_as 1 1 ∷ listed_as 2 1 ∷ []
    ≡ kinds.Tone ∷ kinds.Tone ∷ kinds.Numeric ∷ kinds.Numeric ∷ kinds.Text ∷ []
kinds_listed = refl

-- the same without numbers: by convention function 0 is numeric and every other text, unless a kind was chosen
text_kinds_by_function : kind_chosen None 0 ∷ kind_chosen None 1 ∷ kind_chosen None 2 ∷ kind_chosen None 3 ∷ [] ≡ Numeric ∷ SevenBit ∷ SevenBit ∷ SevenBit ∷ []
text_kinds_by_function = refl

-- a kind that was chosen
text_kinds_chosen : kind_chosen (Some Numeric) 3 ∷ kind_chosen (Some NumericChinese) 3 ∷ kind_chosen (Some SevenBit) 0 ∷ [] ≡ Numeric ∷ NumericChinese ∷ SevenBit ∷ []
text_kinds_chosen = refl

-- a page without message words is a tone by any kind
text_kinds_listed : listed_kind SevenBit 0 ∷ listed_kind Numeric 0 ∷ listed_kind Numeric 1 ∷ listed_kind NumericChinese 1 ∷ listed_kind SevenBit 1 ∷ []
    ≡ kinds.Tone ∷ kinds.Tone ∷ kinds.Numeric ∷ kinds.Numeric ∷ kinds.Text ∷ []
text_kinds_listed = refl

-- an address with its zeros, and the last one that there is
addresses : (digits 7 1234 ≡ bytes_of "0001234") × (digits 7 2097151 ≡ bytes_of "2097151")
unfolding digits
addresses = (refl, refl)
