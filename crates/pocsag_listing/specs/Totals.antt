-- What the summary of a listing of POCSAG pages says, to the letter.
use Rattle.std.specs.Prelude.{ℕ, List, ◌++◌}
use Rattle.laws.specs.Texts.{bytes_of}
use Rattle.pocsag_listing.specs.declared.Totals.{Totals}
use Rattle.pocsag_listing.specs.Said.{numbered}

-- the line of the totals, without its line feed
abbrev pub totals_shown : Totals → List ℕ
totals_shown totals =
    numbered (bytes_of "words ") totals.words ++ numbered (bytes_of " refused ") totals.refused_words
    ++ numbered (bytes_of " pages ") totals.pages ++ numbered (bytes_of " refused ") totals.refused_pages
    ++ numbered (bytes_of " left ") totals.left
