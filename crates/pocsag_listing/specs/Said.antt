-- What the lines of a listing of POCSAG pages say, to the letter.
use Rattle.std.specs.Prelude.{ℕ, ◌-◌, Bool, true, false, List, [], ◌++◌, eqb, leb, length, take, Option, None, Some}
use Rattle.std.specs.Fmt.{decimal}
use Rattle.laws.specs.Choice.{pick}
use Rattle.laws.specs.Texts.{bytes_of}
use Rattle.refusal.specs.declared.Refusal.TheVariants.{NoSync}
use Rattle.refusal.specs.Told.{number_of, value_told}
use Rattle.refusal.specs.Sentences.{sentence_at}
use Rattle.capcode.specs.Text.{digits}
use Rattle.lister.specs.Lines.{shown}
use Rattle.pocsag.specs.declared.PocsagPage.{PocsagPage}
use Rattle.pocsag.specs.declared.TextKind.{TextKind}
use Rattle.pocsag.specs.declared.TextRead.{TextRead}
use Rattle.pocsag.specs.Texts.{kind_number, read_of, text_after}
use Rattle.pocsag_lister.specs.declared.Kind.{Kind}
use Rattle.pocsag_lister.specs.declared.Kind.TheVariants as kinds
use Rattle.pocsag_lister.specs.declared.WrongRun.{WrongRun}
use Rattle.pocsag_lister.specs.Pages.{listed_kind}
use Rattle.pocsag_listing.specs.declared.lines.Unit.{Unit}
use Rattle.pocsag_listing.specs.declared.lines.Unit.TheVariants as units
use Rattle.pocsag_listing.specs.declared.lines.Row.{Row}

-- a number after a text
abbrev pub numbered : List ℕ → ℕ → List ℕ
numbered text n = text ++ decimal n

-- a number after a text, at the end of a line
abbrev pub line_end : List ℕ → ℕ → List ℕ
line_end text n = numbered text n ++ bytes_of "\n"

-- the title of a listing
abbrev pub title : List ℕ
title = bytes_of "ADDRESS FUNCTION KIND MENDED FILL TEXT\n"

-- ---- a page

-- what a page is listed as
abbrev pub kind_shown : Kind → List ℕ
kind_shown kinds.Tone = bytes_of " TONE"
kind_shown kinds.Numeric = bytes_of " NUMERIC"
kind_shown kinds.Text = bytes_of " TEXT"

-- its address and its function
abbrev pub head : PocsagPage → List ℕ
head page = digits 7 page.address ++ numbered (bytes_of " ") page.function

-- how many bits were mended, and how many characters at the end are fill
abbrev pub counts : ℕ → ℕ → List ℕ
counts mended fill = numbered (bytes_of " ") mended ++ numbered (bytes_of " ") fill

-- all that is before its text
abbrev pub fields : PocsagPage → TextKind → ℕ → List ℕ
fields page kind fill =
    head page ++ kind_shown (listed_kind kind page.words) ++ counts page.mended fill

-- so many characters of a text after a blank, if there are any
abbrev pub text_shown : List ℕ → ℕ → List ℕ
text_shown text count = pick (eqb count 0) [] (bytes_of " " ++ shown (take count text))

-- how many characters are before the fill
abbrev pub before_fill : TextRead → ℕ
before_fill read = pick (leb read.fill_at_end read.characters) (read.characters - read.fill_at_end) 0

-- the line of a page that is refused
abbrev pub refused_line : PocsagPage → List ℕ
refused_line page = head page ++ numbered (bytes_of " REFUSED ") page.number ++ line_end (bytes_of " ") page.words

-- ---- words, bytes and characters

-- a number, or the first and the last of several
abbrev pub span : List ℕ → List ℕ → List ℕ → ℕ → ℕ → List ℕ
span one several to first last = pick (eqb first last) (numbered one first) (numbered several first ++ numbered to last)

-- what a refusal means, after what it is of, and how it is mended
abbrev pub meaning : ℕ → List ℕ → List ℕ
meaning number hint = bytes_of ": " ++ sentence_at number ++ hint

-- whether words are counted, and not bytes
abbrev pub is_word : Unit → Bool
is_word units.Word = true
is_word units.Byte = false

-- what a row of refused words or bytes is named at the head of its line
abbrev pub row_heading : Row → List ℕ
row_heading row =
    pick (is_word row.unit) (span (bytes_of "WORD ") (bytes_of "WORDS ") (bytes_of " TO ") row.first row.last)
    (span (bytes_of "BYTE ") (bytes_of "BYTES ") (bytes_of " TO ") row.first row.last)

-- the line of a row
abbrev pub row_line : Row → List ℕ
row_line row = row_heading row ++ line_end (bytes_of " REFUSED ") row.number

-- what a row is named before what its refusal means
abbrev pub row_named : Row → List ℕ
row_named row =
    pick (is_word row.unit) (span (bytes_of "word ") (bytes_of "words ") (bytes_of " to ") row.first row.last)
    (span (bytes_of "byte ") (bytes_of "bytes ") (bytes_of " to ") row.first row.last)

-- what there is to add to the meaning, and the end of the line
abbrev pub row_hint : Unit → List ℕ
row_hint unit = pick (is_word unit) (bytes_of "\n") (bytes_of ": a word is four bytes\n")

-- what the refusal of a row means
abbrev pub row_meaning : Row → List ℕ
row_meaning row = row_named row ++ meaning row.number (row_hint row.unit)

-- all that is reported of a row
abbrev pub row_told : Bool → Row → List ℕ
row_told explained row = row_line row ++ pick explained (row_meaning row) []

-- what is reported of the row that is not reported yet, if there is one
abbrev pub waiting_told : Bool → Option Row → List ℕ
waiting_told explained None = []
waiting_told explained (Some row) = row_told explained row

-- the line of a run of characters that is no word
abbrev pub characters_line : WrongRun → List ℕ
characters_line mark =
    numbered (bytes_of "LINE ") mark.line ++ numbered (bytes_of " REFUSED ") mark.number ++ line_end (bytes_of " ") mark.place

-- where a run is
abbrev pub characters_named : WrongRun → List ℕ
characters_named mark = numbered (bytes_of "line ") mark.line ++ numbered (bytes_of ", place ") mark.place

-- what the refusal of a run means, and the word that is heard in its place
abbrev pub characters_meaning : WrongRun → ℕ → List ℕ
characters_meaning mark word =
    characters_named mark ++ meaning mark.number (bytes_of ": a word is eight hexadecimal digits")
    ++ line_end (bytes_of "; it stands as word ") word

-- all that is reported of a run
abbrev pub characters_told : Bool → WrongRun → ℕ → List ℕ
characters_told explained mark word = characters_line mark ++ pick explained (characters_meaning mark word) []

-- ---- what a page that ended is told as

-- what else the number of a page's refusal stands for
abbrev pub page_remark : ℕ → List ℕ
page_remark number = pick (eqb number (number_of NoSync)) (bytes_of ", or the words ended") []

-- what the refusal of a page means
abbrev pub page_meaning : ℕ → List ℕ
page_meaning number = bytes_of ": " ++ sentence_at number ++ page_remark number

-- which page went wrong, and at which of its words
abbrev pub place : PocsagPage → List ℕ
place page = bytes_of "page " ++ digits 7 page.address ++ numbered (bytes_of ", message word ") page.words

-- what came of a page before it went wrong
abbrev pub begun : List ℕ → ℕ → List ℕ
begun text count =
    pick (eqb count 0) (bytes_of "; no character came before that\n")
    (bytes_of "; not the whole text:" ++ text_shown text count ++ bytes_of "\n")

-- how the text of a page is read
abbrev pub read_as : TextKind → ℕ → List ℕ → List ℕ → TextRead
read_as kind words lent text =
    record {
      characters = value_told (read_of (kind_number kind) (length text) (take words lent)) 0;
      fill_at_end = value_told (read_of (kind_number kind) (length text) (take words lent)) 1;
    }

-- the buffer after the text of a page was read into it
abbrev pub text_as : TextKind → ℕ → List ℕ → List ℕ → List ℕ
text_as kind words lent text = text_after (kind_number kind) (take words lent) text

-- the line of a page that is handed out
abbrev pub page_line : PocsagPage → TextKind → List ℕ → List ℕ → List ℕ
page_line page kind lent text =
    fields page kind (read_as kind page.words lent text).fill_at_end
    ++ text_shown (text_as kind page.words lent text) (before_fill (read_as kind page.words lent text)) ++ bytes_of "\n"

-- what a page that is refused means
abbrev pub explained_line : PocsagPage → TextKind → List ℕ → List ℕ → List ℕ
explained_line page kind lent text =
    place page ++ page_meaning page.number ++ begun (text_as kind page.words lent text) (read_as kind page.words lent text).characters

-- all that is told of a page
abbrev pub page_told : PocsagPage → Bool → TextKind → List ℕ → List ℕ → List ℕ
page_told page explained kind lent text =
    pick (eqb page.number 0) (page_line page kind lent text)
    (refused_line page ++ pick explained (explained_line page kind lent text) [])
