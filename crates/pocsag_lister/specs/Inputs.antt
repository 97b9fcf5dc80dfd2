-- What the bytes of an input are read to, one after the other: where the reading is, and what a byte finishes.
use Rattle.std.specs.Prelude.{ℕ, ◌+◌, ◌-◌, ◌^◌, ltb, Option, None, Result, Ok, Err}
use Rattle.laws.specs.Choice.{pick}
use Rattle.pocsag_lister.specs.declared.Token.{Token}
use Rattle.pocsag_lister.specs.declared.WrongRun.{WrongRun}

-- one more, as far as 64 bits can count
abbrev pub one_more : ℕ → ℕ
one_more n = pick (ltb n (2 ^ 64 - 1)) (n + 1) n

-- what is found: a word, or a run of characters that is none
abbrev pub Found : Type 0
Found = Result ℕ WrongRun

-- nothing is found
abbrev pub nothing : Option Found
nothing = None

-- a word
abbrev pub word_found : ℕ → Found
word_found word = Ok word

-- the word that is heard for a run of characters that is none: it is beyond repair, since its parity is odd
abbrev pub no_word : ℕ
no_word = 0x00000001

-- the word that is heard for what is found
abbrev pub word_heard : Found → ℕ
word_heard (Ok word) = word
word_heard (Err wrong) = no_word

-- before the first byte of an input: lines are counted from 1, places from 0
abbrev pub start : Token
start = record { line = 1; place = 0; «at» = 0; number = 0; count = 0; value = 0 }
