-- Codewords as text: runs of eight hexadecimal digits between blanks, in any layout.
use Rattle.std.specs.Prelude.{ℕ, ◌+◌, ◌-◌, ◌*◌, ◌%◌, ◌^◌, Bool, not, ◌&&◌, ◌||◌, leb, ltb, eqb, Option, Some, None, Err}
use Prim.Native.Char.{code}
use Rattle.laws.specs.Choice.{pick}
use Rattle.refusal.specs.declared.Refusal.TheVariants.{Size, Character}
use Rattle.refusal.specs.Told.{number_of}
use Rattle.pocsag_lister.specs.declared.Token.{Token}
use Rattle.pocsag_lister.specs.declared.Taken.{Taken}
use Rattle.pocsag_lister.specs.declared.Left.{Left}
use Rattle.pocsag_lister.specs.declared.Left.TheVariants as lefts
use Rattle.pocsag_lister.specs.Inputs.{Found, one_more, nothing, word_found}

-- ---- a character

-- what stands between two runs
abbrev pub is_blank : ℕ → Bool
is_blank byte = eqb byte (code " ") || eqb byte (code "\t") || eqb byte (code "\r") || eqb byte (code "\n")

-- a hexadecimal digit, a letter of it in either case
abbrev pub is_hex : ℕ → Bool
is_hex byte = leb (code "0") byte && leb byte (code "9") || leb (code "A") byte && leb byte (code "F") || leb (code "a") byte && leb byte (code "f")

-- the number of a hexadecimal digit
abbrev pub hex_value : ℕ → ℕ
hex_value byte = pick (leb byte (code "9")) (byte - code "0") (pick (leb byte (code "F")) (byte - code "A" + 10) (byte - code "a" + 10))

-- ---- a byte more of a text

-- a number of eight hexadecimal digits with one more digit behind it, and without the first
abbrev pub shifted : ℕ → ℕ → ℕ
shifted value digit = value % 2 ^ 28 * 16 + digit

-- how many characters a run has after one more: 9 stands for more than eight
abbrev pub counted : ℕ → ℕ
counted count = pick (ltb count 9) (count + 1) count

-- whether a byte is the first of its run that is no hexadecimal digit
abbrev pub goes_wrong : Token → ℕ → Bool
goes_wrong t byte = eqb t.number 0 && not (is_hex byte)

-- a run with one character more: the place that is told is that of the first character, and of the first that is no hexadecimal digit where one is
abbrev pub grown : Token → ℕ → Token
grown t byte =
    record {
      line = t.line;
      place = one_more t.place;
      «at» = pick (eqb t.count 0 || goes_wrong t byte) t.place t.«at»;
      number = pick (goes_wrong t byte) (number_of Character) t.number;
      count = counted t.count;
      value = pick (is_hex byte) (shifted t.value (hex_value byte)) t.value;
    }

-- a run that is no word, by its number, its line and its place in the line
abbrev pub wrong_run : Token → ℕ → Found
wrong_run t n = Err (record { number = n; line = t.line; place = t.«at» })

-- a run of some characters, by the number that is told of it: that number where it is not 0, 9 where they are not eight, else a word
abbrev pub run_by : ℕ → Token → Found
run_by number t =
    pick (not (eqb number 0)) (wrong_run t number)
    (pick (not (eqb t.count 8)) (wrong_run t (number_of Size))
    (word_found t.value))

-- the run that was read so far, as it ends
abbrev pub run : Token → Found
run t = run_by t.number t

-- what a run is where it ends: nothing where it has no character, 18 where one is no hexadecimal digit, 9 where they are not eight, else a word
abbrev pub finished : Token → Option Found
finished t = pick (eqb t.count 0) nothing (Some (run t))

-- what is left where a text ends
abbrev pub left_of_run : Option Found → Option Left
left_of_run None = None
left_of_run (Some f) = Some (lefts.Run f)

-- what is left where a text ends: the run that no blank ended
abbrev pub left_of_text : Token → Option Left
left_of_text t = left_of_run (finished t)

-- after a blank: no run, and after a line feed the next line
abbrev pub after_blank : Token → ℕ → Token
after_blank t byte =
    record {
      line = pick (eqb byte (code "\n")) (one_more t.line) t.line;
      place = pick (eqb byte (code "\n")) 0 (one_more t.place);
      «at» = 0;
      number = 0;
      count = 0;
      value = 0;
    }

-- a byte of a text: a blank ends the run before it, any other byte is a character of a run
abbrev pub taken_text : Token → ℕ → Taken
taken_text t byte =
    pick (is_blank byte)
    (record { token = after_blank t byte; found = finished t })
    (record { token = grown t byte; found = nothing })
