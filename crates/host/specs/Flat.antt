-- How an answer crosses to C: its number and its values, as the definition tells them, in the fields of a struct. A value that is not told is 0.
use Rattle.std.specs.Prelude.{List, eqb, length, get_or, drop, ℕ}
use Rattle.laws.specs.Choice.{pick}
use Rattle.refusal.specs.Told.{Told, told}
use Rattle.host.specs.declared.addresses.MortisevaneClass.{MortisevaneClass}
use Rattle.host.specs.declared.addresses.MortisevaneWords.{MortisevaneWords}
use Rattle.host.specs.declared.addresses.MortisevaneFound.{MortisevaneFound}
use Rattle.capcode.specs.declared.Capcode.{Capcode}
use Rattle.host.specs.declared.capcodes.MortisevaneCapcode.{MortisevaneCapcode}
use Rattle.host.specs.declared.capcodes.MortisevaneAssignment.{MortisevaneAssignment}
use Rattle.host.specs.declared.capcodes.MortisevaneLength.{MortisevaneLength}
use Rattle.host.specs.declared.listening.MortisevaneFrames.{MortisevaneFrames}
use Rattle.host.specs.declared.listening.MortisevaneWait.{MortisevaneWait}

-- a class
abbrev pub class_from : Told → MortisevaneClass
class_from (told n values) = record { number = n; class = get_or values 0 0 }

-- words: how many, and the words
abbrev pub words_from : Told → MortisevaneWords
words_from (told n values) = record { number = n; count = length values; first = get_or values 0 0; second = get_or values 1 0 }

-- an address
abbrev pub address_from : Told → MortisevaneFound
address_from (told n values) = record { number = n; address = get_or values 0 0 }

-- a CAPCODE by its parts
abbrev pub capcode_of : ℕ → ℕ → ℕ → ℕ → Capcode
capcode_of letter frame collapse address = record { letter = letter; frame = frame; collapse = collapse; address = address }

-- an accepted CAPCODE, of which letter, frame, collapse, address, phase and base frame are told
abbrev pub capcode_given : List ℕ → MortisevaneCapcode
capcode_given values =
    record {
      number = 0;
      letter = get_or values 0 0;
      frame = get_or values 1 0;
      collapse = get_or values 2 0;
      phase = get_or values 4 0;
      base = get_or values 5 0;
      place = 0;
      address = get_or values 3 0;
    }

-- a refused text, of which the place may be told at which it goes wrong
abbrev pub capcode_refused : ℕ → List ℕ → MortisevaneCapcode
capcode_refused n values =
    record { number = n; letter = 0; frame = 0; collapse = 0; phase = 0; base = 0; place = get_or values 0 0; address = 0 }

-- what a text is read as
abbrev pub capcode_from : Told → MortisevaneCapcode
capcode_from (told n values) = pick (eqb n 0) (capcode_given values) (capcode_refused n values)

-- a phase and a base frame
abbrev pub assignment_from : Told → MortisevaneAssignment
assignment_from (told n values) = record { number = n; phase = get_or values 0 0; base = get_or values 1 0 }

-- how much was written
abbrev pub length_from : Told → MortisevaneLength
length_from (told n values) = record { number = n; length = get_or values 0 0 }

-- the frames listened to: their count, and the masks
abbrev pub frames_from : Told → MortisevaneFrames
frames_from (told n values) = record { number = n; count = get_or values 0 0; masks = drop 1 values }

-- a wait
abbrev pub wait_from : Told → MortisevaneWait
wait_from (told n values) = record { number = n; frames = get_or values 0 0 }
