-- The twelve marked cases (document 01, "Proved examples, one table").
use Rattle.std.specs.Prelude.{ℕ, true, false, List, [], ◌∷◌}
use Rattle.laws.specs.Texts.{bytes_of}
use Rattle.refusal.specs.Told.{Told, told, given, number_told, value_told}
use Rattle.capcode.specs.Words.{words_of}
use Rattle.capcode.specs.Reads.{read_of}
use Rattle.frames.specs.declared.Listener.{Listener}
use Rattle.frames.specs.Listening.{heard, frames_from}
use Rattle.mirror.specs.Handshake.{reset_by, run_of}
use Rattle.numeric.specs.Pages.{standard_set, room_of, words_with}

-- a case: its number in 01, what the definitions say, and what 01 says
pub record Case : Type 0 where
  pub number : ℕ
  pub answered : Told
  pub expected : Told

-- a case, written in that order
abbrev case : ℕ → Told → Told → Case
case number answered expected = record { number = number; answered = answered; expected = expected }

-- refused with a number
abbrev refused_by : ℕ → Told
refused_by number = told number []

-- the phase and base frame of a CAPCODE text: of what is read the fifth and the sixth value, where phase A is 0
abbrev assigned_to : Told → Told
assigned_to t = told (number_told t) (value_told t 4 ∷ value_told t 5 ∷ [])

-- a listener of a base frame and a collapse
abbrev listener : ℕ → ℕ → Listener
listener base collapse = record { frame = base; collapse = collapse }

-- the words of a standard numeric page, K as 0
abbrev page : List ℕ → List ℕ
page text = words_with standard_set false (0 ∷ 0 ∷ 0 ∷ 0 ∷ []) text

-- all twelve
unfoldable pub marked : List Case
unfolding heard frames_from
marked =
    case 1 (words_of 1) (given (0x008001 ∷ []))
    ∷ case 2 (words_of 1933312) (given (0x1E0000 ∷ []))
    ∷ case 3 (words_of 2101249) (given (0x000001 ∷ 0x1FFFFE ∷ []))
    ∷ case 4 (words_of 1075843073) (given (0x000001 ∷ 0x1E0001 ∷ []))
    ∷ case 5 (words_of 3223326721) (given (0x1F8001 ∷ 0x1E0001 ∷ []))
    ∷ case 6 (read_of (bytes_of "D0000002")) (refused_by 6)
    ∷ case 7 (assigned_to (read_of (bytes_of "D0000003"))) (given (0 ∷ 0 ∷ []))
    ∷ case 8 (given (frames_from (heard (listener 3 5 ∷ [])) 0 128)) (given (3 ∷ 35 ∷ 67 ∷ 99 ∷ []))
    ∷ case 9 (given ((run_of (reset_by 0xFF000106).mirror (0x01000010 ∷ 0x03400000 ∷ [])).register ∷ [])) (given (0x400116 ∷ []))
    ∷ case 10 (given (page (bytes_of "0417"))) (given (0x01C500 ∷ []))
    ∷ case 11 (given (page (bytes_of "417"))) (given (0x031C50 ∷ []))
    ∷ case 12 (given (room_of true 2 ∷ [])) (given (8 ∷ []))
    ∷ []
