-- The twelve marked cases hold of the definitions.
use Prim.Native.Nat.{ℕ}
use mathlib.Core.List.{map}
use mathlib.Core.Path.{◌≡◌, refl}
use Rattle.laws.specs.Lists.{place_in, up_from}
use Rattle.laws.specs.Numerals.{number, digits}
use Rattle.capcode.specs.Ranges.{rows, class_in, class_of}
use Rattle.refusal.specs.Told.{Told}
use Rattle.capcode.specs.Words.{words_of}
use Rattle.capcode.specs.Assigned.{asked}
use Rattle.capcode.specs.Reads.{step_of, follow, form_of}
use Rattle.mirror.specs.Handshake.{run_of}
use Rattle.numeric.specs.Pages.{standard_set, words_with}
use Rattle.cases.specs.Cases.{Case, marked}

-- they are 01's twelve, in its order
pub twelve : map {A = Case} {B = ℕ} (λ c. c.number) marked ≡ up_from 1 12
unfolding marked up_from
twelve = refl

-- 01: "shown of the definitions as a single table under one claim": what the definitions say is what 01 says
pub marked_cases : map {A = Case} {B = Told} (λ c. c.answered) marked ≡ map {A = Case} {B = Told} (λ c. c.expected) marked
unfolding marked words_of class_of class_in rows form_of follow step_of asked run_of standard_set words_with place_in number digits
marked_cases = refl
