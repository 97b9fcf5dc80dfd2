-- Printing a CAPCODE into a lent buffer (document 01, "CAPCODE text").
use Rattle.std.specs.Prelude.{ℕ, List, [], ◌∷◌, ltb, length, Result}
use Rattle.refusal.specs.declared.Refusal.{Refusal}
use Rattle.refusal.specs.declared.Refusal.TheVariants.{Room}
use Rattle.refusal.specs.Told.{Told, given, ask, told_by, written_by}
use Rattle.capcode.specs.declared.Capcode.{Capcode}
use Rattle.capcode.specs.Assigned.{asked}
use Rattle.capcode.specs.Text.{text_of}

-- what is answered when a CAPCODE is printed into a buffer of `room` bytes: the text's length, and last of all refusals 1
abbrev pub print_of : Capcode → ℕ → Told
print_of c room = asked c (ask (ltb room (length (text_of c))) Room (given (length (text_of c) ∷ [])))

-- what a buffer holds after a CAPCODE was printed into it
abbrev pub buffer_after : Capcode → List ℕ → List ℕ
buffer_after c buffer = written_by (print_of c (length buffer)) buffer (text_of c)

-- how a print is told
abbrev pub told_print : Result ℕ Refusal → Told
told_print answer = told_by (λ length. length ∷ []) answer
