-- The answers of the functions that read a fragment: what is told of a heading, and how C has it.
use Rattle.std.specs.Prelude.{ℕ, List, [], ◌∷◌}
use Rattle.refusal.specs.Told.{Told, number_told, value_told}
use Rattle.fragment.specs.declared.FragmentHeading.{FragmentHeading}
use Rattle.fragment.specs.declared.FragmentRead.{FragmentRead}

-- what is told of a heading: C, F, N, R, M, S, the sum of its cells, and how many characters its text has
abbrev pub of_heading : FragmentHeading → List ℕ
of_heading h =
    h.continued ∷ h.fragment_number ∷ h.message_number ∷ h.retrieval ∷ h.mail_drop ∷ h.signature ∷ h.sum ∷ h.characters ∷ []

-- a heading, by what is told
abbrev pub as_heading : Told → FragmentHeading
as_heading t =
    record {
      continued = value_told t 0;
      fragment_number = value_told t 1;
      message_number = value_told t 2;
      retrieval = value_told t 3;
      mail_drop = value_told t 4;
      signature = value_told t 5;
      sum = value_told t 6;
      characters = value_told t 7;
    }

-- the answer as C has it: 01's number, and what is told
abbrev pub as_fragment : Told → FragmentRead
as_fragment t =
    record {
      number = number_told t;
      continued = value_told t 0;
      fragment_number = value_told t 1;
      message_number = value_told t 2;
      retrieval = value_told t 3;
      mail_drop = value_told t 4;
      signature = value_told t 5;
      sum = value_told t 6;
      characters = value_told t 7;
    }
