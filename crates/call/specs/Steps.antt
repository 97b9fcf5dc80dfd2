-- What becomes of the records: a call is opened, gets its vector, is closed by a bad span, is listed (document 01, "Calls in a frame").
use Rattle.std.specs.Prelude.{ℕ, ◌+◌, ◌-◌, Bool, not, ◌||◌, List, [], ◌∷◌, ◌++◌, length, drop, set}
use Rattle.laws.specs.Lists.{put, those}
use Rattle.packet.specs.declared.heard.Address.{Address}
use Rattle.packet.specs.declared.vectors.Vector.{Vector}
use Rattle.call.specs.declared.Call.{Call}
use Rattle.call.specs.declared.Calls.{Calls}
use Rattle.call.specs.Calls.{blank, fresh, opens, has_vector, is_long, fits, brings_words}
use Rattle.call.specs.Words.{is_complete}

-- the call that an address packet opens: it awaits its vector
abbrev pub call_of : Address → Call
call_of a =
    record {
      phase = a.phase;
      vector = a.vector;
      address = a.address;
      priority = a.priority;
      long_address = a.long_address;
      has_vector = 0;
      kind = 0;
      check = 0;
      start = 0;
      words = 0;
      area = 0;
    }

-- the records with one call more, the last opened
abbrev pub added : Calls → Call → Calls
added s c = record { size = s.size + 1; calls = set s.calls s.size c }

-- whether the span of a vector is one for its call
abbrev pub vector_fits : Call → Vector → Bool
vector_fits c v = not (brings_words v.kind) || fits (is_long c) c.vector v.span.start v.span.words

-- a call whose vector has come, its words in an area
abbrev pub with_vector : Call → Vector → ℕ → Call
with_vector c v area =
    record {
      phase = c.phase;
      vector = c.vector;
      address = c.address;
      priority = c.priority;
      long_address = c.long_address;
      has_vector = 1;
      kind = v.kind;
      check = v.span.check;
      start = v.span.start;
      words = v.span.words;
      area = area;
    }

-- the area for a call's words: calls that have their vector stay to the end of the frame, so their number is an area that none of them has
abbrev pub next_area : List Call → ℕ
next_area row = length (those has_vector row)

-- the records with one of them changed
abbrev pub changed : Calls → ℕ → Call → Calls
changed s place c = record { size = s.size; calls = set s.calls place c }

-- a row without the record at a place: those after it move one place down, so that they stay in their order
abbrev pub without : ℕ → List Call → List Call
without place row = put row place (drop (place + 1) row ++ blank ∷ [])

-- the records with an open call closed
abbrev pub removed : Calls → ℕ → Calls
removed s place = record { size = length (opens s) - 1; calls = without place s.calls }

-- calls as records of so many
abbrev pub listed : ℕ → List Call → Calls
listed count row = record { size = length row; calls = put (fresh count).calls 0 row }

-- 01: "lists those incomplete, in the order opened"
abbrev pub incomplete_in : List Call → List ℕ → List Call
incomplete_in row memory = those (λ c. not (is_complete c memory)) row
