-- What a run of the listing program reads and writes, however the reader divides its bytes.
use Rattle.std.specs.Prelude.{ℕ, ◌-◌, ◌^◌, ◌<◌, ◌≡◌, Bool, true, false, List, length}
use Rattle.std.specs.Io.KnownBytes.{Consumes, Appends, IsAtEnd}
use Rattle.std.specs.declared.option.Option.{Option}
use Rattle.lister.specs.Stands.{Stand}
use Rattle.lister.specs.Lines.{listing}
use Rattle.lister.specs.Portions.{writes_all, next_all}

-- some bytes were read and their listing was written: what the reader has left before and after, where the listing stands before and after, and what the writer holds before and after
pub record Went (unread left : Option (List ℕ)) (before after : Stand) (held holds : Option (List ℕ)) : Type 0 where
  pub bytes : List ℕ
  pub read : Consumes unread left bytes
  pub stands : after ≡ next_all before bytes
  pub wrote : Appends held holds (writes_all before bytes)

-- one read went well: it gave some bytes, or the input has ended
pub record WentOnce (unread left : Option (List ℕ)) (before after : Stand) (held holds : Option (List ℕ)) (goes_on : Bool) : Type 0 where
  pub went : Went unread left before after held holds
  pub some : goes_on ≡ true → 0 < length went.bytes
  pub ends : goes_on ≡ false → IsAtEnd left

-- the reads of a run went well: they came to the end of the input, unless it is longer than any that can be read
pub record WentOn (unread left : Option (List ℕ)) (before after : Stand) (held holds : Option (List ℕ)) : Type 0 where
  pub went : Went unread left before after held holds
  pub ends : length went.bytes < 2 ^ 64 - 1 → IsAtEnd left

-- an input was read to its end, and what was written is its listing
pub record Listed (unread left held holds : Option (List ℕ)) : Type 0 where
  pub bytes : List ℕ
  pub read : Consumes unread left bytes
  pub ends : length bytes < 2 ^ 64 - 1 → IsAtEnd left
  pub wrote : Appends held holds (listing bytes)
