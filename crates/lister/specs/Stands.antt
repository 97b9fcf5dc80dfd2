-- Where a listing stands.
use Rattle.std.specs.Prelude.{ℕ, Bool, false, List, [], take}
use Rattle.lister.specs.declared.Lister.{Lister}

-- where a listing stands: the bytes of the present line that are kept, and whether a carriage return is held back
pub data Stand : Type 0 where
  stand : List ℕ → Bool → Stand

-- the bytes that a lister keeps of the present line; a count over sixteen stands for sixteen
abbrev pub kept_of : Lister → List ℕ
kept_of l = take l.count l.line

-- where a lister stands
abbrev pub stand_of : Lister → Stand
stand_of l = stand (kept_of l) l.held

-- before the first byte, and after a line feed
abbrev pub fresh : Stand
fresh = stand [] false
