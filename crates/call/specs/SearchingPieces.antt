-- What a call is known by, in the piece in which the code makes it.
use Rattle.call.specs.declared.Call.{Call}
use Rattle.call.specs.declared.searching.Key.{Key}

-- 01: "under its phase and vector word number"
abbrev pub key_of : Call → Key
key_of c = record { phase = c.phase; vector = c.vector }
