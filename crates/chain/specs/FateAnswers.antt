-- What becomes of a chain, as the code hands it on.
use Rattle.std.specs.Prelude.{ℕ, Result, Ok, Err}
use Rattle.refusal.specs.Told.{number_of}
use Rattle.chain.specs.declared.Chain.{Chain}
use Rattle.chain.specs.declared.Lost.{Lost}
use Rattle.chain.specs.Steps.{Fate, lost, grows, whole, record_after}

-- the number of what becomes of a chain: that of the refusal with which it is lost, or 0
abbrev pub fate_number : Fate → ℕ
fate_number (lost r) = number_of r
fate_number (grows c) = 0
fate_number whole = 0

-- what becomes of a chain, as the code hands it on: its slot's record then, after the refusal with which it is lost too
abbrev pub as_fate : Fate → Result Chain Lost
as_fate (lost r) = Err (record { refusal = r; chain = record_after (lost r) })
as_fate (grows c) = Ok (record_after (grows c))
as_fate whole = Ok (record_after whole)
