-- How the code takes the characters' bits: a few codes at a time.
use Rattle.std.specs.Prelude.{ℕ, ◌+◌, ◌*◌, List, get_or}

-- three codes from a place on, as a number
abbrev pub three_from : List ℕ → ℕ → ℕ
three_from codes place = get_or codes place 0 + 16 * (get_or codes (place + 1) 0 + 16 * get_or codes (place + 2) 0)
