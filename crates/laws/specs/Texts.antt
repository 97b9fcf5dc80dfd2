-- Texts in quotes, so that a definition shows what a person reads.
use Rattle.std.specs.Prelude.{ℕ, List}
use Prim.Native.Char.{code}
use Prim.Native.String.{String}

-- the bytes of a text of ASCII characters
abbrev pub bytes_of : String → List ℕ
bytes_of String.[] = List.[]
bytes_of (String.◌∷◌ c text) = List.◌∷◌ (code c) (bytes_of text)
