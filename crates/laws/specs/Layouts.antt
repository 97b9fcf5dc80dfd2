-- How a table of the data sheet lays out a packet or a word: a row of parts, the highest bit first, as the table reads.
use Rattle.std.specs.Prelude.{ℕ, zero, suc, ◌+◌, ◌-◌, ◌*◌, ◌/◌, ◌%◌, ◌^◌, Bool, true, false, ◌&&◌, List, [], ◌∷◌, ltb, eqb}
use Rattle.std.specs.Int.Bits.{bit_and, bit_or}
use Rattle.laws.specs.Choice.{pick}

-- one part of a row: bits that the table prints (how many, and the number they make), bits that it prints as 0, a field, bits that are not looked at (x)
pub data Part : Type 0 where
  printed : ℕ → ℕ → Part
  zeros : ℕ → Part
  field : ℕ → Part
  unused : ℕ → Part

-- a row of parts
abbrev pub Layout : Type 0
Layout = List Part

-- how many bits a part has
abbrev pub width : Part → ℕ
width (printed w v) = w
width (zeros w) = w
width (field w) = w
width (unused w) = w

-- how many bits a row has. A field is a place and a width: its place is the number of bits that stand after it
abbrev pub size : Layout → ℕ
size [] = 0
size (part ∷ row) = width part + size row

-- a number with its lowest bits, up to a place, left out
abbrev pub above : ℕ → ℕ → ℕ
above zero n = n
above (suc place) n = n / 2 ^ suc place

-- the bits that stand at a place, so many of them
abbrev pub bits_at : ℕ → ℕ → ℕ → ℕ
bits_at place wide n = above place n % 2 ^ wide

-- a number moved up to a place; a packet has 32 bits (S8.3.5)
abbrev pub moved : ℕ → ℕ → ℕ
moved zero n = n
moved (suc place) n = n * 2 ^ suc place % 2 ^ 32

-- the numbers in the fields, in the table's order
abbrev pub fields_of : Layout → ℕ → List ℕ
fields_of [] n = []
fields_of (printed w v ∷ row) n = fields_of row n
fields_of (zeros w ∷ row) n = fields_of row n
fields_of (field w ∷ row) n = bits_at (size row) w n ∷ fields_of row n
fields_of (unused w ∷ row) n = fields_of row n

-- w bits set, at a place
abbrev pub ones_at : ℕ → ℕ → ℕ
ones_at place w = (2 ^ w - 1) * 2 ^ place

-- the bits of the chosen parts of a row, all set
abbrev pub mask_of : (Part → Bool) → Layout → ℕ
mask_of chosen [] = 0
mask_of chosen (part ∷ row) = pick (chosen part) (ones_at (size row) (width part)) 0 + mask_of chosen row

-- whether the table prints the part's bits
abbrev pub is_printed : Part → Bool
is_printed (printed w v) = true
is_printed (zeros w) = true
is_printed (field w) = false
is_printed (unused w) = false

-- whether the part is looked at
abbrev pub is_read : Part → Bool
is_read (printed w v) = true
is_read (zeros w) = true
is_read (field w) = true
is_read (unused w) = false

-- the bits that the table prints, each at its place
abbrev pub printed_bits : Layout → ℕ
printed_bits [] = 0
printed_bits (printed w v ∷ row) = v * 2 ^ size row + printed_bits row
printed_bits (zeros w ∷ row) = printed_bits row
printed_bits (field w ∷ row) = printed_bits row
printed_bits (unused w ∷ row) = printed_bits row

-- whether a packet has the bits that the table prints: its ID, and every 0
abbrev pub shows : Layout → ℕ → Bool
shows row n = eqb (bit_and n (mask_of is_printed row)) (printed_bits row)

-- whether there is a number for each field and none is too large, where what was asked so far is carried along
abbrev pub fit_after : Bool → Layout → List ℕ → Bool
fit_after so [] [] = so
fit_after so [] (v ∷ values) = false
fit_after so (printed w p ∷ row) values = fit_after so row values
fit_after so (zeros w ∷ row) values = fit_after so row values
fit_after so (field w ∷ row) [] = false
fit_after so (field w ∷ row) (v ∷ values) = fit_after (so && ltb v (2 ^ w)) row values
fit_after so (unused w ∷ row) values = fit_after so row values

-- whether there is a number for each field and none is too large
abbrev pub fit : Layout → List ℕ → Bool
fit row values = fit_after true row values

-- the packet with these numbers in its fields, where the parts so far are carried along
abbrev pub packed_after : ℕ → Layout → List ℕ → ℕ
packed_after so [] values = so
packed_after so (printed w p ∷ row) values = packed_after (bit_or so (moved (size row) p)) row values
packed_after so (zeros w ∷ row) values = packed_after so row values
packed_after so (field w ∷ row) [] = packed_after so row []
packed_after so (field w ∷ row) (v ∷ values) = packed_after (bit_or so (moved (size row) v)) row values
packed_after so (unused w ∷ row) values = packed_after so row values

-- the packet with these numbers in its fields, and 0 for bits that are not looked at
abbrev pub packed : Layout → List ℕ → ℕ
packed row values = packed_after 0 row values
