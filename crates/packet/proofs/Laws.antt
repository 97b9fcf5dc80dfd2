-- What is built by a table is read by it, and what is read is built again: one law, which each packet cites. Beside it what IDs say of a packet's bits.
use Prim.Native.Nat.{ℕ, zero, suc, ◌-◌, ◌^◌, ◌≤◌, ◌<◌}
use mathlib.Core.Bool.{true, false}
use mathlib.Core.List.{List, [], ◌∷◌}
use mathlib.Core.Path.{◌≡◌, refl, ap₂}
use native.Mathlib.Nat.{zero-div, zero-mod}
use native.Mathlib.Omega.{arith}
use borrow.Author.Tests.{leb-true}
use lib.Dec.{T, leb}
use lib.ListN.{length, replicate}
use Rattle.laws.specs.Layouts.{Layout, printed, zeros, field, unused, size, bits_at, fields_of, mask_of, is_read, shows, fit, packed}
use Rattle.laws.proofs.Layouts.{laid, fit_read, packed_read_whole, read_packed, shows_packed}
use Rattle.laws.proofs.Tests.{second_of}
use Rattle.packet.specs.Names.{id_of, among, last_word_id}
use Rattle.packet.specs.Fields.{built_of, built_by, number_by, fields_by}

-- fields that fit are built
pub fitting_built : (row : Layout) (values : List ℕ) → fit row values ≡ true
    → built_by row values ≡ record { number = 0; packet = record { bits = packed row values } }
unfolding built_of
fitting_built row values e = rw e

-- 01's table, 7: "a field too large"
pub refused_built : (row : Layout) (values : List ℕ) → fit row values ≡ false → built_by row values ≡ record { number = 7; packet = record { bits = 0 } }
unfolding built_of
refused_built row values e = rw e

-- 01's table, 7: "not of that kind" or "a 0 bit set"
pub refused_read : (row : Layout) (n : ℕ) → shows row n ≡ false → number_by row n ≡ 7
refused_read row n e = rw e

-- whatever is told of number and fields, a packet that was built is told as 0 and its own fields
pub read_built : {Answer : Type 0} (tell : ℕ → List ℕ → Answer) (row : Layout) (values : List ℕ) → T (laid row)
    → fit row values ≡ true
    → tell (number_by row (built_by row values).packet.bits) (fields_by row (built_by row values).packet.bits) ≡ tell 0 values
read_built tell row values t e = rw (fitting_built row values e, shows_packed row values t e, read_packed row values t e)

-- the fields that were read are built into the same packet
pub built_read : (row : Layout) (n : ℕ) → T (laid row) → n < 2 ^ size row → shows row n ≡ true
    → mask_of is_read row ≡ 2 ^ size row - 1
    → built_by row (fields_by row n) ≡ record { number = 0; packet = record { bits = n } }
built_read row n t h e whole =
    rw (e, fitting_built row (fields_of row n) (fit_read row n), packed_read_whole row n t h e whole)

-- no bit of 0 is set
no_bits : (place wide : ℕ) → bits_at place wide 0 ≡ 0
no_bits zero wide = zero-mod (2 ^ wide)
no_bits (suc place) wide = rw (zero-div (2 ^ suc place)) (zero-mod (2 ^ wide))

-- every field of 0 is 0
no_fields : (row : Layout) → fields_of row 0 ≡ replicate (length (fields_of row 0)) 0
no_fields [] = refl
no_fields (printed w v ∷ row) = no_fields row
no_fields (zeros w ∷ row) = no_fields row
no_fields (field w ∷ row) = ap₂ ◌∷◌ (no_bits (size row) w) (no_fields row)
no_fields (unused w ∷ row) = no_fields row

-- after a refusal every field that is told is 0
pub refused_fields : (row : Layout) (n : ℕ) → shows row n ≡ false → fields_by row n ≡ replicate (length (fields_by row n)) 0
refused_fields row n e = rw e (no_fields row)

-- an ID of at most 57H has a 0 in front of the word number, as the tables of vectors and messages print it
pub top_clear : (n : ℕ) → id_of n ≤ last_word_id → bits_at 31 1 n ≡ 0
top_clear n h = omega arith

-- the last of a row of IDs
pub at_most : (first last id : ℕ) → among first last id ≡ true → id ≤ last
at_most first last id e = leb-true id last (second_of (leb first id) (leb id last) e)
