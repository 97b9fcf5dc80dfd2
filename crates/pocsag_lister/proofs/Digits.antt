-- What a hexadecimal digit is, by its byte.
use Prim.Native.Nat.{ℕ, ◌≤◌, ◌<◌}
use mathlib.Core.Bool.{true, ◌&&◌, ◌||◌}
use mathlib.Core.Path.{◌≡◌}
use mathlib.Core.Logic.{◌⊎◌, inl, inr, ⊎_elim}
use native.Mathlib.Omega.{arith}
use lib.Dec.{leb}
use borrow.Author.Tests.{leb-true, le-leb, lt-leb}
use Rattle.laws.proofs.Tests.{first_of, second_of, either_of}
use Rattle.pocsag_lister.specs.Tokens.{is_hex, hex_value}

-- a number between two bounds
between : (low high n : ℕ) → (leb low n && leb n high) ≡ true → (low ≤ n) × (n ≤ high)
between low high n e =
    (leb-true low n (first_of (leb low n) (leb n high) e), leb-true n high (second_of (leb low n) (leb n high) e))

-- which of the three rows of digits a byte stands in
pub hex_rows : (byte : ℕ) → is_hex byte ≡ true → ((48 ≤ byte) × (byte ≤ 57)) ⊎ (((65 ≤ byte) × (byte ≤ 70)) ⊎ ((97 ≤ byte) × (byte ≤ 102)))
hex_rows byte e =
    ⊎_elim
    (λ some.
    ⊎_elim (λ low. inl (between 48 57 byte low)) (λ high. inr (inl (between 65 70 byte high)))
    (either_of (leb 48 byte && leb byte 57) (leb 65 byte && leb byte 70) some))
    (λ last. inr (inr (between 97 102 byte last)))
    (either_of (leb 48 byte && leb byte 57 || leb 65 byte && leb byte 70) (leb 97 byte && leb byte 102) e)

module _ (byte : ℕ) (e : is_hex byte ≡ true) where
  -- one up to 9 is a decimal digit
  pub hex_low : byte ≤ 57 → 48 ≤ byte
  hex_low h = ⊎_elim (λ w. w.0) (λ more. ⊎_elim (λ w. omega arith) (λ w. omega arith) more) (hex_rows byte e)

  -- one after 9 and up to F is a capital
  pub hex_middle : 57 < byte → 65 ≤ byte
  hex_middle h = ⊎_elim (λ w. omega arith) (λ more. ⊎_elim (λ w. w.0) (λ w. omega arith) more) (hex_rows byte e)

  -- one after F is a small letter
  pub hex_high : 70 < byte → 97 ≤ byte
  hex_high h = ⊎_elim (λ w. omega arith) (λ more. ⊎_elim (λ w. omega arith) (λ w. w.0) more) (hex_rows byte e)

  -- none is after f
  pub hex_last : byte ≤ 102
  hex_last = ⊎_elim (λ w. omega arith) (λ more. ⊎_elim (λ w. omega arith) (λ w. w.1) more) (hex_rows byte e)

  -- its number is below sixteen
  pub hex_small : hex_value byte < 16
  hex_small =
      ⊎_elim
      (λ w. rw (le-leb byte 57 w.1) (omega arith))
      (λ more.
      ⊎_elim
      (λ w. rw (lt-leb byte 57 (omega arith), le-leb byte 70 w.1) (omega arith))
      (λ w. rw (lt-leb byte 57 (omega arith), lt-leb byte 70 (omega arith)) (omega arith))
      more)
      (hex_rows byte e)
