-- Worked examples: what the host may send.
use Prim.Native.Nat.{ℕ}
use mathlib.Core.Path.{◌≡◌, refl}
use mathlib.Core.List.{List, [], ◌∷◌, map}
use Rattle.packet.specs.Rule.{send_of}

-- packets, each with 0 where the host may send it and 7 where it refuses
unfoldable pub sends : List (ℕ × ℕ)
sends =
    (0x00FFFFFF, 0)
    ∷ (0x01000010, 0)
    ∷ (0x02006001, 0)
    -- bit 15 set
    ∷ (0x0200E001, 7)
    ∷ (0x03400000, 0)
    ∷ (0x03010000, 7)
    ∷ (0x04000000, 7)
    ∷ (0x0E000000, 7)
    ∷ (0x0F008101, 0)
    ∷ (0x0F010000, 7)
    -- the settings go with any data bits
    ∷ (0x10FFFFFF, 0)
    ∷ (0x19FFFFFF, 0)
    ∷ (0x1A88013F, 0)
    -- bit 6 set
    ∷ (0x1A880140, 7)
    ∷ (0x1BFFFFFF, 7)
    ∷ (0x1C000000, 7)
    ∷ (0x1F000000, 7)
    ∷ (0x20000001, 0)
    ∷ (0x27008000, 0)
    ∷ (0x27010000, 7)
    ∷ (0x28000000, 7)
    ∷ (0x77000000, 7)
    ∷ (0x78008001, 0)
    ∷ (0x78010000, 7)
    ∷ (0x79000000, 7)
    ∷ (0x7F000000, 7)
    ∷ (0x80400001, 0)
    -- bit 23 set
    ∷ (0x80C00001, 7)
    ∷ (0x8F208001, 0)
    ∷ (0x90000000, 7)
    ∷ (0xFF000000, 7)
    ∷ []

-- the send rule gives these answers
pub send_examples : map {A = ℕ × ℕ} {B = ℕ} (λ row. send_of row.0) sends ≡ map {A = ℕ × ℕ} {B = ℕ} (λ row. row.1) sends
unfolding sends
send_examples = refl
