-- Worked examples: 01's marked case 9, a start-up that ends talking, and for each premise of a law a case in which it alone fails, and the law with it.
use Prim.Native.Nat.{ℕ}
use mathlib.Core.Bool.{Bool, true, false}
use mathlib.Core.List.{List, [], ◌∷◌, map}
use mathlib.Core.Path.{◌≡◌, refl}
use Rattle.packet.specs.Fields.{built_of}
use Rattle.mirror.specs.declared.Mirror.{Mirror}
use Rattle.mirror.specs.Handshake.{talks, step_of, run_of, sound, reset_by, closing_of}

-- a part ID is taken; the same bits under another ID are refused, by 7
pub resets : map {A = ℕ} {B = ℕ} (λ p. (reset_by p).number) (0xFF000106 ∷ 0x7F000106 ∷ []) ≡ 0 ∷ 7 ∷ []
resets = refl

-- marked case 9
pub case_9 : run_of (reset_by 0xFF000106).mirror (0x01000010 ∷ 0x03400000 ∷ []) ≡ record { register = 0x400116; talking = 0 }
unfolding run_of
case_9 = refl

-- whether the decoder talks after each packet of a list
abbrev course : Mirror → List ℕ → List Bool
course m [] = []
course m (n ∷ ns) = talks (step_of m n) ∷ course (step_of m n) ns

-- a start-up: the packets of case 9, a wrong checksum, and the right one
pub start_up : course (reset_by 0xFF000106).mirror (0x01000010 ∷ 0x03400000 ∷ 0x00400117 ∷ 0x00400116 ∷ []) ≡ false ∷ false ∷ false ∷ true ∷ []
start_up = refl

-- the decoder after case 9, and the same once it talks
abbrev silent : Mirror
silent = record { register = 0x400116; talking = 0 }

abbrev talking : Mirror
talking = record { register = 0x400116; talking = 1 }

-- a register of 25 bits
abbrev over : Mirror
over = record { register = 0x1000000; talking = 0 }

-- `closing_talks` at a register over 24 bits: refused by 2, and what comes with the refusal does not make the decoder talk
pub not_sound : (sound over ≡ false) × ((closing_of over).number ≡ 2) × (talks (step_of over (closing_of over).packet.bits) ≡ false)
unfolding built_of
not_sound = (refl, refl, refl)

-- `other_silent` at a decoder that talks already: it goes on under a wrong checksum
pub not_silent : talks (step_of talking 0x00400117) ≡ true
not_silent = refl

-- `other_silent` at a checksum that holds the register: the decoder talks
pub not_wrong : talks (step_of silent 0x00400116) ≡ true
not_wrong = refl

-- `talking_kept` at a packet that is no checksum: it is summed, and silences the decoder
pub not_checksum : step_of talking 0x02000001 ≡ record { register = 0x400117; talking = 0 }
not_checksum = refl

-- `talking_kept` at a decoder that is silent: the checksum that holds the register wakes it
pub not_talking : step_of silent 0x00400116 ≡ talking
not_talking = refl

-- `same_data` beside 10H with data bits 000010: 01H does the same; 1CH and a checksum with these bits do not, nor does 10H with others
pub not_same : map {A = ℕ} {B = Mirror} (step_of silent) (0x10000010 ∷ 0x01000010 ∷ 0x1C000010 ∷ 0x00000010 ∷ 0x10000011 ∷ [])
    ≡ record { register = 0x400106; talking = 0 } ∷ record { register = 0x400106; talking = 0 } ∷ silent ∷ silent
    ∷ record { register = 0x400107; talking = 0 } ∷ []
not_same = refl
