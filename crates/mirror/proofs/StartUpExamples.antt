-- Worked start-ups, as docs/checksum.md has them: what the laws of the checksum say of them, and for each premise a case in which
-- it alone fails, and the law with it. A packet 80H assigns an address, 78H enables addresses, 02H turns the decoder on.
use Prim.Native.Nat.{ℕ}
use mathlib.Core.Bool.{Bool, true, false}
use mathlib.Core.List.{List, [], ◌∷◌, ◌++◌, map}
use mathlib.Core.Path.{◌≡◌, refl}
use native.Mathlib.Omega.{arith}
use Rattle.laws.specs.Lists.{all, sum_by}
use Rattle.packet.specs.Fields.{built_of}
use Rattle.mirror.specs.declared.Mirror.{Mirror}
use Rattle.mirror.specs.Handshake.{talks, step_of, run_of, sum_of}
use Rattle.mirror.specs.StartUp.{Reordered, effect_of, is_summed, no_checksum, all_sendable, from_reset, checksum_for, starts, repeated}

-- the part ID of the PCD5008
abbrev part_id : ℕ
part_id = 0xFF000106

-- an address, its location enabled, the decoder turned on
abbrev sent : List ℕ
sent = 0x800084D2 ∷ 0x78000001 ∷ 0x02000001 ∷ []

-- the register after each of some lists
abbrev registers : List (List ℕ) → List ℕ
registers lists = map {A = List ℕ} {B = ℕ} (λ ns. (from_reset part_id ns).register) lists

-- whether the closing checksum for a list starts the decoder, after each of some lists that reached it
abbrev started_after : List ℕ → List (List ℕ) → List Bool
started_after host lists = map {A = List ℕ} {B = Bool} (starts part_id host) lists

-- ---- the register

-- two packets in the other order are the same packets
pub same_packets : Reordered (0x78000001 ∷ 0x02000001 ∷ []) (0x02000001 ∷ 0x78000001 ∷ [])
unfolding sum_by
same_packets n = omega arith

-- `reordered_register`: as sent, from the last to the first, and with one bit changed, which are other packets
pub orders : registers (sent ∷ (0x02000001 ∷ 0x78000001 ∷ 0x800084D2 ∷ []) ∷ (0x800084D2 ∷ 0x78000003 ∷ 0x02000001 ∷ []) ∷ [])
    ≡ 0x0085D4 ∷ 0x0085D4 ∷ 0x0085D6 ∷ []
unfolding run_of
orders = refl

-- with a checksum in the list the register does not go by the order either, but whether the decoder talks does
pub checksum_order : map {A = List ℕ} {B = Mirror} (from_reset part_id) ((0x78000001 ∷ 0x00000107 ∷ []) ∷ (0x00000107 ∷ 0x78000001 ∷ []) ∷ [])
    ≡ record { register = 0x000107; talking = 1 } ∷ record { register = 0x000107; talking = 0 } ∷ []
unfolding run_of
checksum_order = refl

-- `packet_twice`: an address once, twice with the control packet between, not at all, and two addresses that differ
pub twice : registers
    ((0x800084D2 ∷ 0x02000001 ∷ []) ∷ (0x800084D2 ∷ 0x02000001 ∷ 0x800084D2 ∷ []) ∷ (0x02000001 ∷ []) ∷ (0x800084D2 ∷ 0x02000001 ∷ 0x810084D3 ∷ []) ∷ [])
    ≡ 0x0085D5 ∷ 0x000107 ∷ 0x000107 ∷ 0x000106 ∷ []
unfolding run_of
twice = refl

-- `effects_joined`: the effects of an address, of what else is sent, and of both
pub effects : map {A = List ℕ} {B = ℕ} (effect_of (from_reset part_id []))
    ((0x800084D2 ∷ []) ∷ (0x78000001 ∷ 0x02000003 ∷ []) ∷ (0x800084D2 ∷ 0x78000001 ∷ 0x02000003 ∷ []) ∷ [])
    ≡ 0x0084D2 ∷ 0x000002 ∷ 0x0084D0 ∷ []
unfolding run_of
effects = refl

-- ---- one packet changed, or missing

-- the premises of `one_changed` and `one_missing` hold of the list, and 000085D4 is its closing checksum
pub sent_well : (all_sendable sent ≡ true) × (no_checksum sent ≡ true) × (checksum_for part_id sent ≡ 0x000085D4)
unfolding all run_of built_of
sent_well = (refl, refl, refl)

-- `one_changed`: as sent; a bit of the first packet changed, of the second, of the third; all 24 bits of the third
pub changed : started_after sent
    (sent ∷ (0x800084D3 ∷ 0x78000001 ∷ 0x02000001 ∷ []) ∷ (0x800084D2 ∷ 0x78008001 ∷ 0x02000001 ∷ [])
    ∷ (0x800084D2 ∷ 0x78000001 ∷ 0x02000000 ∷ []) ∷ (0x800084D2 ∷ 0x78000001 ∷ 0x02FFFFFE ∷ []) ∷ [])
    ≡ true ∷ false ∷ false ∷ false ∷ false ∷ []
unfolding run_of built_of
changed = refl

-- `one_missing`: without the first packet, the second, the third
pub missing : started_after sent ((0x78000001 ∷ 0x02000001 ∷ []) ∷ (0x800084D2 ∷ 0x02000001 ∷ []) ∷ (0x800084D2 ∷ 0x78000001 ∷ []) ∷ [])
    ≡ false ∷ false ∷ false ∷ []
unfolding run_of built_of
missing = refl

-- "exactly one": two packets changed in the same bit, and two missing that have the same data bits
pub not_one : started_after sent ((0x800084D0 ∷ 0x78000003 ∷ 0x02000001 ∷ []) ∷ (0x800084D2 ∷ []) ∷ []) ≡ true ∷ true ∷ []
unfolding run_of built_of
not_one = refl

-- "packets that it may send": one of 1CH to 1FH, which it may not, is changed and is missing
pub not_sendable : (all_sendable (0x1C000005 ∷ []) ≡ false) × (started_after (0x1C000005 ∷ []) ((0x1C000006 ∷ []) ∷ [] ∷ []) ≡ true ∷ true ∷ [])
unfolding all run_of built_of
not_sendable = (refl, refl)

-- "lists that hold no checksum packet": one that the host sent among the others is changed and is missing
pub not_without_checksum : (no_checksum (0x00000005 ∷ 0x78000001 ∷ []) ≡ false)
    × (started_after (0x00000005 ∷ 0x78000001 ∷ []) ((0x00000006 ∷ 0x78000001 ∷ []) ∷ (0x78000001 ∷ []) ∷ []) ≡ true ∷ true ∷ [])
unfolding all run_of built_of
not_without_checksum = (refl, refl)

-- "in the data bits": a setting with data bits 0 arrives with another ID as well, one of 1CH to 1FH
pub not_same_id : starts part_id (0x10000000 ∷ []) (0x1C000001 ∷ []) ≡ true
unfolding run_of built_of
not_same_id = refl

-- "whose data bits aren't all 0": a packet that enables no address is missing
pub not_bits : started_after (0x78000000 ∷ 0x800084D2 ∷ []) ((0x800084D2 ∷ []) ∷ []) ≡ true ∷ []
unfolding run_of built_of
not_bits = refl

-- "arriving whole": the enable packet is missing, and the closing checksum 000085D4 arrives as 000085D5
pub not_whole : talks (step_of (from_reset part_id (0x800084D2 ∷ 0x02000001 ∷ [])) 0x000085D5) ≡ true
unfolding run_of
not_whole = refl

-- "from one reset": the enable packet is missing, and the decoder's part ID is not the one that the host read
pub not_one_reset : talks (step_of (from_reset 0xFF000107 (0x800084D2 ∷ 0x02000001 ∷ [])) (checksum_for part_id sent)) ≡ true
unfolding run_of built_of
not_one_reset = refl

-- `starts_exactly` where a checksum reached the decoder: the ID of an address packet arrives as 00H, and its data bits are the
-- register. The sums differ, and the decoder talks, before the closing checksum as after it
pub not_without : (sum_of (0x80000106 ∷ []) ≡ 0x000106) × (sum_of (0x00000106 ∷ []) ≡ 0) × (starts part_id (0x80000106 ∷ []) (0x00000106 ∷ []) ≡ true)
unfolding sum_of run_of built_of
not_without = (refl, refl, refl)

-- `stays_silent` at a decoder that talks, and at a checksum that holds the register
pub not_silent_before : map {A = Mirror} {B = Bool} talks
    (run_of (record { register = 0x000106; talking = 1 }) [] ∷ from_reset part_id (0x00000106 ∷ []) ∷ from_reset part_id (0x02000001 ∷ []) ∷ [])
    ≡ true ∷ true ∷ false ∷ []
unfolding run_of
not_silent_before = refl

-- ---- what is not noticed

-- `changed_id`: the address of location 0 arrives as that of location 1; its premises hold
pub other_location : (is_summed 0x800084D2 ≡ true) × (is_summed 0x810084D2 ≡ true) × (starts part_id sent (0x810084D2 ∷ 0x78000001 ∷ 0x02000001 ∷ []) ≡ true)
unfolding run_of built_of
other_location = (refl, refl, refl)

-- `changed_id` at 1CH in the host's list, at 1CH and at 00H in what reached the decoder, and at data bits that differ
pub not_summed : starts part_id (0x1C0084D2 ∷ []) (0x800084D2 ∷ [])
    ∷ started_after sent ((0x1C0084D2 ∷ 0x78000001 ∷ 0x02000001 ∷ []) ∷ (0x000084D2 ∷ 0x78000001 ∷ 0x02000001 ∷ [])
    ∷ (0x810084D3 ∷ 0x78000001 ∷ 0x02000001 ∷ []) ∷ [])
    ≡ false ∷ false ∷ false ∷ false ∷ []
unfolding run_of built_of
not_summed = refl

-- `twice_lost`: the enable packet is sent twice and never arrives; one of both arrives
pub lost : started_after (0x800084D2 ∷ 0x78000001 ∷ 0x78000001 ∷ 0x02000001 ∷ [])
    ((0x800084D2 ∷ 0x02000001 ∷ []) ∷ (0x800084D2 ∷ 0x78000001 ∷ 0x02000001 ∷ []) ∷ [])
    ≡ true ∷ false ∷ []
unfolding run_of built_of
lost = refl

-- ---- one block sent again

-- the address and the packet that enables it
abbrev block : List ℕ
block = 0x800084D2 ∷ 0x78000001 ∷ []

-- the other packets of a start-up: configuration, and control
abbrev others : List ℕ
others = 0x01010090 ∷ 0x02000001 ∷ []

-- a start-up with the block so many times
abbrev with_block : ℕ → List ℕ
with_block k = 0x01010090 ∷ (repeated k block ++ 0x02000001 ∷ [])

-- a start-up with the block at the beginning, in the middle and at the end
abbrev apart : List ℕ
apart = block ++ (0x01010090 ∷ (block ++ (0x02000001 ∷ block)))

-- `block_twice`, `block_thrice`: the closing checksum for the block not sent, once, twice and three times, as in docs/start-up.md; and three times, apart
pub closings : map {A = List ℕ} {B = ℕ} (checksum_for part_id) (with_block 0 ∷ with_block 1 ∷ with_block 2 ∷ with_block 3 ∷ apart ∷ [])
    ≡ 0x00010197 ∷ 0x00018544 ∷ 0x00010197 ∷ 0x00018544 ∷ 0x00018544 ∷ []
unfolding repeated run_of built_of
closings = refl

-- the premises of `repeated_exactly` hold: the block three times, apart, and once
pub three_and_once : Reordered apart (repeated 3 block ++ others) × Reordered (with_block 1) (repeated 1 block ++ others) × (no_checksum (with_block 1) ≡ true)
unfolding repeated sum_by all
three_and_once = (λ n. omega arith, λ n. omega arith, refl)

-- `repeated_exactly`: sent twice, it never arrived, arrived once, twice; sent three times, apart, it never arrived, arrived once, twice, three times
pub arrivals : started_after (with_block 2) (with_block 0 ∷ with_block 1 ∷ with_block 2 ∷ [])
    ++ started_after apart (with_block 0 ∷ with_block 1 ∷ with_block 2 ∷ with_block 3 ∷ [])
    ≡ true ∷ false ∷ true ∷ false ∷ true ∷ false ∷ true ∷ []
unfolding repeated run_of built_of
arrivals = refl

-- `repeated_exactly` at a block that puts nothing into the sum: two frame assignments that never arrive
pub nothing_summed : starts part_id (0x20002000 ∷ 0x21002000 ∷ 0x02000001 ∷ []) (0x02000001 ∷ []) ≡ true
unfolding run_of built_of
nothing_summed = refl

-- `repeated_exactly` where other packets are not the same: the block is sent once and arrives once, and the control packet is changed
pub not_others : starts part_id (with_block 1) (0x01010090 ∷ block ++ (0x02000003 ∷ [])) ≡ false
unfolding repeated run_of built_of
not_others = refl

-- `repeated_exactly` at a list with a checksum: it holds the register, and the block that never arrives leaves the decoder talking
pub not_repeated : starts part_id (0x00000106 ∷ block) (0x00000106 ∷ []) ≡ true
unfolding run_of built_of
not_repeated = refl

-- `sent_again`: the block never arrives and the checksum leaves the decoder silent; the block and the same checksum again
-- make it talk, and with a setting for the first checksum they do not
pub again : started_after (block ++ 0x02000001 ∷ [])
    ((0x02000001 ∷ []) ∷ (0x02000001 ∷ checksum_for part_id (block ++ 0x02000001 ∷ []) ∷ block) ∷ (0x02000001 ∷ 0x10000005 ∷ block) ∷ [])
    ≡ false ∷ true ∷ false ∷ []
unfolding run_of built_of
again = refl
