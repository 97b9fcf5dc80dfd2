-- A start-up as two lists: what the host sent after a reset, and what reached the decoder (document 02, item 10).
use Rattle.std.specs.Prelude.{ℕ, zero, suc, Bool, false, not, ◌||◌, List, [], ◌++◌, ◌≡◌, eqb}
use Rattle.std.specs.Int.Bits.{bit_xor}
use Rattle.laws.specs.Choice.{bit_of}
use Rattle.laws.specs.Lists.{all, sum_by}
use Rattle.packet.specs.Rule.{may_send}
use Rattle.mirror.specs.declared.Mirror.{Mirror}
use Rattle.mirror.specs.Handshake.{is_checksum, is_special, talks, step_of, run_of, reset_by, closing_of}

-- how often a packet stands in a list
abbrev pub times : ℕ → List ℕ → ℕ
times n ns = sum_by (λ k. bit_of (eqb n k)) ns

-- "any reordering of the same packets": each packet stands in both lists equally often
abbrev pub Reordered : List ℕ → List ℕ → Type 0
Reordered ns ks = (n : ℕ) → times n ns ≡ times n ks

-- "their separate effects": the bits of the register that differ after a list
abbrev pub effect_of : Mirror → List ℕ → ℕ
effect_of m ns = bit_xor m.register (run_of m ns).register

-- "both IDs are summed ones": a packet whose data bits go into the register, so no checksum and none of 1CH to 1FH
abbrev pub is_summed : ℕ → Bool
is_summed n = not (is_checksum n || is_special n)

-- "lists that hold no checksum packet"
abbrev pub no_checksum : List ℕ → Bool
no_checksum ns = all (λ n. not (is_checksum n)) ns

-- "the host's list of packets that it may send", by the send rule
abbrev pub all_sendable : List ℕ → Bool
all_sendable ns = all may_send ns

-- "from one reset": the mirror after a list of packets
abbrev pub from_reset : ℕ → List ℕ → Mirror
from_reset part_id ns = run_of (reset_by part_id).mirror ns

-- "the host's closing checksum": the packet that `closing` answers after the list that the host sent
abbrev pub checksum_for : ℕ → List ℕ → ℕ
checksum_for part_id sent = (closing_of (from_reset part_id sent)).packet.bits

-- whether the decoder talks after what reached it and that checksum, "arriving whole"
abbrev pub starts : ℕ → List ℕ → List ℕ → Bool
starts part_id sent reached = talks (step_of (from_reset part_id reached) (checksum_for part_id sent))

-- "to resend one block": the block so many times, one after the other
unfoldable pub repeated : ℕ → List ℕ → List ℕ
repeated zero block = []
repeated (suc k) block = block ++ repeated k block

-- whether a number is odd
unfoldable pub odd : ℕ → Bool
odd zero = false
odd (suc k) = not (odd k)
