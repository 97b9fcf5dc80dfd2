-- What the checksum can be relied on for (document 02, item 10), and what it cannot. 02 speaks of lists that hold no checksum
-- packet. The laws of the register hold of the others too, and so do those of what is not noticed: only where the decoder is
-- said to stay silent is it asked that no checksum has reached it before.
use Prim.Native.Nat.{ℕ, zero, suc, ◌≤◌}
use mathlib.Core.Bool.{Bool, true, false, not, ◌&&◌, ◌||◌, beq, or-true, true≢false}
use mathlib.Core.List.{List, [], ◌∷◌, ◌++◌}
use mathlib.Core.Logic.{⊎_elim}
use mathlib.Core.Path.{◌≡◌, refl, sym, ap, ap₂, ◌∙◌}
use native.Mathlib.Omega.{arith}
use borrow.Author.Tests.{eqb-true, eq-eqb, ne_eqb, not-true}
use lib.Bits.{bit_xor}
use lib.Dec.{eqb}
use Rattle.laws.specs.Choice.{pick, bit_of}
use Rattle.laws.specs.Lists.{all, sum_by}
use Rattle.laws.proofs.Rows.{all_append, all_parts, sum_join}
use Rattle.laws.proofs.Tests.{first_of, second_of, decided, eqb_swap}
use Rattle.laws.proofs.Xor.{xor_comm, xor_self, xor_zero_r, xor_back, xor_swap, xor_across, xor_apart}
use Rattle.packet.specs.Names.{id_of, data_of, among, first_special_id, last_special_id}
use Rattle.packet.specs.Rule.{never_sent, zeros_right, may_send}
use Rattle.mirror.specs.declared.Mirror.{Mirror}
use Rattle.mirror.specs.Handshake.{is_checksum, is_special, talks, step_of, run_of, sum_of, reset_by, closing_of}
use Rattle.mirror.specs.StartUp.{times, Reordered, effect_of, is_summed, no_checksum, all_sendable, from_reset, starts, repeated, odd}
use Rattle.mirror.proofs.Laws.{left_out, register_after, sum_joined, other_silences, closing_starts, stays_sound, reset_sound}

-- ---- the register

-- what a packet puts into the sum: its data bits, or 0 where it is left out
abbrev pub share_of : ℕ → ℕ
share_of n = pick (left_out n) 0 (data_of n)

-- to put a packet's bits into a sum, unless it is left out, is to put its share into it
share_by : (out : Bool) (bits sum : ℕ) → pick out sum (bit_xor bits sum) ≡ bit_xor (pick out 0 bits) sum
share_by true bits sum = refl
share_by false bits sum = refl

-- the sum of a list that begins with a packet
sum_of_packet : (n : ℕ) (ns : List ℕ) → sum_of (n ∷ ns) ≡ bit_xor (share_of n) (sum_of ns)
unfolding sum_of
sum_of_packet n ns = share_by (left_out n) (data_of n) (sum_of ns)

-- the sum of a list with a packet in it
sum_around : (before : List ℕ) (n : ℕ) (after : List ℕ) → sum_of (before ++ n ∷ after) ≡ bit_xor (sum_of before) (bit_xor (share_of n) (sum_of after))
sum_around before n after = sum_joined before (n ∷ after) ∙ ap (bit_xor (sum_of before)) (sum_of_packet n after)

-- with the same packets before them, lists with the same sum still have the same sum
same_after : (before ns ks : List ℕ) → sum_of ns ≡ sum_of ks → sum_of (before ++ ns) ≡ sum_of (before ++ ks)
same_after before ns ks same = sum_joined before ns ∙ ap (bit_xor (sum_of before)) same ∙ sym (sum_joined before ks)

-- lists with the same sum leave the same register
pub same_register : (m : Mirror) (ns ks : List ℕ) → sum_of ns ≡ sum_of ks → (run_of m ns).register ≡ (run_of m ks).register
same_register m ns ks same = register_after m ns ∙ ap (bit_xor m.register) same ∙ sym (register_after m ks)

-- a packet of a list, with what stands before and after it
record Standing (n : ℕ) (ns : List ℕ) : Type 0 where
  before : List ℕ
  after : List ℕ
  parts : ns ≡ before ++ n ∷ after

-- with one packet more before the list, a packet of it stands one place further on
one_further : (n k : ℕ) (ks : List ℕ) → Standing n ks → Standing n (k ∷ ks)
one_further n k ks later =
    record { before = k ∷ later.before; after = later.after; parts = ap (λ (l : List ℕ). k ∷ l) later.parts }

-- a packet is the first of a list, or stands among the others
first_or_later : (n k : ℕ) (ks : List ℕ) (first : Bool) → eqb n k ≡ first → (first ≡ false → Standing n ks) → Standing n (k ∷ ks)
first_or_later n k ks true same later = record { before = []; after = ks; parts = ap (λ (x : ℕ). x ∷ ks) (sym (eqb-true n k same)) }
first_or_later n k ks false other later = one_further n k ks (later refl)

-- a packet that stands in a list at least once stands somewhere in it
standing : (n : ℕ) (ns : List ℕ) → 1 ≤ times n ns → Standing n ns
unfolding sum_by
standing n [] some = absurd (omega arith)
standing n (k ∷ ks) some = first_or_later n k ks (eqb n k) refl (λ other. standing n ks (omega (arith, rw other at some)))

-- a list in which no packet stands is empty
none_standing : (ks : List ℕ) → Reordered [] ks → [] ≡ ks
unfolding sum_by
none_standing [] same = refl
none_standing (k ∷ ks) same = absurd (omega (arith, rw (eq-eqb k k refl) at (same k)))

-- lists of the same packets have the same sum, in whatever order they stand
sum_reordered : (ns ks : List ℕ) → Reordered ns ks → sum_of ns ≡ sum_of ks
unfolding sum_by
sum_reordered [] ks same = ap sum_of (none_standing ks same)
sum_reordered (n ∷ ns) ks same =
    sum_of_packet n ns
    ∙ ap (bit_xor (share_of n)) (sum_reordered ns (at.before ++ at.after) others ∙ sum_joined at.before at.after)
    ∙ xor_swap (share_of n) (sum_of at.before) (sum_of at.after)
    ∙ sym (sum_around at.before n at.after)
    ∙ ap sum_of (sym at.parts)
  where
    at : Standing n ks
    at = standing n ks (omega (arith, rw (eq-eqb n n refl) at (same n)))

    others : Reordered ns (at.before ++ at.after)
    others x =
        omega (
          arith,
          same x,
          ap (times x) at.parts,
          sum_join (λ k. bit_of (eqb x k)) at.before (n ∷ at.after),
          sum_join (λ k. bit_of (eqb x k)) at.before at.after,
        )

-- 02: "any reordering of the same packets leaves the same register"
pub reordered_register : (m : Mirror) (ns ks : List ℕ) → Reordered ns ks → (run_of m ns).register ≡ (run_of m ks).register
reordered_register m ns ks same = same_register m ns ks (sum_reordered ns ks same)

-- what is sent twice leaves the sum as it was, wherever the two stand
sum_twice : (before block between after : List ℕ)
    → sum_of (before ++ (block ++ (between ++ (block ++ after)))) ≡ sum_of (before ++ (between ++ after))
sum_twice before block between after =
    same_after
    before
    (block ++ (between ++ (block ++ after)))
    (between ++ after)
    (sum_joined block (between ++ (block ++ after))
    ∙ ap (bit_xor (sum_of block)) (sum_joined between (block ++ after) ∙ ap (bit_xor (sum_of between)) (sum_joined block after))
    ∙ xor_across (sum_of block) (sum_of between) (sum_of after)
    ∙ sym (sum_joined between after))

-- a block that is sent twice whole, wherever the two stand: the register is as if it had not been sent
pub block_twice : (m : Mirror) (before block between after : List ℕ)
    → (run_of m (before ++ (block ++ (between ++ (block ++ after))))).register ≡ (run_of m (before ++ (between ++ after))).register
block_twice m before block between after =
    same_register m (before ++ (block ++ (between ++ (block ++ after)))) (before ++ (between ++ after)) (sum_twice before block between after)

-- 02: "a packet sent twice cancels itself", wherever the two stand
pub packet_twice : (m : Mirror) (before : List ℕ) (n : ℕ) (between after : List ℕ)
    → (run_of m (before ++ n ∷ (between ++ n ∷ after))).register ≡ (run_of m (before ++ (between ++ after))).register
packet_twice m before n between after = block_twice m before (n ∷ []) between after

-- a block that is sent a third time, wherever the three stand: the register is as if it had been sent once
pub block_thrice : (m : Mirror) (before block between later after : List ℕ)
    → (run_of m (before ++ (block ++ (between ++ (block ++ (later ++ (block ++ after))))))).register
    ≡ (run_of m (before ++ (block ++ (between ++ (later ++ after))))).register
block_thrice m before block between later after =
    same_register m _ _ (same_after before _ _ (same_after block _ _ (sum_twice between block later after)))

-- the effect of a list is its sum, whatever the register was before
pub effect_sum : (m : Mirror) (ns : List ℕ) → effect_of m ns ≡ sum_of ns
effect_sum m ns = ap (bit_xor m.register) (register_after m ns) ∙ xor_back m.register (sum_of ns)

-- 02: "the register after two lists joined is what their separate effects give together"
pub effects_joined : (m : Mirror) (xs ys : List ℕ) → (run_of m (xs ++ ys)).register ≡ bit_xor m.register (bit_xor (effect_of m xs) (effect_of m ys))
effects_joined m xs ys =
    register_after m (xs ++ ys)
    ∙ ap (bit_xor m.register) (sum_joined xs ys ∙ sym (ap₂ bit_xor (effect_sum m xs) (effect_sum m ys)))

-- the closing checksum goes by the register alone: lists that leave the same register have the same
pub same_closing : (m h : Mirror) → m.register ≡ h.register → closing_of m ≡ closing_of h
same_closing m h same = ap (λ (r : ℕ). closing_of (record { register = r; talking = 0 })) same

-- ---- when the closing checksum starts the decoder

-- a list without a checksum leaves a silent decoder silent
pub stays_silent : (m : Mirror) (ns : List ℕ) → talks m ≡ false → no_checksum ns ≡ true → talks (run_of m ns) ≡ false
unfolding run_of all
stays_silent m [] silent none = silent
stays_silent m (n ∷ ns) silent none =
    let other = not-true (is_checksum n) (first_of (not (is_checksum n)) (no_checksum ns) none) in
    stays_silent
    (step_of m n)
    ns
    (ap (λ (t : ℕ). not (eqb t 0)) (other_silences m n other))
    (second_of (not (is_checksum n)) (no_checksum ns) none)

-- after the host's closing checksum the decoder talks if it did before or if the sums of both lists are alike
starts_by_sums : (p : ℕ) (sent reached : List ℕ) → starts p sent reached ≡ (talks (from_reset p reached) || eqb (sum_of sent) (sum_of reached))
starts_by_sums p sent reached =
    let start = (reset_by p).mirror in
    closing_starts (run_of start reached) (run_of start sent) (stays_sound start sent (reset_sound p))
    ∙ ap
    (λ (test : Bool). talks (run_of start reached) || test)
    (ap₂ eqb (register_after start sent) (register_after start reached) ∙ xor_apart start.register (sum_of sent) (sum_of reached))

-- what nobody notices: with the same sum the closing checksum starts the decoder, whatever else differs
pub unnoticed : (p : ℕ) (sent reached : List ℕ) → sum_of sent ≡ sum_of reached → starts p sent reached ≡ true
unnoticed p sent reached same = starts_by_sums p sent reached ∙ rw (eq-eqb (sum_of sent) (sum_of reached) same, or-true)

-- where no checksum has reached the decoder, the closing one starts it exactly if the sums of both lists are alike
pub starts_exactly : (p : ℕ) (sent reached : List ℕ) → no_checksum reached ≡ true → starts p sent reached ≡ eqb (sum_of sent) (sum_of reached)
starts_exactly p sent reached none =
    starts_by_sums p sent reached
    ∙ ap (λ (test : Bool). test || eqb (sum_of sent) (sum_of reached)) (stays_silent (reset_by p).mirror reached refl none)

-- lists without a checksum have none when they are joined
none_joined : (xs ys : List ℕ) → no_checksum xs ≡ true → no_checksum ys ≡ true → no_checksum (xs ++ ys) ≡ true
none_joined xs ys none-x none-y = all_append (λ n. not (is_checksum n)) xs ys ∙ ap₂ ◌&&◌ none-x none-y

-- where lists that are joined have no checksum, neither of them has
none_apart : (xs ys : List ℕ) → no_checksum (xs ++ ys) ≡ true → (no_checksum xs ≡ true) × (no_checksum ys ≡ true)
none_apart xs ys none = all_parts (λ n. not (is_checksum n)) xs ys none

-- ---- one packet changed, or missing

-- with another number in a packet's place, the sum is the same exactly if that number is the packet's share
share_apart : (before : List ℕ) (n share : ℕ) (after : List ℕ)
    → eqb (sum_of (before ++ n ∷ after)) (bit_xor (sum_of before) (bit_xor share (sum_of after))) ≡ eqb (share_of n) share
share_apart before n share after =
    ap₂
    eqb
    (sum_around before n after ∙ ap (bit_xor (sum_of before)) (xor_comm (share_of n) (sum_of after)))
    (ap (bit_xor (sum_of before)) (xor_comm share (sum_of after)))
    ∙ xor_apart (sum_of before) (bit_xor (sum_of after) (share_of n)) (bit_xor (sum_of after) share)
    ∙ xor_apart (sum_of after) (share_of n) share

-- one packet arrives as another: the closing checksum starts the decoder exactly if both put the same into the sum
pub changed_exactly : (p : ℕ) (before : List ℕ) (n k : ℕ) (after : List ℕ) → no_checksum (before ++ k ∷ after) ≡ true
    → starts p (before ++ n ∷ after) (before ++ k ∷ after) ≡ eqb (share_of n) (share_of k)
changed_exactly p before n k after none =
    starts_exactly p (before ++ n ∷ after) (before ++ k ∷ after) none
    ∙ ap (eqb (sum_of (before ++ n ∷ after))) (sum_around before k after)
    ∙ share_apart before n (share_of k) after

-- one packet is missing: the closing checksum starts the decoder exactly if the packet put nothing into the sum
pub missing_exactly : (p : ℕ) (before : List ℕ) (n : ℕ) (after : List ℕ) → no_checksum (before ++ after) ≡ true
    → starts p (before ++ n ∷ after) (before ++ after) ≡ eqb (share_of n) 0
missing_exactly p before n after none =
    starts_exactly p (before ++ n ∷ after) (before ++ after) none
    ∙ ap (eqb (sum_of (before ++ n ∷ after))) (sum_joined before after)
    ∙ share_apart before n 0 after

-- a packet that is not left out puts its data bits into the sum
share_summed : (n : ℕ) → left_out n ≡ false → share_of n ≡ data_of n
share_summed n summed = rw summed

-- a packet that is left out puts nothing into it
share_left : (n : ℕ) → left_out n ≡ true → share_of n ≡ 0
share_left n left = rw left

-- the host never sends one of 1CH to 1FH
special_never : (id : ℕ) → among first_special_id last_special_id id ≡ true → never_sent id ≡ true
special_never id special = rw (special, or-true)

-- what the host may send is none of 1CH to 1FH
sendable_not_special : (n : ℕ) → may_send n ≡ true → is_special n ≡ false
sendable_not_special n may =
    ⊎_elim
    (λ special. absurd (true≢false (sym may ∙ ap (λ (never : Bool). not never && zeros_right n) (special_never (id_of n) special))))
    (λ other. other)
    (decided (is_special n))

-- a packet of a list that the host may send, without a checksum, is summed
share_sent : (before : List ℕ) (n : ℕ) (after : List ℕ) → all_sendable (before ++ n ∷ after) ≡ true
    → no_checksum (before ++ n ∷ after) ≡ true → left_out n ≡ false
unfolding all
share_sent before n after may none =
    let sendable = first_of (may_send n) (all_sendable after) (all_parts may_send before (n ∷ after) may).1 in
    let other = first_of (not (is_checksum n)) (no_checksum after) (none_apart before (n ∷ after) none).1 in
    ap₂ ◌||◌ (not-true (is_checksum n) other) (sendable_not_special n sendable)

-- 02: "if they differ in the data bits of exactly one packet, .. the host's closing checksum, arriving whole, doesn't start the decoder talking"
pub one_changed : (p : ℕ) (before : List ℕ) (n k : ℕ) (after : List ℕ) → all_sendable (before ++ n ∷ after) ≡ true
    → no_checksum (before ++ n ∷ after) ≡ true → id_of n ≡ id_of k → (data_of n ≡ data_of k → ⊥)
    → starts p (before ++ n ∷ after) (before ++ k ∷ after) ≡ false
unfolding all
one_changed p before n k after may none same differ =
    let summed = share_sent before n after may none in
    let parts = none_apart before (n ∷ after) none in
    changed_exactly p before n k after (none_joined before (k ∷ after) parts.0 (rw same at parts.1))
    ∙ ap₂ eqb (share_summed n summed) (share_summed k (rw same at summed))
    ∙ ne_eqb (data_of n) (data_of k) differ

-- 02: "or in one missing packet whose data bits aren't all 0"
pub one_missing : (p : ℕ) (before : List ℕ) (n : ℕ) (after : List ℕ) → all_sendable (before ++ n ∷ after) ≡ true
    → no_checksum (before ++ n ∷ after) ≡ true → (data_of n ≡ 0 → ⊥) → starts p (before ++ n ∷ after) (before ++ after) ≡ false
unfolding all
one_missing p before n after may none bits =
    let parts = none_apart before (n ∷ after) none in
    missing_exactly p before n after (none_joined before after parts.0 (second_of (not (is_checksum n)) (no_checksum after) parts.1))
    ∙ ap (λ (share : ℕ). eqb share 0) (share_summed n (share_sent before n after may none))
    ∙ ne_eqb (data_of n) 0 bits

-- ---- what is not noticed

-- 02: "a changed ID isn't noticed where both IDs are summed ones"
pub changed_id : (p : ℕ) (before : List ℕ) (n k : ℕ) (after : List ℕ) → is_summed n ≡ true → is_summed k ≡ true → data_of n ≡ data_of k
    → starts p (before ++ n ∷ after) (before ++ k ∷ after) ≡ true
changed_id p before n k after summed-n summed-k same =
    unnoticed
    p
    (before ++ n ∷ after)
    (before ++ k ∷ after)
    (same_after
    before
    (n ∷ after)
    (k ∷ after)
    (sum_of_packet n after
    ∙ ap
    (λ (share : ℕ). bit_xor share (sum_of after))
    (share_summed n (not-true (left_out n) summed-n) ∙ same ∙ sym (share_summed k (not-true (left_out k) summed-k)))
    ∙ sym (sum_of_packet k after)))

-- packets that arrive in another order are not noticed
pub reordered_starts : (p : ℕ) (sent reached : List ℕ) → Reordered sent reached → starts p sent reached ≡ true
reordered_starts p sent reached same = unnoticed p sent reached (sum_reordered sent reached same)

-- a block that is sent twice and never arrives is not noticed
pub twice_lost : (p : ℕ) (before block between after : List ℕ)
    → starts p (before ++ (block ++ (between ++ (block ++ after)))) (before ++ (between ++ after)) ≡ true
twice_lost p before block between after =
    unnoticed p (before ++ (block ++ (between ++ (block ++ after)))) (before ++ (between ++ after)) (sum_twice before block between after)

-- ---- one block sent again

-- the sum of a block that is sent so many times
sum_repeated : (k : ℕ) (block : List ℕ) → sum_of (repeated k block) ≡ pick (odd k) (sum_of block) 0
unfolding repeated odd sum_of
sum_repeated zero block = refl
sum_repeated (suc k) block = sum_joined block (repeated k block) ∙ ap (bit_xor (sum_of block)) (sum_repeated k block) ∙ turned (odd k)
  where
    turned : (was : Bool) → bit_xor (sum_of block) (pick was (sum_of block) 0) ≡ pick (not was) (sum_of block) 0
    turned true = xor_self (sum_of block)
    turned false = xor_zero_r (sum_of block)

-- the sum of other packets and a block that is sent so many times
sum_with : (block others : List ℕ) (k : ℕ) → sum_of (repeated k block ++ others) ≡ bit_xor (sum_of others) (pick (odd k) (sum_of block) 0)
sum_with block others k =
    sum_joined (repeated k block) others
    ∙ xor_comm (sum_of (repeated k block)) (sum_of others)
    ∙ ap (bit_xor (sum_of others)) (sum_repeated k block)

-- two sums of one block are alike where both are odd or both even, and else where the block puts nothing into the sum
alike_by : (sent reached : Bool) (sum : ℕ) → eqb (pick sent sum 0) (pick reached sum 0) ≡ (beq sent reached || eqb sum 0)
alike_by true true sum = eq-eqb sum sum refl
alike_by true false sum = refl
alike_by false true sum = eqb_swap 0 sum
alike_by false false sum = refl

-- a block is sent so many times and arrives whole so many times, wherever it stands among the other packets, which all arrive: the
-- closing checksum starts the decoder exactly if both numbers are odd or both even, or if the block puts nothing into the sum
pub repeated_exactly : (p : ℕ) (block others : List ℕ) (sent reached : ℕ) (ns ks : List ℕ) → Reordered ns (repeated sent block ++ others)
    → Reordered ks (repeated reached block ++ others) → no_checksum ks ≡ true
    → starts p ns ks ≡ (beq (odd sent) (odd reached) || eqb (sum_of block) 0)
repeated_exactly p block others sent reached ns ks of-sent of-reached none =
    starts_exactly p ns ks none
    ∙ ap₂
    eqb
    (sum_reordered ns (repeated sent block ++ others) of-sent ∙ sum_with block others sent)
    (sum_reordered ks (repeated reached block ++ others) of-reached ∙ sum_with block others reached)
    ∙ xor_apart (sum_of others) _ _
    ∙ alike_by (odd sent) (odd reached) (sum_of block)

-- a block never arrived, and a checksum was sent in vain; the block is sent again, and then the closing checksum for the block
-- sent once: the decoder talks
pub sent_again : (p : ℕ) (before block after : List ℕ) (c : ℕ) → is_checksum c ≡ true
    → starts p (before ++ (block ++ after)) (before ++ (after ++ c ∷ block)) ≡ true
sent_again p before block after c check =
    unnoticed
    p
    (before ++ (block ++ after))
    (before ++ (after ++ c ∷ block))
    (same_after
    before
    (block ++ after)
    (after ++ c ∷ block)
    (sum_joined block after
    ∙ xor_comm (sum_of block) (sum_of after)
    ∙ sym (sum_around after c block ∙ ap (λ (share : ℕ). bit_xor (sum_of after) (bit_xor share (sum_of block))) (share_left c (rw check)))))
