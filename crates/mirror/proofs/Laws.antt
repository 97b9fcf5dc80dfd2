-- What the definitions promise of any run of packets: the register is the sum of the whole list, when the decoder
-- talks, and that the closing checksum makes it talk.
use Prim.Native.Nat.{ℕ, ◌^◌, ◌≤◌, ◌<◌}
use mathlib.Core.Bool.{Bool, true, false, not, ◌&&◌, ◌||◌, or_assoc, or-true, true≢false}
use mathlib.Core.List.{List, [], ◌∷◌, ◌++◌}
use mathlib.Core.Logic.{◌⊎◌, inl, inr}
use mathlib.Core.Path.{◌≡◌, refl, sym, ap, ap₂, ◌∙◌}
use native.Mathlib.Omega.{arith}
use borrow.Author.Tests.{ltb-true, lt-ltb, leb-true, eq-eqb, ne_eqb}
use lib.Bits.{bit_xor}
use lib.Dec.{eqb, leb, ltb}
use lib.Seq.{append_snoc}
use Rattle.laws.specs.Choice.{pick, bit_of}
use Rattle.laws.specs.Layouts.{shows}
use Rattle.laws.proofs.Tests.{first_of, second_of, or_none}
use Rattle.laws.proofs.Xor.{xor_assoc, xor_zero_r, xor_lt}
use Rattle.packet.specs.Names.{id_of, data_of, checksum_id, configuration_id, first_special_id}
use Rattle.packet.specs.Tables.{part_id}
use Rattle.packet.specs.Fields.{built_of}
use Rattle.refusal.specs.Told.{kept}
use Rattle.mirror.specs.declared.Mirror.{Mirror}
use Rattle.mirror.specs.Handshake.{is_checksum, is_special, talks, after_checksum, step_of, run_of, sum_of, sound, reset_by, closing_of}

-- ---- the register

-- whether a packet is left out of the sum
abbrev pub left_out : ℕ → Bool
left_out n = is_checksum n || is_special n

-- the register after a packet, by its kind and by whether the decoder talks
register_by : (m : Mirror) (bits talking : ℕ) (check special talk : Bool)
    → (pick check (pick talk m (record { register = m.register; talking = talking }))
    (record { register = pick special m.register (bit_xor m.register bits); talking = 0 })).register
    ≡ pick (check || special) m.register (bit_xor m.register bits)
register_by m bits talking true special true = refl
register_by m bits talking true special false = refl
register_by m bits talking false true talk = refl
register_by m bits talking false false talk = refl

-- a packet's data bits go into the register, unless it is left out
pub step_register : (m : Mirror) (n : ℕ) → (step_of m n).register ≡ pick (left_out n) m.register (bit_xor m.register (data_of n))
step_register m n = register_by m (data_of n) (bit_of (eqb (data_of n) m.register)) (is_checksum n) (is_special n) (talks m)

-- one packet, and the sum of the others
into-sum : (out : Bool) (register bits sum : ℕ) → bit_xor (pick out register (bit_xor register bits)) sum ≡ bit_xor register (pick out sum (bit_xor bits sum))
into-sum true register bits sum = refl
into-sum false register bits sum = xor_assoc register bits sum

-- after any run the register is what 01 says of the whole list
pub register_after : (m : Mirror) (ns : List ℕ) → (run_of m ns).register ≡ bit_xor m.register (sum_of ns)
unfolding run_of sum_of
register_after m [] = sym (xor_zero_r m.register)
register_after m (n ∷ ns) =
    register_after (step_of m n) ns
    ∙ ap (λ (r : ℕ). bit_xor r (sum_of ns)) (step_register m n)
    ∙ into-sum (left_out n) m.register (data_of n) (sum_of ns)

-- a run may be cut in two anywhere
pub run_joined : (m : Mirror) (xs ys : List ℕ) → run_of m (xs ++ ys) ≡ run_of (run_of m xs) ys
unfolding run_of
run_joined m [] ys = refl
run_joined m (x ∷ xs) ys = run_joined (step_of m x) xs ys

-- a sum may be taken in two parts, as a run may: it is the register of a run from 0
pub sum_joined : (xs ys : List ℕ) → sum_of (xs ++ ys) ≡ bit_xor (sum_of xs) (sum_of ys)
sum_joined xs ys =
    let start : Mirror = record { register = 0; talking = 0 } in
    sym (register_after start (xs ++ ys))
    ∙ ap (λ (m : Mirror). m.register) (run_joined start xs ys)
    ∙ register_after (run_of start xs) ys
    ∙ ap (λ (r : ℕ). bit_xor r (sum_of ys)) (register_after start xs)

-- the packets 1CH to 1FH leave the register as it is
pub special_leaves : (m : Mirror) (n : ℕ) → is_special n ≡ true → (step_of m n).register ≡ m.register
special_leaves m n special = step_register m n ∙ rw (special, or-true)

-- a packet that is neither a checksum nor one of 1CH to 1FH, by both tests
summed_by : (m next : Mirror) (bits : ℕ) (check special : Bool) → (check || special) ≡ false
    → pick check next (record { register = pick special m.register (bit_xor m.register bits); talking = 0 })
    ≡ record { register = bit_xor m.register bits; talking = 0 }
summed_by m next bits true special e = absurd (true≢false e)
summed_by m next bits false true e = absurd (true≢false e)
summed_by m next bits false false e = refl

-- a packet that is not left out is summed, and silences the decoder
pub step_summed : (m : Mirror) (n : ℕ) → left_out n ≡ false → step_of m n ≡ record { register = bit_xor m.register (data_of n); talking = 0 }
step_summed m n summed = summed_by m (after_checksum m n) (data_of n) (is_checksum n) (is_special n) summed

-- a configuration packet is summed whatever was sent before, also a control packet that turned the decoder on
pub configuration_summed : (m : Mirror) (n : ℕ) → id_of n ≡ configuration_id → (before : List ℕ)
    → (run_of m (before ++ n ∷ [])).register ≡ bit_xor (run_of m before).register (data_of n)
unfolding run_of
configuration_summed m n id before =
    ap (λ (r : Mirror). r.register) (run_joined m before (n ∷ []) ∙ step_summed (run_of m before) n (rw id))

-- the ID is never in the sum: two packets that are summed and have the same data bits do the same
pub same_data : (m : Mirror) (n k : ℕ) → left_out n ≡ false → left_out k ≡ false → data_of n ≡ data_of k → step_of m n ≡ step_of m k
same_data m n k summed-n summed-k same = step_summed m n summed-n ∙ rw same (sym (step_summed m k summed-k))

-- ---- talking

-- whether each packet of a list is a checksum
unfoldable pub all_checksums : List ℕ → Bool
all_checksums [] = true
all_checksums (n ∷ ns) = is_checksum n && all_checksums ns

-- whether the data bits of some packet of a list are the register
unfoldable pub matches : ℕ → List ℕ → Bool
matches register [] = false
matches register (n ∷ ns) = eqb (data_of n) register || matches register ns

-- a packet that is no checksum silences the decoder
pub other_silences : (m : Mirror) (n : ℕ) → is_checksum n ≡ false → (step_of m n).talking ≡ 0
other_silences m n other = rw other

-- a packet 1CH to 1FH, which is no checksum, silences the decoder too
pub special_silences : (m : Mirror) (n : ℕ) → is_special n ≡ true → (step_of m n).talking ≡ 0
special_silences m n special =
    let large : first_special_id ≤ id_of n = leb-true first_special_id (id_of n) (first_of (leb first_special_id (id_of n)) _ special) in
    other_silences m n (ne_eqb (id_of n) checksum_id (omega arith))

-- after a checksum a decoder that talked talks, and a silent one where the test holds
talks_by : (m : Mirror) (talk test : Bool) → talks m ≡ talk → talks (pick talk m (record { register = m.register; talking = bit_of test })) ≡ (talk || test)
talks_by m true test talking = talking
talks_by m false true silent = refl
talks_by m false false silent = refl

-- after a checksum the decoder talks if it did before, or if the checksum holds the register
pub checksum_talks : (m : Mirror) (n : ℕ) → is_checksum n ≡ true → talks (step_of m n) ≡ (talks m || eqb (data_of n) m.register)
checksum_talks m n check = rw check (talks_by m (talks m) (eqb (data_of n) m.register) refl)

-- after a checksum the register is as it was
checksum_leaves : (m : Mirror) (n : ℕ) → is_checksum n ≡ true → (step_of m n).register ≡ m.register
checksum_leaves m n check = step_register m n ∙ rw check

-- after checksums alone the decoder talks if it did before, or if one of them holds the register
pub talks_of_checksums : (m : Mirror) (ns : List ℕ) → all_checksums ns ≡ true → talks (run_of m ns) ≡ (talks m || matches m.register ns)
unfolding run_of all_checksums matches
talks_of_checksums m [] all = sym (or_none (talks m))
talks_of_checksums m (n ∷ ns) all =
    let check = first_of (is_checksum n) (all_checksums ns) all in
    talks_of_checksums (step_of m n) ns (second_of (is_checksum n) (all_checksums ns) all)
    ∙ ap₂ (λ (t : Bool) (r : ℕ). t || matches r ns) (checksum_talks m n check) (checksum_leaves m n check)
    ∙ or_assoc (talks m) (eqb (data_of n) m.register) (matches m.register ns)

-- after a list with another packet in it, the checksums after the last such packet decide, against the sum up to it
pub talks_after : (m : Mirror) (before : List ℕ) (n : ℕ) (after : List ℕ) → is_checksum n ≡ false → all_checksums after ≡ true
    → talks (run_of m (before ++ n ∷ after)) ≡ matches (bit_xor m.register (sum_of (before ++ n ∷ []))) after
unfolding run_of
talks_after m before n after other all =
    let reached = run_of m (before ++ n ∷ []) in
    let silent : reached.talking ≡ 0 = rw (run_joined m before (n ∷ [])) (other_silences (run_of m before) n other) in
    ap talks (ap (run_of m) (sym (append_snoc before n after)) ∙ run_joined m (before ++ n ∷ []) after)
    ∙ talks_of_checksums reached after all
    ∙ ap₂ (λ (t r : ℕ). not (eqb t 0) || matches r after) silent (register_after m (before ++ n ∷ []))

-- the last packet of a list that is no checksum, with what stands before and after it
pub record LastOther (ns : List ℕ) : Type 0 where
  pub before : List ℕ
  pub packet : ℕ
  pub after : List ℕ
  pub parts : ns ≡ before ++ packet ∷ after
  pub other : is_checksum packet ≡ false
  pub checksums : all_checksums after ≡ true

-- with one packet more before the list, its last packet that is no checksum stands one place further on
further : (n : ℕ) (ns : List ℕ) → LastOther ns → LastOther (n ∷ ns)
further n ns last =
    record {
      before = n ∷ last.before;
      packet = last.packet;
      after = last.after;
      parts = ap (λ (l : List ℕ). n ∷ l) last.parts;
      other = last.other;
      checksums = last.checksums;
    }

-- of a list with one packet more before it, the last that is no checksum is that of the list, or the packet itself before checksums alone
last_by : (n : ℕ) (ns : List ℕ) (check : Bool) → is_checksum n ≡ check → (all_checksums ns ≡ true) ⊎ LastOther ns
    → (all_checksums (n ∷ ns) ≡ true) ⊎ LastOther (n ∷ ns)
unfolding all_checksums
last_by n ns true e (inl all) = inl (rw (e, all))
last_by n ns true e (inr last) = inr (further n ns last)
last_by n ns false e (inl all) = inr (record { before = []; packet = n; after = ns; parts = refl; other = e; checksums = all })
last_by n ns false e (inr last) = inr (further n ns last)

-- a list holds checksums alone or has a last packet that is none: `talks_of_checksums` and `talks_after` speak of every list
pub last_other : (ns : List ℕ) → (all_checksums ns ≡ true) ⊎ LastOther ns
unfolding all_checksums
last_other [] = inl refl
last_other (n ∷ ns) = last_by n ns (is_checksum n) refl (last_other ns)

-- a checksum does nothing to a decoder that talks
pub talking_kept : (m : Mirror) (n : ℕ) → is_checksum n ≡ true → talks m ≡ true → step_of m n ≡ m
talking_kept m n check talking = rw (check, talking)

-- a silent decoder stays silent under a packet that does not hold the register, by whether it is a checksum
silent_by : (m : Mirror) (n : ℕ) (check : Bool) → is_checksum n ≡ check → talks m ≡ false → (data_of n ≡ m.register → ⊥) → talks (step_of m n) ≡ false
silent_by m n true check silent wrong = checksum_talks m n check ∙ rw (silent, ne_eqb (data_of n) m.register wrong)
silent_by m n false other silent wrong = ap (λ (t : ℕ). not (eqb t 0)) (other_silences m n other)

-- a silent decoder stays silent under a packet that does not hold the register, be it a checksum or not
pub other_silent : (m : Mirror) (n : ℕ) → talks m ≡ false → (data_of n ≡ m.register → ⊥) → talks (step_of m n) ≡ false
other_silent m n silent wrong = silent_by m n (is_checksum n) refl silent wrong

-- ---- the handshake

-- the closing checksum of a sound mirror is not refused
pub closing_given : (m : Mirror) → sound m ≡ true → (closing_of m).number ≡ 0
unfolding built_of
closing_given m small = rw small

-- the closing checksum holds the register
closing_holds : (m : Mirror) → sound m ≡ true → (closing_of m).packet.bits ≡ m.register
unfolding built_of
closing_holds m small = rw small

-- after a checksum that holds 24 bits the decoder talks if it did before, or if its register is these bits
register_starts : (m : Mirror) (register : ℕ) → register < 2 ^ 24 → talks (step_of m register) ≡ (talks m || eqb register m.register)
register_starts m register small =
    let bits : data_of register ≡ register = omega arith in
    checksum_talks m register (eq-eqb (id_of register) checksum_id (omega arith)) ∙ ap (λ (b : ℕ). talks m || eqb b m.register) bits

-- after the closing checksum of a sound mirror any decoder talks if it did before, or if its register is the mirror's
pub closing_starts : (m h : Mirror) → sound h ≡ true
    → talks (step_of m (closing_of h).packet.bits) ≡ (talks m || eqb h.register m.register)
closing_starts m h small = rw (closing_holds h small) (register_starts m h.register (ltb-true h.register (2 ^ 24) small))

-- after the closing checksum of a sound mirror the decoder talks, whether or not it did before
pub closing_talks : (m : Mirror) → sound m ≡ true → talks (step_of m (closing_of m).packet.bits) ≡ true
closing_talks m small = closing_starts m m small ∙ rw (eq-eqb m.register m.register refl) (or-true (talks m))

-- 24 bits stay 24 bits
sound_by : (out : Bool) (register bits : ℕ) → register < 2 ^ 24 → bits < 2 ^ 24 → ltb (pick out register (bit_xor register bits)) (2 ^ 24) ≡ true
sound_by true register bits small few = lt-ltb register (2 ^ 24) small
sound_by false register bits small few = lt-ltb (bit_xor register bits) (2 ^ 24) (xor_lt 24 register bits small few)

-- a run of any numbers from a sound mirror ends in a sound mirror
pub stays_sound : (m : Mirror) (ns : List ℕ) → sound m ≡ true → sound (run_of m ns) ≡ true
unfolding run_of
stays_sound m [] small = small
stays_sound m (n ∷ ns) small =
    stays_sound (step_of m n) ns
    (ap (λ (r : ℕ). ltb r (2 ^ 24)) (step_register m n)
    ∙ sound_by (left_out n) m.register (data_of n) (ltb-true m.register (2 ^ 24) small) (omega arith))

-- the data bits of a packet, or 0 in their place, are 24 bits
kept_sound : (good : Bool) (n : ℕ) → ltb (kept good (data_of n)) (2 ^ 24) ≡ true
kept_sound true n = lt-ltb (data_of n) (2 ^ 24) (omega arith)
kept_sound false n = refl

-- what a reset answers is sound
pub reset_sound : (p : ℕ) → sound (reset_by p).mirror ≡ true
reset_sound p = kept_sound (shows part_id p) p

-- from a reset, after any packets, the closing checksum makes the decoder talk
pub handshake : (p : ℕ) (ns : List ℕ) → let m = run_of (reset_by p).mirror ns in talks (step_of m (closing_of m).packet.bits) ≡ true
handshake p ns = closing_talks (run_of (reset_by p).mirror ns) (stays_sound (reset_by p).mirror ns (reset_sound p))
