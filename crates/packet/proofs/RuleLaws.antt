-- What document 01 promises of what is sent: which packets may be sent, and which are refused.
use Prim.Native.Nat.{ℕ, zero, suc, ◌^◌, ◌≤◌, ◌<◌}
use mathlib.Core.Bool.{Bool, true, false, not, ◌&&◌, ◌||◌, beq, and-false, true≢false}
use mathlib.Core.List.{List, [], ◌∷◌}
use mathlib.Core.Logic.{⊎_elim}
use mathlib.Core.Path.{◌≡◌, refl, ap, ap₂, sym, ◌∙◌}
use native.Mathlib.Omega.{arith}
use borrow.Author.Tests.{eq-eqb, eqb-true, le-leb, lt-leb, ltb-false, ltb-true, ne_eqb}
use lib.Dec.{T, eqb, leb, ltb}
use lib.ListN.{get_or}
use mir.Facts.{and_yes}
use Rattle.laws.specs.Choice.{every, every_after, implies}
use Rattle.laws.specs.Layouts.{Layout, bits_at, shows, fit, packed}
use Rattle.laws.proofs.Counting.{all_below, of_all_below}
use Rattle.laws.proofs.Layouts.{laid, shown_bits, shows_each, shows_packed}
use Rattle.laws.proofs.Tests.{either_of}
use Rattle.packet.proofs.Laws.{fitting_built}
use Rattle.packet.specs.Names.{id_of, among, checksum_id, configuration_id, control_id, all_frame_mode_id}
use Rattle.packet.specs.Names.{receiver_lines_id, receiver_off_id, data1600_id, shut_down1_id, shut_down2_id}
use Rattle.packet.specs.Names.{first_special_id, last_special_id, first_frames_id, last_frames_id, address_enable_id}
use Rattle.packet.specs.Names.{first_user_address_id, last_user_address_id}
use Rattle.packet.specs.Tables.{checksum, configuration, control, all_frame_mode, receiver_lines, shut_down, frame_assignment, user_address, address_enable}
use Rattle.packet.specs.Fields.{built_by}
use Rattle.refusal.specs.Told.{number_unless}
use Rattle.refusal.specs.declared.Refusal.TheVariants as refusals
use Rattle.packet.specs.Rule.{never_sent, may_send, send_of}

-- which of the tables with a 0 an ID asks for, in the order in which the send rule names them
abbrev asks : ℕ → List Bool
asks id =
    eqb id configuration_id
    ∷ eqb id control_id
    ∷ eqb id all_frame_mode_id
    ∷ eqb id receiver_lines_id
    ∷ among shut_down1_id shut_down2_id id
    ∷ among first_frames_id last_frames_id id
    ∷ eqb id address_enable_id
    ∷ among first_user_address_id last_user_address_id id
    ∷ []

-- which of these tables' bits a packet has
abbrev shown : ℕ → List Bool
shown n =
    shows configuration n
    ∷ shows control n
    ∷ shows all_frame_mode n
    ∷ shows receiver_lines n
    ∷ shows shut_down n
    ∷ shows frame_assignment n
    ∷ shows address_enable n
    ∷ shows user_address n
    ∷ []

-- each table that is asked for, met or not
abbrev met : List Bool → List Bool → List Bool
met [] seen = []
met (ask ∷ asked) [] = []
met (ask ∷ asked) (see ∷ seen) = implies ask see ∷ met asked seen

-- a packet may be sent where its ID is not one that is never sent and the tables that it asks for are met
sent_where : (n : ℕ) (asked : List Bool) → never_sent (id_of n) ∷ asks (id_of n) ≡ false ∷ asked → every (met asked (shown n)) ≡ true → may_send n ≡ true
sent_where n asked e m = ap (λ (tests : List Bool). by_tests tests (shown n)) e ∙ m
  where
    by_tests : List Bool → List Bool → Bool
    by_tests [] seen = true
    by_tests (never ∷ asked) seen = not never && every (met asked seen)

-- no table is asked for
abbrev no_table : List Bool
no_table = false ∷ false ∷ false ∷ false ∷ false ∷ false ∷ false ∷ false ∷ []

-- whether two rows of tests answer alike
abbrev alike : List Bool → List Bool → Bool
alike [] [] = true
alike [] (y ∷ ys) = false
alike (x ∷ xs) [] = false
alike (x ∷ xs) (y ∷ ys) = beq x y && alike xs ys

same_test : (x y : Bool) → T (beq x y) → x ≡ y
same_test true true t = refl
same_test true false t = absurd t
same_test false true t = absurd t
same_test false false t = refl

same_tests : (xs ys : List Bool) → T (alike xs ys) → xs ≡ ys
same_tests [] [] t = refl
same_tests [] (y ∷ ys) t = absurd t
same_tests (x ∷ xs) [] t = absurd t
same_tests (x ∷ xs) (y ∷ ys) t =
    let both = and_yes (beq x y) (alike xs ys) t in
    ap₂ ◌∷◌ (same_test x y both.0) (same_tests xs ys both.1)

-- an ID above the last of a row of IDs is none of them
above_last : (first last id : ℕ) → last < id → among first last id ≡ false
above_last first last id h = rw (lt-leb id last h) (and-false (leb first id))

-- a number of more than 32 bits is no packet: its ID is none of those that the rule names
beyond : (id : ℕ) → 256 ≤ id → never_sent id ∷ asks id ≡ false ∷ no_table
beyond id h =
    rw (
      above_last 0x04 0x0E id (omega arith),
      above_last first_special_id last_special_id id (omega arith),
      above_last 0x28 0x77 id (omega arith),
      above_last 0x79 0x7F id (omega arith),
      above_last 0x90 0xFF id (omega arith),
      ne_eqb id configuration_id (λ e. omega arith),
      ne_eqb id control_id (λ e. omega arith),
      ne_eqb id all_frame_mode_id (λ e. omega arith),
      ne_eqb id receiver_lines_id (λ e. omega arith),
      above_last shut_down1_id shut_down2_id id (omega arith),
      above_last first_frames_id last_frames_id id (omega arith),
      ne_eqb id address_enable_id (λ e. omega arith),
      above_last first_user_address_id last_user_address_id id (omega arith),
    )

-- whether each ID of 8 bits that passes a test asks for just these tables, and is not one that is never sent
abbrev just_asks : (ℕ → Bool) → List Bool → Bool
just_asks test asked = all_below (λ id. implies (test id) (alike (never_sent id ∷ asks id) (false ∷ asked))) 256

-- a packet may be sent where each ID that passes a test asks for just these tables, its own ID passes, and the tables are met
sent_by_id : (test : ℕ → Bool) (asked : List Bool) → T (just_asks test asked) → (n : ℕ)
    → (id_of n < 256 → test (id_of n) ≡ true) → every (met asked (shown n)) ≡ true → may_send n ≡ true
sent_by_id test asked t n passes m = by_size (ltb (id_of n) 256) refl
  where
    asked_of : id_of n < 256 → T (implies true (alike (never_sent (id_of n) ∷ asks (id_of n)) (false ∷ asked)))
    asked_of h =
        rw (passes h) at (of_all_below (λ id. implies (test id) (alike (never_sent id ∷ asks id) (false ∷ asked))) 256 t (id_of n) h)

    by_size : (small : Bool) → ltb (id_of n) 256 ≡ small → may_send n ≡ true
    by_size true e = sent_where n asked (same_tests _ _ (asked_of (ltb-true (id_of n) 256 e))) m
    by_size false e = sent_where n no_table (beyond (id_of n) (ltb-false (id_of n) 256 e)) refl

-- 01: "10H to 19H are sent with any data bits"
pub settings_sent : (n : ℕ) → among receiver_off_id data1600_id (id_of n) ≡ true → may_send n ≡ true
settings_sent n e = sent_by_id (among receiver_off_id data1600_id) no_table tt n (λ h. e) refl

-- 01: "The host refuses to send IDs 04H to 0EH, .."
pub named_never : (n : ℕ) → never_sent (id_of n) ≡ true → send_of n ≡ 7
named_never n e = rw e

-- an ID between the first and the last of a row of IDs is one of them
between : (first last id : ℕ) → first ≤ id → id ≤ last → among first last id ≡ true
between first last id h k = rw (le-leb first id h, le-leb id last k)

-- the nine kinds of packets that are read back
pub data Kind : Type 0 where
  checksum_kind : Kind
  configuration_kind : Kind
  control_kind : Kind
  all_frame_mode_kind : Kind
  receiver_lines_kind : Kind
  shut_down_kind : Kind
  frame_assignment_kind : Kind
  address_enable_kind : Kind
  user_address_kind : Kind

-- a kind's table
abbrev pub table_of : Kind → Layout
table_of checksum_kind = checksum
table_of configuration_kind = configuration
table_of control_kind = control
table_of all_frame_mode_kind = all_frame_mode
table_of receiver_lines_kind = receiver_lines
table_of shut_down_kind = shut_down
table_of frame_assignment_kind = frame_assignment
table_of address_enable_kind = address_enable
table_of user_address_kind = user_address

-- whether an ID is the kind's (Table 2)
abbrev pub is_of : Kind → ℕ → Bool
is_of checksum_kind id = eqb id checksum_id
is_of configuration_kind id = eqb id configuration_id
is_of control_kind id = eqb id control_id
is_of all_frame_mode_kind id = eqb id all_frame_mode_id
is_of receiver_lines_kind id = eqb id receiver_lines_id
is_of shut_down_kind id = among shut_down1_id shut_down2_id id
is_of frame_assignment_kind id = among first_frames_id last_frames_id id
is_of address_enable_kind id = eqb id address_enable_id
is_of user_address_kind id = among first_user_address_id last_user_address_id id

-- each table has at most 32 bits, and prints numbers that fit
laid_each : (k : Kind) → T (laid (table_of k))
laid_each checksum_kind = tt
laid_each configuration_kind = tt
laid_each control_kind = tt
laid_each all_frame_mode_kind = tt
laid_each receiver_lines_kind = tt
laid_each shut_down_kind = tt
laid_each frame_assignment_kind = tt
laid_each address_enable_kind = tt
laid_each user_address_kind = tt

-- a packet with the bits that a kind's table prints has the kind's ID
id_shown : (k : Kind) (n : ℕ) → shows (table_of k) n ≡ true → id_of n < 256 → is_of k (id_of n) ≡ true
id_shown checksum_kind n e h = eq-eqb (id_of n) checksum_id (omega (arith, (shown_bits checksum n tt e).0))
id_shown configuration_kind n e h = eq-eqb (id_of n) configuration_id (omega (arith, (shown_bits configuration n tt e).0))
id_shown control_kind n e h = eq-eqb (id_of n) control_id (omega (arith, (shown_bits control n tt e).0))
id_shown all_frame_mode_kind n e h = eq-eqb (id_of n) all_frame_mode_id (omega (arith, (shown_bits all_frame_mode n tt e).0))
id_shown receiver_lines_kind n e h = eq-eqb (id_of n) receiver_lines_id (omega (arith, (shown_bits receiver_lines n tt e).0))
id_shown shut_down_kind n e h =
    between shut_down1_id shut_down2_id (id_of n) (omega (arith, (shown_bits shut_down n tt e).0)) (omega (arith, (shown_bits shut_down n tt e).0))
id_shown frame_assignment_kind n e h =
    between first_frames_id last_frames_id (id_of n) (omega (arith, (shown_bits frame_assignment n tt e).0)) (omega (arith, (shown_bits frame_assignment n tt e).0))
id_shown address_enable_kind n e h = eq-eqb (id_of n) address_enable_id (omega (arith, (shown_bits address_enable n tt e).0))
id_shown user_address_kind n e h =
    between first_user_address_id last_user_address_id (id_of n) (omega (arith, (shown_bits user_address n tt e).0)) (omega (arith, (shown_bits user_address n tt e).0))

-- what can be read may be sent
pub read_sent : (k : Kind) (n : ℕ) → shows (table_of k) n ≡ true → may_send n ≡ true
read_sent checksum_kind n e = sent_by_id (is_of checksum_kind) (asks checksum_id) tt n (id_shown checksum_kind n e) refl
read_sent configuration_kind n e = sent_by_id (is_of configuration_kind) (asks configuration_id) tt n (id_shown configuration_kind n e) (rw e)
read_sent control_kind n e = sent_by_id (is_of control_kind) (asks control_id) tt n (id_shown control_kind n e) (rw e)
read_sent all_frame_mode_kind n e = sent_by_id (is_of all_frame_mode_kind) (asks all_frame_mode_id) tt n (id_shown all_frame_mode_kind n e) (rw e)
read_sent receiver_lines_kind n e = sent_by_id (is_of receiver_lines_kind) (asks receiver_lines_id) tt n (id_shown receiver_lines_kind n e) (rw e)
read_sent shut_down_kind n e = sent_by_id (is_of shut_down_kind) (asks shut_down1_id) tt n (id_shown shut_down_kind n e) (rw e)
read_sent frame_assignment_kind n e = sent_by_id (is_of frame_assignment_kind) (asks first_frames_id) tt n (id_shown frame_assignment_kind n e) (rw e)
read_sent address_enable_kind n e = sent_by_id (is_of address_enable_kind) (asks address_enable_id) tt n (id_shown address_enable_kind n e) (rw e)
read_sent user_address_kind n e = sent_by_id (is_of user_address_kind) (asks first_user_address_id) tt n (id_shown user_address_kind n e) (rw e)

-- what was built may be sent
pub built_sent : (k : Kind) (values : List ℕ) → fit (table_of k) values ≡ true → may_send (built_by (table_of k) values).packet.bits ≡ true
built_sent k values e = rw (fitting_built (table_of k) values e) (read_sent k (packed (table_of k) values) (shows_packed (table_of k) values (laid_each k) e))

-- where one test fails, not every test holds
failed_stays : (tests : List Bool) → every_after false tests ≡ false
failed_stays [] = refl
failed_stays (test ∷ tests) = failed_stays tests

one_failed : (so : Bool) (tests : List Bool) (place : ℕ) → get_or tests place true ≡ false → every_after so tests ≡ false
one_failed so [] place e = absurd (true≢false e)
one_failed so (test ∷ tests) zero e = rw (e, and-false so) (failed_stays tests)
one_failed so (test ∷ tests) (suc place) e = one_failed (so && test) tests place e

-- a packet is not sent where the table at a place is asked for and not met
not_met : (n place : ℕ) → get_or (met (asks (id_of n)) (shown n)) place true ≡ false → send_of n ≡ 7
not_met n place e =
    ap (λ (right : Bool). number_unless refusals.Packet (not (never_sent (id_of n)) && right)) (one_failed true (met (asks (id_of n)) (shown n)) place e)
    ∙ rw (and-false (not (never_sent (id_of n))))

asked_not_met : (ask see : Bool) → ask ≡ true → see ≡ false → implies ask see ≡ false
asked_not_met ask see a s = rw (a, s)

-- a packet with a kind's ID, and a bit set that the kind's table prints as 0, is not sent. The checksum's table prints none
pub zero_bit_refused : (k : Kind) (n : ℕ) → is_of k (id_of n) ≡ true → shows (table_of k) n ≡ false → send_of n ≡ 7
zero_bit_refused checksum_kind n i e =
    let id : id_of n ≡ 0 = eqb-true (id_of n) checksum_id i in
    let shown : shows checksum n ≡ true = shows_each checksum n tt ∙ rw (eq-eqb (bits_at 24 8 n) 0 (omega arith)) refl in
    absurd (true≢false (sym shown ∙ e))
zero_bit_refused configuration_kind n i e = not_met n 0 (asked_not_met (is_of configuration_kind (id_of n)) (shows configuration n) i e)
zero_bit_refused control_kind n i e = not_met n 1 (asked_not_met (is_of control_kind (id_of n)) (shows control n) i e)
zero_bit_refused all_frame_mode_kind n i e = not_met n 2 (asked_not_met (is_of all_frame_mode_kind (id_of n)) (shows all_frame_mode n) i e)
zero_bit_refused receiver_lines_kind n i e = not_met n 3 (asked_not_met (is_of receiver_lines_kind (id_of n)) (shows receiver_lines n) i e)
zero_bit_refused shut_down_kind n i e = not_met n 4 (asked_not_met (is_of shut_down_kind (id_of n)) (shows shut_down n) i e)
zero_bit_refused frame_assignment_kind n i e = not_met n 5 (asked_not_met (is_of frame_assignment_kind (id_of n)) (shows frame_assignment n) i e)
zero_bit_refused address_enable_kind n i e = not_met n 6 (asked_not_met (is_of address_enable_kind (id_of n)) (shows address_enable n) i e)
zero_bit_refused user_address_kind n i e = not_met n 7 (asked_not_met (is_of user_address_kind (id_of n)) (shows user_address n) i e)

-- a packet with an ID of a row of IDs that ask for no table may be sent
pub sent_with_any : (first last : ℕ) → T (just_asks (among first last) no_table) → (n : ℕ) → first ≤ id_of n → id_of n ≤ last → may_send n ≡ true
sent_with_any first last t n from to = sent_by_id (among first last) no_table t n (λ h. between first last (id_of n) from to) refl

-- whether each ID of 8 bits from the first to the last of a row is a kind's or one that is never sent
abbrev pub only_of : Kind → ℕ → ℕ → Bool
only_of k first last = all_below (λ id. implies (among first last id) (never_sent id || is_of k id)) 256

-- what is refused may not be sent
refused_not_sent : (sent : Bool) → number_unless refusals.Packet sent ≡ 7 → sent ≡ false
refused_not_sent true e = absurd (omega (arith, e))
refused_not_sent false e = refl

holds : (test : Bool) → T test → test ≡ true
holds true t = refl
holds false t = absurd t

-- a packet with an ID of such a row may be sent exactly if it has the bits that the kind's table prints
pub sent_as_shown : (k : Kind) (first last : ℕ) → T (only_of k first last) → (n : ℕ) → n < 2 ^ 32 → first ≤ id_of n
    → id_of n ≤ last → shows (table_of k) n ≡ may_send n
sent_as_shown k first last t n small from to = by_shown (shows (table_of k) n) refl
  where
    only : (never_sent (id_of n) || is_of k (id_of n)) ≡ true
    only =
        holds
        (never_sent (id_of n) || is_of k (id_of n))
        (rw (between first last (id_of n) from to) at
        (of_all_below (λ id. implies (among first last id) (never_sent id || is_of k id)) 256 t (id_of n) (omega arith)))

    by_shown : (seen : Bool) → shows (table_of k) n ≡ seen → seen ≡ may_send n
    by_shown true e = sym (read_sent k n e)
    by_shown false e =
        sym
        (refused_not_sent
        (may_send n)
        (⊎_elim (named_never n) (λ is. zero_bit_refused k n is e) (either_of (never_sent (id_of n)) (is_of k (id_of n)) only)))

-- whether each ID of 8 bits from the first to the last of a row is never sent
abbrev pub only_never : ℕ → ℕ → Bool
only_never first last = all_below (λ id. implies (among first last id) (never_sent id)) 256

-- a packet with an ID of a row of IDs that are never sent may not be sent
pub not_sent : (first last : ℕ) → T (only_never first last) → (n : ℕ) → n < 2 ^ 32 → first ≤ id_of n → id_of n ≤ last → may_send n ≡ false
not_sent first last t n small from to = refused_not_sent (may_send n) (named_never n never)
  where
    never : never_sent (id_of n) ≡ true
    never =
        holds
        (never_sent (id_of n))
        (rw (between first last (id_of n) from to) at (of_all_below (λ id. implies (among first last id) (never_sent id)) 256 t (id_of n) (omega arith)))
