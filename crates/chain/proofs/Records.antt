-- What a sound row is (document 01's table, 2), slot by slot, exactly as listed there; and where a key's chain stands in one.
use Prim.Native.Nat.{ℕ, zero, suc, ◌+◌, ◌≤◌, ◌<◌}
use mathlib.Core.Bool.{true, false, not, ◌&&◌, false≢true}
use mathlib.Core.List.{List, [], ◌∷◌}
use mathlib.Core.Logic.{◌↔◌, ⊎_elim}
use mathlib.Core.Path.{◌≡◌, refl}
use native.Mathlib.Nat.{eq-or-lt_of_le}
use native.Mathlib.Numerals.{add-one}
use native.Mathlib.Omega.{arith}
use borrow.Author.Tests.{eq-eqb, eqb-true, le-leb, leb-true, ltb-true, ltb-false, not-true, not-false}
use lib.Dec.{leb, ltb, eqb}
use lib.ListN.{length, get_or, drop, drop_of_length-le, get_or-eq_default}
use lib.Seq.{drop-cons}
use Rattle.laws.proofs.Searches.{first_passes, found_by, is_found, found_passes, is_none, none_at}
use Rattle.laws.proofs.Tests.{decided, not_both, first_of, second_of, each_of_five}
use Rattle.chain.specs.declared.Chain.{Chain}
use Rattle.chain.specs.Chains.{blank, is_open, is_address, is_message, in_limits, is_blank, is_sound, is_of, find, holds, sound, fresh}

-- ---- one slot

-- 01's table, 2: the limits of an open chain
pub record Limits (c : Chain) : Type 0 where
  pub of_address : c.address ≤ 31
  pub of_message : c.message_number ≤ 63
  pub of_next : c.next_fragment ≤ 2
  pub of_sum : c.sum ≤ 127
  pub of_characters : c.characters ≤ 1008

-- what a slot's record is: an open one within its limits, a closed one all zero
pub record Slot (c : Chain) : Type 0 where
  pub opened : is_open c ≡ true → Limits c
  pub closed : is_open c ≡ false → c ≡ blank

-- a record that is all zero is a slot's
pub blank_slot : Slot blank
blank_slot = record { opened = λ is. absurd (false≢true is); closed = λ shut. refl }

module _ (c : Chain) where
  -- the limits of an open chain, as they are tested
  pub limits : in_limits c ≡ true → Limits c
  limits e =
      let each =
      each_of_five (is_address c.address) (is_message c.message_number) (leb c.next_fragment 2) (leb c.sum 127) (leb c.characters 1008) e in
      record {
        of_address = leb-true c.address 31 each.0;
        of_message = leb-true c.message_number 63 each.1;
        of_next = leb-true c.next_fragment 2 each.2;
        of_sum = leb-true c.sum 127 each.3;
        of_characters = leb-true c.characters 1008 each.4;
      }

  -- a record within its limits passes the test of them
  pub in_limits_lem : Limits c → in_limits c ≡ true
  in_limits_lem l =
      rw (
        le-leb c.address 31 l.of_address,
        le-leb c.message_number 63 l.of_message,
        le-leb c.next_fragment 2 l.of_next,
        le-leb c.sum 127 l.of_sum,
        le-leb c.characters 1008 l.of_characters,
      )

  -- a closed slot whose other numbers are 0 is all zero
  pub all_zero : is_open c ≡ false → is_blank c ≡ true → c ≡ blank
  all_zero shut e =
      let each = each_of_five (eqb c.address 0) (eqb c.message_number 0) (eqb c.next_fragment 0) (eqb c.sum 0) (eqb c.characters 0) e in
      let first = eqb-true c.is_open 0 (not-false (eqb c.is_open 0) shut) in
      let address = eqb-true c.address 0 each.0 in
      let message = eqb-true c.message_number 0 each.1 in
      let next = eqb-true c.next_fragment 0 each.2 in
      let sum = eqb-true c.sum 0 each.3 in
      let characters = eqb-true c.characters 0 each.4 in
      λ i. record { is_open = first i; address = address i; message_number = message i; next_fragment = next i; sum = sum i; characters = characters i }

  -- a slot is sound exactly if its record is as 01 has it
  pub slot_sound : (is_sound c ≡ true) ↔ Slot c
  slot_sound = (there, back)
    where
      there : is_sound c ≡ true → Slot c
      there e =
          record {
            opened = λ is. limits (rw is at e);
            closed = λ shut. all_zero shut (rw shut at e);
          }

      back : Slot c → is_sound c ≡ true
      back s = ⊎_elim (λ is. rw is (in_limits_lem (s.opened is))) (λ shut. rw (s.closed shut)) (decided (is_open c))

-- ---- a key

-- what it is to be the open chain of a key
pub record Key (address n : ℕ) (c : Chain) : Type 0 where
  pub opened : is_open c ≡ true
  pub same_address : c.address ≡ address
  pub same_message : c.message_number ≡ n

-- a slot has the open chain of a key exactly if it is tested so
pub is_of_lem : (address n : ℕ) (c : Chain) → (is_of address n c ≡ true) ↔ Key address n c
is_of_lem address n c = (there, back)
  where
    there : is_of address n c ≡ true → Key address n c
    there e =
        let two = first_of (is_open c && eqb c.address address) (eqb c.message_number n) e in
        record {
          opened = first_of (is_open c) (eqb c.address address) two;
          same_address = eqb-true c.address address (second_of (is_open c) (eqb c.address address) two);
          same_message = eqb-true c.message_number n (second_of (is_open c && eqb c.address address) (eqb c.message_number n) e);
        }

    back : Key address n c → is_of address n c ≡ true
    back k = rw (k.opened, eq-eqb c.address address k.same_address, eq-eqb c.message_number n k.same_message)

-- a closed slot is of no key
pub closed_of_none : (address n : ℕ) (c : Chain) → is_open c ≡ false → is_of address n c ≡ false
closed_of_none address n c shut = rw shut

-- an open chain is of its own key
pub of_own : (c : Chain) → is_open c ≡ true → is_of c.address c.message_number c ≡ true
of_own c is = (is_of_lem c.address c.message_number c).1 (record { opened = is; same_address = refl; same_message = refl })

-- a slot of the row, and not one past it, can be open
pub open_within : (row : List Chain) (i : ℕ) → is_open (get_or row i blank) ≡ true → i < length row
open_within row i is =
    ⊎_elim (λ within. ltb-true i (length row) within)
    (λ out. absurd (not_both (is_open (get_or row i blank)) is (rw (get_or-eq_default row blank (ltb-false i (length row) out)))))
    (decided (ltb i (length row)))

module _ (address n : ℕ) (row : List Chain) where
  -- a key has an open chain exactly if a slot has it
  pub holds_at : (i : ℕ) → is_of address n (get_or row i blank) ≡ true → holds address n row ≡ true
  holds_at i is = is_found (is_of address n) row blank i (open_within row i ((is_of_lem address n (get_or row i blank)).0 is).opened) is

  -- where a key has an open chain, it is the one that is found
  pub held : holds address n row ≡ true → (find address n row < length row) × (is_of address n (get_or row (find address n row) blank) ≡ true)
  held = found_passes (is_of address n) row blank

  -- where a key has no open chain, no slot has it
  pub none_held : holds address n row ≡ false → (i : ℕ) → is_of address n (get_or row i blank) ≡ false
  none_held none i = ⊎_elim (λ is. absurd (not_both (holds address n row) (holds_at i is) none)) (λ other. other) (decided (is_of address n (get_or row i blank)))

  -- where a key has no open chain, what is found is the row's length
  pub not_found : holds address n row ≡ false → find address n row ≡ length row
  not_found = none_at (is_of address n) row

  -- where no slot has a key's open chain, the key has none
  pub none_holds : ((i : ℕ) → i < length row → is_of address n (get_or row i blank) ≡ false) → holds address n row ≡ false
  none_holds = is_none (is_of address n) row blank

-- ---- a row

-- no two open chains are of one key
abbrev pub Apart : List Chain → Type 0
Apart row =
    (i j : ℕ) → i < j → j < length row → is_open (get_or row i blank) ≡ true
    → is_of (get_or row i blank).address (get_or row i blank).message_number (get_or row j blank) ≡ false

-- 01's table, 2: what a row is that is not refused
pub record Sound (row : List Chain) : Type 0 where
  pub slots : (i : ℕ) → i < length row → Slot (get_or row i blank)
  pub apart : Apart row

-- a row that is sound is as 01 has it
sound_says : (row : List Chain) → sound row ≡ true → Sound row
unfolding sound
sound_says [] e = record { slots = λ i within. absurd (omega arith); apart = λ i j before within. absurd (omega arith) }
sound_says (c ∷ row) e =
    let again = is_open c && holds c.address c.message_number row in
    let front = first_of (is_sound c && not again) (sound row) e in
    let rest = sound_says row (second_of (is_sound c && not again) (sound row) e) in
    record {
      slots = at_each ((slot_sound c).0 (first_of (is_sound c) (not again) front)) rest;
      apart = apart_each (not-true again (second_of (is_sound c) (not again) front)) rest;
    }
  where
    at_each : Slot c → Sound row → (i : ℕ) → i < suc (length row) → Slot (get_or (c ∷ row) i blank)
    at_each here rest zero within = here
    at_each here rest (suc i) within = rest.slots i (omega arith)

    apart_each : (is_open c && holds c.address c.message_number row) ≡ false → Sound row → Apart (c ∷ row)
    apart_each none rest i zero before within is = absurd (omega arith)
    apart_each none rest zero (suc j) before within is = none_held c.address c.message_number row (rw is at none) j
    apart_each none rest (suc i) (suc j) before within is = rest.apart i j (omega arith) (omega arith) is

-- a row whose slots are sound, and of which no two open chains are of one key, is sound
says_sound : (row : List Chain) → Sound row → sound row ≡ true
unfolding sound
says_sound [] s = refl
says_sound (c ∷ row) s =
    let rest =
    says_sound row (record {
      slots = λ i within. s.slots (suc i) (omega arith);
      apart = λ i j before within is. s.apart (suc i) (suc j) (omega arith) (omega arith) is;
    }) in
    rw ((slot_sound c).1 (s.slots 0 (omega arith)), no_other s.apart, rest)
  where
    no_other : Apart (c ∷ row) → (is_open c && holds c.address c.message_number row) ≡ false
    no_other apart =
        ⊎_elim
        (λ is. rw is (none_holds c.address c.message_number row (λ j within. apart 0 (suc j) (omega arith) (omega arith) is)))
        (λ shut. rw shut)
        (decided (is_open c))

-- a row is sound exactly if it is as 01 has it, with no rule more
pub sound_row : (row : List Chain) → (sound row ≡ true) ↔ Sound row
sound_row row = (sound_says row, says_sound row)

-- fresh chains are sound
pub fresh_sound : (count : ℕ) → sound (fresh count) ≡ true
unfolding sound
fresh_sound zero = refl
fresh_sound (suc count) = fresh_sound count

module _ (row : List Chain) (good : sound row ≡ true) where
  -- the record at any place, one past the row too: it is within its limits where it is open
  pub open_limits : (i : ℕ) → is_open (get_or row i blank) ≡ true → Limits (get_or row i blank)
  open_limits i is = (((sound_row row).0 good).slots i (open_within row i is)).opened is

  -- a closed record at any place is all zero
  pub closed_blank : (i : ℕ) → is_open (get_or row i blank) ≡ false → get_or row i blank ≡ blank
  closed_blank i shut =
      ⊎_elim
      (λ within. (((sound_row row).0 good).slots i (ltb-true i (length row) within)).closed shut)
      (λ out. get_or-eq_default row blank (ltb-false i (length row) out))
      (decided (ltb i (length row)))

  -- a key's open chain stands at one slot only, and is found there
  pub found_at : (address n i : ℕ) → is_of address n (get_or row i blank) ≡ true → find address n row ≡ i
  found_at address n i is =
      let within = open_within row i ((is_of_lem address n (get_or row i blank)).0 is).opened in
      ⊎_elim (λ same. same) (λ before. absurd (two-of-one before within)) (eq-or-lt_of_le (found_by (is_of address n) row blank i within is))
    where
      two-of-one : find address n row < i → i < length row → ⊥
      two-of-one before within =
          let first = first_passes (is_of address n) row blank (omega arith) in
          let key = (is_of_lem address n (get_or row (find address n row) blank)).0 first in
          let other = ((sound_row row).0 good).apart (find address n row) i before within key.opened in
          not_both (is_of address n (get_or row i blank)) is (rw (key.same_address, key.same_message) at other)

-- ---- slot by slot

module _ (row : List Chain) (i : ℕ) where
  -- whether the row from a slot on is sound: the slot is, no slot after it is of its key, and those after it are
  pub sound_from : i < length row
      → let c = get_or row i blank in
      sound (drop i row) ≡ (is_sound c && not (is_open c && holds c.address c.message_number (drop (i + 1) row)) && sound (drop (i + 1) row))
  unfolding sound
  sound_from within = rw (add-one, drop-cons row i blank within)

  -- at the end nothing is left to ask
  pub sound_end : length row ≤ i → sound (drop i row) ≡ true
  unfolding sound
  sound_end done = rw (drop_of_length-le row done)
