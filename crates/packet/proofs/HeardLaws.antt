-- What document 01 promises of the packets that the decoder sends: nothing that a table names is lost in reading. A
-- packet is laid out again from what was read of it, up to the bits that are not looked at.
use Prim.Native.Nat.{ℕ, ◌+◌, ◌^◌, ◌≤◌, ◌<◌}
use mathlib.Core.Bool.{Bool, true, false, ◌&&◌, ◌||◌, or-true}
use mathlib.Core.List.{List, [], ◌∷◌}
use mathlib.Core.Logic.{⊎_elim}
use mathlib.Core.Path.{◌≡◌, refl, ap, sym, ◌∙◌}
use native.Mathlib.Omega.{arith}
use borrow.Author.Tests.{eq-eqb, eqb-true, leb-true, leb-false, le-leb, lt-leb}
use lib.Bits.{bit_and}
use lib.Dec.{T, leb, eqb}
use lib.ListN.{get_or}
use Rattle.laws.specs.Choice.{pick}
use Rattle.laws.specs.Layouts.{Layout, fields_of, bits_at, mask_of, is_read, shows, fit, packed}
use Rattle.laws.proofs.Layouts.{laid, packed_lt, packed_read, packed_read_whole, read_packed, shown_bits, shows_packed, shows_each}
use Rattle.laws.proofs.Tests.{first_of, either_of}
use Rattle.refusal.specs.Told.{number_unless, kept}
use Rattle.refusal.specs.declared.Refusal.TheVariants as refusals
use Rattle.packet.specs.Names.{id_of, among, first_message_id, last_word_id}
use Rattle.packet.specs.Tables.{part_id}
use Rattle.packet.specs.Fields.{built_by, number_by, fields_by, of_part_id, as_part_id}
use Rattle.packet.specs.declared.PartId.{PartId}
use Rattle.packet.proofs.Laws.{read_built, built_read, top_clear, at_most}
use Rattle.packet.specs.HeardTables.{status, address, message}
use Rattle.packet.specs.Heard.{part_id_read, as_status, status_read, is_index, address_number, as_address}
use Rattle.packet.specs.Heard.{address_right, address_numbered, address_refusal, address_read, as_message, is_message}
use Rattle.packet.specs.Heard.{message_read}
use Rattle.packet.specs.declared.heard.PartIdRead.{PartIdRead}
use Rattle.packet.specs.declared.heard.Status.{Status}
use Rattle.packet.specs.declared.heard.StatusRead.{StatusRead}
use Rattle.packet.specs.declared.heard.Address.{Address}
use Rattle.packet.specs.declared.heard.AddressRead.{AddressRead}
use Rattle.packet.specs.declared.heard.Message.{Message}
use Rattle.packet.specs.declared.heard.MessageRead.{MessageRead}

-- ---- part ID, the only packet of the decoder that is also built (Table 8)

pub part_id_there_and_back : (f : PartId) → fit part_id (of_part_id f) ≡ true
    → part_id_read (built_by part_id (of_part_id f)).packet.bits ≡ record { number = 0; fields = f }
part_id_there_and_back f = read_built {Answer = PartIdRead} (λ number v. record { number = number; fields = as_part_id v }) part_id (of_part_id f) tt

pub part_id_back_and_there : (n : ℕ) → n < 2 ^ 32 → shows part_id n ≡ true
    → built_by part_id (of_part_id (part_id_read n).fields) ≡ record { number = 0; packet = record { bits = n } }
part_id_back_and_there n h e = built_read part_id n tt h e refl

-- ---- status (Table 12)

-- the fields in the table's order
abbrev pub of_status : Status → List ℕ
of_status s =
    s.frame_valid ∷ s.frame ∷ s.synchronous ∷ s.low_battery ∷ s.cycle ∷ s.synchronous_update
    ∷ s.low_battery_update ∷ s.minute ∷ s.end_of_frame ∷ s.overflow ∷ []

-- whatever is told of number and fields, a packet laid out by a table is told as 0 and its own fields
read_laid : {Answer : Type 0} (tell : ℕ → List ℕ → Answer) (row : Layout) (values : List ℕ) → T (laid row)
    → fit row values ≡ true
    → tell (number_by row (packed row values)) (fields_by row (packed row values)) ≡ tell 0 values
read_laid tell row values t e = rw (shows_packed row values t e, read_packed row values t e)

-- a status laid out from its fields is read as these fields
pub status_there_and_back : (s : Status) → fit status (of_status s) ≡ true → status_read (packed status (of_status s)) ≡ record { number = 0; fields = s }
status_there_and_back s = read_laid {Answer = StatusRead} (λ number v. record { number = number; fields = as_status v }) status (of_status s) tt

-- a row laid out again from what was read of it, where it was read
laid_again : (row : Layout) (n : ℕ) → T (laid row) → shows row n ≡ true → packed row (fields_by row n) ≡ bit_and n (mask_of is_read row)
laid_again row n t e = rw e (packed_read row n t e)

-- a status that was read is laid out again, up to its x bits
pub status_back_and_there : (n : ℕ) → shows status n ≡ true → packed status (of_status (status_read n).fields) ≡ bit_and n (mask_of is_read status)
status_back_and_there n e = laid_again status n tt e

-- ---- message (Table 40)

abbrev pub of_message : Message → List ℕ
of_message m = m.word ∷ m.damaged ∷ m.phase ∷ m.bits ∷ []

-- a message word that was read is laid out again
pub message_back_and_there : (n : ℕ) → n < 2 ^ 32 → is_message n ≡ true → packed message (of_message (message_read n).fields) ≡ n
message_back_and_there n h e =
    let clear = top_clear n (at_most first_message_id last_word_id (id_of n) e) in
    let shown : shows message n ≡ true = shows_each message n tt ∙ rw (eq-eqb (bits_at 31 1 n) 0 clear) refl in
    rw e (packed_read_whole message n tt h shown refl)

-- what is told of a message packet, by a row of any layout
told_message : (row : Layout) (good : Bool) (n : ℕ) (v : List ℕ) → good ≡ true → fields_of row n ≡ v
    → ◌≡◌ {A = MessageRead} (record {
      number = number_unless refusals.Packet good;
      fields = as_message (fields_of row (kept good n));
    }) (record { number = 0; fields = as_message v })
told_message row good n v g f = rw (g, f)

-- the ID of a packet whose top bit is 0 is the number in its next seven bits
word_id : (n : ℕ) → n < 2 ^ 32 → bits_at 31 1 n ≡ 0 → id_of n ≡ bits_at 24 7 n
word_id n h clear = omega arith

-- a message word laid out from its fields is read as these fields
pub message_there_and_back : (m : Message) → fit message (of_message m) ≡ true
    → among first_message_id last_word_id m.word ≡ true
    → message_read (packed message (of_message m)) ≡ record { number = 0; fields = m }
message_there_and_back m e among-words =
    told_message message (is_message n) n (of_message m) (ap (among first_message_id last_word_id) id ∙ among-words) found
  where
    n : ℕ
    n = packed message (of_message m)

    found : fields_of message n ≡ of_message m
    found = read_packed message (of_message m) tt e

    id : id_of n ≡ m.word
    id =
        word_id n (packed_lt message (of_message m) tt e) (shown_bits message n tt (shows_packed message (of_message m) tt e)).0
        ∙ ap (λ (v : List ℕ). get_or v 0 0) found

-- ---- address (Table 30)

-- the index of an address number, 0 to 31
abbrev pub index_of : ℕ → ℕ
index_of number = pick (leb number 15) number (number + 0x70)

abbrev pub of_address : Address → List ℕ
of_address a = a.priority ∷ a.phase ∷ a.long_address ∷ index_of a.address ∷ a.tone_only ∷ a.vector ∷ []

-- an index gives its number, and the number its index
index_back : (index : ℕ) → is_index index ≡ true → index_of (address_number index) ≡ index
index_back index e =
    ⊎_elim
    (λ low. let h = leb-true index 0x0F low in rw (le-leb (address_number index) 15 (omega arith)) (omega arith))
    (λ high. let h = leb-true 0x80 index
    (first_of (leb 0x80 index) (leb index 0x8F) high) in let k = at_most 0x80 0x8F index high in rw
    (lt-leb (address_number index) 15 (omega arith)) (omega arith))
    (either_of (leb index 0x0F) (among 0x80 0x8F index) e)

index-there : (number : ℕ) → number ≤ 31 → address_number (index_of number) ≡ number
index-there number h = by_half (leb number 15) refl
  where
    by_half : (low : Bool) → leb number 15 ≡ low → address_number (index_of number) ≡ number
    by_half true low = let k = leb-true number 15 low in rw low (omega arith)
    by_half false high = let k = leb-false number 15 high in rw high (omega arith)

-- the index of an address number is one that the decoder sends
index-valid : (number : ℕ) → number ≤ 31 → is_index (index_of number) ≡ true
index-valid number h = by_half (leb number 15) refl
  where
    by_half : (low : Bool) → leb number 15 ≡ low → is_index (index_of number) ≡ true
    by_half true low = rw (low, low)
    by_half false high =
        let k = leb-false number 15 high in
        rw (high, lt-leb (number + 0x70) 0x0F (omega arith), le-leb 0x80 (number + 0x70) (omega arith), le-leb (number + 0x70) 0x8F (omega arith))

-- an address packet that was read, and is not tone-only, is laid out again, up to its x bits
pub address_back_and_there : (n : ℕ) → address_right n ≡ true → address_numbered n ≡ true → bits_at 7 1 n ≡ 0
    → packed address (of_address (address_read n).fields) ≡ bit_and n (mask_of is_read address)
address_back_and_there n right numbered spoken =
    let shown = first_of (shows address n) (eqb (bits_at 7 1 n) 1 || leb (bits_at 0 7 n) 87) right in
    rw (right, numbered, index_back (bits_at 8 8 n) numbered, spoken) (ap (packed address) (same n spoken) ∙ packed_read address n tt shown)
  where
    same : (n : ℕ) → bits_at 7 1 n ≡ 0 → bits_at 23 1 n ∷ bits_at 21 2 n ∷ bits_at 20 1 n ∷ bits_at 8 8 n ∷ 0 ∷ bits_at 0 7 n ∷ [] ≡ fields_of address n
    same n spoken = ap (λ (t : ℕ). bits_at 23 1 n ∷ bits_at 21 2 n ∷ bits_at 20 1 n ∷ bits_at 8 8 n ∷ t ∷ bits_at 0 7 n ∷ []) (sym spoken)

-- an address packet's answer where both tests are known, by a row of any layout
abbrev address_told : Bool → Bool → Layout → ℕ → AddressRead
address_told right numbered row n = record { number = address_refusal right numbered; fields = as_address (fields_of row (kept (right && numbered) n)) }

-- an address packet is told as 0 and its fields where both tests hold
told_address : (row : Layout) (n : ℕ) (v : List ℕ) → shows row n ≡ true → fields_of row n ≡ v
    → (eqb (get_or v 4 0) 1 || leb (get_or v 5 0) 87) ≡ true → is_index (get_or v 3 0) ≡ true
    → ◌≡◌ {A = AddressRead}
    (address_told (shows row n && (eqb (get_or (fields_of row n) 4 0) 1 || leb (get_or (fields_of row n) 5 0) 87)) (is_index (get_or (fields_of row n) 3 0)) row n)
    (record { number = 0; fields = as_address v })
told_address row n v shown found right numbered = rw (shown, found, right, numbered, found)

-- the fields of an address packet as the address that they are read as
same_address : (a : Address) → a.address ≤ 31 → (a.tone_only ≡ 1 → a.vector ≡ 0) → as_address (of_address a) ≡ a
same_address a h tone =
    rw (index-there a.address h) (ap (λ (v : ℕ). record {
      priority = a.priority;
      phase = a.phase;
      long_address = a.long_address;
      address = a.address;
      tone_only = a.tone_only;
      vector = v;
    }) (by_tone (eqb a.tone_only 1) refl))
  where
    by_tone : (only : Bool) → eqb a.tone_only 1 ≡ only → pick (eqb a.tone_only 1) 0 a.vector ≡ a.vector
    by_tone true only = rw only (sym (tone (eqb-true a.tone_only 1 only)))
    by_tone false other = rw other

-- an address packet laid out from its fields is read as these fields
pub address_there_and_back : (a : Address) → fit address (of_address a) ≡ true → a.address ≤ 31 → a.vector ≤ 87
    → (a.tone_only ≡ 1 → a.vector ≡ 0)
    → address_read (packed address (of_address a)) ≡ record { number = 0; fields = a }
address_there_and_back a e h small tone =
    told_address address (packed address (of_address a)) (of_address a) (shows_packed address (of_address a) tt e)
    (read_packed address (of_address a) tt e) (rw (le-leb a.vector 87 small) (or-true (eqb a.tone_only 1)))
    (index-valid a.address h)
    ∙ ap (λ (f : Address). record { number = 0; fields = f }) (same_address a h tone)
