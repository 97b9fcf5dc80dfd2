-- A page that is sent and handed out, worked; which addresses have the sync or the idle word; and what the premises of the theorem are for.
use Prim.Native.Nat.{ℕ, ◌+◌, ◌*◌, ◌/◌, ◌^◌, ◌<◌}
use mathlib.Core.Bool.{true, false}
use mathlib.Core.List.{List, [], ◌∷◌, ◌++◌, map}
use mathlib.Core.Logic.{◌↔◌}
use mathlib.Core.Path.{◌≡◌, refl, sym, ◌∙◌}
use native.Mathlib.Omega.{arith}
use borrow.Author.Tests.{le-leb}
use lib.ListN.{get_or}
use Rattle.laws.specs.Lists.{all, place_in, first_that}
use Rattle.laws.specs.Numerals.{number, digits}
use Rattle.laws.specs.Texts.{bytes_of}
use Rattle.laws.proofs.Xor.{xor_zero_r}
use Rattle.numeric.specs.Pages.{standard_set}
use Rattle.refusal.specs.Told.{given}
use Rattle.pocsag.specs.declared.Meaning.TheVariants as means
use Rattle.pocsag.specs.Codewords.{flipped, Near}
use Rattle.pocsag.specs.Mending.{mended_of}
use Rattle.pocsag.specs.Batches.{sync_word, idle_word, is_message, turned_row, address_in, meaning_of, page_number, faulty_at, closed_at}
use Rattle.pocsag.specs.Hearing.{closed_page}
use Rattle.pocsag.specs.Runs.{Ended, pages_in}
use Rattle.pocsag.specs.Texts.{text_in}
use Rattle.pocsag.specs.Sender.{address_word, message_word, is_sendable, filled, message_of, batched}
use Rattle.pocsag.specs.Received.{AllNear}
use Rattle.pocsag.proofs.Arrival.{carrying}
use Rattle.pocsag.proofs.CodeLaws.{sent_bits}
use Rattle.pocsag.proofs.CodeExamples.{sync_bits, idle_bits, idle_sent, four_wrong}
use Rattle.pocsag.proofs.Sending.{text_sent}
use Rattle.pocsag.proofs.SentWords.{mended_as, address_framed, word_of}
use Rattle.pocsag.proofs.TextLaws.{message_words}

-- ---- addresses that cannot be called

-- an address and a function have the sync word exactly if they are one of the eight addresses from 2045056 on, with function 2
pub sync_address : (address function : ℕ) → address < 2 ^ 21 → function < 4
    → (address_word address function ≡ sync_word) ↔ ((address / 8 ≡ 255632) × (function ≡ 2))
sync_address address function small two = (
  λ same. parts (word_of address function 0 small two 0xF9A42 (omega arith) (same ∙ sym sync_bits)),
  λ (upper, last). rw (upper, last) sync_bits,
)
  where
    parts : address / 8 * 4 + function ≡ 0xF9A42 → (address / 8 ≡ 255632) × (function ≡ 2)
    parts is = (omega (arith, is), omega (arith, is))

-- and the idle word exactly if they are one of the eight addresses from 2007664 on, with function 0
pub idle_address : (address function : ℕ) → address < 2 ^ 21 → function < 4
    → (address_word address function ≡ idle_word) ↔ ((address / 8 ≡ 250958) × (function ≡ 0))
idle_address address function small two = (
  λ same. parts (word_of address function 0 small two 0xF5138 (omega arith) (same ∙ sym idle_bits)),
  λ (upper, last). rw (upper, last) idle_bits,
)
  where
    parts : address / 8 * 4 + function ≡ 0xF5138 → (address / 8 ≡ 250958) × (function ≡ 0)
    parts is = (omega (arith, is), omega (arith, is))

-- ---- a page

-- a word that comes as it was sent
near_self : (word : ℕ) → Near word word
near_self word =
    record { first = 0; second = 0; first_within = omega arith; second_within = omega arith; received = sym (xor_zero_r word) }

-- words that come as they were sent
all_near : (row : List ℕ) → AllNear row row
all_near [] = tt
all_near (word ∷ row) = (near_self word, all_near row)

-- the text 0417, the zero with it, and its message words
abbrev sample : List ℕ
sample = bytes_of "0417"

-- the sync word alone stands before the batch
sync_near : (k : ℕ) → Near sync_word (get_or [] k sync_word)
sync_near k = near_self sync_word

-- sent to address 1232 with function 0 in frame 0, and ended by the idle word, it is handed out and read as 0417 and a space
pub sample_sent :
    let message = message_of 0 sample in let called = address_word 1232 0 in
    (first : List Ended) × (later : List Ended) × (page : Ended)
    × (pages_in (closed_at 0) (0 ∷ []) (batched [] 0 ([] ++ (called ∷ (map message_word message ++ (idle_word ∷ []))))) ≡ first ++ page ∷ later)
    × (page.page.number ≡ 0) × (page.page.address ≡ 1232) × (page.page.function ≡ 0) × (text_in 0 page.message ≡ filled 0 sample)
unfolding is_sendable all place_in first_that standard_set
sample_sent =
    let message = message_of 0 sample in
    let called = address_word 1232 0 in
    text_sent (closed_at 0) (0 ∷ []) [] [] [] [] 1232 0 0 sample called (map message_word message) idle_word idle_word refl refl
    (record {
      address_small = omega arith;
      function_small = omega arith;
      no_sync = λ same. far ((sync_address 1232 0 (omega arith) (omega arith)).0 same).0;
      no_idle = λ same. far_idle ((idle_address 1232 0 (omega arith) (omega arith)).0 same).0;
      in_frame = refl;
      message_small = (message_words 0 sample).1;
      room = omega (arith, (message_words 0 sample).0);
    })
    (record {
      syncs_near = sync_near;
      traffic_sent = tt;
      traffic_near = tt;
      page_near = all_near (called ∷ map message_word message);
      end_sent = idle_sent;
      end_near = near_self idle_word;
      ends = (λ same. omega (arith, same), refl);
    })
  where
    far : ◌≡◌ {A = ℕ} 154 255632 → ⊥
    far same = omega (arith, same)

    far_idle : ◌≡◌ {A = ℕ} 154 250958 → ⊥
    far_idle same = omega (arith, same)

-- what it is read as: the zero stays, and a space fills the word
pub sample_text : filled 0 sample ≡ bytes_of "0417 "
sample_text = refl

-- ---- what the premises are for, shown of single words and single ends of pages

-- in another frame a word tells another address
pub other_frame : address_in 16 (address_word 1235 0) ≡ 1232
other_frame = address_framed 1235 0 16 (omega arith) (omega arith)

-- with more than two wrong code bits another word may be read than was sent
pub other_word : mended_of (flipped 1 2 (flipped 3 4 sync_word)) ≡ given (0x749215C6 ∷ 2 ∷ [])
other_word = four_wrong

-- a page that has a word beyond repair in it ends with 25, one whose end is not heard with 26, one without room with 15
pub not_handed_out :
    (page_number true 9 (faulty_at 5 25 (carrying 5 1232 0 1 0)) ≡ 25) × ((closed_page (carrying 5 1232 0 1 0)).number ≡ 26)
    × (page_number false 9 (carrying 0 1232 0 1 0) ≡ 26) × (page_number true 0 (carrying 5 1232 0 1 0) ≡ 15)
not_handed_out = (refl, refl, refl, refl)

-- a sync word within a batch breaks it off, so that no word before the page may be read as one, and the first must come where a sync word must
pub early_sync : meaning_of 5 (mended_as sync_word 0) ≡ means.SyncEarly
unfolding meaning_of
early_sync = refl

-- an address of more than twenty-one bits has the word of a message, and a function over 3 is another address's word
pub too_large : (is_message (address_word 2097152 0) ≡ true) × (address_word 0 4 ≡ address_word 8 0)
too_large = (le-leb (2 ^ 31) (address_word 2097152 0) (omega (arith, sent_bits (2 ^ 20) (omega arith))), refl)

-- message bits over twenty are lost
pub bits_lost : message_word (2 ^ 20) ≡ message_word 0
unfolding turned_row digits number
bits_lost = refl

-- a character that is not in the set is read as others
pub not_in_the_set : text_in 0 (message_of 0 (bytes_of "A")) ≡ bytes_of "0-   "
unfolding text_in message_of place_in first_that standard_set digits number
not_in_the_set = refl
