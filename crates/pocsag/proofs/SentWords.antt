-- Sent words read: what the sender puts into an address word or a message word, the reader finds there.
use Prim.Native.Nat.{ℕ, ◌+◌, ◌*◌, ◌/◌, ◌%◌, ◌^◌, ◌≤◌, ◌<◌}
use mathlib.Core.Bool.{true, false}
use mathlib.Core.Path.{◌≡◌, refl, sym, ap, ◌∙◌}
use native.Mathlib.Omega.{arith}
use borrow.Author.Tests.{ne_eqb, le-leb, lt-leb, le-ltb, leb-true}
use lib.Pow.{shr-shr}
use Rattle.pocsag.specs.Mending.{MendedTold}
use Rattle.pocsag.specs.declared.Meaning.TheVariants as means
use Rattle.pocsag.specs.Codewords.{sent_word}
use Rattle.pocsag.specs.Batches.{sync_word, idle_word, is_message, turned, message_in, function_in, frame_of, address_in, awaits_sync, in_batch, meaning_of}
use Rattle.pocsag.specs.Sender.{address_word, message_word}
use Rattle.pocsag.proofs.CodeLaws.{sent_bits}
use Rattle.pocsag.proofs.Turning.{turned_small, turned_twice}

-- ---- what stands in a word

module _ (address function left : ℕ) (small : address < 2 ^ 21) (two : function < 4) where
  -- the twenty-one bits of an address word
  address_bits : address_word address function / 2 ^ 11 ≡ address / 8 * 4 + function
  address_bits = sent_bits (address / 8 * 4 + function) (omega arith)

  -- its highest bit is 0
  pub address_first : is_message (address_word address function) ≡ false
  address_first = lt-leb (2 ^ 31) (address_word address function) (omega (arith, address_bits))

  -- it has the function
  pub function_read : function_in (address_word address function) ≡ function
  function_read = ap (λ (n : ℕ). n % 4) address_bits ∙ omega arith

  -- it has the upper bits of the address, and the lowest three are those of the frame in which it stands, whichever that is
  pub address_framed : address_in left (address_word address function) ≡ address / 8 * 8 + frame_of left
  address_framed =
      let upper : address_word address function / 2 ^ 13 ≡ address / 8 = sym (shr-shr (address_word address function) 11 2) ∙ rw address_bits (omega arith) in
      rw upper (omega arith)

  -- in the frame of the address's lowest three bits it has the address
  pub address_read : frame_of left ≡ address % 8 → address_in left (address_word address function) ≡ address
  address_read frame = address_framed ∙ rw frame (omega arith)

  -- the word of which addresses is the word of twenty-one bits
  pub word_of : (bits : ℕ) → bits < 2 ^ 21 → address_word address function ≡ sent_word bits → address / 8 * 4 + function ≡ bits
  word_of bits few same = sym address_bits ∙ ap (λ (n : ℕ). n / 2 ^ 11) same ∙ sent_bits bits few

module _ (bits : ℕ) (small : bits < 2 ^ 20) where
  -- the twenty-one bits of a message word
  message_bits : message_word bits / 2 ^ 11 ≡ 2 ^ 20 + turned bits
  message_bits = sent_bits (2 ^ 20 + turned bits) (omega (arith, turned_small bits))

  -- its highest bit is 1
  pub message_first : is_message (message_word bits) ≡ true
  message_first = le-leb (2 ^ 31) (message_word bits) (omega (arith, message_bits))

  -- it has the message bits
  pub message_read : message_in (message_word bits) ≡ bits
  message_read =
      let own : message_word bits / 2 ^ 11 % 2 ^ 20 ≡ turned bits = rw message_bits (omega (arith, turned_small bits)) in
      ap turned own ∙ turned_twice bits small

-- ---- what a word means at its place

-- a word as it was mended, with so many bits changed
abbrev pub mended_as : ℕ → ℕ → MendedTold
mended_as word bits = record { number = 0; word = word; bits = bits }

-- no word of a batch is still to come: the sync word
pub sync_means : (bits : ℕ) → meaning_of 0 (mended_as sync_word bits) ≡ means.Sync
unfolding meaning_of
sync_means bits = refl

module _ (left : ℕ) (some : 1 ≤ left) (most : left ≤ 16) where
  -- so many words of a batch are still to come
  within : awaits_sync left ≡ false
  within = rw (ne_eqb left 0 (λ e. omega (arith, e)), le-ltb 16 left most)

  -- a word is then one of a batch
  pub means_in_batch : (m : MendedTold) → meaning_of left m ≡ in_batch left m
  unfolding meaning_of
  means_in_batch m = rw within

  -- a message word
  pub message_means : (bits n : ℕ) → bits < 2 ^ 20 → meaning_of left (mended_as (message_word bits) n) ≡ means.Message bits
  message_means bits n small =
      let large : 2 ^ 31 ≤ message_word bits = leb-true (2 ^ 31) (message_word bits) (message_first bits small) in
      means_in_batch (mended_as (message_word bits) n)
      ∙ rw (
        ne_eqb (message_word bits) sync_word (λ e. omega (arith, e, large)),
        ne_eqb (message_word bits) idle_word (λ e. omega (arith, e, large)),
        message_first bits small,
        message_read bits small,
      )

  -- an address word that is neither the sync nor the idle word
  pub address_means : (address function n : ℕ) → address < 2 ^ 21 → function < 4 → frame_of left ≡ address % 8
      → (address_word address function ≡ sync_word → ⊥) → (address_word address function ≡ idle_word → ⊥)
      → meaning_of left (mended_as (address_word address function) n) ≡ means.Address address function
  address_means address function n small two frame no_sync no_idle =
      means_in_batch (mended_as (address_word address function) n)
      ∙ rw (
        ne_eqb (address_word address function) sync_word no_sync,
        ne_eqb (address_word address function) idle_word no_idle,
        address_first address function left small two,
        address_read address function left small two frame,
        function_read address function left small two,
      )
