-- 02, item 5: a page that is sent by the code's rules is handed out with the sender's address, function bits and text.
use Prim.Native.Nat.{ℕ, ◌+◌, ◌*◌, ◌/◌, ◌^◌}
use mathlib.Core.Bool.{true}
use mathlib.Core.List.{List, [], ◌∷◌, ◌++◌, map}
use mathlib.Core.Path.{◌≡◌, refl, sym, ap, ◌∙◌}
use native.Mathlib.Omega.{arith}
use lib.Bits.{bit_xor}
use lib.Count.{ones}
use lib.Dec.{ltb}
use lib.ListN.{length, get_or}
use Rattle.laws.specs.Lists.{all}
use Rattle.laws.specs.Numerals.{are_digits}
use Rattle.laws.proofs.Tests.{second_of}
use Rattle.refusal.specs.Told.{value_told}
use Rattle.pocsag.specs.declared.PocsagReader.{PocsagReader}
use Rattle.pocsag.specs.Codewords.{is_sent, Near}
use Rattle.pocsag.specs.Mending.{mended_of}
use Rattle.pocsag.specs.Batches.{sync_word, turned}
use Rattle.pocsag.specs.Runs.{Ended, pages_in}
use Rattle.pocsag.specs.Texts.{text_in}
use Rattle.pocsag.specs.Sender.{address_word, message_word, page_words, is_sendable, filled, message_of, batched}
use Rattle.pocsag.specs.Received.{AllNear, Traffic}
use Rattle.pocsag.proofs.Arrival.{Reads, Other, Others, Carried, Ends, mended_in, handed_out, Sent, page_arrives}
use Rattle.pocsag.proofs.CodeLaws.{sent_word_lem, mended_sent}
use Rattle.pocsag.proofs.CodeExamples.{sync_sent}
use Rattle.pocsag.proofs.TextLaws.{sent-read}
use Rattle.pocsag.proofs.Turning.{turned_small}

-- a sent word that comes with at most two wrong code bits is read as it was sent
near_reads : (sent word : ℕ) → is_sent sent ≡ true → Near sent word → Reads sent word
near_reads sent word good near = record { bits = ones (bit_xor sent word); mended = mended_sent sent word good near }

-- one that is not the sync word is not read as the sync word
near_other : (sent word : ℕ) → is_sent sent ≡ true → (sent ≡ sync_word → ⊥) → Near sent word → Other word
near_other sent word good no_sync near whole is = no_sync (sym (ap (λ t. value_told t 0) (mended_sent sent word good near)) ∙ is)

-- traffic is other words
traffic_others : (row words : List ℕ) → Traffic row → AllNear row words → Others words
traffic_others [] [] so near = tt
traffic_others (sent ∷ row) (word ∷ words) (good, no_sync, so) (near, others) =
    (near_other sent word good no_sync near, traffic_others row words so others)
traffic_others [] (word ∷ words) so near = absurd near
traffic_others (sent ∷ row) [] so near = absurd near

-- the message words of a page are carried
message_carried : (message words : List ℕ) → are_digits (2 ^ 20) message ≡ true → AllNear (map message_word message) words → Carried message words
unfolding all
message_carried [] [] small near = tt
message_carried (bits ∷ message) (word ∷ words) small (near, others) = (
  near_reads (message_word bits) word (sent_word_lem (2 ^ 20 + turned bits) (omega (arith, turned_small bits))) near,
  message_carried message words (second_of (ltb bits (2 ^ 20)) (are_digits (2 ^ 20) message) small) others,
)
message_carried [] (word ∷ words) small near = absurd near
message_carried (bits ∷ message) [] small near = absurd near

-- sync words that come with at most two wrong code bits
abbrev pub SyncsNear : List ℕ → Type 0
SyncsNear syncs = (k : ℕ) → Near sync_word (get_or syncs k sync_word)

module _ (r : PocsagReader) (lent syncs traffic before more : List ℕ) (address function : ℕ) (message : List ℕ)
    (called : ℕ) (received : List ℕ) (last sent : ℕ) where
  -- what comes through the air: the sync words, the traffic before the page, the page's words and the word that ends it, each with at most two wrong code
  -- bits. What comes after that may be anything
  pub record Comes : Type 0 where
    pub syncs_near : SyncsNear syncs
    pub traffic_sent : Traffic traffic
    pub traffic_near : AllNear traffic before
    pub page_near : AllNear (page_words address function message) (called ∷ received)
    pub end_sent : is_sent sent ≡ true
    pub end_near : Near sent last
    pub ends : Ends sent

  -- such a page is handed out, with its message words
  pub page_sent : r.left ≡ 0 → Sent r lent syncs before more address function message called received last sent → Comes
      → (first : List Ended) × (later : List Ended)
      × (pages_in r lent (batched syncs 0 (before ++ (called ∷ (received ++ (last ∷ more)))))
      ≡ first
      ++ record {
        page = handed_out address function (length message) (mended_in (value_told (mended_of called) 1) received);
        message = message;
      }
      ∷ later)
  page_sent start page comes =
      let good : is_sent (address_word address function) ≡ true =
      sent_word_lem (address / 8 * 4 + function) (omega (arith, page.address_small, page.function_small)) in
      page_arrives r lent syncs before more address function message called received last sent start page
      (record {
        syncs_come = λ k. near_reads sync_word (get_or syncs k sync_word) sync_sent (comes.syncs_near k);
        others = traffic_others traffic before comes.traffic_sent comes.traffic_near;
        address_comes = near_reads (address_word address function) called good comes.page_near.0;
        message_comes = message_carried message received page.message_small comes.page_near.1;
        end_comes = near_reads sent last comes.end_sent comes.end_near;
        ends = comes.ends;
      })

module _ (r : PocsagReader) (lent syncs traffic before more : List ℕ) (address function kind : ℕ) (text : List ℕ)
    (called : ℕ) (received : List ℕ) (last sent : ℕ) where
  -- a page of a text is handed out, and its text is read as the sender's, with the fill of its last word after it
  pub text_sent : is_sendable kind text ≡ true → r.left ≡ 0
      → Sent r lent syncs before more address function (message_of kind text) called received last sent
      → Comes r lent syncs traffic before more address function (message_of kind text) called received last sent
      → (first : List Ended) × (later : List Ended) × (page : Ended)
      × (pages_in r lent (batched syncs 0 (before ++ (called ∷ (received ++ (last ∷ more))))) ≡ first ++ page ∷ later)
      × (page.page.number ≡ 0) × (page.page.address ≡ address) × (page.page.function ≡ function)
      × (text_in kind page.message ≡ filled kind text)
  text_sent good start page comes =
      let (first, later, is) =
      page_sent r lent syncs traffic before more address function (message_of kind text) called received last sent start page comes in
      (first, later, _, is, refl, refl, refl, sent-read kind text good)
