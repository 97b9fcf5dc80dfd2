-- Batches and pages (02, item 5; document 003, 2.3 and 2.4): what a word means at its place, and what becomes of a page.
use Rattle.std.specs.Prelude.{ℕ, ◌+◌, ◌-◌, ◌*◌, ◌/◌, ◌%◌, ◌^◌, Bool, true, false, not, ◌&&◌, ◌||◌, List, [], ◌∷◌, leb, ltb, eqb, length, set}
use Rattle.laws.specs.Choice.{pick}
use Rattle.laws.specs.Numerals.{number, digits}
use Rattle.refusal.specs.declared.Refusal.TheVariants.{TooLong, NoCall, BeyondRepair, NoSync}
use Rattle.refusal.specs.Told.{given, ask, number_of, number_told, number_by, number_unless}
use Rattle.pocsag.specs.Mending.{MendedTold}
use Rattle.pocsag.specs.declared.Meaning.{Meaning}
use Rattle.pocsag.specs.declared.Meaning.TheVariants as means
use Rattle.pocsag.specs.declared.PocsagReader.{PocsagReader}
use Rattle.pocsag.specs.declared.PocsagPage.{PocsagPage}
use Rattle.pocsag.specs.declared.Step.{Step}

-- ---- a word

-- 02, item 5: "sync word 7CD215D8, idle word 7A89C197"
abbrev pub sync_word : ℕ
sync_word = 0x7CD215D8

-- the idle word
abbrev pub idle_word : ℕ
idle_word = 0x7A89C197

-- the first bit that is sent, the highest, is 1 in a message word and 0 in an address word
abbrev pub is_message : ℕ → Bool
is_message word = leb (2 ^ 31) word

-- a row of bits in the other order
unfoldable pub turned_row : List ℕ → List ℕ → List ℕ
turned_row row [] = row
turned_row row (bit ∷ bits) = turned_row (bit ∷ row) bits

-- twenty message bits with the first that is sent, which is the highest in the word, as the lowest, and so on
abbrev pub turned : ℕ → ℕ
turned bits = number 2 (turned_row [] (digits 2 20 bits))

-- the message bits of a message word, the first that is sent the lowest
abbrev pub message_in : ℕ → ℕ
message_in word = turned (word / 2 ^ 11 % 2 ^ 20)

-- 02, item 5: "function bits": the last two of the twenty-one bits of an address word
abbrev pub function_in : ℕ → ℕ
function_in word = word / 2 ^ 11 % 4

-- the number of the frame of a word, where so many words of its batch, with it, are still to come: a batch is eight frames of two words
abbrev pub frame_of : ℕ → ℕ
frame_of left = (16 - left) / 2

-- an address is eighteen bits of its word, and three that are the number of the frame
abbrev pub address_in : ℕ → ℕ → ℕ
address_in left word = word / 2 ^ 13 % 2 ^ 18 * 8 + frame_of left

-- ---- what a word means at its place

-- whether a sync word must come next: no word of a batch is still to come
abbrev pub awaits_sync : ℕ → Bool
awaits_sync left = eqb left 0 || ltb 16 left

-- where no word of a batch is still to come, a word is the sync word, or the sync is lost
abbrev pub at_sync : MendedTold → Meaning
at_sync m = pick (not (eqb m.number 0)) means.SyncDamaged (pick (eqb m.word sync_word) means.Sync means.SyncMissing)

-- a word within a batch
abbrev pub in_batch : ℕ → MendedTold → Meaning
in_batch left m =
    pick (not (eqb m.number 0)) means.Damaged
    (pick (eqb m.word sync_word) means.SyncEarly
    (pick (eqb m.word idle_word) means.Idle
    (pick (is_message m.word) (means.Message (message_in m.word)) (means.Address (address_in left m.word) (function_in m.word)))))

-- a word at its place
unfoldable pub meaning_of : ℕ → MendedTold → Meaning
meaning_of left m = pick (awaits_sync left) (at_sync m) (in_batch left m)

-- ---- what is told of a word

-- 25 beyond repair; 26 "not after a sync word"; 17 for a message word of no address
abbrev pub word_told : ℕ → Meaning → ℕ
word_told is_open means.Sync = 0
word_told is_open means.SyncDamaged = number_of BeyondRepair
word_told is_open means.SyncMissing = number_of NoSync
word_told is_open means.SyncEarly = 0
word_told is_open means.Damaged = number_of BeyondRepair
word_told is_open means.Idle = 0
word_told is_open (means.Address address function) = 0
word_told is_open (means.Message bits) = number_unless NoCall (not (eqb is_open 0))

-- ---- a page that ends

-- what is told where no page ends
abbrev pub no_page : PocsagPage
no_page = record { is_ended = 0; number = 0; address = 0; function = 0; words = 0; mended = 0 }

-- the number of a page that ends, in the order of the refusals: 25 where a word of it was beyond repair, 26 where its end was not heard, 15 where it is
-- longer than the lent memory
abbrev pub page_number : Bool → ℕ → PocsagReader → ℕ
page_number heard lent r =
    number_told
    (ask (not (eqb r.fault 0) && not (eqb r.fault (number_of TooLong))) BeyondRepair
    (ask (not heard) NoSync
    (ask (eqb r.fault (number_of TooLong) || ltb lent r.words) TooLong
    (given []))))

-- a page that ends with a number
abbrev pub page_with : ℕ → PocsagReader → PocsagPage
page_with n r =
    record { is_ended = 1; number = n; address = r.address; function = r.function; words = r.words; mended = r.mended }

-- the open page, if there is one, as it ends
abbrev pub page_of : Bool → ℕ → PocsagReader → PocsagPage
page_of heard lent r = pick (eqb r.is_open 0) no_page (page_with (page_number heard lent r) r)

-- document 003, 2.4: a message goes on "until the next address word or the idle word is received": these two are an end that is heard. A page also ends
-- where the sync is lost, but then its end was not heard
abbrev pub page_ended : ℕ → PocsagReader → Meaning → PocsagPage
page_ended lent r means.Sync = no_page
page_ended lent r means.SyncDamaged = page_of false lent r
page_ended lent r means.SyncMissing = page_of false lent r
page_ended lent r means.SyncEarly = page_of false lent r
page_ended lent r means.Damaged = no_page
page_ended lent r means.Idle = page_of true lent r
page_ended lent r (means.Address address function) = page_of true lent r
page_ended lent r (means.Message bits) = no_page

-- ---- where the reading stands after a word

-- no page is open
abbrev pub closed_at : ℕ → PocsagReader
closed_at left = record { left = left; is_open = 0; address = 0; function = 0; words = 0; mended = 0; fault = 0 }

-- a page is opened by its address word, in which so many bits were mended
abbrev pub opened_at : ℕ → ℕ → ℕ → ℕ → PocsagReader
opened_at left address function bits =
    record { left = left; is_open = 1; address = address; function = function; words = 0; mended = bits; fault = 0 }

-- the same page with a fault, the first that it has
abbrev pub faulty_at : ℕ → ℕ → PocsagReader → PocsagReader
faulty_at left fault r =
    record {
      left = left;
      is_open = r.is_open;
      address = r.address;
      function = r.function;
      words = r.words;
      mended = r.mended;
      fault = fault;
    }

-- the same page, with another number of words to come
abbrev pub moved_to : ℕ → PocsagReader → PocsagReader
moved_to left r = faulty_at left r.fault r

-- how many bits were mended, as far as 32 bits can count
abbrev pub mended_more : ℕ → ℕ → ℕ
mended_more mended bits = pick (ltb (mended + bits) (2 ^ 32)) (mended + bits) (2 ^ 32 - 1)

-- the same page with a message word more
abbrev pub grown_at : ℕ → ℕ → PocsagReader → PocsagReader
grown_at left bits r =
    record {
      left = left;
      is_open = r.is_open;
      address = r.address;
      function = r.function;
      words = r.words + 1;
      mended = mended_more r.mended bits;
      fault = r.fault;
    }

-- whether a page is open that has no fault
abbrev pub is_whole : PocsagReader → Bool
is_whole r = not (eqb r.is_open 0) && eqb r.fault 0

-- after a message word: the page has a word more, or is too long
abbrev pub message_at : ℕ → ℕ → ℕ → PocsagReader → PocsagReader
message_at left lent bits r =
    pick (is_whole r) (pick (ltb r.words lent) (grown_at left bits r) (faulty_at left (number_of TooLong) r)) (moved_to left r)

-- after a word beyond repair, which takes its place in the batch all the same
abbrev pub damaged_at : ℕ → PocsagReader → PocsagReader
damaged_at left r = pick (is_whole r) (faulty_at left (number_of BeyondRepair) r) (moved_to left r)

-- after a word, in which so many bits were mended
abbrev pub reader_after : ℕ → ℕ → PocsagReader → Meaning → PocsagReader
reader_after lent bits r means.Sync = moved_to 16 r
reader_after lent bits r means.SyncDamaged = closed_at 0
reader_after lent bits r means.SyncMissing = closed_at 0
reader_after lent bits r means.SyncEarly = closed_at 16
reader_after lent bits r means.Damaged = damaged_at (r.left - 1) r
reader_after lent bits r means.Idle = closed_at (r.left - 1)
reader_after lent bits r (means.Address address function) = opened_at (r.left - 1) address function bits
reader_after lent bits r (means.Message message) = message_at (r.left - 1) lent bits r

-- the lent memory after a message word: its bits stand after those before them, where the page is whole so far and there is room
abbrev pub kept_bits : PocsagReader → ℕ → List ℕ → List ℕ
kept_bits r bits lent = pick (is_whole r && ltb r.words (length lent)) (set lent r.words bits) lent

-- the lent memory after a word
abbrev pub lent_after : PocsagReader → Meaning → List ℕ → List ℕ
lent_after r means.Sync lent = lent
lent_after r means.SyncDamaged lent = lent
lent_after r means.SyncMissing lent = lent
lent_after r means.SyncEarly lent = lent
lent_after r means.Damaged lent = lent
lent_after r means.Idle lent = lent
lent_after r (means.Address address function) lent = lent
lent_after r (means.Message bits) lent = kept_bits r bits lent

-- ---- one word

-- what one word does: its number, the page that ends at it, and where the reading is after it
pub record StepTold : Type 0 where
  pub number : ℕ
  pub page : PocsagPage
  pub reader : PocsagReader

-- how the code's step is told
abbrev pub step_told : Step → StepTold
step_told s = record { number = number_by s.told; page = s.page; reader = s.reader }

-- what one word does, by what it was mended to
abbrev pub step_by : ℕ → PocsagReader → MendedTold → StepTold
step_by lent r m =
    let meaning = meaning_of r.left m in
    record {
      number = word_told r.is_open meaning;
      page = page_ended lent r meaning;
      reader = reader_after lent m.bits r meaning;
    }

-- the lent memory after it
abbrev pub stored_by : PocsagReader → MendedTold → List ℕ → List ℕ
stored_by r m lent = lent_after r (meaning_of r.left m) lent
