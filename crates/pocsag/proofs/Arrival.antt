-- A page that is sent arrives: whatever other words come before and after it, and with words of it that are mended.
use Prim.Native.Nat.{ℕ, zero, suc, ◌+◌, ◌-◌, ◌*◌, ◌/◌, ◌%◌, ◌^◌, ◌≤◌, ◌<◌}
use mathlib.Core.Bool.{Bool, true, false, not}
use mathlib.Core.List.{List, [], ◌∷◌, ◌++◌, append_assoc}
use mathlib.Core.Path.{◌≡◌, refl, sym, ap, ◌∙◌}
use native.Mathlib.Nat.{add-zero, zero-add, div-add-mod, mul-add-mod_self_left}
use native.Mathlib.Numerals.{add-one}
use native.Mathlib.Omega.{arith}
use borrow.Author.Tests.{ne_eqb, le-ltb, lt-ltb, eqb-true, ltb-true, not-false}
use lib.Dec.{ltb, eqb, eqb→eq}
use lib.ListN.{length, get_or, take, drop, set, length-set}
use Rattle.laws.specs.Choice.{pick}
use Rattle.laws.specs.Lists.{all, put}
use Rattle.laws.specs.Numerals.{are_digits}
use Rattle.laws.proofs.Counting.{of_all_below}
use Rattle.laws.proofs.Tests.{first_of, second_of}
use Rattle.laws.proofs.Writing.{put_nothing, put_next, length_put, put_there}
use Rattle.refusal.specs.Told.{given, number_told, value_told}
use Rattle.pocsag.specs.Mending.{MendedTold}
use Rattle.pocsag.specs.declared.Meaning.{Meaning}
use Rattle.pocsag.specs.declared.Meaning.TheVariants as means
use Rattle.pocsag.specs.declared.PocsagReader.{PocsagReader}
use Rattle.pocsag.specs.declared.PocsagPage.{PocsagPage}
use Rattle.pocsag.specs.Mending.{mended_of, as_mended}
use Rattle.pocsag.specs.Batches.{sync_word, idle_word, is_message, frame_of, meaning_of, message_in, function_in, address_in, page_ended}
use Rattle.pocsag.specs.Batches.{mended_more, moved_to}
use Rattle.pocsag.specs.Batches.{is_whole, faulty_at, grown_at, damaged_at, message_at, reader_after, lent_after}
use Rattle.pocsag.specs.Runs.{Ended, pages_in}
use Rattle.pocsag.specs.Sender.{address_word, message_word, batched}
use Rattle.pocsag.proofs.Rows.{stored_length}
use Rattle.pocsag.proofs.SentWords.{mended_as, sync_means, means_in_batch, message_means, address_means}

-- ---- one word of a run

-- a received word that is mended to a sent one, with so many bits changed
pub record Reads (sent word : ℕ) : Type 0 where
  pub bits : ℕ
  pub mended : mended_of word ≡ given (sent ∷ bits ∷ [])

-- the page, if any, that ends at a word
abbrev ended_at : PocsagReader → List ℕ → Meaning → List Ended
ended_at r lent m =
    pick (eqb (page_ended (length lent) r m).is_ended 0) []
    (record { page = page_ended (length lent) r m; message = take (page_ended (length lent) r m).words lent } ∷ [])

-- one word of a run, by what it means: the page that ends at it, and the run after it
run_word : (r : PocsagReader) (lent : List ℕ) (word : ℕ) (words : List ℕ)
    → let m = as_mended (mended_of word) in let meaning = meaning_of r.left m in
    pages_in r lent (word ∷ words) ≡ ended_at r lent meaning ++ pages_in (reader_after (length lent) m.bits r meaning) (lent_after r meaning lent) words
unfolding pages_in
run_word r lent word words =
    let m = as_mended (mended_of word) in
    let meaning = meaning_of r.left m in
    by_end (eqb (page_ended (length lent) r meaning).is_ended 0) _ _
  where
    by_end : (none : Bool) (here : Ended) (later : List Ended) → pick none later (here ∷ later) ≡ pick none [] (here ∷ []) ++ later
    by_end true here later = refl
    by_end false here later = refl

-- the same, where it is known what the word was mended to and what it means
run_meant : (r : PocsagReader) (lent : List ℕ) (word : ℕ) (words : List ℕ) (m : MendedTold) (meaning : Meaning)
    → as_mended (mended_of word) ≡ m → meaning_of r.left m ≡ meaning
    → pages_in r lent (word ∷ words) ≡ ended_at r lent meaning ++ pages_in (reader_after (length lent) m.bits r meaning) (lent_after r meaning lent) words
run_meant r lent word words m meaning is means =
    run_word r lent word words
    ∙ ap (λ (k : MendedTold). ran k (meaning_of r.left k)) is
    ∙ ap (ran m) means
  where
    ran : MendedTold → Meaning → List Ended
    ran k meaning = ended_at r lent meaning ++ pages_in (reader_after (length lent) k.bits r meaning) (lent_after r meaning lent) words

-- ---- sync words

-- each sync word as it came is mended to the sync word
abbrev pub Syncs : List ℕ → Type 0
Syncs syncs = (k : ℕ) → Reads sync_word (get_or syncs k sync_word)

-- the others are too, after the first
syncs_after_lem : (syncs : List ℕ) → Syncs syncs → Syncs (drop 1 syncs)
syncs_after_lem [] good k = good k
syncs_after_lem (sync ∷ syncs) good k = good (suc k)

-- a sync word where it must stand ends no page, and sixteen words are to come
run_sync : (r : PocsagReader) (lent : List ℕ) (word : ℕ) (words : List ℕ) → Reads sync_word word → r.left ≡ 0
    → pages_in r lent (word ∷ words) ≡ pages_in (moved_to 16 r) lent words
run_sync r lent word words reads none =
    run_meant r lent word words (mended_as sync_word reads.bits) means.Sync (ap as_mended reads.mended) (rw none (sync_means reads.bits))

-- where so many words are to come before the next: sixteen after a sync word
abbrev pub to_come : ℕ → ℕ
to_come left = pick (eqb left 0) 16 left

-- the reader, once a sync word has come where one must
abbrev synced : PocsagReader → PocsagReader
synced r = moved_to (to_come r.left) r

-- the sync words that are left
abbrev syncs_left : ℕ → List ℕ → List ℕ
syncs_left left syncs = pick (eqb left 0) (drop 1 syncs) syncs

-- a word of a batch, with a sync word before it where one must come
run_batched : (syncs : List ℕ) (r : PocsagReader) (lent : List ℕ) (left word : ℕ) (words : List ℕ) → Syncs syncs → r.left ≡ left
    → pages_in r lent (batched syncs left (word ∷ words)) ≡ pages_in (synced r) lent (word ∷ batched (syncs_left left syncs) (to_come left - 1) words)
unfolding batched
run_batched syncs r lent zero word words good place =
    run_sync r lent (get_or syncs 0 sync_word) (word ∷ batched (drop 1 syncs) 15 words) (good 0) place ∙ rw place
run_batched syncs r lent (suc left) word words good place =
    let other : eqb (suc left) 0 ≡ false = ne_eqb (suc left) 0 (λ e. omega (arith, e)) in
    let fewer : suc left - 1 ≡ left = omega arith in
    let come : to_come (suc left) ≡ suc left = rw other in
    let same : r.left ≡ to_come r.left = place ∙ sym (ap to_come place ∙ come) in
    let rest : left ≡ to_come (suc left) - 1 = sym (ap (λ (n : ℕ). n - 1) come ∙ fewer) in
    let kept : syncs ≡ syncs_left (suc left) syncs = rw other in
    ap (λ (n : ℕ). pages_in (moved_to n r) lent (word ∷ batched syncs left words)) same
    ∙ ap (λ (n : ℕ). pages_in (synced r) lent (word ∷ batched syncs n words)) rest
    ∙ ap (λ (row : List ℕ). pages_in (synced r) lent (word ∷ batched row (to_come (suc left) - 1) words)) kept

-- ---- other words

-- a received word that is not read as the sync word: any other word, or one beyond repair
abbrev pub Other : ℕ → Type 0
Other word = number_told (mended_of word) ≡ 0 → value_told (mended_of word) 0 ≡ sync_word → ⊥

-- received words of which none is
abbrev pub Others : List ℕ → Type 0
Others [] = Unit {0}
Others (word ∷ words) = Other word × Others words

-- after a word beyond repair so many words are to come
damaged_left : (left : ℕ) (r : PocsagReader) → (damaged_at left r).left ≡ left
damaged_left left r = by_whole (is_whole r)
  where
    by_whole : (whole : Bool) → (pick whole (faulty_at left 25 r) (moved_to left r)).left ≡ left
    by_whole true = refl
    by_whole false = refl

-- after a message word so many words are to come
message_left : (left room bits : ℕ) (r : PocsagReader) → (message_at left room bits r).left ≡ left
message_left left room bits r = by_room (is_whole r) (ltb r.words room)
  where
    by_room : (whole fits : Bool) → (pick whole (pick fits (grown_at left bits r) (faulty_at left 15 r)) (moved_to left r)).left ≡ left
    by_room true true = refl
    by_room true false = refl
    by_room false fits = refl

-- a word of a batch that is not the sync word takes one place, whatever it is
other_takes : (room bits message address function : ℕ) (r : PocsagReader) (damaged early idle is_text : Bool) → (damaged ≡ false → early ≡ true → ⊥)
    → (reader_after room bits r
    (pick damaged means.Damaged
    (pick early means.SyncEarly (pick idle means.Idle (pick is_text (means.Message message) (means.Address address function)))))).left
    ≡ r.left - 1
other_takes room bits message address function r true early idle is_text other = damaged_left (r.left - 1) r
other_takes room bits message address function r false true idle is_text other = absurd (other refl refl)
other_takes room bits message address function r false false true is_text other = refl
other_takes room bits message address function r false false false true other = message_left (r.left - 1) room bits r
other_takes room bits message address function r false false false false other = refl

-- such a word of a batch takes one place
other_moves : (room : ℕ) (r : PocsagReader) (m : MendedTold) → 1 ≤ r.left → r.left ≤ 16
    → (m.number ≡ 0 → m.word ≡ sync_word → ⊥) → (reader_after room m.bits r (meaning_of r.left m)).left ≡ r.left - 1
other_moves room r m some most other =
    ap (λ (meaning : Meaning). (reader_after room m.bits r meaning).left) (means_in_batch r.left some most m)
    ∙ other_takes room m.bits (message_in m.word) (address_in r.left m.word) (function_in m.word) r
    (not (eqb m.number 0)) (eqb m.word sync_word) (eqb m.word idle_word) (is_message m.word)
    (λ whole early. other (eqb-true m.number 0 (not-false (eqb m.number 0) whole)) (eqb-true m.word sync_word early))

-- how many words of a batch are still to come after so many more
abbrev pub left_after : ℕ → ℕ → ℕ
left_after left n = (left + 15 * n) % 16

-- a word more
left_step : (left n : ℕ) → left ≤ 15 → left_after left (suc n) ≡ left_after (to_come left - 1) n
left_step zero n few = omega arith
left_step (suc left) n few =
    let other : eqb (suc left) 0 ≡ false = ne_eqb (suc left) 0 (λ e. omega (arith, e)) in
    rw other (omega arith)

-- one to sixteen words are to come before the next
come_within : (left : ℕ) → left ≤ 15 → (1 ≤ to_come left) × (to_come left ≤ 16)
come_within zero few = (omega arith, omega arith)
come_within (suc left) few =
    let other : eqb (suc left) 0 ≡ false = ne_eqb (suc left) 0 (λ e. omega (arith, e)) in
    rw other (omega arith, omega arith)

-- the sync words that are left are good
syncs_left_lem : (left : ℕ) (syncs : List ℕ) → Syncs syncs → Syncs (syncs_left left syncs)
syncs_left_lem left syncs good = by_place (eqb left 0)
  where
    by_place : (none : Bool) → Syncs (pick none (drop 1 syncs) syncs)
    by_place true = syncs_after_lem syncs good
    by_place false = good

-- where a run stands after some words: the pages that ended, the reader, the lent memory and the sync words that are left
pub record Reached (r : PocsagReader) (lent stream : List ℕ) (left : ℕ) (more : List ℕ) : Type 0 where
  pub first : List Ended
  pub reader : PocsagReader
  pub memory : List ℕ
  pub syncs : List ℕ
  pub ran : pages_in r lent stream ≡ first ++ pages_in reader memory (batched syncs left more)
  pub place : reader.left ≡ left
  pub same : length memory ≡ length lent
  pub good : Syncs syncs

-- other words take their places, and whatever they do, the reading goes on after them
pub through_others : (before more syncs : List ℕ) (left : ℕ) (r : PocsagReader) (lent : List ℕ) → r.left ≡ left → left ≤ 15 → Syncs syncs → Others before
    → Reached r lent (batched syncs left (before ++ more)) (left_after left (length before)) more
through_others [] more syncs left r lent place few good others =
    let still : (left + 15 * 0) % 16 ≡ left = omega arith in
    record {
      first = [];
      reader = r;
      memory = lent;
      syncs = syncs;
      ran = rw still;
      place = place ∙ sym still;
      same = refl;
      good = good;
    }
through_others (word ∷ before) more syncs left r lent place few good (other, others) =
    let m = as_mended (mended_of word) in
    let start = synced r in
    let meaning = meaning_of start.left m in
    let later = reader_after (length lent) m.bits start meaning in
    let rest = syncs_left left syncs in
    let come : start.left ≡ to_come left = ap to_come place in
    let within = come_within left few in
    let moved : later.left ≡ to_come left - 1 =
    other_moves (length lent) start m (rw come within.0) (rw come within.1) other ∙ ap (λ (n : ℕ). n - 1) come in
    let stored = lent_after start meaning lent in
    let on = through_others before more rest (to_come left - 1) later stored moved (omega (arith, within.1)) (syncs_left_lem left syncs good) others in
    let fewer : left_after left (suc (length before)) ≡ left_after (to_come left - 1) (length before) = left_step left (length before) few in
    record {
      first = ended_at start lent meaning ++ on.first;
      reader = on.reader;
      memory = on.memory;
      syncs = on.syncs;
      ran =
          run_batched syncs r lent left word (before ++ more) good place
          ∙ run_word start lent word (batched rest (to_come left - 1) (before ++ more))
          ∙ ap (λ (row : List Ended). ended_at start lent meaning ++ row) on.ran
          ∙ sym (append_assoc (ended_at start lent meaning) on.first (pages_in on.reader on.memory (batched on.syncs _ more)))
          ∙ ap (λ (n : ℕ). (ended_at start lent meaning ++ on.first) ++ pages_in on.reader on.memory (batched on.syncs n more)) (sym fewer);
      place = on.place ∙ sym fewer;
      same = on.same ∙ stored_length start meaning lent;
      good = on.good;
    }

-- ---- the words of a page

-- a page of which so many message words have come, none of them beyond repair
abbrev pub carrying : ℕ → ℕ → ℕ → ℕ → ℕ → PocsagReader
carrying left address function words mended =
    record { left = left; is_open = 1; address = address; function = function; words = words; mended = mended; fault = 0 }

-- the message words of a page as they came, each mended to the word that was sent
abbrev pub Carried : List ℕ → List ℕ → Type 0
Carried [] [] = Unit {0}
Carried [] (word ∷ words) = ⊥
Carried (bits ∷ message) [] = ⊥
Carried (bits ∷ message) (word ∷ words) = Reads (message_word bits) word × Carried message words

-- how many bits were mended in them, after so many before them
abbrev pub mended_in : ℕ → List ℕ → ℕ
mended_in mended [] = mended
mended_in mended (word ∷ words) = mended_in (mended_more mended (value_told (mended_of word) 1)) words

-- the sync words that are left after so many words
abbrev syncs_after : ℕ → ℕ → List ℕ → List ℕ
syncs_after left zero syncs = syncs
syncs_after left (suc n) syncs = syncs_after (to_come left - 1) n (syncs_left left syncs)

-- they are good
syncs_stay : (n left : ℕ) (syncs : List ℕ) → Syncs syncs → Syncs (syncs_after left n syncs)
syncs_stay zero left syncs good = good
syncs_stay (suc n) left syncs good = syncs_stay n (to_come left - 1) (syncs_left left syncs) (syncs_left_lem left syncs good)

module _ (address function : ℕ) (more : List ℕ) where
  -- a message word of a page that is whole so far is stored after those before it
  message_stored : (syncs : List ℕ) (left words mended bits word : ℕ) (lent rest : List ℕ) → left ≤ 15 → Syncs syncs → words < length lent → bits < 2 ^ 20
      → (reads : Reads (message_word bits) word)
      → pages_in (carrying left address function words mended) lent (batched syncs left (word ∷ rest))
      ≡ pages_in (carrying (to_come left - 1) address function (words + 1) (mended_more mended reads.bits)) (set lent words bits)
      (batched (syncs_left left syncs) (to_come left - 1) rest)
  message_stored syncs left words mended bits word lent rest few good room small reads =
      let within = come_within left few in
      run_batched syncs (carrying left address function words mended) lent left word rest good refl
      ∙ run_meant (carrying (to_come left) address function words mended) lent word (batched (syncs_left left syncs) (to_come left - 1) rest)
      (mended_as (message_word bits) reads.bits) (means.Message bits) (ap as_mended reads.mended)
      (message_means (to_come left) within.0 within.1 bits reads.bits small)
      ∙ rw (lt-ltb words (length lent) room)

  -- all of them are
  pub through_message : (message received syncs : List ℕ) (left words mended : ℕ) (lent : List ℕ) → left ≤ 15 → Syncs syncs
      → words + length message ≤ length lent → are_digits (2 ^ 20) message ≡ true → Carried message received
      → pages_in (carrying left address function words mended) lent (batched syncs left (received ++ more))
      ≡ pages_in (carrying (left_after left (length message)) address function (words + length message) (mended_in mended received)) (put lent words message)
      (batched (syncs_after left (length message) syncs) (left_after left (length message)) more)
  unfolding all
  through_message [] [] syncs left words mended lent few good room small came =
      let still : (left + 15 * 0) % 16 ≡ left = omega arith in
      rw (put_nothing lent words, still, add-zero words)
  through_message (bits ∷ message) (word ∷ received) syncs left words mended lent few good room small (reads, came) =
      let within = come_within left few in
      let first : bits < 2 ^ 20 = ltb-true bits (2 ^ 20) (first_of (ltb bits (2 ^ 20)) (are_digits (2 ^ 20) message) small) in
      let others : are_digits (2 ^ 20) message ≡ true = second_of (ltb bits (2 ^ 20)) (are_digits (2 ^ 20) message) small in
      let told : value_told (mended_of word) 1 ≡ reads.bits = ap (λ t. value_told t 1) reads.mended in
      let fewer : left_after left (suc (length message)) ≡ left_after (to_come left - 1) (length message) = left_step left (length message) few in
      let place : words < length lent = omega (arith, room) in
      let counted : words + suc (length message) ≡ words + 1 + length message = omega arith in
      let stored : put (set lent words bits) (words + 1) message ≡ put lent words (bits ∷ message) =
      rw (add-one words) (put_next lent message words bits place) in
      let fits : words + 1 + length message ≤ length (set lent words bits) = simp length-set (omega (arith, room)) in
      message_stored syncs left words mended bits word lent (received ++ more) few good place first reads
      ∙ through_message message received (syncs_left left syncs) (to_come left - 1) (words + 1) (mended_more mended reads.bits) (set lent words bits)
      (omega (arith, within.1)) (syncs_left_lem left syncs good) fits others came
      ∙ ap (λ (n : ℕ). ran n (words + 1 + length message) reads.bits (put (set lent words bits) (words + 1) message)) (sym fewer)
      ∙ ap (λ (n : ℕ). ran (left_after left (suc (length message))) n reads.bits (put (set lent words bits) (words + 1) message)) (sym counted)
      ∙ ap (λ (n : ℕ). ran (left_after left (suc (length message))) (words + suc (length message)) n (put (set lent words bits) (words + 1) message)) (sym told)
      ∙ ap (ran (left_after left (suc (length message))) (words + suc (length message)) (value_told (mended_of word) 1)) stored
    where
      ran : ℕ → ℕ → ℕ → List ℕ → List Ended
      ran left' words' bits' memory =
          pages_in (carrying left' address function words' (mended_in (mended_more mended bits') received)) memory
          (batched (syncs_after left (suc (length message)) syncs) left' more)
  through_message [] (word ∷ received) syncs left words mended lent few good room small came = absurd came
  through_message (bits ∷ message) [] syncs left words mended lent few good room small came = absurd came

-- ---- the end of a page

-- whether a word ends a page: an address word or the idle word, which both begin with a 0 and are not the sync word
abbrev pub Ends : ℕ → Type 0
Ends word = (word ≡ sync_word → ⊥) × (is_message word ≡ false)

-- a page that is handed out
abbrev pub handed_out : ℕ → ℕ → ℕ → ℕ → PocsagPage
handed_out address function words mended =
    record { is_ended = 1; number = 0; address = address; function = function; words = words; mended = mended }

-- where a page is whole and has room, a word that ends it hands it out
end_hands_out : (syncs : List ℕ) (left address function words mended word sent : ℕ) (lent more : List ℕ) → left ≤ 15 → Syncs syncs
    → words ≤ length lent → Reads sent word → Ends sent
    → (later : List Ended) × (pages_in (carrying left address function words mended) lent (batched syncs left (word ∷ more))
    ≡ record { page = handed_out address function words mended; message = take words lent } ∷ later)
end_hands_out syncs left address function words mended word sent lent more few good room reads (no_sync, no-message) =
    by_idle (eqb sent idle_word) refl
  where
    page : PocsagReader
    page = carrying (to_come left) address function words mended

    rest : List ℕ
    rest = batched (syncs_left left syncs) (to_come left - 1) more

    read : MendedTold
    read = mended_as sent reads.bits

    Heard : Type 0
    Heard =
        (later : List Ended) × (pages_in (carrying left address function words mended) lent (batched syncs left (word ∷ more))
        ≡ record { page = handed_out address function words mended; message = take words lent } ∷ later)

    means_by : (idle : Bool) → eqb sent idle_word ≡ idle
        → meaning_of (to_come left) read ≡ pick idle means.Idle (means.Address (address_in (to_come left) sent) (function_in sent))
    means_by idle e =
        let within = come_within left few in
        means_in_batch (to_come left) within.0 within.1 read ∙ rw (ne_eqb sent sync_word no_sync, e, no-message)

    after : Meaning → List Ended
    after meaning = pages_in (reader_after (length lent) reads.bits page meaning) (lent_after page meaning lent) rest

    run_by : (meaning : Meaning) → meaning_of (to_come left) read ≡ meaning
        → pages_in (carrying left address function words mended) lent (batched syncs left (word ∷ more))
        ≡ ended_at page lent meaning ++ after meaning
    run_by meaning is =
        run_batched syncs (carrying left address function words mended) lent left word more good refl
        ∙ run_meant page lent word rest read meaning (ap as_mended reads.mended) is

    hands_out_lem : (meaning : Meaning) → meaning_of (to_come left) read ≡ meaning
        → ended_at page lent meaning ≡ record { page = handed_out address function words mended; message = take words lent } ∷ [] → Heard
    hands_out_lem meaning is ended = (
      after meaning,
      run_by meaning is ∙ ap (λ (row : List Ended). row ++ after meaning) ended,
    )

    by_idle : (idle : Bool) → eqb sent idle_word ≡ idle → Heard
    by_idle true e = hands_out_lem means.Idle (means_by true e) (rw (le-ltb (length lent) words room))
    by_idle false e =
        hands_out_lem (means.Address (address_in (to_come left) sent) (function_in sent)) (means_by false e) (rw (le-ltb (length lent) words room))

-- ---- the page arrives

-- after so many words from a sync word on, the next word stands in the frame of their number
pub next_frame : (n : ℕ) → frame_of (to_come (left_after 0 n)) ≡ n % 16 / 2
next_frame n =
    let parts : 0 + 15 * n ≡ 16 * (15 * (n / 16)) + 15 * (n % 16) = omega (arith, div-add-mod n 16) in
    let rest : (0 + 15 * n) % 16 ≡ 15 * (n % 16) % 16 =
    ap (λ (m : ℕ). m % 16) parts ∙ mul-add-mod_self_left 16 (15 * (n / 16)) (15 * (n % 16)) in
    rw rest
    (eqb→eq _ _
    (of_all_below (λ m. eqb (frame_of (to_come (15 * m % 16))) (m / 2)) 16 tt (n % 16) (omega arith)))

-- what stands in the lent memory is the message
handed_message : (address function : ℕ) (memory message : List ℕ) (mended mended' : ℕ) (later : List Ended) → mended ≡ mended'
    → record { page = handed_out address function (0 + length message) mended; message = take (0 + length message) (put memory 0 message) } ∷ later
    ≡ record { page = handed_out address function (length message) mended'; message = message } ∷ later
handed_message address function memory message mended mended' later e =
    let first : take (length message) (put memory 0 message) ≡ message = put_there memory message 0 (omega arith) in
    ap (λ (n : ℕ). record { page = handed_out address function n mended; message = take n (put memory 0 message) } ∷ later) (zero-add (length message))
    ∙ ap (λ (n : ℕ). record { page = handed_out address function (length message) n; message = take (length message) (put memory 0 message) } ∷ later) e
    ∙ ap (λ (row : List ℕ). record { page = handed_out address function (length message) mended'; message = row } ∷ later) first

module _ (r : PocsagReader) (lent syncs before more : List ℕ) (address function : ℕ) (message : List ℕ)
    (called : ℕ) (received : List ℕ) (last sent : ℕ) where
  -- what is asked of the air: each sync word, and each word of the page and the word that ends it, is mended to what was sent; the words before are any others
  pub record Heard : Type 0 where
    pub syncs_come : Syncs syncs
    pub others : Others before
    pub address_comes : Reads (address_word address function) called
    pub message_comes : Carried message received
    pub end_comes : Reads sent last
    pub ends : Ends sent

  -- what is asked of the page: an address of twenty-one bits whose word is not the sync or the idle word, in its own frame; a function of two bits; a message
  -- that the lent memory has room for
  pub record Sent : Type 0 where
    pub address_small : address < 2 ^ 21
    pub function_small : function < 4
    pub no_sync : address_word address function ≡ sync_word → ⊥
    pub no_idle : address_word address function ≡ idle_word → ⊥
    pub in_frame : length before % 16 / 2 ≡ address % 8
    pub message_small : are_digits (2 ^ 20) message ≡ true
    pub room : length message ≤ length lent

  -- the page is handed out with the sender's address, function and message, wherever a sync word must come first
  pub page_arrives : r.left ≡ 0 → Sent → Heard
      → (first : List Ended) × (later : List Ended)
      × (pages_in r lent (batched syncs 0 (before ++ (called ∷ (received ++ (last ∷ more)))))
      ≡ first ++ record {
        page = handed_out address function (length message) (mended_in (value_told (mended_of called) 1) received);
        message = message;
      } ∷ later)
  page_arrives start page heard =
      let on = through_others before (called ∷ (received ++ (last ∷ more))) syncs 0 r lent start (omega arith) heard.syncs_come heard.others in
      let left = left_after 0 (length before) in
      let few : left ≤ 15 = omega arith in
      let within = come_within left few in
      let frame : frame_of (to_come left) ≡ address % 8 = next_frame (length before) ∙ page.in_frame in
      let bits = heard.address_comes.bits in
      let told : value_told (mended_of called) 1 ≡ bits = ap (λ t. value_told t 1) heard.address_comes.mended in
      let waiting = synced on.reader in
      let place : waiting.left ≡ to_come left = ap to_come on.place in
      let meaning : meaning_of waiting.left (mended_as (address_word address function) bits) ≡ means.Address address function =
      ap (λ (n : ℕ). meaning_of n (mended_as (address_word address function) bits)) place
      ∙ address_means (to_come left) within.0 within.1 address function bits page.address_small page.function_small frame
      page.no_sync page.no_idle in
      let before-it = ended_at waiting on.memory (means.Address address function) in
      let left-syncs = syncs_left left on.syncs in
      let left-good = syncs_left_lem left on.syncs on.good in
      let few-left : to_come left - 1 ≤ 15 = omega (arith, within.1) in
      let rest = batched left-syncs (to_come left - 1) (received ++ (last ∷ more)) in
      let memory = put on.memory 0 message in
      let fits : 0 + length message ≤ length on.memory = omega (arith, on.same, page.room) in
      let ended = end_hands_out (syncs_after (to_come left - 1) (length message) left-syncs) (left_after (to_come left - 1) (length message)) address function
      (0 + length message) (mended_in bits received) last sent memory more (omega arith)
      (syncs_stay (length message) (to_come left - 1) left-syncs left-good) (omega (arith, length_put on.memory message 0 fits, fits))
      heard.end_comes heard.ends in (
        on.first ++ before-it,
        ended.0,
        on.ran
            ∙ ap (λ (row : List Ended). on.first ++ row)
            (run_batched on.syncs on.reader on.memory left called (received ++ (last ∷ more)) on.good on.place
            ∙ run_meant waiting on.memory called rest
            (mended_as (address_word address function) bits) (means.Address address function) (ap as_mended heard.address_comes.mended) meaning
            ∙ ap (λ (row : List Ended). before-it ++ row)
            (ap (λ (n : ℕ). pages_in (carrying (n - 1) address function 0 bits) on.memory rest) place
            ∙ through_message address function (last ∷ more) message received left-syncs (to_come left - 1) 0 bits on.memory few-left left-good fits
            page.message_small heard.message_comes
            ∙ ended.1
            ∙ handed_message address function on.memory message (mended_in bits received) (mended_in (value_told (mended_of called) 1) received) ended.0
            (ap (λ (n : ℕ). mended_in n received) (sym told))))
            ∙ sym (append_assoc on.first before-it _),
      )
