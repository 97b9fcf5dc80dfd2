-- What document 01 promises of packets and of an end of frame: what is accepted, what a refusal leaves, that the records stay sound and that open calls stay.
use Prim.Native.Nat.{ℕ, ◌≤◌, ◌<◌}
use mathlib.Core.Bool.{Bool, true, false, not, ◌&&◌, ◌||◌, and-false, or-true, true≢false}
use mathlib.Core.List.{List, [], ◌∷◌, ◌++◌}
use mathlib.Core.Logic.{◌↔◌, ◌⊎◌, inl, inr, ⊎_elim}
use mathlib.Core.Path.{◌≡◌, refl, sym, ap, ◌∙◌}
use native.Mathlib.Omega.{arith}
use borrow.Author.Tests.{eq-eqb, eqb-true, eqb-false, ne_eqb, lt-leb, leb-true, leb-false, le-ltb, ltb-false, not-false}
use lib.Dec.{leb, eqb}
use lib.ListN.{length, get_or, set, replicate, length-append, length-set, get_or-append}
use lib.Seq.{get_or-append_seam, get_or-set_same, get_or-set_other}
use Rattle.laws.specs.Choice.{pick}
use Rattle.laws.specs.Layouts.{shows, fields_of}
use Rattle.laws.specs.Lists.{put, any_of}
use Rattle.laws.proofs.Searches.{first_passes}
use Rattle.laws.proofs.Tests.{decided, not_both, first_of, second_of, other_of, picks_first, picks_second}
use Rattle.refusal.specs.declared.Refusal.{Refusal}
use Rattle.refusal.specs.declared.Refusal.TheVariants as refusals
use Rattle.refusal.proofs.Laws.{number_positive, refused_by, passes, passed_to}
use Rattle.refusal.specs.Told.{Told, refused, given, ask, number_told, value_told}
use Rattle.packet.specs.HeardTables as tables
use Rattle.packet.specs.Heard.{address_right, address_numbered}
use Rattle.packet.specs.declared.vectors.Span.{Span}
use Rattle.packet.specs.declared.vectors.Vector.{Vector}
use Rattle.packet.specs.Vectors.{is_numeric, is_text, vector_type, vector_of, is_vector}
use Rattle.call.specs.declared.Call.{Call}
use Rattle.call.specs.declared.Calls.{Calls}
use Rattle.call.specs.Calls.{blank, fresh, opens, has_vector, is_long, fits, brings_words, is_of, holds, sound}
use Rattle.call.specs.Words.{lacking, place_of, holds_word, word_place, lacks, given_to, is_held, is_lacked}
use Rattle.call.specs.Steps.{call_of, added, vector_fits, changed, removed, incomplete_in}
use Rattle.call.specs.Answers.{address_in, telling, opening_of, open_of, opened_in, message_in, is_short, vector_told}
use Rattle.call.specs.Answers.{word_told, vector_place, is_for_vector, vector_call, vector_given, hear_of, hear_number}
use Rattle.call.specs.Answers.{heard_in, memory_after, end_of, ended_with, ended_in}
use Rattle.call.specs.Runs.{Event, addressed, heard, ended, State, after}
use Rattle.call.proofs.Records.{InSpan, fits_span, Limits, is_of_lem, held, sound_row, fresh_sound}
use Rattle.call.proofs.Rows.{opens_added, opens_size, opens_changed, opens_removed, opens_listed, left}
use Rattle.call.proofs.Rows.{place_then, then_order, left_stays, added_sound, set_sound, left_sound}

-- ---- an address packet

module _ (s : Calls) (n : ℕ) where
  -- what is asked of every address packet: sound records, a right packet, an address number
  pub record Addressed : Type 0 where
    pub right : sound (opens s) ≡ true
    pub packet : address_right n ≡ true
    pub numbered : address_numbered n ≡ true

  -- 01: "An address packet opens a call under its phase and vector word number": one that is not tone-only, where no open call has that key and a call is free
  pub record Opens : Type 0 where
    pub addressed : Addressed
    pub speaks : eqb (address_in n).tone_only 1 ≡ false
    pub alone : holds (address_in n).phase (address_in n).vector (opens s) ≡ false
    pub free : length (opens s) < length s.calls

  -- the questions that are asked of every address packet are passed
  address_passes : Addressed → open_of s n ≡ pick (eqb (address_in n).tone_only 1) (given (telling 0 0 (address_in n))) (opening_of s (address_in n))
  unfolding open_of
  address_passes a = rw (a.right, a.packet, a.numbered)

  -- every answer that tells what no refusal tells has passed the questions that are asked of every address packet
  passed_address : (tells : Told → ℕ) (number : ℕ) → ((r : Refusal) → tells (refused r) ≡ number → ⊥) → tells (open_of s n) ≡ number → Addressed
  unfolding open_of
  passed_address tells number none e =
      let state = passed_to tells number (not (sound (opens s))) refusals.State _ (none refusals.State) e in
      let packet = passed_to tells number (not (address_right n)) refusals.Packet _ (none refusals.Packet) state.1 in
      let index = passed_to tells number (not (address_numbered n)) refusals.Address _ (none refusals.Address) packet.1 in
      record { right = not-false _ state.0; packet = not-false _ packet.0; numbered = not-false _ index.0 }

  -- what is told where a call is opened
  pub told_opened : Opens → open_of s n ≡ given (telling 1 (length (opens s)) (address_in n))
  told_opened o =
      address_passes o.addressed
      ∙ picks_second (eqb (address_in n).tone_only 1) _ (opening_of s (address_in n)) o.speaks
      ∙ passes (holds (address_in n).phase (address_in n).vector (opens s)) refusals.OutOfTurn _ o.alone
      ∙ passes (leb (length s.calls) (length (opens s))) refusals.Full _ (lt-leb (length s.calls) (length (opens s)) o.free)

  -- what is told of a tone-only address, which opens no call
  pub told_tone : Addressed → eqb (address_in n).tone_only 1 ≡ true → open_of s n ≡ given (telling 0 0 (address_in n))
  told_tone a tone = address_passes a ∙ picks_first (eqb (address_in n).tone_only 1) _ (opening_of s (address_in n)) tone

  -- an answer that tells what no refusal tells opens a call, or is one to a tone-only address
  open_says : (tells : Told → ℕ) (number : ℕ) → ((r : Refusal) → tells (refused r) ≡ number → ⊥)
      → tells (open_of s n) ≡ number → Opens ⊎ (Addressed × (eqb (address_in n).tone_only 1 ≡ true))
  open_says tells number none e =
      let a = passed_address tells number none e in
      ⊎_elim
      (λ tone. inr (a, tone))
      (λ speaks.
      let rest : tells (opening_of s (address_in n)) ≡ number =
      sym (ap tells (address_passes a ∙ picks_second (eqb (address_in n).tone_only 1) _ (opening_of s (address_in n)) speaks)) ∙ e in
      let turn = passed_to tells number (holds (address_in n).phase (address_in n).vector (opens s)) refusals.OutOfTurn _ (none refusals.OutOfTurn) rest in
      let full = passed_to tells number (leb (length s.calls) (length (opens s))) refusals.Full _ (none refusals.Full) turn.1 in
      inl (record { addressed = a; speaks = speaks; alone = turn.0; free = leb-false (length s.calls) (length (opens s)) full.0 }))
      (decided (eqb (address_in n).tone_only 1))

  -- nothing is refused exactly if it opens a call or is tone-only
  pub open_accepted : (number_told (open_of s n) ≡ 0) ↔ (Opens ⊎ (Addressed × (eqb (address_in n).tone_only 1 ≡ true)))
  open_accepted = (open_says number_told 0 (λ r e. omega (arith, number_positive r)), back)
    where
      back : Opens ⊎ (Addressed × (eqb (address_in n).tone_only 1 ≡ true)) → number_told (open_of s n) ≡ 0
      back (inl o) = rw (told_opened o)
      back (inr tone) = rw (told_tone tone.0 tone.1)

  -- a call is told to be opened exactly if the packet opens one
  pub open_told : (value_told (open_of s n) 0 ≡ 1) ↔ Opens
  open_told = (λ e. by_tone e (open_says (λ t. value_told t 0) 1 (λ r e. omega arith) e), λ o. rw (told_opened o))
    where
      by_tone : value_told (open_of s n) 0 ≡ 1 → Opens ⊎ (Addressed × (eqb (address_in n).tone_only 1 ≡ true)) → Opens
      by_tone e (inl o) = o
      by_tone e (inr tone) = absurd (omega (arith, sym (ap (λ (t : Told). value_told t 0) (told_tone tone.0 tone.1)) ∙ e))

  -- the records then: with the call that is opened
  pub opened_adds : Opens → opened_in s n ≡ added s (call_of (address_in n))
  unfolding opened_in
  opened_adds o = rw (open_told.1 o)

  -- the records then, where no call is told to be opened: as they were
  pub not_opened : (value_told (open_of s n) 0 ≡ 1 → ⊥) → opened_in s n ≡ s
  unfolding opened_in
  not_opened other = picks_second (eqb (value_told (open_of s n) 0) 1) _ s (ne_eqb (value_told (open_of s n) 0) 1 other)

  -- the records then are either, so that what is true of both is true of them
  pub opened_by_lem : (P : Calls → Type 0) → (Opens → P (added s (call_of (address_in n)))) → P s → P (opened_in s n)
  opened_by_lem P there else =
      ⊎_elim
      (λ is. let o = open_told.0 (eqb-true (value_told (open_of s n) 0) 1 is) in rw (opened_adds o) (there o))
      (λ none. rw (not_opened (eqb-false (value_told (open_of s n) 0) 1 none)) else)
      (decided (eqb (value_told (open_of s n) 0) 1))

  -- where a call is opened, the size is under the number of the records
  size_free : Opens → s.size < length s.calls
  size_free o = omega (arith, opens_size s o.free, o.free)

  -- the open calls then: the one that is opened is the last
  pub opened_row : Opens → opens (opened_in s n) ≡ opens s ++ call_of (address_in n) ∷ []
  opened_row o = ap opens (opened_adds o) ∙ opens_added s (call_of (address_in n)) (size_free o)

  -- the open calls then are with the one that is opened, or as they were: what is true of both is true of them
  pub opened_rows : (P : List Call → Type 0) → (Opens → P (opens s ++ call_of (address_in n) ∷ [])) → P (opens s) → P (opens (opened_in s n))
  opened_rows P there else = opened_by_lem (λ t. P (opens t)) (λ o. rw (opens_added s (call_of (address_in n)) (size_free o)) (there o)) else

  -- 01: "Unless said, state and lent memory stay as they were"
  pub open_refused : (number_told (open_of s n) ≡ 0 → ⊥) → opened_in s n ≡ s
  open_refused some = opened_by_lem (λ t. t ≡ s) (λ o. absurd (some (rw (told_opened o)))) refl

-- ---- a vector or message packet

-- a vector that is not refused is for a call without one, its span is good, and there is room
vector_taken : (has good short : Bool) (values : List ℕ)
    → number_told (ask (not has && not good) refusals.Size (ask has refusals.OutOfTurn (ask short refusals.Room (given values)))) ≡ 0
    → (has ≡ false) × (good ≡ true) × (short ≡ false)
vector_taken true good short values e = absurd (omega arith)
vector_taken false true true values e = absurd (omega arith)
vector_taken false true false values e = (refl, refl, refl)
vector_taken false false short values e = absurd (omega arith)

-- a vector that is told 9 is for a call without one, and its span is bad
vector_bad : (has good short : Bool) (values : List ℕ)
    → number_told (ask (not has && not good) refusals.Size (ask has refusals.OutOfTurn (ask short refusals.Room (given values)))) ≡ 9
    → (has ≡ false) × (good ≡ false)
vector_bad true good short values e = absurd (omega arith)
vector_bad false true true values e = absurd (omega arith)
vector_bad false true false values e = absurd (omega arith)
vector_bad false false short values e = (refl, refl)

-- a message word that is not refused is held and lacked, and there is room
word_taken : (is-held is-lacked short : Bool) (values : List ℕ)
    → number_told (ask (is-held && not is-lacked) refusals.OutOfTurn (ask (not is-held) refusals.NoCall (ask short refusals.Room (given values)))) ≡ 0
    → (is-held ≡ true) × (is-lacked ≡ true) × (short ≡ false)
word_taken true true true values e = absurd (omega arith)
word_taken true true false values e = (refl, refl, refl)
word_taken true false short values e = absurd (omega arith)
word_taken false is-lacked short values e = absurd (omega arith)

-- a message word is never told 9
word_not_bad : (is-held is-lacked short : Bool) (values : List ℕ)
    → number_told (ask (is-held && not is-lacked) refusals.OutOfTurn (ask (not is-held) refusals.NoCall (ask short refusals.Room (given values)))) ≡ 9 → ⊥
word_not_bad true true true values e = omega arith
word_not_bad true true false values e = omega arith
word_not_bad true false short values e = omega arith
word_not_bad false is-lacked short values e = omega arith

-- one of a row that passes a test passes one that asks less
any_weaker : {A : Type 0} (test other : A → Bool) (row : List A) → ((x : A) → test x ≡ true → other x ≡ true) → any_of test row ≡ true → any_of other row ≡ true
unfolding any_of
any_weaker test other [] less e = e
any_weaker test other (x ∷ row) less e =
    ⊎_elim
    (λ is. rw (less x is))
    (λ none. rw (any_weaker test other row less (other_of (test x) (any_of test row) e none)) (or-true (other x)))
    (decided (test x))

-- the span of a vector is one for its call exactly if it brings no words or they are in a span's limits
pub vector_fits_lem : (c : Call) (v : Vector)
    → (vector_fits c v ≡ true) ↔ (brings_words v.kind ≡ true → InSpan (is_long c) c.vector v.span.start v.span.words)
vector_fits_lem c v = (λ e is. (fits_span (is_long c) c.vector v.span.start v.span.words).0 (rw is at e), λ spans. by_kind (brings_words v.kind) spans)
  where
    by_kind : (brings : Bool) → (brings ≡ true → InSpan (is_long c) c.vector v.span.start v.span.words)
        → (not brings || fits (is_long c) c.vector v.span.start v.span.words) ≡ true
    by_kind true spans = (fits_span (is_long c) c.vector v.span.start v.span.words).1 (spans refl)
    by_kind false spans = refl

-- 01: "Vectors without message words (tone-only, short message, short instruction)" have none in their span
pub no_words : (n : ℕ) → brings_words (vector_of n).kind ≡ false → (vector_of n).span.words ≡ 0
no_words n = by_kind (is_numeric (vector_type n)) (is_text (vector_type n)) _ _
  where
    by_kind : (numeric text : Bool) (a b : Span) → (numeric || text) ≡ false
        → (pick numeric a (pick text b (record { check = 0; words = 0; start = 0 }))).words ≡ 0
    by_kind true text a b e = absurd (true≢false e)
    by_kind false true a b e = absurd (true≢false e)
    by_kind false false a b e = refl

-- what is asked of both: sound records, a right packet, not marked in error
pub record Heard (s : Calls) (n : ℕ) : Type 0 where
  pub right : sound (opens s) ≡ true
  pub packet : is_vector n ≡ true
  pub whole : (message_in n).damaged ≡ 0

-- a vector for a call that has none yet
pub record Vectored (s : Calls) (n : ℕ) : Type 0 where
  pub heard : Heard s n
  pub for_vector : is_for_vector s n ≡ true
  pub first : has_vector (vector_call s n) ≡ false

-- its call stands in its place
pub vectored_within : (s : Calls) (n : ℕ) → Vectored s n → vector_place s n < length (opens s)
vectored_within s n v = (held (message_in n).phase (message_in n).word (opens s) v.for_vector).0

module _ (s : Calls) (memory : List ℕ) (n : ℕ) where
  -- 01: "The vector packet (same phase, that word number) gives the span of message words": it is taken where its span is good, and the memory has room
  pub record VectorTaken : Type 0 where
    pub vectored : Vectored s n
    pub good : brings_words (vector_of n).kind ≡ true
        → InSpan (is_long (vector_call s n)) (vector_call s n).vector (vector_of n).span.start (vector_of n).span.words
    pub room : 680 ≤ length memory

  -- 01's table, 9: "a bad span closes its call"
  pub record BadSpan : Type 0 where
    pub vectored : Vectored s n
    pub bad : vector_fits (vector_call s n) (vector_of n) ≡ false

  -- 01: "A word goes to the calls that still lack it": it is taken where it is no call's vector, some call lacks it, and the memory has room
  pub record WordTaken : Type 0 where
    pub heard : Heard s n
    pub no_vector : is_for_vector s n ≡ false
    pub lacked : is_lacked (opens s) (message_in n) memory ≡ true
    pub room : 680 ≤ length memory

  -- the questions that are asked of both are passed
  heard_passes : Heard s n
      → hear_of s memory n ≡ pick (is_for_vector s n) (vector_told s memory (vector_place s n) (vector_call s n) (vector_of n)) (word_told s memory (message_in n))
  unfolding hear_of
  heard_passes h =
      passes (not (sound (opens s))) refusals.State _ (ap not h.right)
      ∙ passes (not (is_vector n)) refusals.Packet _ (ap not h.packet)
      ∙ passes (not (eqb (message_in n).damaged 0)) refusals.Damaged _ (ap not (eq-eqb (message_in n).damaged 0 h.whole))

  -- every answer that is none of their refusals has passed the questions that are asked of both
  passed_heard : (number : ℕ) → (2 ≡ number → ⊥) → (7 ≡ number → ⊥) → (10 ≡ number → ⊥) → hear_number s memory n ≡ number
      → Heard s n
      × (number_told (pick (is_for_vector s n) (vector_told s memory (vector_place s n) (vector_call s n) (vector_of n)) (word_told s memory (message_in n))) ≡ number)
  unfolding hear_of
  passed_heard number no-state no-packet no-damaged e =
      let state = passed_to number_told number (not (sound (opens s))) refusals.State _ no-state e in
      let packet = passed_to number_told number (not (is_vector n)) refusals.Packet _ no-packet state.1 in
      let damaged = passed_to number_told number (not (eqb (message_in n).damaged 0)) refusals.Damaged _ no-damaged packet.1 in (
        record {
          right = not-false _ state.0;
          packet = not-false _ packet.0;
          whole = eqb-true (message_in n).damaged 0 (not-false _ damaged.0);
        },
        damaged.1,
      )

  -- a vector is taken exactly then
  pub vector_accepted : ((hear_number s memory n ≡ 0) × (is_for_vector s n ≡ true)) ↔ VectorTaken
  vector_accepted = (there, back)
    where
      there : (hear_number s memory n ≡ 0) × (is_for_vector s n ≡ true) → VectorTaken
      there e =
          let both = passed_heard 0 (λ x. omega arith) (λ x. omega arith) (λ x. omega arith) e.0 in
          let taken =
          vector_taken (has_vector (vector_call s n)) (vector_fits (vector_call s n) (vector_of n)) (is_short memory) _
          (sym (ap number_told (picks_first (is_for_vector s n) _ (word_told s memory (message_in n)) e.1)) ∙ both.1) in
          record {
            vectored = record { heard = both.0; for_vector = e.1; first = taken.0 };
            good = (vector_fits_lem (vector_call s n) (vector_of n)).0 taken.1;
            room = ltb-false (length memory) 680 taken.2;
          }

      back : VectorTaken → (hear_number s memory n ≡ 0) × (is_for_vector s n ≡ true)
      back v =
          let c = vector_call s n in (
            ap number_told
                (heard_passes v.vectored.heard
                ∙ picks_first (is_for_vector s n) _ (word_told s memory (message_in n)) v.vectored.for_vector
                ∙ passes (not (has_vector c) && not (vector_fits c (vector_of n))) refusals.Size _
                (rw ((vector_fits_lem c (vector_of n)).1 v.good) (and-false (not (has_vector c))))
                ∙ passes (has_vector c) refusals.OutOfTurn _ v.vectored.first
                ∙ passes (is_short memory) refusals.Room _ (le-ltb (length memory) 680 v.room)),
            v.vectored.for_vector,
          )

  -- 9 is told exactly for a bad span
  pub bad_span : (hear_number s memory n ≡ 9) ↔ BadSpan
  bad_span = (there, back)
    where
      there : hear_number s memory n ≡ 9 → BadSpan
      there e =
          let both = passed_heard 9 (λ x. omega arith) (λ x. omega arith) (λ x. omega arith) e in
          ⊎_elim
          (λ is.
          let bad =
          vector_bad (has_vector (vector_call s n)) (vector_fits (vector_call s n) (vector_of n)) (is_short memory) _
          (sym (ap number_told (picks_first (is_for_vector s n) _ (word_told s memory (message_in n)) is)) ∙ both.1) in
          record { vectored = record { heard = both.0; for_vector = is; first = bad.0 }; bad = bad.1 })
          (λ none.
          absurd
          (word_not_bad (is_held (opens s) (message_in n)) (is_lacked (opens s) (message_in n) memory) (is_short memory) _
          (sym (ap number_told (picks_second (is_for_vector s n) (vector_told s memory (vector_place s n) (vector_call s n) (vector_of n)) _ none)) ∙ both.1)))
          (decided (is_for_vector s n))

      back : BadSpan → hear_number s memory n ≡ 9
      back b =
          ap number_told
          (heard_passes b.vectored.heard
          ∙ picks_first (is_for_vector s n) _ (word_told s memory (message_in n)) b.vectored.for_vector
          ∙ refused_by (not (has_vector (vector_call s n)) && not (vector_fits (vector_call s n) (vector_of n))) refusals.Size _ (rw (b.vectored.first, b.bad)))

  -- a message word is taken exactly then
  pub word_accepted : ((hear_number s memory n ≡ 0) × (is_for_vector s n ≡ false)) ↔ WordTaken
  word_accepted = (there, back)
    where
      there : (hear_number s memory n ≡ 0) × (is_for_vector s n ≡ false) → WordTaken
      there e =
          let both = passed_heard 0 (λ x. omega arith) (λ x. omega arith) (λ x. omega arith) e.0 in
          let taken =
          word_taken (is_held (opens s) (message_in n)) (is_lacked (opens s) (message_in n) memory) (is_short memory) _
          (sym (ap number_told (picks_second (is_for_vector s n) (vector_told s memory (vector_place s n) (vector_call s n) (vector_of n)) _ e.1)) ∙ both.1) in
          record { heard = both.0; no_vector = e.1; lacked = taken.1; room = ltb-false (length memory) 680 taken.2 }

      back : WordTaken → (hear_number s memory n ≡ 0) × (is_for_vector s n ≡ false)
      back w =
          let m = message_in n in
          let is-held = any_weaker (λ c. lacks c m memory) (λ c. holds_word c m) (opens s)
          (λ c e. first_of (holds_word c m) (leb lacking (get_or memory (word_place c m) lacking)) e) w.lacked in (
            ap number_told
                (heard_passes w.heard
                ∙ picks_second (is_for_vector s n) (vector_told s memory (vector_place s n) (vector_call s n) (vector_of n)) _ w.no_vector
                ∙ passes (is_held (opens s) m && not (is_lacked (opens s) m memory)) refusals.OutOfTurn _ (rw w.lacked (and-false (is_held (opens s) m)))
                ∙ passes (not (is_held (opens s) m)) refusals.NoCall _ (ap not is-held)
                ∙ passes (is_short memory) refusals.Room _ (le-ltb (length memory) 680 w.room)),
            w.no_vector,
          )

  -- ---- the records and the memory then

  -- the records then: without the call of a bad span, with the vector of one that is taken, or as they were
  pub heard_by : (P : Calls → Type 0) → (BadSpan → P (removed s (vector_place s n)))
      → (VectorTaken → P (changed s (vector_place s n) (vector_given s n))) → P s → P (heard_in s memory n)
  unfolding heard_in
  heard_by P closed taken else =
      by_number (eqb (hear_number s memory n) 9) (eqb (hear_number s memory n) 0 && is_for_vector s n)
      (λ is. closed (bad_span.0 (eqb-true (hear_number s memory n) 9 is)))
      (λ is. taken
      (vector_accepted.0 (
        eqb-true (hear_number s memory n) 0 (first_of (eqb (hear_number s memory n) 0) (is_for_vector s n) is),
        second_of (eqb (hear_number s memory n) 0) (is_for_vector s n) is,
      )))
    where
      by_number : (nine given : Bool) → (nine ≡ true → P (removed s (vector_place s n))) → (given ≡ true → P (changed s (vector_place s n) (vector_given s n)))
          → P (pick nine (removed s (vector_place s n)) (pick given (changed s (vector_place s n) (vector_given s n)) s))
      by_number true given there here = there refl
      by_number false true there here = here refl
      by_number false false there here = else

  -- the open calls then: without the call of a bad span, with the vector of one that is taken, or as they were
  pub heard_rows : (P : List Call → Type 0) → (BadSpan → P (left (vector_place s n) (opens s)))
      → (VectorTaken → P (set (opens s) (vector_place s n) (vector_given s n))) → P (opens s)
      → P (opens (heard_in s memory n))
  heard_rows P closed taken else =
      heard_by (λ t. P (opens t))
      (λ b. rw (opens_removed s (vector_place s n) (vectored_within s n b.vectored)) (closed b))
      (λ v. rw (opens_changed s (vector_place s n) (vector_given s n)) (taken v))
      else

  -- the records after a bad span are without its call
  pub closes : BadSpan → heard_in s memory n ≡ removed s (vector_place s n)
  unfolding heard_in
  closes b = picks_first (eqb (hear_number s memory n) 9) _ _ (eq-eqb (hear_number s memory n) 9 (bad_span.1 b))

  -- the records after a vector that is taken have it in its call
  pub gives_vector : VectorTaken → heard_in s memory n ≡ changed s (vector_place s n) (vector_given s n)
  unfolding heard_in
  gives_vector v =
      let none = (vector_accepted.1 v).0 in
      picks_second (eqb (hear_number s memory n) 9) _ _ (ne_eqb (hear_number s memory n) 9 (λ e. omega arith))
      ∙ picks_first (eqb (hear_number s memory n) 0 && is_for_vector s n) _ s (rw (none, v.vectored.for_vector))

  -- the records after a word that is taken are as they were
  pub word_stays : WordTaken → heard_in s memory n ≡ s
  word_stays w =
      heard_by (λ t. t ≡ s)
      (λ b. absurd (not_both (is_for_vector s n) b.vectored.for_vector w.no_vector))
      (λ v. absurd (not_both (is_for_vector s n) v.vectored.for_vector w.no_vector))
      refl

  -- 01: "Unless said, state and lent memory stay as they were", of the records and of any refusal but 9
  pub refused_stays : (hear_number s memory n ≡ 0 → ⊥) → (hear_number s memory n ≡ 9 → ⊥) → heard_in s memory n ≡ s
  refused_stays some other = heard_by (λ t. t ≡ s) (λ b. absurd (other (bad_span.1 b))) (λ v. absurd (some (vector_accepted.1 v).0)) refl

  -- 01: "Unless said, state and lent memory stay as they were", of the memory and of any refusal
  pub refused_memory : (hear_number s memory n ≡ 0 → ⊥) → memory_after s memory n ≡ memory
  unfolding memory_after
  refused_memory some = picks_second (eqb (hear_number s memory n) 0) _ memory (ne_eqb (hear_number s memory n) 0 some)

  -- the memory: a vector that is taken has its words lacking, a word that is taken is given to the calls, else it is as it was
  pub memory_by : (P : List ℕ → Type 0)
      → (VectorTaken → P (put memory (place_of (vector_given s n)) (replicate (vector_given s n).words lacking)))
      → (WordTaken → P (given_to (opens s) (message_in n) memory)) → P memory → P (memory_after s memory n)
  unfolding memory_after
  memory_by P taken given else =
      by_number (eqb (hear_number s memory n) 0) (is_for_vector s n)
      (λ none is. taken (vector_accepted.0 (eqb-true (hear_number s memory n) 0 none, is)))
      (λ none is. given (word_accepted.0 (eqb-true (hear_number s memory n) 0 none, is)))
    where
      by_number : (none is-vector : Bool)
          → (none ≡ true → is-vector ≡ true → P (put memory (place_of (vector_given s n)) (replicate (vector_given s n).words lacking)))
          → (none ≡ true → is-vector ≡ false → P (given_to (opens s) (message_in n) memory))
          → P
          (pick none
          (pick is-vector (put memory (place_of (vector_given s n)) (replicate (vector_given s n).words lacking))
          (given_to (opens s) (message_in n) memory)) memory)
      by_number true true there here = there refl refl
      by_number true false there here = here refl refl
      by_number false is-vector there here = else

-- ---- the end of the frame

module _ (s : Calls) (memory : List ℕ) where
  -- sound records, and room for the words
  pub record Ended : Type 0 where
    pub right : sound (opens s) ≡ true
    pub room : 680 ≤ length memory

  -- nothing is refused exactly then
  pub end_accepted : (number_told (end_of s memory) ≡ 0) ↔ Ended
  unfolding end_of
  end_accepted = (there, back)
    where
      there : number_told (end_of s memory) ≡ 0 → Ended
      there e =
          let state = passed_to number_told 0 (not (sound (opens s))) refusals.State _ (λ x. omega arith) e in
          let short = passed_to number_told 0 (is_short memory) refusals.Room (given []) (λ x. omega arith) state.1 in
          record { right = not-false _ state.0; room = ltb-false (length memory) 680 short.0 }

      back : Ended → number_told (end_of s memory) ≡ 0
      back a = rw (a.right, le-ltb (length memory) 680 a.room)

  -- 01: "End of frame closes all calls"
  pub end_closes : Ended → ended_in s memory ≡ fresh (length s.calls)
  unfolding ended_in
  end_closes a = rw (end_accepted.1 a)

  -- 01: "lists those incomplete, in the order opened"
  pub end_lists : Ended → opens (ended_with s memory) ≡ incomplete_in (opens s) memory
  unfolding ended_with
  end_lists a = rw (end_accepted.1 a) (opens_listed (length s.calls) (incomplete_in (opens s) memory))

  -- where the end of a frame is refused no call is listed
  pub end_lists_none : (number_told (end_of s memory) ≡ 0 → ⊥) → ended_with s memory ≡ fresh (length s.calls)
  unfolding ended_with
  end_lists_none some = rw (ne_eqb (number_told (end_of s memory)) 0 some)

  -- a refusal leaves the records as they were
  pub end_refused : (number_told (end_of s memory) ≡ 0 → ⊥) → ended_in s memory ≡ s
  unfolding ended_in
  end_refused some = rw (ne_eqb (number_told (end_of s memory)) 0 some)

  -- the records then
  pub ended_by : (P : Calls → Type 0) → P (fresh (length s.calls)) → P s → P (ended_in s memory)
  ended_by P there else =
      ⊎_elim
      (λ none. rw (end_closes (end_accepted.0 (eqb-true (number_told (end_of s memory)) 0 none))) there)
      (λ some. rw (end_refused (eqb-false (number_told (end_of s memory)) 0 some)) else)
      (decided (eqb (number_told (end_of s memory)) 0))

-- ---- the records stay sound

-- a call that is opened is within its limits
pub opened_limits : (s : Calls) (n : ℕ) → Opens s n → Limits (call_of (address_in n))
opened_limits s n o =
    record {
      of_phase = omega arith;
      of_vector = vector_small;
      of_span = λ has. absurd (true≢false (sym has));
    }
  where
    vector_small : (address_in n).vector ≤ 87
    vector_small =
        let tone = eqb (address_in n).tone_only 1 in
        let right = second_of (shows tables.address n) (tone || leb (get_or (fields_of tables.address n) 5 0) 87) o.addressed.packet in
        let small = leb-true (get_or (fields_of tables.address n) 5 0) 87 (other_of tone (leb (get_or (fields_of tables.address n) 5 0) 87) right o.speaks) in
        rw (picks_second tone 0 (get_or (fields_of tables.address n) 5 0) o.speaks) small

-- an address packet leaves sound records sound
pub open_sound : (s : Calls) (n : ℕ) → sound (opens s) ≡ true → sound (opens (opened_in s n)) ≡ true
open_sound s n right =
    opened_rows s n (λ r. sound r ≡ true) (λ o. added_sound (opens s) right (call_of (address_in n)) o.alone (opened_limits s n o)) right

-- a call with its vector is within its limits
pub given_limits : (s : Calls) (memory : List ℕ) (n : ℕ) → VectorTaken s memory n → Limits (vector_given s n)
given_limits s memory n v =
    let old = ((sound_row (opens s)).0 v.vectored.heard.right).limits (vector_place s n) (vectored_within s n v.vectored) in
    record {
      of_phase = old.of_phase;
      of_vector = old.of_vector;
      of_span = λ has. ⊎_elim (λ brings. inr (v.good brings)) (λ none. inl (none, no_words n none)) (decided (brings_words (vector_of n).kind));
    }

-- a vector or message packet leaves sound records sound
pub heard_sound : (s : Calls) (memory : List ℕ) (n : ℕ) → sound (opens s) ≡ true → sound (opens (heard_in s memory n)) ≡ true
heard_sound s memory n right =
    heard_rows s memory n (λ r. sound r ≡ true)
    (λ b. left_sound (opens s) right (vector_place s n) (vectored_within s n b.vectored))
    (λ v. set_sound (opens s) right (vector_place s n) (vector_given s n) refl refl (given_limits s memory n v))
    right

-- any event leaves sound records sound
pub stays_sound : (s : State) (event : Event) → sound (opens s.calls) ≡ true → sound (opens (after s event).calls) ≡ true
stays_sound s (addressed n) right = open_sound s.calls n right
stays_sound s (heard n) right = heard_sound s.calls s.memory n right
stays_sound s ended right = ended_by s.calls s.memory (λ t. sound (opens t) ≡ true) (fresh_sound (length s.calls.calls)) right

-- ---- open calls stay

-- a call stands at a place of a row
pub record Stands (c : Call) (place : ℕ) (row : List Call) : Type 0 where
  pub within : place < length row
  pub here : get_or row place blank ≡ c

-- after an address packet every open call stands where it stood
pub open_stays : (s : Calls) (n i : ℕ) → i < length (opens s) → Stands (get_or (opens s) i blank) i (opens (opened_in s n))
open_stays s n i inside =
    opened_rows s n (Stands (get_or (opens s) i blank) i)
    (λ o. record { within = simp length-append (omega arith); here = get_or-append (opens s) (call_of (address_in n) ∷ []) blank i inside })
    (record { within = inside; here = refl })

-- the call that an address packet opens is the last
pub opened_stands : (s : Calls) (n : ℕ) → Opens s n → Stands (call_of (address_in n)) (length (opens s)) (opens (opened_in s n))
opened_stands s n o =
    rw (opened_row s n o) (record { within = simp length-append (omega arith); here = get_or-append_seam (opens s) (call_of (address_in n)) [] blank })

module _ (s : Calls) (memory : List ℕ) (n : ℕ) where
  -- where a call stands after a vector or message packet: those after one that is closed move one place down
  abbrev pub place_after : ℕ → ℕ
  place_after i = pick (eqb (hear_number s memory n) 9) (place_then (vector_place s n) i) i

  -- where no call is closed it is where it was
  pub place_stays : (hear_number s memory n ≡ 9 → ⊥) → (i : ℕ) → place_after i ≡ i
  place_stays other i = picks_second (eqb (hear_number s memory n) 9) _ i (ne_eqb (hear_number s memory n) 9 other)

  -- a bad span closes its call: the others are left in their order, and the memory is as it was
  pub bad_span_closes : hear_number s memory n ≡ 9 → (opens (heard_in s memory n) ≡ left (vector_place s n) (opens s)) × (memory_after s memory n ≡ memory)
  bad_span_closes e =
      let b = (bad_span s memory n).0 e in
      (ap opens (closes s memory n b) ∙ opens_removed s (vector_place s n) (vectored_within s n b.vectored), refused_memory s memory n (λ none. omega arith))

  -- a vector that is taken gives its span to its call, which stands where it stood
  pub vector_stands : VectorTaken s memory n → Stands (vector_given s n) (vector_place s n) (opens (heard_in s memory n))
  vector_stands v =
      let inside = vectored_within s n v.vectored in
      rw (gives_vector s memory n v, opens_changed s (vector_place s n) (vector_given s n))
      (record { within = simp length-set inside; here = get_or-set_same (opens s) (vector_place s n) (vector_given s n) blank inside })

  module _ (i : ℕ) (inside : i < length (opens s)) where
    -- a call that is not the one of the vector is still open, with the same record
    pub call_stays : (i ≡ vector_place s n → ⊥) → Stands (get_or (opens s) i blank) (place_after i) (opens (heard_in s memory n))
    call_stays other =
        ⊎_elim
        (λ bad.
        let e = eqb-true (hear_number s memory n) 9 bad in
        let stays = left_stays (opens s) (vector_place s n) (vectored_within s n ((bad_span s memory n).0 e).vectored) i inside other in
        rw (picks_first (eqb (hear_number s memory n) 9) (place_then (vector_place s n) i) i bad, (bad_span_closes e).0)
        (record { within = stays.0; here = stays.1 }))
        (λ good.
        rw (picks_second (eqb (hear_number s memory n) 9) (place_then (vector_place s n) i) i good)
        (heard_rows s memory n (Stands (get_or (opens s) i blank) i)
        (λ b. absurd (eqb-false (hear_number s memory n) 9 good ((bad_span s memory n).1 b)))
        (λ v. record { within = simp length-set inside; here = get_or-set_other (opens s) (vector_place s n) i (vector_given s n) blank other })
        (record { within = inside; here = refl })))
        (decided (eqb (hear_number s memory n) 9))

    -- a call that has its vector is that of no vector that is taken or refused 9
    has_vector_not : has_vector (get_or (opens s) i blank) ≡ true → i ≡ vector_place s n → Vectored s n → ⊥
    has_vector_not has same v = not_both (has_vector (vector_call s n)) (rw same at has) v.first

    -- a call that has its vector always stays
    pub with_vector_stays : has_vector (get_or (opens s) i blank) ≡ true → Stands (get_or (opens s) i blank) (place_after i) (opens (heard_in s memory n))
    with_vector_stays has =
        ⊎_elim
        (λ is.
        let same = eqb-true i (vector_place s n) is in
        rw (place_stays (λ e. has_vector_not has same ((bad_span s memory n).0 e).vectored) i)
        (heard_rows s memory n (Stands (get_or (opens s) i blank) i)
        (λ b. absurd (has_vector_not has same b.vectored))
        (λ v. absurd (has_vector_not has same v.vectored))
        (record { within = inside; here = refl })))
        (λ other. call_stays (eqb-false i (vector_place s n) other))
        (decided (eqb i (vector_place s n)))

    -- a call of another phase than the packet's is not the one of the vector
    pub other_place : ((get_or (opens s) i blank).phase ≡ (message_in n).phase → ⊥) → i ≡ vector_place s n → ⊥
    other_place other same =
        other
        (ap (λ (k : ℕ). (get_or (opens s) k blank).phase) same
        ∙ ((is_of_lem (message_in n).phase (message_in n).word (vector_call s n)).0
        (first_passes (is_of (message_in n).phase (message_in n).word) (opens s) blank (rw (← same) inside))).same_phase)

    -- a call of another phase than the packet's stays
    pub other_phase : ((get_or (opens s) i blank).phase ≡ (message_in n).phase → ⊥) → Stands (get_or (opens s) i blank) (place_after i) (opens (heard_in s memory n))
    other_phase other = call_stays (other_place other)

  -- calls that stay do so in their order
  pub order_stays : (i j : ℕ) → (i ≡ vector_place s n → ⊥) → i < j → place_after i < place_after j
  order_stays i j other less =
      ⊎_elim
      (λ bad. rw bad (then_order (vector_place s n) i j other less))
      (λ good. rw good less)
      (decided (eqb (hear_number s memory n) 9))
