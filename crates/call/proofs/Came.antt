-- The words of a call over a run within a frame: what came for each of its places, in the order of the message (document 01, "Calls in a frame").
use Prim.Native.Nat.{ℕ, ◌+◌, ◌%◌, ◌≤◌, ◌<◌}
use mathlib.Core.Bool.{Bool, true, false, ◌&&◌, and-false, and_comm, false≢true}
use mathlib.Core.List.{List, [], ◌∷◌, map}
use mathlib.Core.Logic.{⊎_elim}
use mathlib.Core.Path.{◌≡◌, refl, sym, ap, ◌∙◌}
use native.Mathlib.Nat.{mod-eq_of_lt, mod-lt}
use native.Mathlib.Omega.{arith}
use borrow.Author.Tests.{eq-eqb, eqb-true, eqb-false, lt-leb, ltb-true}
use lib.Dec.{leb, eqb}
use lib.ListN.{length, get_or, drop, replicate, length-drop, length-map, get_or-replicate}
use lib.Seq.{length-take-le, get_or-take, get_or-drop, ext_get_or}
use Rattle.laws.specs.Choice.{pick}
use Rattle.laws.specs.Lists.{put}
use Rattle.laws.proofs.Lists.{those_fewer}
use Rattle.laws.proofs.Rows.{map_at}
use Rattle.laws.proofs.Tests.{decided, eqb_swap}
use Rattle.sums.specs.Words.{undamaged}
use Rattle.call.specs.declared.Call.{Call}
use Rattle.call.specs.declared.Calls.{Calls}
use Rattle.call.specs.Calls.{most_calls, blank, fresh, opens, has_vector, numbers_of, in_limits, sound}
use Rattle.call.specs.Words.{lacking, memory_size, place_of, words_of, is_complete, given_to}
use Rattle.call.specs.Steps.{next_area}
use Rattle.call.specs.Answers.{message_in, is_for_vector, vector_place, vector_given, hear_number, memory_after}
use Rattle.call.specs.Runs.{Event, addressed, heard, ended, State, after, after_all, is_in_frame, taken_at, bits_in, came_for}
use Rattle.call.proofs.Invariants.{Placed}
use Rattle.call.proofs.Records.{in_limits_lem, sound_row}
use Rattle.call.proofs.Rows.{opens_most}
use Rattle.call.proofs.Laws.{VectorTaken, vector_accepted, refused_memory, stays_sound, Stands, vector_stands}
use Rattle.call.proofs.Runs.{event_lengths, run_lengths, placed_after, fresh_run_placed, run_place, run_stays, given_most}
use Rattle.call.proofs.Spans.{numbers_length}
use Rattle.call.proofs.MemoryLaws.{Within, goes_to, words_most, word-given, vector_keeps, vector_lacks_all}

-- ---- one packet

-- the k-th word of a call stands at its place
pub word_at : (c : Call) (memory : List ℕ) (k : ℕ) → k < c.words → get_or (words_of c memory) k 0 ≡ get_or memory (place_of c + k) 0
word_at c memory k inside = get_or-take c.words (drop (place_of c) memory) k 0 inside ∙ get_or-drop (place_of c) memory k 0

-- a word of 21 bits is none that is lacking
pub bits_less : (n : ℕ) → (message_in n).bits < lacking
bits_less n = mod-lt n (omega arith)

module _ (s : Calls) (memory : List ℕ) (n : ℕ) where
  -- the lent memory after a vector that was taken: its call lacks all its words
  pub memory_vector : eqb (hear_number s memory n) 0 ≡ true → is_for_vector s n ≡ true
      → memory_after s memory n ≡ put memory (place_of (vector_given s n)) (replicate (vector_given s n).words lacking)
  unfolding memory_after
  memory_vector taken is = rw (taken, is)

  -- the lent memory after a message word that was taken: the word is given to the calls
  pub memory_word : eqb (hear_number s memory n) 0 ≡ true → is_for_vector s n ≡ false → memory_after s memory n ≡ given_to (opens s) (message_in n) memory
  unfolding memory_after
  memory_word taken none = rw (taken, none)

-- each call of a sound row is within its limits
sound_within : (row : List Call) → sound row ≡ true → Within row
sound_within row good i within = (in_limits_lem (get_or row i blank)).1 (((sound_row row).0 good).limits i within)

-- a call that is open with its vector in a state that the host's own runs keep
pub record Ready (c : Call) (s : State) : Type 0 where
  pub right : sound (opens s.calls) ≡ true
  pub placed : Placed (opens s.calls)
  pub few : length s.calls.calls ≤ 8
  pub enough : memory_size ≤ length s.memory
  pub has : has_vector c ≡ true
  pub place : ℕ
  pub stands : Stands c place (opens s.calls)

-- a ready call is one of at most eight
ready_few : (c : Call) (s : State) → Ready c s → length (opens s.calls) ≤ 8
ready_few c s r = omega (arith, r.few, (opens_most s.calls).0)

-- a ready call is within its limits
ready_limits : (c : Call) (s : State) → Ready c s → in_limits c ≡ true
ready_limits c s r = ap in_limits (sym r.stands.here) ∙ sound_within (opens s.calls) r.right r.place r.stands.within

-- the words of a ready call are within the memory
ready_words : (c : Call) (s : State) → Ready c s → place_of c + c.words ≤ length s.memory
ready_words c s r =
    let most = words_most c (ready_limits c s r) r.has in
    omega (arith, r.enough)

-- ---- after one packet

module _ (c : Call) (s : State) (r : Ready c s) (n : ℕ) where
  -- a word of the call after a vector for another: as it was
  kept_by_vector : eqb (hear_number s.calls s.memory n) 0 ≡ true → is_for_vector s.calls n ≡ true
      → words_of c (memory_after s.calls s.memory n) ≡ words_of c s.memory
  kept_by_vector taken is =
      let v = (vector_accepted s.calls s.memory n).0 (eqb-true (hear_number s.calls s.memory n) 0 taken, is) in
      let found = ltb-true (vector_place s.calls n) (length (opens s.calls)) is in
      let fewer = those_fewer has_vector (opens s.calls) blank (vector_place s.calls n) found v.vectored.first in
      let below : c.area < next_area (opens s.calls) =
      rw r.stands.here at (r.placed.below r.place r.stands.within (ap has_vector r.stands.here ∙ r.has)) in
      let whole : c.area % 8 ≡ c.area = mod-eq_of_lt (omega (arith, ready_few c s r)) in
      let whole-next : next_area (opens s.calls) % 8 ≡ next_area (opens s.calls) = mod-eq_of_lt (omega (arith, ready_few c s r)) in
      ap (words_of c) (memory_vector s.calls s.memory n taken is)
      ∙ vector_keeps s.memory (vector_given s.calls n) (given_most s.calls s.memory n v) r.enough c
      (words_most c (ready_limits c s r) r.has) (λ same. omega arith)

  -- a word of the call after a vector or message packet: the one that came, if it was taken for its place and the call lacked it, and else what it was
  heard_at : (k : ℕ) → k < c.words
      → let at = place_of c + k in
      get_or (memory_after s.calls s.memory n) at 0
      ≡ pick (leb lacking (get_or s.memory at 0) && taken_at s (heard n) c.phase (get_or (numbers_of c) k 0)) (message_in n).bits (get_or s.memory at 0)
  heard_at k inside =
      ⊎_elim
      (λ taken.
      ⊎_elim
      (λ is.
      sym (word_at c (memory_after s.calls s.memory n) k inside)
      ∙ ap (λ (words : List ℕ). get_or words k 0) (kept_by_vector taken is)
      ∙ word_at c s.memory k inside
      ∙ rw (is, taken, and-false))
      (λ none.
      ap (λ (memory : List ℕ). get_or memory at 0) (memory_word s.calls s.memory n taken none)
      ∙ given
      ∙ rw (none, taken, eqb_swap (message_in n).phase c.phase, eqb_swap (message_in n).word number)
      (ap (λ (test : Bool). pick test (message_in n).bits what)
      (and_comm (eqb c.phase (message_in n).phase && eqb number (message_in n).word) (leb lacking what))))
      (decided (is_for_vector s.calls n)))
      (λ refused.
      ap (λ (memory : List ℕ). get_or memory at 0) (refused_memory s.calls s.memory n (eqb-false (hear_number s.calls s.memory n) 0 refused))
      ∙ rw (refused, and-false))
      (decided (eqb (hear_number s.calls s.memory n) 0))
    where
      at : ℕ
      at = place_of c + k

      number : ℕ
      number = get_or (numbers_of c) k 0

      what : ℕ
      what = get_or s.memory at 0

      given : get_or (given_to (opens s.calls) (message_in n) s.memory) at 0 ≡ pick (goes_to c k (message_in n) s.memory) (message_in n).bits what
      given =
          rw r.stands.here at
          (word-given (message_in n) s.memory (opens s.calls) r.placed (ready_few c s r)
          (sound_within (opens s.calls) r.right) r.place k r.stands.within
          (ap has_vector r.stands.here ∙ r.has) (rw r.stands.here inside))

module _ (c : Call) (s : State) (r : Ready c s) where
  -- a word of the call after any event: the one that came, if it was taken for its place and the call lacked it, and else what it was
  pub word_after : (e : Event) (k : ℕ) → k < c.words
      → let at = place_of c + k in
      get_or (after s e).memory at 0
      ≡ pick (leb lacking (get_or s.memory at 0) && taken_at s e c.phase (get_or (numbers_of c) k 0)) (bits_in e) (get_or s.memory at 0)
  word_after (addressed n) k inside = rw and-false
  word_after (heard n) k inside = heard_at c s r n k inside
  word_after ended k inside = rw and-false

  -- a word that has come stays
  pub come_stays : (e : Event) (k : ℕ) → k < c.words → get_or s.memory (place_of c + k) 0 < lacking
      → get_or (after s e).memory (place_of c + k) 0 ≡ get_or s.memory (place_of c + k) 0
  come_stays e k inside less = word_after e k inside ∙ rw (lt-leb lacking (get_or s.memory (place_of c + k) 0) less)

  -- one that is lacking is the word that is taken for its place, and else still lacking
  pub lacking_comes : (e : Event) (k : ℕ) → k < c.words → get_or s.memory (place_of c + k) 0 ≡ lacking
      → get_or (after s e).memory (place_of c + k) 0 ≡ pick (taken_at s e c.phase (get_or (numbers_of c) k 0)) (bits_in e) lacking
  lacking_comes e k inside none = word_after e k inside ∙ rw none

-- what is taken is a word
taken_less : (s : State) (e : Event) (phase word : ℕ) → taken_at s e phase word ≡ true → bits_in e < lacking
taken_less s (addressed n) phase word taken = absurd (false≢true taken)
taken_less s (heard n) phase word taken = bits_less n
taken_less s ended phase word taken = absurd (false≢true taken)

-- ---- after a run

-- a run within a frame: its first event, and the others
frame_parts : (e : Event) (events : List Event) → is_in_frame (e ∷ events) ≡ true → (is_in_frame (e ∷ []) ≡ true) × (is_in_frame events ≡ true)
unfolding is_in_frame
frame_parts (addressed n) events calm = (refl, calm)
frame_parts (heard n) events calm = (refl, calm)
frame_parts ended events calm = absurd (false≢true calm)

module _ (c : Call) where
  -- within a frame an open call that has its vector stays open, with all that the host's own runs keep
  pub stays : (s : State) (e : Event) → is_in_frame (e ∷ []) ≡ true → Ready c s → Ready c (after s e)
  unfolding after_all
  stays s e calm r =
      let lengths = event_lengths s e in
      record {
        right = stays_sound s e r.right;
        placed = placed_after s e r.placed;
        few = omega (arith, r.few, lengths.0);
        enough = omega (arith, r.enough, lengths.1);
        has = r.has;
        place = run_place s (e ∷ []) r.place;
        stands = rw r.stands.here at (run_stays s (e ∷ []) r.place calm r.stands.within (ap has_vector r.stands.here ∙ r.has));
      }

  -- the call stays ready to the end of the run
  pub ready_after : (events : List Event) (s : State) → Ready c s → is_in_frame events ≡ true → Ready c (after_all s events)
  unfolding after_all
  ready_after [] s r calm = r
  ready_after (e ∷ events) s r calm =
      let parts = frame_parts e events calm in
      ready_after events (after s e) (stays s e parts.0 r) parts.1

  module _ (k : ℕ) (inside : k < c.words) where
    -- a word that has come stays to the end of the run
    pub come_stays_on : (events : List Event) (s : State) → Ready c s → is_in_frame events ≡ true → get_or s.memory (place_of c + k) 0 < lacking
        → get_or (after_all s events).memory (place_of c + k) 0 ≡ get_or s.memory (place_of c + k) 0
    unfolding after_all
    come_stays_on [] s r calm less = refl
    come_stays_on (e ∷ events) s r calm less =
        let parts = frame_parts e events calm in
        let same = come_stays c s r e k inside less in
        come_stays_on events (after s e) (stays s e parts.0 r) parts.1 (rw same less) ∙ same

    -- one that is lacking is then the first that was taken for its place
    pub lacking_came : (events : List Event) (s : State) → Ready c s → is_in_frame events ≡ true → get_or s.memory (place_of c + k) 0 ≡ lacking
        → get_or (after_all s events).memory (place_of c + k) 0 ≡ came_for s events c.phase (get_or (numbers_of c) k 0)
    unfolding after_all came_for
    lacking_came [] s r calm none = none
    lacking_came (e ∷ events) s r calm none =
        let parts = frame_parts e events calm in
        let next = stays s e parts.0 r in
        let comes = lacking_comes c s r e k inside none in
        ⊎_elim
        (λ taken.
        let now : get_or (after s e).memory (place_of c + k) 0 ≡ bits_in e = rw taken at comes in
        come_stays_on events (after s e) next parts.1 (rw now (taken_less s e c.phase (get_or (numbers_of c) k 0) taken))
        ∙ rw taken now)
        (λ other.
        let still : get_or (after s e).memory (place_of c + k) 0 ≡ lacking = rw other at comes in
        rw other (lacking_came events (after s e) next parts.1 still))
        (decided (taken_at s e c.phase (get_or (numbers_of c) k 0)))

  module _ (s : State) (r : Ready c s) (fresh : words_of c s.memory ≡ replicate c.words lacking)
      (events : List Event) (calm : is_in_frame events ≡ true) where
    -- 01: "A message word goes to every call of its phase whose span holds it": from its vector on, the words of a
    -- call are those that came for its places, in the order of the message
    pub words_came : words_of c (after_all s events).memory ≡ map (came_for s events c.phase) (numbers_of c)
    words_came = ext_get_or 0 (words_of c (after_all s events).memory) (map (came_for s events c.phase) (numbers_of c)) (long ∙ sym many) each
      where
        long : length (words_of c (after_all s events).memory) ≡ c.words
        long =
            let enough = ready_words c (after_all s events) (ready_after events s r calm) in
            length-take-le c.words (drop (place_of c) (after_all s events).memory) (simp length-drop (omega arith))

        many : length (map (came_for s events c.phase) (numbers_of c)) ≡ c.words
        many = length-map (numbers_of c) (came_for s events c.phase) ∙ numbers_length c r.has

        each : (k : ℕ) → k < length (words_of c (after_all s events).memory)
            → get_or (words_of c (after_all s events).memory) k 0 ≡ get_or (map (came_for s events c.phase) (numbers_of c)) k 0
        each k near =
            let inside : k < c.words = rw long at near in
            let none : get_or s.memory (place_of c + k) 0 ≡ lacking =
            sym (word_at c s.memory k inside) ∙ ap (λ (words : List ℕ). get_or words k 0) fresh ∙ get_or-replicate c.words k lacking 0 inside in
            word_at c (after_all s events).memory k inside
            ∙ lacking_came k inside events s r calm none
            ∙ sym (map_at (came_for s events c.phase) (numbers_of c) k (omega (arith, numbers_length c r.has)))

    -- 01: "A call is complete when each word has come"
    pub complete_came : is_complete c (after_all s events).memory ≡ undamaged (map (came_for s events c.phase) (numbers_of c))
    complete_came = ap (λ (test : Bool). test && undamaged (words_of c (after_all s events).memory)) r.has ∙ ap undamaged words_came

-- ---- from its vector on

module _ (s : State) (placed : Placed (opens s.calls)) (few : length s.calls.calls ≤ 8) (n : ℕ) (v : VectorTaken s.calls s.memory n) where
  -- a call whose vector was taken has it, and is ready
  pub vector_ready : Ready (vector_given s.calls n) (after s (heard n))
  vector_ready =
      let lengths = event_lengths s (heard n) in
      record {
        right = stays_sound s (heard n) v.vectored.heard.right;
        placed = placed_after s (heard n) placed;
        few = omega (arith, few, lengths.0);
        enough = omega (arith, v.room, lengths.1);
        has = refl;
        place = vector_place s.calls n;
        stands = vector_stands s.calls s.memory n v;
      }

  -- a call whose vector was taken lacks all its words
  pub vector_lacks : words_of (vector_given s.calls n) (after s (heard n)).memory ≡ replicate (vector_given s.calls n).words lacking
  vector_lacks =
      let taken = (vector_accepted s.calls s.memory n).1 v in
      ap (words_of (vector_given s.calls n)) (memory_vector s.calls s.memory n (eq-eqb (hear_number s.calls s.memory n) 0 taken.0) taken.1)
      ∙ vector_lacks_all s.memory (vector_given s.calls n) (given_most s.calls s.memory n v) v.room

  -- the words of a call whose vector was taken are those that came for its places since, to the end of the frame
  pub words_since : (events : List Event) → is_in_frame events ≡ true
      → let c = vector_given s.calls n in
      words_of c (after_all (after s (heard n)) events).memory ≡ map (came_for (after s (heard n)) events c.phase) (numbers_of c)
  words_since events calm = words_came (vector_given s.calls n) (after s (heard n)) vector_ready vector_lacks events calm

-- the words of a call are those that came for its places since its vector, after any run that began with no call open, in as many records as 01 has
pub run_words : (memory : List ℕ) (before : List Event) (n : ℕ)
    → let s = after_all (record { calls = fresh most_calls; memory = memory }) before in
    VectorTaken s.calls s.memory n
    → (events : List Event)
    → is_in_frame events ≡ true
    → let c = vector_given s.calls n in
    words_of c (after_all (after s (heard n)) events).memory ≡ map (came_for (after s (heard n)) events c.phase) (numbers_of c)
run_words memory before n v =
    let start : State = record { calls = fresh most_calls; memory = memory } in
    words_since (after_all start before) (fresh_run_placed most_calls memory before) (omega (arith, (run_lengths start before).0)) n v
