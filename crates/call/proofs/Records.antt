-- What a sound row of calls is (document 01's table, 2), call by call, exactly as listed there; and where a key's call stands in one.
use Prim.Native.Nat.{ℕ, zero, suc, ◌+◌, ◌≤◌, ◌<◌}
use mathlib.Core.Bool.{Bool, true, false, not, ◌&&◌, ◌||◌, or-true}
use mathlib.Core.List.{List, [], ◌∷◌}
use mathlib.Core.Logic.{◌↔◌, ◌⊎◌, inl, inr, ⊎_elim}
use mathlib.Core.Path.{◌≡◌, refl, sym, ap, ◌∙◌}
use native.Mathlib.Omega.{arith}
use borrow.Author.Tests.{eq-eqb, eqb-true, le-leb, leb-true, lt-ltb, ltb-true, not-true}
use lib.Dec.{leb, ltb, eqb}
use lib.ListN.{length, get_or, drop, drop_of_length-le}
use Rattle.laws.specs.Choice.{bit_of}
use Rattle.laws.proofs.Searches.{first_passes, found_by, is_found, found_passes, none_passes, is_none, none_at}
use Rattle.laws.proofs.Tests.{decided, not_both, first_of, second_of, either_of, other_of}
use Rattle.call.specs.declared.Call.{Call}
use Rattle.call.specs.Calls.{blank, fresh, opens, has_vector, is_long, fits, brings_words, spanned, in_limits, is_of, find, holds, sound}

-- ---- one call

-- 01: "The span, 1 to 85 words in all, must lie after the vector (a long call's rest after its first word) and end by
-- word 87", in numbers; of one word alone, which follows the vector, the start says nothing
pub record InSpan (long : Bool) (vector start words : ℕ) : Type 0 where
  pub some_words : 1 ≤ words
  pub most_words : words ≤ 85
  pub first_word : vector + bit_of long ≤ 87
  pub rest : (words ≡ bit_of long) ⊎ ((vector + bit_of long < start) × (start + words ≤ 88 + bit_of long))

-- the test of a span is passed exactly by those within these limits
pub fits_span : (long : Bool) (vector start words : ℕ) → (fits long vector start words ≡ true) ↔ InSpan long vector start words
fits_span long vector start words = (there, back)
  where
    there : fits long vector start words ≡ true → InSpan long vector start words
    there e =
        let alone = eqb words (bit_of long) in
        let follows = ltb (vector + bit_of long) start in
        let ends = leb (start + words) (88 + bit_of long) in
        let three = first_of (leb 1 words && leb words 85 && leb (vector + bit_of long) 87) (alone || (follows && ends)) e in
        let two = first_of (leb 1 words && leb words 85) (leb (vector + bit_of long) 87) three in
        record {
          some_words = leb-true 1 words (first_of (leb 1 words) (leb words 85) two);
          most_words = leb-true words 85 (second_of (leb 1 words) (leb words 85) two);
          first_word = leb-true (vector + bit_of long) 87 (second_of (leb 1 words && leb words 85) (leb (vector + bit_of long) 87) three);
          rest =
              ⊎_elim (λ same. inl (eqb-true words (bit_of long) same))
              (λ both.
              inr
              (ltb-true (vector + bit_of long) start (first_of follows ends both), leb-true (start + words) (88 + bit_of long) (second_of follows ends both)))
              (either_of alone (follows && ends) (second_of (leb 1 words && leb words 85 && leb (vector + bit_of long) 87) (alone || (follows && ends)) e));
        }

    back : InSpan long vector start words → fits long vector start words ≡ true
    back s =
        rw (le-leb 1 words s.some_words, le-leb words 85 s.most_words, le-leb (vector + bit_of long) 87 s.first_word)
        (⊎_elim (λ same. rw (eq-eqb words (bit_of long) same))
        (λ both. rw (lt-ltb (vector + bit_of long) start both.0, le-leb (start + words) (88 + bit_of long) both.1) (or-true (eqb words (bit_of long))))
        s.rest)

-- 01's table, 2: the limits of a call; a vector that brings no words has a span of none
pub record Limits (c : Call) : Type 0 where
  pub of_phase : c.phase ≤ 3
  pub of_vector : c.vector ≤ 87
  pub of_span : has_vector c ≡ true → ((brings_words c.kind ≡ false) × (c.words ≡ 0)) ⊎ InSpan (is_long c) c.vector c.start c.words

-- the test of these limits is passed exactly by the calls within them
pub in_limits_lem : (c : Call) → (in_limits c ≡ true) ↔ Limits c
in_limits_lem c = (there, back)
  where
    there : in_limits c ≡ true → Limits c
    there e =
        let has = has_vector c in
        let brings = brings_words c.kind in
        let none = eqb c.words 0 in
        let fitting = fits (is_long c) c.vector c.start c.words in
        let two = first_of (leb c.phase 3 && leb c.vector 87) (not has || spanned c) e in
        let last = second_of (leb c.phase 3 && leb c.vector 87) (not has || spanned c) e in
        record {
          of_phase = leb-true c.phase 3 (first_of (leb c.phase 3) (leb c.vector 87) two);
          of_vector = leb-true c.vector 87 (second_of (leb c.phase 3) (leb c.vector 87) two);
          of_span =
              λ is.
              ⊎_elim
              (λ both. inl (not-true brings (first_of (not brings) none both), eqb-true c.words 0 (second_of (not brings) none both)))
              (λ good. inr ((fits_span (is_long c) c.vector c.start c.words).0 good))
              (either_of (not brings && none) fitting (other_of (not has) (spanned c) last (ap not is)));
        }

    is_spanned : ((brings_words c.kind ≡ false) × (c.words ≡ 0)) ⊎ InSpan (is_long c) c.vector c.start c.words → spanned c ≡ true
    is_spanned (inl none) = rw (none.0, eq-eqb c.words 0 none.1)
    is_spanned (inr good) =
        rw ((fits_span (is_long c) c.vector c.start c.words).1 good) (or-true (not (brings_words c.kind) && eqb c.words 0))

    with_span : (has : Bool) → (has ≡ true → spanned c ≡ true) → (not has || spanned c) ≡ true
    with_span true spans = spans refl
    with_span false spans = refl

    back : Limits c → in_limits c ≡ true
    back l = rw (le-leb c.phase 3 l.of_phase, le-leb c.vector 87 l.of_vector) (with_span (has_vector c) (λ is. is_spanned (l.of_span is)))

-- ---- a key

-- what it is to be the call of a key
pub record Key (phase vector : ℕ) (c : Call) : Type 0 where
  pub same_phase : c.phase ≡ phase
  pub same_vector : c.vector ≡ vector

-- the test of a key is passed exactly by its calls
pub is_of_lem : (phase vector : ℕ) (c : Call) → (is_of phase vector c ≡ true) ↔ Key phase vector c
is_of_lem phase vector c = (there, back)
  where
    there : is_of phase vector c ≡ true → Key phase vector c
    there e =
        record {
          same_phase = eqb-true c.phase phase (first_of (eqb c.phase phase) (eqb c.vector vector) e);
          same_vector = eqb-true c.vector vector (second_of (eqb c.phase phase) (eqb c.vector vector) e);
        }

    back : Key phase vector c → is_of phase vector c ≡ true
    back k = rw (eq-eqb c.phase phase k.same_phase, eq-eqb c.vector vector k.same_vector)

-- a call is of its own key
pub of_own : (c : Call) → is_of c.phase c.vector c ≡ true
of_own c = (is_of_lem c.phase c.vector c).1 (record { same_phase = refl; same_vector = refl })

module _ (phase vector : ℕ) (row : List Call) where
  -- a key has a call if a place of the row has it
  pub holds_at : (i : ℕ) → i < length row → is_of phase vector (get_or row i blank) ≡ true → holds phase vector row ≡ true
  holds_at = is_found (is_of phase vector) row blank

  -- a key that has a call has it at the place that is found
  pub held : holds phase vector row ≡ true → (find phase vector row < length row) × (is_of phase vector (get_or row (find phase vector row) blank) ≡ true)
  held = found_passes (is_of phase vector) row blank

  -- a key that has no call has it at no place
  pub none_held : holds phase vector row ≡ false → (i : ℕ) → i < length row → is_of phase vector (get_or row i blank) ≡ false
  none_held = none_passes (is_of phase vector) row blank

  -- what is found for a key that has no call is the row's length
  pub not_found : holds phase vector row ≡ false → find phase vector row ≡ length row
  not_found = none_at (is_of phase vector) row

  -- where no place has it, it has no call
  pub none_holds : ((i : ℕ) → i < length row → is_of phase vector (get_or row i blank) ≡ false) → holds phase vector row ≡ false
  none_holds = is_none (is_of phase vector) row blank

-- ---- a row

-- no two calls are of one key: two places of one key are one place
abbrev pub Apart : List Call → Type 0
Apart row =
    (i j : ℕ) → i < length row → j < length row → (get_or row i blank).phase ≡ (get_or row j blank).phase
    → (get_or row i blank).vector ≡ (get_or row j blank).vector → i ≡ j

-- 01's table, 2: what a row is that is not refused
pub record Sound (row : List Call) : Type 0 where
  pub limits : (i : ℕ) → i < length row → Limits (get_or row i blank)
  pub apart : Apart row

-- a row that passes the test is as 01 has it
sound_says : (row : List Call) → sound row ≡ true → Sound row
unfolding sound
sound_says [] e = record { limits = λ i within. absurd (omega arith); apart = λ i j within inside phase vector. absurd (omega arith) }
sound_says (c ∷ row) e =
    let again = holds c.phase c.vector row in
    let front = first_of (in_limits c && not again) (sound row) e in
    let rest = sound_says row (second_of (in_limits c && not again) (sound row) e) in
    record {
      limits = at_each ((in_limits_lem c).0 (first_of (in_limits c) (not again) front)) rest;
      apart = apart_each (not-true again (second_of (in_limits c) (not again) front)) rest;
    }
  where
    at_each : Limits c → Sound row → (i : ℕ) → i < suc (length row) → Limits (get_or (c ∷ row) i blank)
    at_each here rest zero within = here
    at_each here rest (suc i) within = rest.limits i (omega arith)

    only_here : holds c.phase c.vector row ≡ false → (j : ℕ) → j < length row
        → c.phase ≡ (get_or row j blank).phase → c.vector ≡ (get_or row j blank).vector → ⊥
    only_here none j within phase vector =
        not_both (is_of c.phase c.vector (get_or row j blank))
        ((is_of_lem c.phase c.vector (get_or row j blank)).1 (record { same_phase = sym phase; same_vector = sym vector }))
        (none_held c.phase c.vector row none j within)

    apart_each : holds c.phase c.vector row ≡ false → Sound row → Apart (c ∷ row)
    apart_each none rest zero zero within inside phase vector = refl
    apart_each none rest zero (suc j) within inside phase vector = absurd (only_here none j (omega arith) phase vector)
    apart_each none rest (suc i) zero within inside phase vector = absurd (only_here none i (omega arith) (sym phase) (sym vector))
    apart_each none rest (suc i) (suc j) within inside phase vector = ap suc (rest.apart i j (omega arith) (omega arith) phase vector)

-- a row that is as 01 has it passes the test
says_sound : (row : List Call) → Sound row → sound row ≡ true
unfolding sound
says_sound [] s = refl
says_sound (c ∷ row) s =
    let rest =
    says_sound row (record {
      limits = λ i within. s.limits (suc i) (omega arith);
      apart = λ i j within inside phase vector. omega (arith, s.apart (suc i) (suc j) (omega arith) (omega arith) phase vector);
    }) in
    rw ((in_limits_lem c).1 (s.limits 0 (omega arith)), no_other s.apart, rest)
  where
    no_other : Apart (c ∷ row) → holds c.phase c.vector row ≡ false
    no_other apart =
        none_holds c.phase c.vector row
        (λ j within.
        ⊎_elim
        (λ is.
        let key = (is_of_lem c.phase c.vector (get_or row j blank)).0 is in
        absurd (omega (arith, apart 0 (suc j) (omega arith) (omega arith) (sym key.same_phase) (sym key.same_vector))))
        (λ other. other)
        (decided (is_of c.phase c.vector (get_or row j blank))))

-- a row is sound exactly if it is as 01 has it, with no rule more
pub sound_row : (row : List Call) → (sound row ≡ true) ↔ Sound row
sound_row row = (sound_says row, says_sound row)

-- with no call open the records are sound
pub fresh_sound : (count : ℕ) → sound (opens (fresh count)) ≡ true
unfolding sound
fresh_sound count = refl

module _ (row : List Call) (good : sound row ≡ true) where
  -- the call of a key stands at one place only, and is found there
  pub found_of : (phase vector i : ℕ) → i < length row → is_of phase vector (get_or row i blank) ≡ true → find phase vector row ≡ i
  found_of phase vector i within is =
      let most = found_by (is_of phase vector) row blank i within is in
      let inside : find phase vector row < length row = omega arith in
      let found = (is_of_lem phase vector (get_or row (find phase vector row) blank)).0 (first_passes (is_of phase vector) row blank inside) in
      let here = (is_of_lem phase vector (get_or row i blank)).0 is in
      ((sound_row row).0 good).apart (find phase vector row) i inside within
      (found.same_phase ∙ sym here.same_phase) (found.same_vector ∙ sym here.same_vector)

  -- each call is what is found for its own key
  pub found_at : (i : ℕ) → i < length row → find (get_or row i blank).phase (get_or row i blank).vector row ≡ i
  found_at i within = found_of (get_or row i blank).phase (get_or row i blank).vector i within (of_own (get_or row i blank))

-- ---- call by call

module _ (row : List Call) (i : ℕ) where
  -- at the end nothing is left to ask
  pub sound_end : length row ≤ i → sound (drop i row) ≡ true
  unfolding sound
  sound_end done = rw (drop_of_length-le row done)
