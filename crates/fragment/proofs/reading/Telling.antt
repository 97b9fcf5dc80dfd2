-- What is told of a fragment, and what the lent bytes hold then.
use Rattle.std.proofs.Common.{◌≡◌, ℕ, Bool, true, false, not, ltb, List, [], ◌∷◌, length, sym, refl, ap, ◌∙◌}
use Rattle.refusal.specs.declared.Refusal.TheVariants.{Room, Size, Damaged, Checksum}
use Rattle.refusal.specs.Told.{Told, refused, given, ask, number_told, written_by}
use Rattle.refusal.proofs.Laws.{refusal_keeps}
use Rattle.sums.specs.Words.{undamaged}
use Rattle.fragment.specs.Fragments.{is_size, text_in, checked}
use Rattle.fragment.specs.Answers.{heading_told, heading_of, read_of, read_after, text_of, text_after}
use Rattle.fragment.proofs.Laws.{Good, heading_told_lem, read_told, text_accepted}

-- the three questions of every fragment
abbrev asked : Bool → Bool → Bool → Told → Told
asked sized intact right rest = ask (not sized) Size (ask (not intact) Damaged (ask (not right) Checksum rest))

-- an answer that one of them refuses is the same, whatever is asked after them
same_refusal : (sized intact right : Bool) (rest other : Told) → number_told rest ≡ 0
    → (number_told (asked sized intact right rest) ≡ 0 → ⊥)
    → asked sized intact right other ≡ asked sized intact right rest
same_refusal false intact right rest other none some = refl
same_refusal true false right rest other none some = refl
same_refusal true true false rest other none some = refl
same_refusal true true true rest other none some = absurd (some none)

module _ (words lent : List ℕ) where
  -- a fragment whose heading is refused is refused so, and nothing is written
  pub read_refused : (number_told (heading_of words) ≡ 0 → ⊥) → (read_of (length lent) words ≡ heading_of words) × (read_after words lent ≡ lent)
  unfolding heading_of read_of
  read_refused some =
      let same : read_of (length lent) words ≡ heading_of words =
      same_refusal (is_size (length words)) (undamaged words) (checked words) (heading_told words) _ refl some in
      (same, refusal_keeps (read_of (length lent) words) lent (text_in words) (rw same some))

  module _ (good : Good words) where
    -- of a good one only the room is asked
    read_asks : read_of (length lent) words ≡ ask (ltb (length lent) (length (text_in words))) Room (heading_told words)
    unfolding read_of
    read_asks = rw (good.size, good.intact, good.sum)

    -- a good fragment is refused where its text is
    pub read_full : (number_told (text_of (length lent) words) ≡ 0 → ⊥) → read_of (length lent) words ≡ refused Room
    unfolding text_of
    read_full some = read_asks ∙ by_test (ltb (length lent) (length (text_in words))) some
      where
        by_test : (full : Bool) → (number_told (ask full Room (given (length (text_in words) ∷ []))) ≡ 0 → ⊥) → ask full Room (heading_told words) ≡ refused Room
        by_test true more = refl
        by_test false more = absurd (more refl)

    -- and it is refused as that is
    pub text_full : (number_told (text_of (length lent) words) ≡ 0 → ⊥) → text_of (length lent) words ≡ refused Room
    unfolding text_of
    text_full some = by_test (ltb (length lent) (length (text_in words))) some
      where
        by_test : (full : Bool) → (number_told (ask full Room (given (length (text_in words) ∷ []))) ≡ 0 → ⊥)
            → ask full Room (given (length (text_in words) ∷ [])) ≡ refused Room
        by_test true more = refl
        by_test false more = absurd (more refl)

    -- a good fragment is told as its heading where its text is not refused
    pub read_given : number_told (text_of (length lent) words) ≡ 0 → read_of (length lent) words ≡ heading_of words
    read_given none =
        read_told words (length lent) good ((text_accepted words (length lent)).0 none) ∙ sym (heading_told_lem words good)

    -- what is written of a good fragment is its text
    pub read_writes : read_after words lent ≡ text_after words lent
    unfolding text_of
    read_writes = ap (λ (answer : Told). written_by answer lent (text_in words)) read_asks ∙ by_test (ltb (length lent) (length (text_in words)))
      where
        by_test : (full : Bool)
            → written_by (ask full Room (heading_told words)) lent (text_in words)
            ≡ written_by (ask full Room (given (length (text_in words) ∷ []))) lent (text_in words)
        by_test true = refl
        by_test false = refl
