-- The lines of the answers: what each refusal tells and leaves, and what follows the last of them.
use Prim.Native.Nat.{ℕ, ◌*◌, ◌≤◌, ◌<◌}
use mathlib.Core.Bool.{Bool, true, false}
use mathlib.Core.List.{List, []}
use mathlib.Core.Path.{◌≡◌, refl, sym, ap, ◌∙◌}
use native.Mathlib.Omega.{arith}
use borrow.Author.Tests.{ne_eqb, lt-ltb, le-ltb, le-leb, lt-leb}
use lib.Dec.{eqb}
use lib.ListN.{length}
use Rattle.laws.specs.Choice.{pick}
use Rattle.std.specs.Prelude.{Result, Ok, Err, IfOk, IfErr}
use Rattle.refusal.specs.declared.Refusal.{Refusal}
use Rattle.refusal.specs.declared.Refusal.TheVariants.{NoChain}
use Rattle.refusal.specs.Told.{Told, told, refused, given, ask, number_of, number_told, told_by}
use Rattle.refusal.proofs.Laws.{number_positive}
use Rattle.fragment.specs.declared.FragmentHeading.{FragmentHeading}
use Rattle.fragment.specs.FlatAnswers.{of_heading, as_heading}
use Rattle.fragment.specs.Answers.{heading_of}
use Rattle.fragment.proofs.Laws.{accepted, good_passes, bad_stops, heading_told_lem}
use Rattle.chain.specs.declared.Chain.{Chain}
use Rattle.chain.specs.declared.ChainStep.{ChainStep}
use Rattle.chain.specs.Chains.{sound}
use Rattle.chain.specs.Steps.{heading_in, row_after}
use Rattle.chain.specs.Answers.{when_heard, step_of, chains_after, buffer_after, as_step}
use Rattle.chain.specs.JoiningPieces.{Heard, orphan, join_of, joined_row, joined_bytes}

module _ (row : List Chain) (address : ℕ) (words : List ℕ) where
  module _ (lent : ℕ) where
    -- 1: the chains' bytes are too few
    pub no_room : lent < length row * 1008 → (rest : Told) → when_heard lent row address words rest ≡ told 1 []
    no_room few rest = rw (lt-ltb lent (length row * 1008) few)

    module _ (room : length row * 1008 ≤ lent) where
      -- 2: the records are not sound
      pub unsound : sound row ≡ false → (rest : Told) → when_heard lent row address words rest ≡ told 2 []
      unsound bad rest = rw (le-ltb lent (length row * 1008) room, bad)

      module _ (right : sound row ≡ true) where
        -- 8: no such address number
        pub no_address : 31 < address → (rest : Told) → when_heard lent row address words rest ≡ told 8 []
        no_address large rest = rw (le-ltb lent (length row * 1008) room, right, lt-leb address 31 large)

        module _ (small : address ≤ 31) where
          -- 9, 10, 11: the fragment's own refusals
          pub no-fragment : (number_told (heading_of words) ≡ 0 → ⊥) → (rest : Told)
              → when_heard lent row address words rest ≡ told (number_told (heading_of words)) []
          no-fragment some rest = rw (le-ltb lent (length row * 1008) room, right, le-leb address 31 small) (bad_stops words _ some)

          -- a good fragment is joined
          good-one : number_told (heading_of words) ≡ 0 → (rest : Told)
              → when_heard lent row address words rest ≡ ask (orphan row address (heading_in words)) NoChain rest
          good-one none rest = rw (le-ltb lent (length row * 1008) room, right, le-leb address 31 small) (good_passes words _ ((accepted words).0 none))

          -- a good fragment is answered with the answer and the records of one that is joined
          late : number_told (heading_of words) ≡ 0
              → as_step (join_of row address (heading_in words)) (joined_row row address (heading_in words))
              ≡ as_step (step_of lent row address words) (chains_after lent row address words)
          unfolding step_of chains_after
          late none =
              rw (good-one none _, good-one none (given []))
              (ap (as_step (join_of row address (heading_in words))) (by-orphan (orphan row address (heading_in words))))
            where
              by-orphan : (is : Bool)
                  → pick is row (row_after row address (heading_in words))
                  ≡ pick (eqb (number_told (ask is NoChain (given []))) 0) (row_after row address (heading_in words)) row
              by-orphan true = refl
              by-orphan false = refl

    -- a refusal by one of these questions tells its number, and changes no record
    early : (n : ℕ) → (n ≡ 0 → ⊥) → ((rest : Told) → when_heard lent row address words rest ≡ told n [])
        → as_step (told n []) row ≡ as_step (step_of lent row address words) (chains_after lent row address words)
    unfolding step_of chains_after
    early n some stops = rw (stops _, stops (given []), ne_eqb n 0 some)

  module _ (lent : ℕ) (room : length row * 1008 ≤ lent) (right : sound row ≡ true) (small : address ≤ 31) where
    -- a fragment that its own heading refuses is refused so
    pub heard_refused : (r : Result FragmentHeading Refusal) → told_by of_heading r ≡ heading_of words
        → IfErr r (λ e. (rest : Told) → when_heard lent row address words rest ≡ refused e)
    heard_refused (Ok h) says = tt
    heard_refused (Err e) says =
        let number : number_of e ≡ number_told (heading_of words) = ap number_told says in
        λ rest. no-fragment lent room right small (λ none. omega (arith, number, none, number_positive e)) rest ∙ ap (λ (n : ℕ). told n []) (sym number)

    -- any other can be joined
    pub heard_good : (r : Result FragmentHeading Refusal) → told_by of_heading r ≡ heading_of words → IfOk r (λ h. Heard lent row address words h)
    heard_good (Err e) says = tt
    heard_good (Ok h) says =
        let good : number_told (heading_of words) ≡ 0 = ap number_told (sym says) in
        record {
          room = room;
          right = right;
          small = small;
          good = good;
          says = ap as_heading (says ∙ heading_told_lem words ((accepted words).0 good));
        }

  module _ (buffer : List ℕ) (r : ChainStep) where
    -- a fragment that is refused before it is joined changes no record, and no byte
    pub stops_early : (n : ℕ) → (n ≡ 0 → ⊥) → ((rest : Told) → when_heard (length buffer) row address words rest ≡ told n []) → r ≡ as_step (told n []) row
        → (r ≡ as_step (step_of (length buffer) row address words) (chains_after (length buffer) row address words))
        × (buffer ≡ buffer_after row address words buffer)
    unfolding step_of buffer_after
    stops_early n some stops gives = (gives ∙ early (length buffer) n some stops, rw (stops _, ne_eqb n 0 some))

    -- the answer, the records and the bytes after a good fragment are those of one that is joined
    pub goes_late : (exit : List ℕ) → length row * 1008 ≤ length buffer → sound row ≡ true → address ≤ 31 → number_told (heading_of words) ≡ 0
        → r ≡ as_step (join_of row address (heading_in words)) (joined_row row address (heading_in words))
        → exit ≡ joined_bytes row address words buffer
        → (r ≡ as_step (step_of (length buffer) row address words) (chains_after (length buffer) row address words))
        × (exit ≡ buffer_after row address words buffer)
    unfolding step_of buffer_after
    goes_late exit room right small none gives writes =
        (gives ∙ late (length buffer) room right small none, writes ∙ rw (good-one (length buffer) room right small none _))
