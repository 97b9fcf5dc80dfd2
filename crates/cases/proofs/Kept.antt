-- Ours keeps what is demanded of any host.
use Prim.Native.Nat.{ℕ, ◌*◌, ◌≤◌, ◌<◌}
use mathlib.Core.Bool.{Bool, true, false, not, ◌&&◌, false≢true}
use mathlib.Core.List.{List, [], ◌∷◌, map}
use mathlib.Core.Logic.{⊎_elim}
use mathlib.Core.Path.{◌≡◌, refl, sym}
use native.Mathlib.Omega.{arith}
use borrow.Author.Tests.{leb-true, leb-false, le-leb}
use lib.Dec.{leb, ltb, eqb}
use lib.ListN.{length, set}
use Rattle.laws.specs.Choice.{pick}
use Rattle.laws.specs.Lists.{any_of}
use Rattle.laws.proofs.Tests.{decided}
use Rattle.refusal.specs.declared.Refusal.{Refusal}
use Rattle.refusal.specs.declared.Refusal.TheVariants as refusals
use Rattle.refusal.specs.Told.{Told, number_of, order, given, ask, number_told}
use Rattle.refusal.proofs.Laws.{number_asked}
use Rattle.std.specs.Prelude.{Result, Ok, Err}
use Rattle.capcode.specs.declared.Class.{Class}
use Rattle.capcode.specs.Ranges.{class_of, found}
use Rattle.capcode.specs.Words.{layout_of, words_as, words_of, address_of}
use Rattle.capcode.proofs.Fits.{known_class}
use Rattle.capcode.proofs.WordLaws.{words_accepted, there_and_back, others_refused}
use Rattle.frames.specs.Listening.{heard, count_of}
use Rattle.frames.proofs.Laws.{counted}
use Rattle.sums.specs.Words.{undamaged}
use Rattle.fragment.specs.Fragments.{most_characters, is_size, checked}
use Rattle.fragment.specs.declared.FragmentHeading.{FragmentHeading}
use Rattle.chain.specs.declared.Chain.{Chain}
use Rattle.chain.specs.Chains.{is_address, is_message, blank, find, holds, sound}
use Rattle.chain.specs.Steps.{heading_in, is_first, goes_on, grows, whole, losing, grown, sum_after, characters_after, chain_before, fate}
use Rattle.chain.specs.Answers.{known, full, told_of, step_of, drop_of}
use Rattle.chain.specs.Runs.{Event, came, dropped, State, answer_to}
use Rattle.chain.proofs.Laws.{refused_stays, number_most, lost_closes}
use Rattle.chain.proofs.Texts.{refused_writes_nothing}
use Rattle.chain.proofs.Runs.{drop_refused}
use Rattle.air.specs.Demand.{ours}
use Rattle.cases.specs.Demands.{Line, number_by, lines_for, AsTheTable, whose, message, chains_refused, KeepsWhatItHas, WordsAndBack, FrameRule}

-- ---- demand 1: the table

-- whether the numbers of a row stand at places of an order that follow each other, some left out
unfoldable pub is_part_of : List ℕ → List (List ℕ) → Bool
is_part_of [] order = true
is_part_of (a ∷ row) [] = false
is_part_of (a ∷ row) (place ∷ order) = pick (any_of (eqb a) place) (is_part_of row order) (is_part_of (a ∷ row) order)

-- what becomes of a chain has the number of the first of 14, 15, 16 and 12 that is given
of_chain_lem : (row : List Chain) (address : ℕ) (h : FragmentHeading) (c : Chain) (late over on wrong : Bool)
    → number_told
    (told_of row address h (losing late refusals.OutOfTurn (losing over refusals.TooLong (pick on (grows c) (losing wrong refusals.Signature whole)))))
    ≡ pick late 14 (pick over 15 (pick (not on && wrong) 16 (pick (full row address h) 12 0)))
of_chain_lem row address h c true over on wrong = refl
of_chain_lem row address h c false true on wrong = refl
of_chain_lem row address h c false false true wrong = number_asked (full row address h) refusals.Full _ 0 refl
of_chain_lem row address h c false false false true = refl
of_chain_lem row address h c false false false false = number_asked (full row address h) refusals.Full _ 0 refl

-- each answer is the table's
pub table_kept : AsTheTable ours
unfolding step_of drop_of fate number_by
table_kept s (came address words) =
    let row = s.chains in
    let h = heading_in words in
    let c = chain_before row address h in
    number_asked (ltb (length s.bytes) (length row * most_characters)) refusals.Room _ _
    (number_asked (not (sound row)) refusals.State _ _
    (number_asked (not (is_address address)) refusals.Address _ _
    (number_asked (not (is_size (length words))) refusals.Size _ _
    (number_asked (not (undamaged words)) refusals.Damaged _ _
    (number_asked (not (checked words)) refusals.Checksum _ _
    (number_asked (not (is_first h) && not (known row address h)) refusals.NoChain _ _
    (of_chain_lem row address h (grown c h) (not (eqb h.fragment_number c.next_fragment))
    (ltb most_characters (characters_after c h)) (goes_on h) (not (eqb (sum_after c h) 127)))))))))
table_kept s (dropped address n) =
    number_asked (not (sound s.chains)) refusals.State _ _
    (number_asked (not (is_message n)) refusals.Packet _ _
    (number_asked (not (is_address address)) refusals.Address _ _
    (number_asked (not (holds address n s.chains)) refusals.NoChain (given []) 0 refl)))

-- a refused drop has a number under 14
drop_early : (row : List Chain) (address n : ℕ) → number_told (drop_of row address n) < 14
unfolding drop_of
drop_early row address n =
    early (not (sound row)) refusals.State _ (omega arith)
    (early (not (is_message n)) refusals.Packet _ (omega arith)
    (early (not (is_address address)) refusals.Address _ (omega arith)
    (early (not (holds address n row)) refusals.NoChain (given []) (omega arith) (omega arith))))
  where
    early : (test : Bool) (r : Refusal) (rest : Told) → number_of r < 14 → number_told rest < 14 → number_told (ask test r rest) < 14
    early true r rest this others = this
    early false r rest this others = others

-- records are those after a refusal where they are so for a number of 14 to 16, and for one under 14
by_number : (number : ℕ) (s : State) (event : Event) (row : List Chain) → number ≤ 16
    → (14 ≤ number → row ≡ set s.chains (find (whose event) (message event) s.chains) blank)
    → (number < 14 → row ≡ s.chains)
    → row ≡ chains_refused number s event
by_number number s event row most late early =
    ⊎_elim
    (λ is. rw is (rw (le-leb number 16 most) (late (leb-true 14 number is))))
    (λ none. rw none (early (leb-false 14 number none)))
    (decided (leb 14 number))

-- after a refusal all is as it was, but for the chain that 14, 15 or 16 closes
pub state_kept : KeepsWhatItHas ours
state_kept s (came address words) some = (
  refused_writes_nothing s.chains address words s.bytes some,
  by_number (number_told (answer_to s (came address words))) s (came address words) _
      (number_most (length s.bytes) s.chains address words)
      (λ late. (lost_closes (length s.bytes) s.chains address words late).0)
      (λ early. refused_stays (length s.bytes) s.chains address words some early),
)
state_kept s (dropped address n) some =
    let early = drop_early s.chains address n in (
      refl,
      by_number (number_told (answer_to s (dropped address n))) s (dropped address n) _
          (omega (arith, early))
          (λ late. absurd (omega (arith, early)))
          (λ none. drop_refused s.chains address n some),
    )

-- the lines stand in the table's order: its numbers, some left out
pub lines_in_order : (s : State) (event : Event)
    → is_part_of (map {A = Line} {B = ℕ} (λ line. number_of line.refusal) (lines_for s event)) (map (map number_of) order) ≡ true
unfolding is_part_of any_of order
lines_in_order s (came address words) = refl
lines_in_order s (dropped address n) = refl

-- ---- demand 2: words and back

-- an accepted address has words, which lead back to it; all other words are refused
pub words_kept : WordsAndBack words_of address_of
words_kept = (
  λ address is. by_class address (class_of address) refl is,
  λ row none. others_refused row (λ address words. none address (words_accepted address row words) words),
)
  where
    by_class : (address : ℕ) (class : Result Class Refusal) → class_of address ≡ class → found class ≡ true
        → (row : List ℕ) × (words_of address ≡ given row) × (address_of row ≡ given (address ∷ []))
    by_class address (Ok class) e is =
        let row = words_as (layout_of class) address in
        let words : words_of address ≡ given row = sym (known_class address e) in
        (row, words, there_and_back address row words)
    by_class address (Err r) e is = absurd (false≢true is)

-- ---- the frame rule

-- the frames that are counted are the marked bits
pub count_kept : FrameRule (λ listeners. count_of (heard listeners))
count_kept listeners = sym (counted (heard listeners))
