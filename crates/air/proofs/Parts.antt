-- The fragment at a place of a message, and the chain that has joined those before it.
use Prim.Native.Nat.{ℕ, suc, ◌+◌, ◌-◌, ◌*◌, ◌%◌, ◌≤◌, ◌<◌}
use mathlib.Core.Bool.{true, false, not}
use mathlib.Core.List.{List, []}
use mathlib.Core.Logic.{⊎_elim}
use mathlib.Core.Path.{◌≡◌, sym, ap, ◌∙◌}
use native.Mathlib.Nat.{mul-zero}
use native.Mathlib.Omega.{arith}
use borrow.Author.Tests.{eqb-true, eqb-false, eq-eqb, ne_eqb, leb-true, ltb-true, ltb-false}
use lib.Dec.{leb, ltb, eqb}
use lib.ListN.{length, get_or, length-append, length-take}
use Rattle.laws.specs.Lists.{sum_by}
use Rattle.laws.proofs.Tests.{decided, not_both, each_of_five}
use Rattle.refusal.specs.Told.{number_told}
use Rattle.fragment.specs.Fragments.{most_characters, is_size, text_in}
use Rattle.fragment.proofs.Laws.{Good, accepted, heading_told_lem, size_limits}
use Rattle.fragment.specs.declared.FragmentHeading.{FragmentHeading}
use Rattle.fragment.specs.FlatAnswers.{as_heading}
use Rattle.fragment.specs.Cutting.{marked, sendable, fragment_number, fragments_for, fragment_at}
use Rattle.fragment.proofs.CutCounts.{count, some_fragment}
use Rattle.fragment.proofs.CutLaws.{Cuttable, at_place, first_number_lem, heading_with, good, text_so_far, text_step, text_ends, sum_so_far, sum_step, sum_ends}
use Rattle.chain.specs.declared.Chain.{Chain}
use Rattle.chain.specs.Chains.{is_address}
use Rattle.chain.specs.Steps.{heading_in, is_first, goes_on, next_number, sum_after, characters_after, grown, unbegun}
use Rattle.chain.proofs.Fates.{Taken}
use Rattle.air.specs.Demand.{Message, fragments, is_cut}

module _ (m : Message) where
  -- how many fragments the message has
  abbrev pub count_of : ℕ
  count_of = fragments_for m.largest (length m.text)

  -- the fragment at a place
  abbrev pub part : ℕ → List ℕ
  part place = fragment_at m.marks m.largest m.text place

  -- the text of the first fragments, so many of them
  abbrev pub text_before : ℕ → List ℕ
  text_before joined = text_so_far m.largest m.text joined

  -- an open chain of the message
  abbrev chain_with : ℕ → ℕ → ℕ → Chain
  chain_with next sum characters =
      record { is_open = 1; address = m.address; message_number = m.marks.message_number; next_fragment = next; sum = sum; characters = characters }

  -- the chain that has joined so many fragments: it awaits the next
  abbrev pub chain_at : ℕ → Chain
  chain_at joined = chain_with (fragment_number joined) (sum_so_far m.largest m.text joined) (length (text_before joined))

  -- so many fragments are cut
  pub count_cut : length (fragments m) ≡ count_of
  count_cut = count m.marks m.largest m.text

  -- the fragment that is cut for a place is the one at that place
  pub part_cut : (place : ℕ) → place < count_of → get_or (fragments m) place [] ≡ part place
  part_cut place within = at_place m.marks m.largest m.text place within

  -- no text is joined before the first fragment
  pub none_before : text_before 0 ≡ []
  none_before = rw (mul-zero (3 * (m.largest - 1)))

  -- the chain before the first fragment is the one that is not begun
  pub begins : unbegun m.address m.marks.message_number ≡ chain_at 0
  unfolding sum_by
  begins = rw (mul-zero (3 * (m.largest - 1)))

-- the F after the F of a place is that of the next place
next_number_lem : (place : ℕ) → next_number (fragment_number place) ≡ fragment_number (suc place)
next_number_lem place =
    rw (ne_eqb (suc place) 0 (λ e. omega arith))
    (⊎_elim
    (λ first. let is : place ≡ 0 = eqb-true place 0 first in rw (first, is))
    (λ later.
    let some = eqb-false place 0 later in
    rw later
    (⊎_elim
    (λ less. let below = ltb-true ((place - 1) % 3) 2 less in rw less (omega arith))
    (λ not-less. let above = ltb-false ((place - 1) % 3) 2 not-less in rw not-less (omega arith))
    (decided (ltb ((place - 1) % 3) 2))))
    (decided (eqb place 0)))

-- the F of places next to each other, up to three fragments further, are not the same
pub other_number : (joined place : ℕ) → 1 ≤ joined → 1 ≤ place → joined ≤ place + 1 → place ≤ joined + 2
    → (place ≡ joined → ⊥) → fragment_number place ≡ fragment_number joined → ⊥
other_number joined place open-key later least most apart same =
    let number : (place - 1) % 3 ≡ (joined - 1) % 3 = rw (ne_eqb place 0 (λ e. omega arith), ne_eqb joined 0 (λ e. omega arith)) at same in
    omega arith

module _ (m : Message) (cuts : is_cut m ≡ true) where
  -- 01's rules of cutting, one by one
  pub cuttable : Cuttable m.marks m.largest m.text
  cuttable =
      let each =
      each_of_five (is_address m.address) (marked m.marks) (is_size m.largest) (leb (length m.text) most_characters) (sendable m.text) cuts in
      record { numbers = each.1; size = each.2; short = leb-true (length m.text) most_characters each.3; characters = each.4 }

  -- a message that is cut by 01's rules has an address number
  pub address_small : m.address ≤ 31
  address_small =
      leb-true m.address 31
      (each_of_five (is_address m.address) (marked m.marks) (is_size m.largest) (leb (length m.text) most_characters) (sendable m.text) cuts).0

  -- there is a first fragment
  pub some_part : 1 ≤ count_of m
  some_part = some_fragment m.largest (length m.text) (size_limits m.largest cuttable.size).0

  -- the text is short enough for a slot, and so are its first fragments'
  pub short_before : (joined : ℕ) → length (text_before m joined) ≤ 1008
  short_before joined = rw length-take (omega (arith, cuttable.short))

  -- all fragments together have all of the text
  pub all_before : text_before m (count_of m) ≡ m.text
  all_before = text_ends cuttable

  module _ (place : ℕ) (within : place < count_of m) where
    -- the fragment is good
    pub part_good : Good (part m place)
    part_good = (accepted (part m place)).0 (ap number_told (good cuttable place within))

    -- the fragment says what its place says
    says : heading_in (part m place) ≡ as_heading (heading_with m.marks m.largest m.text place (length (text_in (part m place))))
    says = ap as_heading (sym (heading_told_lem (part m place) part_good) ∙ good cuttable place within)

    -- the fragment's N is the message's
    pub says_message : (heading_in (part m place)).message_number ≡ m.marks.message_number
    says_message = ap (λ (h : FragmentHeading). h.message_number) says

    -- the fragment's F is that of its place
    pub says_number : (heading_in (part m place)).fragment_number ≡ fragment_number place
    says_number = ap (λ (h : FragmentHeading). h.fragment_number) says

    -- the fragment at 0 is a first one, and no other is
    pub says_first : is_first (heading_in (part m place)) ≡ eqb place 0
    says_first = rw says_number (first_number_lem place)

    -- more follows where the fragment is not the last
    pub says_more : goes_on (heading_in (part m place)) ≡ not (eqb (place + 1) (count_of m))
    says_more =
        rw (ap (λ (h : FragmentHeading). h.continued) says)
        (⊎_elim
        (λ last. let is = eqb-true (place + 1) (count_of m) last in rw (last, eq-eqb (count_of m - 1 - place) 0 (omega arith)))
        (λ before. let isnt = eqb-false (place + 1) (count_of m) before in rw (before, ne_eqb (count_of m - 1 - place) 0 (λ e. isnt (omega arith))))
        (decided (eqb (place + 1) (count_of m))))

    -- joined to those before it, its characters are added
    pub length_next : length (text_before m place) + length (text_in (part m place)) ≡ length (text_before m (suc place))
    length_next = sym (length-append (text_before m place) (text_in (part m place))) ∙ ap length (text_step cuttable place within)

    -- the chain that has joined those before it takes it
    pub part_taken : Taken (chain_at m place) (heading_in (part m place))
    part_taken =
        record {
          turn = says_number;
          fits = omega (arith, length_next, short_before (suc place));
          total = λ ends.
              let last : suc place ≡ count_of m = last-place ends in
              sum_step cuttable place within ∙ ap (sum_so_far m.largest m.text) last ∙ sum_ends cuttable;
        }
      where
        last-place : goes_on (heading_in (part m place)) ≡ false → suc place ≡ count_of m
        last-place ends =
            ⊎_elim
            (λ last. let is = eqb-true (place + 1) (count_of m) last in omega arith)
            (λ before. absurd (not_both (goes_on (heading_in (part m place))) (says_more ∙ ap not before) ends))
            (decided (eqb (place + 1) (count_of m)))

    -- a chain that takes the fragment has joined it then
    pub part_grown : grown (chain_at m place) (heading_in (part m place)) ≡ chain_at m (suc place)
    part_grown =
        let h = heading_in (part m place) in
        ap (λ (next : ℕ). chain_with m next (sum_after (chain_at m place) h) (characters_after (chain_at m place) h))
        (ap next_number says_number ∙ next_number_lem place)
        ∙ ap (λ (sum : ℕ). chain_with m (fragment_number (suc place)) sum (characters_after (chain_at m place) h)) (sum_step cuttable place within)
        ∙ ap (λ (characters : ℕ). chain_with m (fragment_number (suc place)) (sum_so_far m.largest m.text (suc place)) characters) length_next
