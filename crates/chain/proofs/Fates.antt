-- What becomes of one chain: the questions of 01's table, 14, 15 and 16, and the record after a fragment.
use Prim.Native.Nat.{ℕ, ◌+◌, ◌≤◌, ◌<◌}
use mathlib.Core.Bool.{true, false, not, true≢false, false≢true}
use mathlib.Core.List.{List}
use mathlib.Core.Logic.{◌↔◌, ⊎_elim}
use mathlib.Core.Path.{◌≡◌, refl, ap}
use native.Mathlib.Omega.{arith}
use borrow.Author.Tests.{eq-eqb, ne_eqb, eqb-true, eqb-false, lt-ltb, le-ltb, ltb-true, ltb-false}
use lib.Dec.{ltb, eqb}
use Rattle.laws.specs.Choice.{pick}
use Rattle.laws.proofs.Tests.{decided, not_both}
use Rattle.refusal.specs.declared.Refusal.TheVariants.{OutOfTurn, TooLong, Signature}
use Rattle.refusal.specs.Told.{number_of}
use Rattle.std.specs.Prelude.{Err}
use Rattle.fragment.specs.Fragments.{most_characters}
use Rattle.fragment.specs.declared.FragmentHeading.{FragmentHeading}
use Rattle.chain.specs.declared.Chain.{Chain}
use Rattle.chain.specs.declared.Lost.{Lost}
use Rattle.chain.specs.Chains.{blank, is_open}
use Rattle.chain.specs.FateAnswers.{as_fate}
use Rattle.chain.specs.Steps.{heading_in, goes_on, Fate, lost, grows, whole, losing, next_number, sum_after, characters_after, grown, fate, record_after}
use Rattle.chain.proofs.Records.{Limits, Slot, blank_slot}

-- ---- what a fragment says

module _ (words : List ℕ) where
  -- F of any row of words has two bits
  pub fragment_small : (heading_in words).fragment_number ≤ 3
  fragment_small = omega arith

  -- N of any row of words has six bits
  pub message_small : (heading_in words).message_number ≤ 63
  message_small = omega arith

  -- the sum of a fragment has seven bits
  pub sum_small : (heading_in words).sum ≤ 127
  sum_small = omega arith

-- the F after one is 0, 1 or 2
pub next_small : (f : ℕ) → next_number f ≤ 2
next_small f = ⊎_elim (λ less. let below = ltb-true f 2 less in rw less (omega arith)) (λ not-less. rw not-less (omega arith)) (decided (ltb f 2))

-- ---- the questions

module _ (c : Chain) (h : FragmentHeading) where
  -- what 01 asks of a fragment and its chain: F is the next, the text has room, and the total of a last one is right
  pub record Taken : Type 0 where
    pub turn : h.fragment_number ≡ c.next_fragment
    pub fits : characters_after c h ≤ 1008
    pub total : goes_on h ≡ false → sum_after c h ≡ 127

  -- a chain that is asked question by question
  pub fate_by : (P : Fate → Type 0)
      → ((h.fragment_number ≡ c.next_fragment → ⊥) → P (lost OutOfTurn))
      → (h.fragment_number ≡ c.next_fragment → 1008 < characters_after c h → P (lost TooLong))
      → (h.fragment_number ≡ c.next_fragment → characters_after c h ≤ 1008 → goes_on h ≡ false → (sum_after c h ≡ 127 → ⊥) → P (lost Signature))
      → (Taken → goes_on h ≡ true → P (grows (grown c h)))
      → (Taken → goes_on h ≡ false → P whole)
      → P (fate c h)
  unfolding fate
  fate_by P late long wrong more last =
      ⊎_elim
      (λ same. rw same (at_room (eqb-true h.fragment_number c.next_fragment same)))
      (λ other. rw other (late (eqb-false h.fragment_number c.next_fragment other)))
      (decided (eqb h.fragment_number c.next_fragment))
    where
      at_end : h.fragment_number ≡ c.next_fragment → characters_after c h ≤ 1008 → goes_on h ≡ false
          → P (losing (not (eqb (sum_after c h) 127)) Signature whole)
      at_end turn fits ends =
          ⊎_elim
          (λ right. rw right (last (record { turn = turn; fits = fits; total = λ ends. eqb-true (sum_after c h) 127 right }) ends))
          (λ other. rw other (wrong turn fits ends (eqb-false (sum_after c h) 127 other)))
          (decided (eqb (sum_after c h) 127))

      at_room : h.fragment_number ≡ c.next_fragment
          → P
          (losing (ltb most_characters (characters_after c h)) TooLong
          (pick (goes_on h) (grows (grown c h)) (losing (not (eqb (sum_after c h) 127)) Signature whole)))
      at_room turn =
          ⊎_elim
          (λ over. rw over (long turn (ltb-true most_characters (characters_after c h) over)))
          (λ within.
          let fits = ltb-false most_characters (characters_after c h) within in
          ⊎_elim
          (λ on. rw within (rw on (more (record { turn = turn; fits = fits; total = λ ends. absurd (not_both (goes_on h) on ends) }) on)))
          (λ ends. rw within (rw ends (at_end turn fits ends)))
          (decided (goes_on h)))
          (decided (ltb most_characters (characters_after c h)))

  -- 14: F is not the next
  pub out_of_turn : (h.fragment_number ≡ c.next_fragment → ⊥) → fate c h ≡ lost OutOfTurn
  unfolding fate
  out_of_turn other = rw (ne_eqb h.fragment_number c.next_fragment other)

  -- 16: the last fragment's total differs
  pub wrong_total : h.fragment_number ≡ c.next_fragment → characters_after c h ≤ 1008 → goes_on h ≡ false
      → (sum_after c h ≡ 127 → ⊥) → fate c h ≡ lost Signature
  unfolding fate
  wrong_total turn fits ends other =
      rw (eq-eqb h.fragment_number c.next_fragment turn, le-ltb most_characters (characters_after c h) fits, ends, ne_eqb (sum_after c h) 127 other)

  -- a chain that takes a fragment goes on where C is 1
  pub goes_on_lem : Taken → goes_on h ≡ true → fate c h ≡ grows (grown c h)
  unfolding fate
  goes_on_lem t on = rw (eq-eqb h.fragment_number c.next_fragment t.turn, le-ltb most_characters (characters_after c h) t.fits, on)

  -- a chain that takes a fragment is whole where C is 0
  pub is_whole : Taken → goes_on h ≡ false → fate c h ≡ whole
  unfolding fate
  is_whole t ends =
      rw (
        eq-eqb h.fragment_number c.next_fragment t.turn,
        le-ltb most_characters (characters_after c h) t.fits,
        ends,
        eq-eqb (sum_after c h) 127 (t.total ends),
      )

  -- 15: of a fragment in its turn the text is too long exactly if it comes to more than 1,008 characters
  pub join_room : h.fragment_number ≡ c.next_fragment → (fate c h ≡ lost TooLong) ↔ (1008 < c.characters + h.characters)
  unfolding fate
  join_room turn = (there, back)
    where
      number : Fate → ℕ
      number (lost r) = number_of r
      number (grows d) = 0
      number whole = 0

      there : fate c h ≡ lost TooLong → 1008 < c.characters + h.characters
      there =
          fate_by (λ f. f ≡ lost TooLong → 1008 < c.characters + h.characters)
          (λ late e. absurd (late turn))
          (λ same over e. over)
          (λ same fits ends wrong e. let n : number_of Signature ≡ number_of TooLong = ap number e in absurd (omega arith))
          (λ t on e. let n : 0 ≡ number_of TooLong = ap number e in absurd (omega arith))
          (λ t ends e. let n : 0 ≡ number_of TooLong = ap number e in absurd (omega arith))

      back : 1008 < c.characters + h.characters → fate c h ≡ lost TooLong
      back over = rw (eq-eqb h.fragment_number c.next_fragment turn, lt-ltb most_characters (characters_after c h) over)

  -- ---- the record after a fragment

  -- a record that goes on is within its limits
  grown_limits : c.address ≤ 31 → c.message_number ≤ 63 → characters_after c h ≤ 1008 → Limits (grown c h)
  grown_limits address message fits =
      record { of_address = address; of_message = message; of_next = next_small h.fragment_number; of_sum = omega arith; of_characters = fits }

  -- the record that a fragment leaves is sound
  pub record_slot : c.address ≤ 31 → c.message_number ≤ 63 → Slot (record_after (fate c h))
  record_slot address message =
      fate_by (λ f. Slot (record_after f)) (λ late. blank_slot) (λ turn over. blank_slot) (λ turn fits ends wrong. blank_slot) grown-slot (λ t ends. blank_slot)
    where
      grown-slot : Taken → goes_on h ≡ true → Slot (grown c h)
      grown-slot t on = record { opened = λ is. grown_limits address message t.fits; closed = λ shut. absurd (true≢false shut) }

  -- the record that a fragment leaves is of the chain's key, or closed
  pub record_key : is_open (record_after (fate c h)) ≡ true
      → ((record_after (fate c h)).address ≡ c.address) × ((record_after (fate c h)).message_number ≡ c.message_number)
  record_key =
      fate_by (λ f. is_open (record_after f) ≡ true → ((record_after f).address ≡ c.address) × ((record_after f).message_number ≡ c.message_number))
      (λ late is. absurd (false≢true is)) (λ turn over is. absurd (false≢true is)) (λ turn fits ends wrong is. absurd (false≢true is))
      (λ t on is. (refl, refl))
      (λ t ends is. absurd (false≢true is))

-- 14, 15, 16: the record that is handed out with the refusal is that of a closed slot
pub lost_blank : (f : Fate) (l : Lost) → Err l ≡ as_fate f → l.chain ≡ blank
lost_blank (lost r) l is = let same : l ≡ record { refusal = r; chain = blank } = cc in ap (λ (m : Lost). m.chain) same
lost_blank (grows c) l is = absurd (cc)
lost_blank whole l is = absurd (cc)
