-- Words written one after the other, with or without fill: those so far, and those still to come.
use Rattle.std.proofs.Common.{◌≡◌, ℕ, ◌+◌, ◌<◌, ◌≤◌, List, length, get_or, drop, sym, refl, ap, ◌∙◌, arith}
use Rattle.laws.specs.Lists.{put}
use Rattle.laws.proofs.Writing.{put_nothing, put_on, length_put}
use Rattle.fragment.specs.Fragments.{cells_in, without_fill}
use Rattle.fragment.specs.Cells.{plain_text}
use Rattle.fragment.proofs.text.Cells.{text_next, length_next, text_end}

module _ (words lent : List ℕ) (from : ℕ) where
  -- the text before a word is written: with that still to come the buffer holds all, and its end is the end of all
  pub record Begun (text : List ℕ) (at i : ℕ) : Type 0 where
    pub kept : length text ≡ length lent
    pub room : at + length (plain_text (drop i words)) ≤ length text
    pub place : at + length (plain_text (drop i words)) ≡ from + length (plain_text words)
    pub holds : put text at (plain_text (drop i words)) ≡ put lent from (plain_text words)

  -- no word is written yet
  pub begun_none : from + length (plain_text words) ≤ length lent → Begun lent from 0
  begun_none room = record { kept = refl; room = room; place = refl; holds = refl }

  -- the next word has room
  pub begun_room : (text : List ℕ) (at i : ℕ) → Begun text at i → i < length words → at + length (without_fill (cells_in (get_or words i 0))) ≤ length text
  begun_room text at i so_far within = omega (arith, length_next words i within)

  -- the next word is written
  pub begun_more : (text after : List ℕ) (at next i : ℕ) → Begun text at i → i < length words
      → next ≡ at + length (without_fill (cells_in (get_or words i 0))) → after ≡ put text at (without_fill (cells_in (get_or words i 0))) → Begun after next (i + 1)
  begun_more text after at next i so_far within there is =
      let longer = length_next words i within in
      let as_long : length after ≡ length text =
      ap length is ∙ length_put text (without_fill (cells_in (get_or words i 0))) at (begun_room text at i so_far within) in
      record {
        kept = omega arith;
        room = omega arith;
        place = omega arith;
        holds = put_on text after _ _ at next (omega arith) is there ∙ ap (put text at) (sym (text_next words i within)) ∙ so_far.holds;
      }

  -- after the last word all is written
  pub begun_all : (text : List ℕ) (at i : ℕ) → Begun text at i → length words ≤ i
      → (at ≡ from + length (plain_text words)) × (text ≡ put lent from (plain_text words))
  begun_all text at i so_far done =
      let none = text_end words i done in
      (omega (arith, ap length none), sym (put_nothing text at) ∙ ap (put text at) (sym none) ∙ so_far.holds)
