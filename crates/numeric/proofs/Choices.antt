-- What 02, item 6 promises of numeric pages: the choice of set, and where filling starts.
use Prim.Native.Nat.{ℕ, ◌+◌, ◌-◌, ◌≤◌}
use mathlib.Core.Bool.{Bool, true, false, not, and-false}
use mathlib.Core.List.{List, [], ◌∷◌, ◌++◌, map, append_assoc}
use mathlib.Core.Path.{◌≡◌, refl, ap, ◌∙◌}
use native.Mathlib.Nat.{zero-add}
use native.Mathlib.Omega.{arith}
use borrow.Author.Tests.{le-ltb, not-false}
use lib.Dec.{eqb, ltb}
use lib.ListN.{length, get_or, take, replicate}
use lib.Seq.{take-append_seam}
use Rattle.laws.specs.Lists.{put, place_in, all, up_from}
use Rattle.laws.specs.Texts.{bytes_of}
use Rattle.laws.proofs.Rows.{all_append}
use Rattle.refusal.specs.declared.Refusal.TheVariants as refusals
use Rattle.refusal.specs.Told.{refused}
use Rattle.refusal.proofs.Laws.{passed}
use Rattle.numeric.specs.declared.Numbering.{Numbering}
use Rattle.numeric.specs.declared.PageRead.{PageRead}
use Rattle.numeric.specs.Pages.{Set, standard_set, chinese_set, set_of, is_set, most_words, room_of, words_for, spaces_at_end, filled, is_numbered, in_set, headed}
use Rattle.numeric.specs.Answers.{flags_of, written_of, written_chosen, words_chosen, as_written, read_chosen, text_chosen, as_read}
use Rattle.numeric.proofs.Bits.{filled_length, room_enough}
use Rattle.numeric.proofs.Laws.{usable_set, ReadBack, there_and_back}
use Rattle.numeric.proofs.Spaces.{spaces_filled}

-- ---- the two sets

-- "A to E stand for the codes of `?`, `U`, `-`, `]`, `[`"
pub letters_for_signs : map (place_in chinese_set) (bytes_of "ABCDE") ≡ map (place_in standard_set) (bytes_of "?U-][")
unfolding standard_set chinese_set place_in
letters_for_signs = refl

-- in all other codes the columns of Table 39 agree
pub columns_agree : map (λ (n : ℕ). eqb (get_or chinese_set n 0) (get_or standard_set n 0)) (up_from 0 16)
    ≡ true ∷ true ∷ true ∷ true ∷ true ∷ true ∷ true ∷ true ∷ true ∷ true ∷ false ∷ false ∷ true ∷ false ∷ false ∷ false ∷ []
unfolding standard_set chinese_set up_from
columns_agree = refl

-- a set has no place for a character that stands in none of its codes
abbrev pub Foreign : Set → ℕ → Type 0
Foreign set c = ltb (place_in set c) (length set) ≡ false

-- "and these five are refused with 18": they have no place where the option is on, and A to E have none where it is off
pub each_foreign : map (λ (c : ℕ). ltb (place_in chinese_set c) 16) (bytes_of "?U-][") ++ map (λ (c : ℕ). ltb (place_in standard_set c) 16) (bytes_of "ABCDE")
    ≡ replicate 10 false
unfolding standard_set chinese_set place_in
each_foreign = refl

-- a text with such a character anywhere is refused with 18, where nothing is asked before that refuses it
pub foreign_refused : (set : Set) (lent kind : ℕ) (numbering : Numbering) (before after : List ℕ) (c : ℕ) → Foreign set c
    → headed kind (flags_of numbering) ≡ true → length (before ++ c ∷ after) ≤ room_of (is_numbered kind) most_words
    → written_of set lent kind numbering (before ++ c ∷ after) ≡ refused refusals.Character
unfolding written_of in_set all
foreign_refused set lent kind numbering before after c foreign head short =
    rw (
      head,
      le-ltb (room_of (is_numbered kind) most_words) (length (before ++ c ∷ after)) short,
      all_append (λ (d : ℕ). ltb (place_in set d) (length set)) before (c ∷ after),
      foreign,
      and-false (all (λ (d : ℕ). ltb (place_in set d) (length set)) before),
    )

-- ---- the choice

-- a number that chooses no set is refused with 7, whatever else is wrong
pub no_set : (set lent kind check : ℕ) (numbering : Numbering) (row : List ℕ) → is_set set ≡ false
    → (written_chosen set lent kind numbering row ≡ refused refusals.Packet) × (read_chosen set lent kind check row ≡ refused refusals.Packet)
no_set set lent kind check numbering row none = rw none (refl, refl)

-- what is written in the chosen set and read in it gives the numbering again, and in the lent bytes the text and its spaces
pub chosen_back : (set kind : ℕ) (numbering : Numbering) (text words bytes : List ℕ)
    → let written = as_written (written_chosen set (length words) kind numbering text) in
    let page = take written.words (words_chosen set kind numbering text words) in
    written.number ≡ 0 → room_of (is_numbered kind) written.words ≤ length bytes
    → ReadBack kind numbering text bytes (as_read (read_chosen set (length bytes) kind written.check page)) (text_chosen set kind written.check page bytes)
chosen_back set kind numbering text words bytes accepted enough =
    let chosen : is_set set ≡ true =
    not-false (is_set set) (passed (not (is_set set)) refusals.Packet (written_of (set_of set) (length words) kind numbering text) accepted).0 in
    rw chosen
    (there_and_back (set_of set) kind numbering text words bytes (usable_set (eqb set 1)) (rw chosen at accepted) (rw chosen at enough))

-- ---- where filling starts

-- the spaces at the end of a page that was written are the text's own and the filling
pub filled_spaces : (numbered : Bool) (text : List ℕ) → spaces_at_end (filled numbered text) ≡ spaces_at_end text + (length (filled numbered text) - length text)
filled_spaces numbered text =
    spaces_filled text (room_of numbered (words_for numbered (length text)) - length text)
    ∙ rw (filled_length numbered text)

-- of a text with none at its end they are the filling and nothing besides, and the characters before them are the text
own_filled : (numbered : Bool) (text bytes : List ℕ) → spaces_at_end text ≡ 0
    → let room = length (filled numbered text) in
    let spaces = spaces_at_end (filled numbered text) in (room ≡ length text + spaces) × (take (room - spaces) (put bytes 0 (filled numbered text)) ≡ text)
own_filled numbered text bytes none =
    let room = length (filled numbered text) in
    let long = filled_length numbered text in
    let spaces : spaces_at_end (filled numbered text) ≡ room - length text = filled_spaces numbered text ∙ rw none (zero-add _) in
    let enough = room_enough numbered (length text) in
    let shown : room - spaces_at_end (filled numbered text) ≡ length text = omega (arith, spaces, long, enough) in (
      omega (arith, spaces, long, enough),
      rw shown (ap (take (length text)) (append_assoc text _ _) ∙ take-append_seam text _),
    )

-- the same of what is told of a page and of what the lent bytes hold
own_read : (kind : ℕ) (numbering : Numbering) (text bytes : List ℕ) (read : PageRead) (after : List ℕ) → ReadBack kind numbering text bytes read after
    → spaces_at_end text ≡ 0 → (read.characters ≡ length text + read.spaces_at_end) × (take (read.characters - read.spaces_at_end) after ≡ text)
own_read kind numbering text bytes read after (told, holds) none = rw (told, holds) (own_filled (is_numbered kind) text bytes none)

-- so a text that was written with no space at its end is read back as its own characters, and as many spaces as there is filling
pub own_characters : (set kind : ℕ) (numbering : Numbering) (text words bytes : List ℕ)
    → let written = as_written (written_chosen set (length words) kind numbering text) in
    let page = take written.words (words_chosen set kind numbering text words) in
    let read = as_read (read_chosen set (length bytes) kind written.check page) in
    let after = text_chosen set kind written.check page bytes in
    written.number ≡ 0 → room_of (is_numbered kind) written.words ≤ length bytes → spaces_at_end text ≡ 0
    → (read.characters ≡ length text + read.spaces_at_end) × (take (read.characters - read.spaces_at_end) after ≡ text)
own_characters set kind numbering text words bytes accepted enough none =
    own_read kind numbering text bytes _ _ (chosen_back set kind numbering text words bytes accepted enough) none
