-- `write_words` meets its contract: each word is a digit of the page's bits, of which the later ones are the characters' alone.
use Prim.Native.Nat.{ℕ, ◌+◌, ◌-◌, ◌*◌, ◌%◌, ◌^◌, ◌≤◌}
use lib.ListN.{length}
use mathlib.Core.List.{[], ◌∷◌, ◌++◌}
use mathlib.Core.Path.{sym, ap, ◌∙◌}
use native.Mathlib.Omega.{arith}
use lib.ListN.{length-set}
use Rattle.laws.specs.Layouts.{size, packed}
use Rattle.laws.proofs.Layouts.{packed_lt}
use Rattle.numeric.specs.Pages.{head_of, spaced, codes_of, words_with}
use Rattle.numeric.specs.Answers.{flags_of}
use Rattle.numeric.specs.Sets.{set_in}
use Rattle.numeric.proofs.Bits.{laid_head, some_word}
use Rattle.numeric.proofs.Heads.{head_small}
use Rattle.numeric.proofs.writing.Words.{word_turn, first_turn, all_written, after_head}
use Rattle.numeric.proofs.writing.Draft.write_words.Goals as goal

pub loop-i-preserved : goal.loop-i-preserved
loop-i-preserved c =
    let page = c.args.self.now in
    let l = c.loop-i in
    let layout = head_of page.head.numbered in
    let values = flags_of page.numbering ++ 0 ∷ [] in
    let head = packed layout values in
    let codes = codes_of (set_in page.set) (spaced page.room page.text.now) in
    let small = packed_lt layout values (laid_head page.head.numbered) page.fits in
    let start = 21 * l.i - c.size.result in
    let after = after_head (size layout) start l.i head codes small (omega (arith, c.size.ensures, head_small page.head.numbered, l.auto.i)) in
    let word = c.later_word.ensures ∙ ap (λ (n : ℕ). n % 2 ^ 21) (sym after) in record {
      as_long = simp length-set (simp length-set at l.invariant.as_long);
      stored = word_turn (2 ^ 21) (head + 2 ^ size layout * codes) page.words l.words l.i c.later_word.result c.loop-i-test.true (omega (arith, simp length-set at l.invariant.as_long, c.requires)) word ∙ l.invariant.stored;
    }

pub returns : goal.returns
unfolding words_with
returns c =
    let page = c.args.self.now in
    let layout = head_of page.head.numbered in
    let some : 1 ≤ page.words = rw page.words_is (some_word page.head.numbered (length page.text.now)) in
    let row = packed layout (flags_of page.numbering ++ 0 ∷ []) + 2 ^ size layout * codes_of (set_in page.set) (spaced page.room page.text.now) in
    all_written (2 ^ 21) row page.words c.loop-i.words c.loop-i.i _ c.loop-i-test.false
    ∙ c.loop-i.invariant.stored
    ∙ first_turn (2 ^ 21) row page.words c.args.words.now c.first_word.result some (omega (arith, some, c.requires)) c.first_word.ensures
    ∙ rw (page.room_is, page.words_is)
