-- `write` meets its contract: K as 0 first, then K4 and K5 added to the first word.
use Prim.Native.Nat.{ℕ, ◌+◌, ◌/◌}
use mathlib.Core.List.{List}
use mathlib.Core.Path.{ap₂, ◌∙◌}
use native.Mathlib.Omega.{arith}
use lib.ListN.{get_or, set}
use Rattle.numeric.specs.Answers.{flags_of}
use Rattle.numeric.specs.Sets.{set_in}
use Rattle.numeric.proofs.writing.Words.{k_known, k_added}
use Rattle.numeric.proofs.writing.Draft.write.Goals as goal

pub overflow_add-words : goal.overflow_add-words
overflow_add-words c = let page = c.args.self.now in
    let added = k_added (set_in page.set) page.head.numbered (flags_of page.numbering) page.text.now c.args.words.now page.fits in
    omega (arith, rw (← c.write_words.ensures) at added.0, c.six_bit-check.ensures.small)

pub returns-clause-buffer : goal.returns-clause-buffer
returns-clause-buffer c = let page = c.args.self.now in
    let taken = k_known (set_in page.set) page.head.numbered (flags_of page.numbering) page.text.now c.args.words.now
    page.words c.six_bit-check.result c.write_words.new.words page.words_is c.write_words.ensures c.six_bit-check.ensures.sum in
    let added = k_added (set_in page.set) page.head.numbered (flags_of page.numbering) page.text.now c.args.words.now page.fits in
    ap₂ (λ (words : List ℕ) (k : ℕ). set words 0 (get_or words 0 0 + k / 16)) c.write_words.ensures taken ∙ added.1
