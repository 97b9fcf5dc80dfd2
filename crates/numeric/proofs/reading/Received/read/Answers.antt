-- `read` meets its contract: its spaces are counted in what was written.
use Prim.Native.Nat.{ℕ}
use mathlib.Core.List.{List}
use mathlib.Core.Path.{◌≡◌, ap₂, ap, ◌∙◌}
use lib.ListN.{take}
use Rattle.laws.proofs.Endings.{counted_backwards}
use Rattle.numeric.specs.Pages.{is_space, spaces_at_end, text_in}
use Rattle.numeric.specs.Sets.{set_in}
use Rattle.numeric.proofs.reading.Readable.{text_first}
use Rattle.numeric.proofs.reading.Received.read.Goals as goal

pub returns-clause-page : goal.returns-clause-page
returns-clause-page c =
    let page = c.args.self.now in
    let text = text_in (set_in c.args.set) page.head.numbered page.words.now in
    let first : take c.write_characters-characters.result c.write_characters-characters.new.text ≡ text =
    ap₂ (λ (n : ℕ) (bytes : List ℕ). take n bytes) c.write_characters-characters.ensures.count c.write_characters-characters.ensures.buffer
    ∙ text_first (set_in c.args.set) page.head.numbered page.words.now c.args.text.now in
    rw (c.numbering_in.ensures, c.write_characters-characters.ensures.count, c.spaces_at_end.ensures ∙ counted_backwards is_space _ ∙ ap spaces_at_end first)
