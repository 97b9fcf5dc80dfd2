-- `heading_of` meets its contract: each number stands at its place.
use Rattle.fragment.specs.Fragments.{is_first}
use Rattle.fragment.proofs.text.Cells.{signature_cell, text_after_signature, tail}
use Rattle.fragment.proofs.head.heading_of.Goals as goal

pub returns : goal.returns
returns c = let words = c.args.words.now in
    rw (
      c.kept.ensures,
      c.kept-2.ensures,
      c.kept-3.ensures,
      c.sum.ensures,
      c.count.ensures,
      tail 2 words,
      c.unsigned.ensures,
      c.is_first-first.ensures,
      text_after_signature (is_first words) words c.requires,
      signature_cell words c.requires,
    )
