use mathlib.Core.Path.{◌∙◌}
use Rattle.capcode.proofs.printing.Writes.{text_written}
use Rattle.capcode.proofs.Judging.{fine_collapse}
use Rattle.capcode.proofs.assigning.FineCapcode.write_text.Goals as goal

pub returns : goal.returns
returns c = c.write_digits-2.ensures
    ∙ rw
    (c.write_digits.ensures, c.head_width-head.ensures.0, c.width_of-width.ensures.0)
    (text_written c.args.self.c c.args.out.now (fine_collapse _ c.args.self.fine) c.requires)
