-- `judge` meets its contract: what the text was read as decides.
use mathlib.Core.Path.{sym, ap, ◌∙◌}
use Rattle.capcode.specs.Reads.{told_read}
use Rattle.lister.proofs.line_end.Phase.{read_phase}
use Rattle.lister.proofs.line_end.judge.Goals as goal

pub accepted_end-requires : goal.accepted_end-requires
accepted_end-requires c = read_phase _ _ _ (sym (ap told_read c.in-Ok.is) ∙ c.read.ensures)
