-- `write_line` meets its contract: the text as it is, and its end right after it.
use Rattle.std.proofs.Common.{◌≡◌, ap, sym, ◌∙◌, arith}
use Rattle.lister.specs.Verdicts.{verdict_of, stands_after}
use Rattle.lister.proofs.line_end.Told.{end_of, number_of}
use Rattle.lister.proofs.Said.{read_shown}
use Rattle.lister.proofs.Writes.{wrote_same, wrote_then}
use Rattle.lister.proofs.feeding.write_line.Goals as goal

pub returns : goal.returns
returns c = let text = c.args.text.now in
    let verdict = c.judge.result in
    let end : c.in-Accepted.end ≡ verdict_of text = sym (ap stands_after c.in-Accepted.is) ∙ end_of text verdict c.judge.ensures in (
      wrote_then _ _ _ _ _ _ _ _ (omega arith) c.copy-text_end.ensures (wrote_same _ _ _ _ _ _ end c.copy.ensures),
      read_shown text (number_of text verdict c.judge.ensures _ c.in-Accepted.is),
    )
