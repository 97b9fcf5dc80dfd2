-- `report_run` meets its contract.
use Rattle.pocsag_listing.proofs.Written.{written_then}
use Rattle.pocsag_listing.proofs.lines.report_run.Goals as goal

pub returns-then-is_explained : goal.returns-then-is_explained
returns-then-is_explained g c =
    rw c.if-is_explained.true (written_then c.put_run_meaning.result _ _ _ _ _ c.in_ok-put_run_line.ensures c.put_run_meaning.ensures)
