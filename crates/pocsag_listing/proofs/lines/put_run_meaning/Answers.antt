-- `put_run_meaning` meets its contract.
use Rattle.std.proofs.Common.{rules}
use Rattle.std.proofs.KnownBytes.{Appends-trans}
use Rattle.laws.specs.Texts.{bytes_of}
use Rattle.pocsag_listing.specs.Said.{line_end}
use Rattle.pocsag_listing.proofs.Written.{written_then}
use Rattle.pocsag_listing.proofs.lines.put_run_meaning.Goals as goal

pub returns : goal.returns
returns g c =
    written_then c.context.result _ _ _ _ (line_end (bytes_of "; it stands as word ") c.args.word)
    (Appends-trans _ _ _ _ _ c.in_ok-put_run.ensures c.in_ok-put_meaning.ensures) (search rules)
