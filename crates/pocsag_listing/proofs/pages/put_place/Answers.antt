-- `put_place` meets its contract.
use Rattle.std.proofs.KnownBytes.{Appends-trans}
use Rattle.laws.specs.Texts.{bytes_of}
use Rattle.pocsag_listing.specs.Said.{numbered}
use Rattle.pocsag_listing.proofs.Written.{written_then, written_in}
use Rattle.pocsag_listing.proofs.pages.put_place.Goals as goal

pub returns : goal.returns
returns g c =
    written_then c.context.result _ _ _ _ (numbered (bytes_of ", message word ") c.args.page.words)
    (Appends-trans _ _ _ _ _ c.in_ok-put.ensures c.in_ok-put_address.ensures)
    (written_in c.write.result c.context.result _ _ c.context.ensures c.write.ensures.bytes)
