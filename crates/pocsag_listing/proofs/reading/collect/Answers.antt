-- `collect` meets its contract: with room for a word, some bytes are taken where there are any.
use Rattle.pocsag_lister.proofs.Portions.{words_fit, words_some}
use Rattle.pocsag_listing.proofs.reading.collect.Goals as goal

pub returns : goal.returns
returns g c =
    rw c.collect.ensures.told (
      words_some g.I.Input.taken _ c.args.token c.args.input.now c.requires.row_nonzero c.requires.input_nonzero,
      (words_fit g.I.Input.taken _ c.args.token c.args.input.now).0,
    )
