-- `character_of` meets its contract: the set by the option.
use Rattle.std.proofs.Common.{◌∙◌}
use Rattle.std.proofs.lemmas.Option.{unwrap_or-slice_get}
use Rattle.numeric.proofs.reading.character_of.Goals as goal
use Rattle.numeric.proofs.reading.character_of.Goals.{then-chinese, else-chinese}

pub returns : goal.returns
returns c =
    c.unwrap_or.ensures ∙ rw (c.character_of.ensures, unwrap_or-slice_get)
    (elim c.if-chinese.branch [ then-chinese w ↦ rw (w.set-is, w.if-chinese.true) | else-chinese w ↦ rw (w.set-is, w.if-chinese.false) ])
