-- `signature` meets its contract: the sum so far and what is still to come, modulo 128.
use Rattle.std.proofs.Common.{ℕ, ◌-◌, sym, ap, ◌∙◌, arith}
use Rattle.sums.specs.Sums.{whole}
use Rattle.sums.proofs.Summing.{one_more, none_left}
use Rattle.sums.proofs.signature.Goals as goal

pub loop-character-preserved : goal.loop-character-preserved
loop-character-preserved c =
    one_more whole c.args.characters.now 25 7 c.loop-character.sum c.loop-character.character-index (omega arith) ∙ c.loop-character.invariant

pub returns : goal.returns
returns c =
    ap (λ (n : ℕ). 127 - n)
    (sym (none_left whole c.args.characters.now 25 7 c.loop-character.sum c.loop-character.character-index (omega arith)) ∙ c.loop-character.invariant)
