-- `signature_of` meets its contract: each character of fill lowers the signature by 3.
use Rattle.std.proofs.Common.{ℕ, ◌+◌, ◌-◌, ◌*◌, ◌%◌, length, ap, ◌∙◌, arith}
use Rattle.fragment.proofs.cutting.MessageCells.{fill_lowers}
use Rattle.fragment.proofs.cutting.signature_of.Goals as goal

pub returns : goal.returns
returns c = let text = c.args.text.now in
    record { sum = ap (λ (n : ℕ). (n + 128 - 3 * (2 - length text % 3)) % 128) c.signature.ensures ∙ fill_lowers text; small = omega arith }
