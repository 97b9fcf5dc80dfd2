use mathlib.Core.Bool.{not, true, false}
use mathlib.Core.Path.{◌≡◌, ◌∙◌}
use borrow.Author.Tests.{tests}
use Rattle.std.proofs.Common.{rules}
use Rattle.std.proofs.lemmas.Iterator.{YieldsList-from_slice, IsFirst-from_position}
use Rattle.capcode.specs.Reads.{is_digit}
use Rattle.capcode.proofs.Chains.{first_is}
use Rattle.capcode.proofs.advising.head_digits.Goals as goal

pub returns : goal.returns
returns c = c.unwrap_or.ensures
    ∙ first_is (λ byte. not (is_digit byte)) c.args.text.now c.position.result
    (IsFirst-from_position _ _ _ (λ byte. not (is_digit byte) ≡ true) (λ byte. not (is_digit byte) ≡ false)
    c.position.ensures.ran (YieldsList-from_slice c.args.text.now cc) (λ x q k. search (rules, tests)) (λ x q k. search (rules, tests)))
