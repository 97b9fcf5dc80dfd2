-- `code_of` meets its contract: the digits by counting, the others by name in either column, and no other byte has a code.
use Rattle.std.proofs.Common.{rules}
use mathlib.Core.Bool.{true, false}
use mathlib.Core.Path.{sym, ◌∙◌}
use native.Mathlib.Omega.{arith}
use Rattle.laws.specs.Lists.{place_in}
use Rattle.numeric.specs.Pages.{standard_set, chinese_set}
use Rattle.numeric.specs.Sets.{is_chinese}
use Rattle.numeric.proofs.Codes.{digit_limits, digit_code, code_found, no_code, no_chinese, no_standard}
use Rattle.numeric.proofs.sets.CharacterSet.code_of.Goals as goal

pub returns-then-is_ascii_digit : goal.returns-then-is_ascii_digit
returns-then-is_ascii_digit c = let args = c.args in
    let digit = digit_limits args.character (sym c.is_ascii_digit.ensures.value ∙ c.if-is_ascii_digit.true) in
    code_found (is_chinese args.self) args.character _ (digit_code (is_chinese args.self) args.character digit.0 digit.1) (omega (arith, digit))

pub returns-in-63 : goal.returns-in-63
unfolding standard_set place_in
returns-in-63 c = rw (c.in-Standard.is, c.in-63.is)

pub returns-in-65 : goal.returns-in-65
unfolding chinese_set place_in
returns-in-65 c = rw (c.in-Chinese.is, c.in-65.is)

pub returns-in_default : goal.returns-in_default
returns-in_default c =
    rw c.in-Standard.is
    (no_code false c.args.character
    (no_standard c.args.character c.ranges.character.fits (sym c.is_ascii_digit.ensures.value ∙ c.if-is_ascii_digit.false) (search rules)))

pub returns-in_default-character : goal.returns-in_default-character
returns-in_default-character c =
    rw c.in-Chinese.is
    (no_code true c.args.character
    (no_chinese c.args.character c.ranges.character.fits (sym c.is_ascii_digit.ensures.value ∙ c.if-is_ascii_digit.false) (search rules)))
