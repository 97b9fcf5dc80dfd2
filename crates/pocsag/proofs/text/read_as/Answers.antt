-- `read_as` meets its contract: a refusal tells its number alone.
use Rattle.std.proofs.Common.{rules}
use Rattle.pocsag.specs.Texts.{kind_number}
use Rattle.pocsag.proofs.Readable.{refused_alone}
use Rattle.pocsag.proofs.text.read_as.Goals as goal

pub returns-in_err-judge-clause-told : goal.returns-in_err-judge-clause-told
returns-in_err-judge-clause-told c =
    rw (← (refused_alone (kind_number c.args.kind) _ c.args.words.now _ c.in_err-judge.ensures)) (search rules)
