-- `read` meets its contract: a number of no kind is refused first.
use Rattle.std.proofs.Common.{rules}
use borrow.Author.Tests.{lt-leb}
use Rattle.pocsag.specs.Texts.{read_of}
use Rattle.pocsag.proofs.text.read.Goals as goal

pub returns-in_err-try_from-clause-told : goal.returns-in_err-try_from-clause-told
unfolding read_of
returns-in_err-try_from-clause-told c = rw (lt-leb c.args.kind 2 c.in_err-try_from.ensures.1) (search rules)

pub returns-in_err-try_from-clause-buffer : goal.returns-in_err-try_from-clause-buffer
unfolding read_of
returns-in_err-try_from-clause-buffer c = rw (lt-leb c.args.kind 2 c.in_err-try_from.ensures.1)
