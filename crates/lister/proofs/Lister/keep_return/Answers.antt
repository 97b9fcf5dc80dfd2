-- `keep_return` meets its contract: where no carriage return was held back, what is kept stays.
use Rattle.std.proofs.Common.{◌≡◌, length, rules}
use Rattle.lister.proofs.Keeping.{keep_none}
use Rattle.lister.proofs.Lister.keep_return.Goals as goal

pub returns-else-self-clause-kept : goal.returns-else-self-clause-kept
returns-else-self-clause-kept c = let long : length c.args.self.now.line ≡ 16 = search rules in
    rw c.if-self.false (keep_none c.args.self.now.line c.args.self.now.count long)
