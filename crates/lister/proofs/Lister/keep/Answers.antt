-- `keep` meets its contract: the byte stands after those that are kept, or the line is full.
use Rattle.std.proofs.Common.{◌≡◌, length, rules}
use Rattle.lister.proofs.Keeping.{keep_full, keep_more}
use Rattle.lister.proofs.Lister.keep.Goals as goal

pub returns-then-self-lt16-clause-kept : goal.returns-then-self-lt16-clause-kept
returns-then-self-lt16-clause-kept c = let sixteen : length c.args.self.now.line ≡ 16 = search rules in
    keep_more _ _ sixteen _ c.if-self-lt16.true

pub returns-else-self-lt16-clause-kept : goal.returns-else-self-lt16-clause-kept
returns-else-self-lt16-clause-kept c = let sixteen : length c.args.self.now.line ≡ 16 = search rules in
    keep_full _ _ sixteen _ c.if-self-lt16.false
