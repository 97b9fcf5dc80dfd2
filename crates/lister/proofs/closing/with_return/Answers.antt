-- `with_return` meets its contract: the carriage return stands after what is kept, if one was held back and fits.
use Rattle.std.proofs.Common.{◌≡◌, length, refl, rules}
use Rattle.lister.proofs.Keeping.{keep_none}
use Rattle.lister.proofs.closing.with_return.Goals as goal

pub returns-else-lister : goal.returns-else-lister
returns-else-lister c = let lister = c.args.lister in
    let long : length lister.line ≡ 16 = search rules in
    rw c.if-lister.false (keep_none lister.line lister.count long, long, refl)
