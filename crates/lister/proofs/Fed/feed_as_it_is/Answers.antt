-- `feed_as_it_is` meets its contract.
use Rattle.std.proofs.Common.{◌≡◌, length, rules, arith}
use Rattle.lister.proofs.AsItIs.{fed_as_it_is}
use Rattle.lister.proofs.Fed.feed_as_it_is.Goals as goal

pub returns : goal.returns
returns c = let sixteen : length c.args.self.now.lister.line ≡ 16 = search rules in
    fed_as_it_is _ _ _ _ sixteen (omega arith) c.requires.held_value c.keep.ensures.kept c.keep.ensures.held
