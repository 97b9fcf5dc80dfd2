-- `fields` meets its contract: the two lists of six stand in their places, and so does each byte after them.
use Rattle.std.proofs.Common.{◌≡◌, length, rules}
use Rattle.capcode.specs.Text.{digits}
use Rattle.lister.proofs.line_end.LineEnds.{six_of}
use Rattle.lister.proofs.line_end.fields.Goals as goal

pub returns : goal.returns
unfolding digits
returns c =
    let first : length c.args.first ≡ 6 = search rules in
    let second : length c.args.second ≡ 6 = search rules in
    rw (c.copy_from_slice.ensures.after, c.copy_from_slice-2.ensures.after, ← six_of c.args.first first, ← six_of c.args.second second)
