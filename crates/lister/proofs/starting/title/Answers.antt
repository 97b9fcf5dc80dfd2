-- `title` meets its contract: the first line has 42 bytes.
use Rattle.lister.specs.Texts.{header}
use Rattle.lister.proofs.writing.Copying.{room_lacks, room_there}
use Rattle.lister.proofs.starting.title.Goals as goal

pub returns-then-out-lt42 : goal.returns-then-out-lt42
unfolding header
returns-then-out-lt42 c = room_lacks c.args.out.now header c.if-out-lt42.true

pub returns : goal.returns
unfolding header
returns c = room_there c.args.out.now header c.copy.result _ c.if-out-lt42.false c.copy.ensures
