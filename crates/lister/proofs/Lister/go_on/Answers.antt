-- `go_on` meets its contract: a line feed, a carriage return, or any other byte.
use Rattle.std.proofs.Common.{◌≡◌, false, ◌∙◌}
use Rattle.lister.proofs.Keeping.{next_line, next_held, next_kept}
use Rattle.lister.proofs.Lister.go_on.Goals as goal

pub returns-then-byte-eq10 : goal.returns-then-byte-eq10
returns-then-byte-eq10 c = next_line _ _ _ c.if-byte-eq10.true

pub returns-then-byte-eq13 : goal.returns-then-byte-eq13
returns-then-byte-eq13 c = next_held _ _ _ _ c.if-byte-eq13.true c.keep_return.ensures.kept

pub returns : goal.returns
returns c = let held : c.keep.new.self.held ≡ false = c.keep.ensures.held ∙ c.keep_return.ensures.held in
    rw held (next_kept _ _ _ _ _ c.if-byte-eq10.false c.if-byte-eq13.false c.keep_return.ensures.kept c.keep.ensures.kept)
