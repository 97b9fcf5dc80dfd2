-- `write_last` meets its contract: what was held back and the end right after it, where both fit.
use Rattle.std.proofs.Common.{◌≡◌, ap, ◌∙◌, ◌++◌, arith, length-append}
use Rattle.lister.specs.Stands.{kept_of}
use Rattle.lister.specs.Verdicts.{verdict_of}
use Rattle.lister.specs.Portions.{held_shown}
use Rattle.lister.proofs.writing.Copying.{room_lacks, room_there}
use Rattle.lister.proofs.line_end.Told.{end_of}
use Rattle.lister.proofs.Writes.{wrote_same, wrote_then}
use Rattle.lister.proofs.closing.write_last.Goals as goal

pub returns-then-out-held_length : goal.returns-then-out-held_length
returns-then-out-held_length c =
    let end : c.as_slice-end.result.now ≡ verdict_of (kept_of c.args.ended) =
    c.as_slice-end.ensures ∙ end_of _ _ c.judge-verdict.ensures ∙ ap verdict_of c.kept.ensures in
    let room = rw end at c.if-out-held_length.true in
    room_lacks c.args.out.now _ (omega (arith, room, c.held_length.ensures, length-append (held_shown c.args.held) (verdict_of (kept_of c.args.ended))))

pub returns : goal.returns
returns c =
    let end : c.as_slice-end.result.now ≡ verdict_of (kept_of c.args.ended) =
    c.as_slice-end.ensures ∙ end_of _ _ c.judge-verdict.ensures ∙ ap verdict_of c.kept.ensures in
    let room = rw end at c.if-out-held_length.false in
    let held = held_shown c.args.held in
    room_there c.args.out.now (held ++ verdict_of (kept_of c.args.ended)) c.copy.result _
    (omega (arith, room, c.held_length.ensures, length-append held (verdict_of (kept_of c.args.ended))))
    (wrote_then _ _ _ _ _ _ _ _ (omega arith) c.show_held-place.ensures (wrote_same _ _ _ _ _ _ end c.copy.ensures))
