-- `judge` meets its contract: its questions are those of the definition.
use mathlib.Core.Path.{sym, ap, ◌∙◌}
use Rattle.refusal.specs.declared.Refusal.TheVariants as refusals
use Rattle.refusal.specs.Told.{number_unless}
use Rattle.pocsag.specs.Texts.{kind_number, read_of}
use Rattle.pocsag.proofs.Readable.{kind_known, room_asked}
use Rattle.pocsag.proofs.text.judge.Goals as goal

pub returns-then-not-fit_bits : goal.returns-then-not-fit_bits
unfolding read_of
returns-then-not-fit_bits c = rw (kind_known c.args.kind, sym c.fit_bits.ensures ∙ c.if-not-fit_bits.true)

pub returns-then-not-has_room : goal.returns-then-not-has_room
unfolding read_of
returns-then-not-has_room c = rw (kind_known c.args.kind, sym c.fit_bits.ensures ∙ c.if-not-fit_bits.false)
    (ap (number_unless refusals.Room) (sym c.if-not-has_room.true ∙ c.has_room.ensures)
    ∙ room_asked (kind_number c.args.kind) c.args.lent c.args.words.now)

pub returns : goal.returns
unfolding read_of
returns c = rw (kind_known c.args.kind, sym c.fit_bits.ensures ∙ c.if-not-fit_bits.false)
    (ap (number_unless refusals.Room) (sym c.if-not-has_room.false ∙ c.has_room.ensures)
    ∙ room_asked (kind_number c.args.kind) c.args.lent c.args.words.now)
