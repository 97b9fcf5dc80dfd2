-- `dropped_slot` meets its contract: the questions stand in the definition's order.
use Rattle.std.proofs.Common.{[], sym, ap, ◌∙◌, le-leb}
use Rattle.std.proofs.lemmas.Bool.{lt-leb}
use Rattle.refusal.specs.Told.{told_by}
use Rattle.chain.specs.Answers.{drop_of}
use Rattle.chain.proofs.dropping.Answering.{searched}
use Rattle.chain.proofs.dropping.dropped_slot.Goals as goal

pub returns-then-not-sound-clause-told : goal.returns-then-not-sound-clause-told
unfolding drop_of
returns-then-not-sound-clause-told c = simp (sym c.sound.ensures ∙ c.if-not-sound.true)

pub returns-then-message_number-gt-LAST_MESSAGE-clause-told : goal.returns-then-message_number-gt-LAST_MESSAGE-clause-told
unfolding drop_of
returns-then-message_number-gt-LAST_MESSAGE-clause-told c =
    simp (sym c.sound.ensures ∙ c.if-not-sound.false, lt-leb c.args.message_number 63 c.if-message_number-gt-LAST_MESSAGE.true)

pub returns-then-address-gt-LAST_ADDRESS-clause-told : goal.returns-then-address-gt-LAST_ADDRESS-clause-told
unfolding drop_of
returns-then-address-gt-LAST_ADDRESS-clause-told c =
    simp (
      sym c.sound.ensures ∙ c.if-not-sound.false,
      le-leb c.args.message_number 63 c.if-message_number-gt-LAST_MESSAGE.false,
      lt-leb c.args.address 31 c.if-address-gt-LAST_ADDRESS.true,
    )

pub returns : goal.returns
unfolding drop_of
returns c =
    let both = searched c.args.slots.now c.args.address c.args.message_number c.find.result c.find.ensures in
    record {
      told =
          simp (
            sym c.sound.ensures ∙ c.if-not-sound.false,
            le-leb c.args.message_number 63 c.if-message_number-gt-LAST_MESSAGE.false,
            le-leb c.args.address 31 c.if-address-gt-LAST_ADDRESS.false,
          )
          (ap (told_by (λ slot. [])) c.ok_or.ensures.value ∙ both.0);
      there = rw c.ok_or.ensures.value both.1;
    }
