-- `may_end` meets its contract: each return is one line of the definition.
use mathlib.Core.Bool.{true, false}
use mathlib.Core.Path.{◌≡◌, sym, ap, ◌∙◌}
use Rattle.refusal.specs.Told.{number_told}
use Rattle.call.specs.Calls.{opens, sound}
use Rattle.call.proofs.ending.Listing.{end_unsound, end_short, end_good}
use Rattle.call.proofs.ending.may_end.Goals as goal

pub returns-then-not-sound : goal.returns-then-not-sound
returns-then-not-sound c =
    let bad : sound (opens c.args.calls.now) ≡ false = sym c.sound.ensures ∙ c.if-not-sound.true in
    sym (ap number_told (end_unsound c.args.calls.now c.args.memory.now bad))

pub returns-then-memory-lt-MEMORY_WORDS : goal.returns-then-memory-lt-MEMORY_WORDS
returns-then-memory-lt-MEMORY_WORDS c =
    let right : sound (opens c.args.calls.now) ≡ true = sym c.sound.ensures ∙ c.if-not-sound.false in
    sym (ap number_told (end_short c.args.calls.now c.args.memory.now right c.if-memory-lt-MEMORY_WORDS.true))

pub returns : goal.returns
returns c =
    let right : sound (opens c.args.calls.now) ≡ true = sym c.sound.ensures ∙ c.if-not-sound.false in
    sym (ap number_told (end_good c.args.calls.now c.args.memory.now right c.if-memory-lt-MEMORY_WORDS.false))
