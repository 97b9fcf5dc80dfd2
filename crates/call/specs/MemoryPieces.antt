-- The question that a message word asks of the calls, in the piece in which the code asks it.
use Rattle.std.specs.Prelude.{ℕ, not, ◌&&◌, List, []}
use Rattle.refusal.specs.declared.Refusal.TheVariants as refusals
use Rattle.refusal.specs.Told.{Told, given, ask}
use Rattle.packet.specs.declared.heard.Message.{Message}
use Rattle.call.specs.declared.Call.{Call}
use Rattle.call.specs.Words.{is_held, is_lacked}

-- 14 where each call that holds the word has it, 17 where none holds it
abbrev pub asked : List Call → Message → List ℕ → Told
asked row m memory =
    ask (is_held row m && not (is_lacked row m memory)) refusals.OutOfTurn
    (ask (not (is_held row m)) refusals.NoCall
    (given []))
