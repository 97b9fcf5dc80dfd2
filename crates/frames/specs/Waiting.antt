-- The wait for a temporary address (document 01; document 02, item 3; S8.8.4).
use Rattle.std.specs.Prelude.{ℕ, ◌+◌, ◌-◌, ◌%◌, not, ◌&&◌, [], ◌∷◌, leb, eqb, Result}
use Rattle.laws.specs.Choice.{pick}
use Rattle.refusal.specs.declared.Refusal.{Refusal}
use Rattle.refusal.specs.declared.Refusal.TheVariants.{Packet}
use Rattle.refusal.specs.Told.{Told, given, ask, told_by}
use Rattle.frames.specs.Listening.{last_frame}

-- 02, item 3: "when the designated frame is the present one, the next occurrence in the following cycle is meant": "128, and
-- 1 to 127 elsewhere as now", which is 01's "(d - c) mod 128 frames"
abbrev pub wait_of : ℕ → ℕ → ℕ
wait_of from to = pick (eqb to from) 128 ((to + 128 - from) % 128)

-- the wait from the present frame to the designated one; 01's table, 7: "frame over 127"
unfoldable pub waited : ℕ → ℕ → Told
waited from to =
    ask (not (leb from last_frame && leb to last_frame)) Packet
    (given (wait_of from to ∷ []))

-- how a wait is told
abbrev pub told_awaited : Result ℕ Refusal → Told
told_awaited answer = told_by (λ frames. frames ∷ []) answer
