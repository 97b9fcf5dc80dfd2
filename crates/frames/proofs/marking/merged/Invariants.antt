-- `merged` meets its contract: what is marked is what the listeners passed listen to.
use mathlib.Core.Path.{◌≡◌}
use lib.ListN.{take}
use Rattle.frames.specs.Listening.{heard, mask_from}
use Rattle.frames.proofs.marking.merged.Given as goal

abbrev pub invariant-loop-listener : goal.invariant-loop-listener
invariant-loop-listener l = l.marked ≡ mask_from (heard (take l.listener-index l.listeners)) 0 32
