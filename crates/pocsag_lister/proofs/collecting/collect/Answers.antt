-- `collect` meets its contract: each byte does what the definition says of it.
use Rattle.std.proofs.Common.{◌≡◌, sym, ap, ◌∙◌, get_or, length, arith, rules, Some, Err}
use Rattle.pocsag_lister.specs.declared.Taken.{Taken}
use Rattle.pocsag_lister.proofs.Portions.{collecting_ends, collecting_full, collecting-wrong, collecting-word, collecting-byte}
use Rattle.pocsag_lister.proofs.collecting.collect.Goals as goal
use Rattle.pocsag_lister.proofs.collecting.collect.Goals.{in-Some-Ok, in-None}

pub returns-then-row-count : goal.returns-then-row-count
returns-then-row-count g c = let ended = collecting_full _ _ _ _ _ _ _ _ c.loop-taken.invariant c.loop-taken-test.true c.if-row-count.true in
    record { told = ended.0; row = ended.1 }

pub returns-in-Some-Err : goal.returns-in-Some-Err
returns-in-Some-Err g c =
    let here : (g.I.Input.taken c.loop-taken.token (get_or c.args.input.now c.loop-taken.taken 0)).found ≡ Some (Err c.in-Some-Err.wrong) =
    ap (λ (s : Taken). s.found) (sym c.take-step.ensures) ∙ search rules in
    let ended = collecting-wrong _ _ _ _ _ _ _ _ c.loop-taken.invariant c.loop-taken-test.true c.if-row-count.false _ here in
    record { told = rw c.take-step.ensures ended.0; row = ended.1 }

pub loop-taken-preserved : goal.loop-taken-preserved
loop-taken-preserved g c = rw c.take-step.ensures
    (elim c.match-step.branch [
      | in-Some-Ok w ↦ rw (w.row-is, w.count-is)
          (collecting-word _ _ _ _ _ _ _ _ c.loop-taken.invariant c.loop-taken-test.true c.if-row-count.false _
          (ap (λ (s : Taken). s.found) (sym c.take-step.ensures) ∙ search rules))
      | in-None w ↦ rw (w.row-is, w.count-is)
          (collecting-byte _ _ _ _ _ _ _ _ c.loop-taken.invariant c.loop-taken-test.true c.if-row-count.false
          (ap (λ (s : Taken). s.found) (sym c.take-step.ensures) ∙ w.in-None.is))
    ])

pub returns : goal.returns
returns g c = let ended = collecting_ends _ _ _ _ _ _ _ _ c.loop-taken.invariant c.loop-taken-test.false in
    let whole : c.loop-taken.taken ≡ length c.args.input.now = omega (arith, c.loop-taken-test.false, c.loop-taken.invariant.few) in
    record { told = rw (← whole) ended.0; row = ended.1 }
