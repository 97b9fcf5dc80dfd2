-- `wrong_end` meets its contract: the word, the refusal's number, a blank, the place and the line feed.
use mathlib.Core.List.{[], ◌∷◌, ◌++◌}
use native.Mathlib.Omega.{arith}
use Rattle.refusal.specs.Told.{refused_at}
use Rattle.lister.specs.Verdicts.{plain, padded}
use Rattle.lister.proofs.Writes.{wrote_then}
use Rattle.lister.proofs.line_end.Lengths.{plain_short}
use Rattle.lister.proofs.line_end.LineEnds.{word, place_ends}
use Rattle.lister.proofs.line_end.Told.{refused_told}
use Rattle.lister.proofs.line_end.wrong_end.Goals as goal

pub returns : goal.returns
returns c = let number = plain c.number.result in
    let place = plain c.args.place in
    let second = wrote_then _ _ (32 ∷ []) place _ _ _ _
    (omega (arith, c.write_plain-blank.ensures.ends, plain_short c.number.result))
    c.copy-after_blank.ensures c.write_plain-feed.ensures in
    let both = wrote_then (padded word) 9 number (32 ∷ place) _ _ _ _ (omega arith) c.write_plain-blank.ensures second in
    let wrote = wrote_then (padded word) 9 (number ++ 32 ∷ place) (10 ∷ []) _ _ _ _ (omega arith) both c.copy-size.ensures in
    let args = c.args in
    refused_told (refused_at args.refusal args.place) _ _ _ (place_ends args.refusal args.place) (rw c.number.ensures at wrote)
