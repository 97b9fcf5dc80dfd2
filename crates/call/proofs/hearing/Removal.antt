-- A record taken out of the row: those after it moved one place down, and the last place freed.
use Prim.Native.Nat.{ℕ, ◌+◌, ◌-◌, ◌<◌}
use mathlib.Core.List.{List, [], ◌∷◌, ◌++◌}
use mathlib.Core.Path.{◌≡◌, sym, ap, ◌∙◌}
use native.Mathlib.Omega.{arith}
use lib.ListN.{length, take, drop, set, length-drop}
use lib.Seq.{take_all}
use Rattle.std.specs.List.{copy_within}
use Rattle.laws.specs.Lists.{put}
use Rattle.laws.proofs.Writing.{put_one, put_after, length_put}
use Rattle.call.specs.declared.Call.{Call}
use Rattle.call.specs.Calls.{blank}
use Rattle.call.specs.Steps.{without}

pub removed_row : (row : List Call) (place : ℕ) → length row ≡ 8 → place < 8 → set (copy_within row (place + 1) (length row) place) 7 blank ≡ without place row
removed_row row place eight within =
    let rest = drop (place + 1) row in
    let long : length rest ≡ length row - (place + 1) = length-drop (place + 1) row in
    let moved : copy_within row (place + 1) (length row) place ≡ put row place rest =
    ap (λ (part : List Call). take place row ++ part ++ drop (place + (length row - (place + 1))) row) (take_all (length row - (place + 1)) rest (omega (arith, long)))
    ∙ ap (λ (n : ℕ). take place row ++ rest ++ drop (place + n) row) (sym long) in
    let same : length (put row place rest) ≡ 8 = length_put row rest place (omega (arith, long, eight, within)) ∙ eight in
    let last : 7 ≡ place + length rest = omega (arith, long, eight, within) in
    ap (λ (calls : List Call). set calls 7 blank) moved
    ∙ put_one (put row place rest) 7 blank (omega (arith, same))
    ∙ ap (λ (k : ℕ). put (put row place rest) k (blank ∷ [])) last
    ∙ put_after row rest (blank ∷ []) place (omega (arith, eight, within))
