-- Listeners: what each listens to, and what is heard by some of them.
use Prim.Native.Nat.{ℕ, zero, suc, ◌+◌, ◌-◌, ◌*◌, ◌%◌, ◌^◌, ◌≤◌, ◌<◌, min}
use mathlib.Core.Bool.{Bool, true, ◌&&◌, ◌||◌, or-false, or-true, or_assoc, false≢true, and-eq-true_iff}
use mathlib.Core.Logic.{⊎_elim}
use mathlib.Core.List.{List, [], ◌∷◌, ◌++◌}
use mathlib.Core.Path.{◌≡◌, refl, sym, ap, ap₂, ◌∙◌, fun_ext}
use native.Mathlib.Nat.{mul-add-mod_self_right, mod-lt}
use native.Mathlib.Omega.{arith}
use borrow.Author.Tests.{leb-true}
use lib.Bits.{bit_or}
use Rattle.std.specs.List.{list_all}
use lib.Dec.{T, leb, eqb, eqb→eq}
use lib.ListN.{length, take, get_or}
use lib.Pow.{pow-add, pow_pos}
use lib.Seq.{take-suc}
use Rattle.laws.proofs.Counting.{all_below, of_all_below, take_min}
use Rattle.laws.proofs.Tests.{either_of}
use Rattle.frames.specs.declared.Listener.{Listener}
use Rattle.frames.specs.Listening.{last_frame, last_collapse, Frameset, listens, heard, mask_from, fits, all_fit}
use Rattle.frames.specs.Repeating.{combs}
use Rattle.frames.proofs.Masks.{Repeats, mask_or}

-- what is read past the end of a row
abbrev pub blank : Listener
blank = record { frame = 0; collapse = 0 }

-- ---- one listener

-- with a collapse of at most 5 the frames repeat after 32
listens_repeats : (l : Listener) → l.collapse ≤ last_collapse → Repeats (listens l)
listens_repeats l h f =
    let five : 5 ≡ 5 - l.collapse + l.collapse = omega arith in
    let period : 32 ≡ 2 ^ (5 - l.collapse) * 2 ^ l.collapse = ap (λ (k : ℕ). 2 ^ k) five ∙ pow-add 2 (5 - l.collapse) l.collapse in
    rw (period, mul-add-mod_self_right)

-- the comb of a collapse, moved to a base frame, is the mask of the frames that lie so
combed : ℕ → ℕ → Bool
combed collapse base =
    eqb (get_or combs collapse 0 * 2 ^ base % 2 ^ 32) (mask_from (λ f. eqb (f % 2 ^ collapse) base) 0 32)

-- the combs, computed at each collapse and each base frame within its period
all_combed : T (all_below (λ collapse. all_below (combed collapse) (2 ^ collapse)) 6)
unfolding combed mask_from
all_combed = tt

-- the comb of a collapse, moved to the base frame, is the mask of any listener
pub comb_of : (l : Listener) → l.collapse ≤ last_collapse
    → get_or combs l.collapse 0 * 2 ^ (l.frame % 2 ^ l.collapse) % 2 ^ 32 ≡ mask_from (listens l) 0 32
unfolding combed
comb_of l h =
    let each = of_all_below (λ collapse. all_below (combed collapse) (2 ^ collapse)) 6 all_combed l.collapse (omega arith) in
    eqb→eq _ _ (of_all_below (combed l.collapse) (2 ^ l.collapse) each (l.frame % 2 ^ l.collapse) (mod-lt l.frame (pow_pos l.collapse)))

-- ---- some listener

-- what is asked of a row is asked of its first listener and of the others
fit_parts : (l : Listener) (ls : List Listener) → all_fit (l ∷ ls) ≡ true → (l.collapse ≤ last_collapse) × (all_fit ls ≡ true)
unfolding all_fit
fit_parts l ls fit =
    let parts = (and-eq-true_iff (leb l.frame last_frame && leb l.collapse last_collapse) (all_fit ls)).0 fit in
    (leb-true l.collapse last_collapse ((and-eq-true_iff (leb l.frame last_frame) (leb l.collapse last_collapse)).0 parts.0).1, parts.1)

-- what is asked of a row is asked of each of its listeners
pub fit_at : (ls : List Listener) → all_fit ls ≡ true → (k : ℕ) → k < length ls → (get_or ls k blank).collapse ≤ last_collapse
fit_at [] fit k h = absurd (omega arith)
fit_at (l ∷ ls) fit zero h = (fit_parts l ls fit).0
fit_at (l ∷ ls) fit (suc k) h = fit_at ls (fit_parts l ls fit).1 k (omega arith)

-- of sixteen places the first `count` are those up to `count`, or all
pub looked : (ls : List Listener) (count size : ℕ) → length ls ≡ 16 → size ≡ min count 16 → take size ls ≡ take count ls
looked ls count size long e = rw (e, ← long) (take_min count ls)

-- `all` of an iterator asks each of them
pub fit_is : (ls : List Listener) → list_all fits ls ≡ all_fit ls
unfolding all_fit
fit_is [] = refl
fit_is (l ∷ ls) = ap (◌&&◌ (fits l)) (fit_is ls)

-- what is heard repeats after 32 frames
pub heard_repeats : (ls : List Listener) → all_fit ls ≡ true → Repeats (heard ls)
unfolding heard
heard_repeats [] fit f = refl
heard_repeats (l ∷ ls) fit f =
    let parts = fit_parts l ls fit in
    ap₂ ◌||◌ (listens_repeats l parts.0 f) (heard_repeats ls parts.1 f)

-- one listener more
heard_more : (ls : List Listener) (l : Listener) (f : ℕ) → heard (ls ++ l ∷ []) f ≡ (heard ls f || listens l f)
unfolding heard
heard_more [] l f = or-false (listens l f)
heard_more (k ∷ ls) l f = rw (heard_more ls l f) (sym (or_assoc (listens k f) (heard ls f) (listens l f)))

-- one listener more is merged by "or"
pub merge_more : (ls : List Listener) (i first n : ℕ) → i < length ls
    → bit_or (mask_from (heard (take i ls)) first n) (mask_from (listens (get_or ls i blank)) first n) ≡ mask_from (heard (take (suc i) ls)) first n
merge_more ls i first n h =
    sym (mask_or (heard (take i ls)) (listens (get_or ls i blank)) first n)
    ∙ rw (take-suc ls i blank h) (ap (λ (frames : Frameset). mask_from frames first n) (sym (fun_ext (heard_more (take i ls) (get_or ls i blank)))))

-- some listener listens to what is heard
pub heard_by : (ls : List Listener) (past : Listener) (f : ℕ) → heard ls f ≡ true
    → (k : ℕ) × (k < length ls) × (listens (get_or ls k past) f ≡ true)
unfolding heard
heard_by [] past f h = absurd (false≢true h)
heard_by (l ∷ ls) past f h =
    ⊎_elim
    (λ e. (0, omega arith, e))
    (λ e.
    let rest = heard_by ls past f e in
    (suc rest.0, omega (arith, rest.1), rest.2))
    (either_of (listens l f) (heard ls f) h)

-- what some listener listens to is heard
pub by_heard : (ls : List Listener) (past : Listener) (f k : ℕ) → k < length ls → listens (get_or ls k past) f ≡ true → heard ls f ≡ true
unfolding heard
by_heard [] past f k h e = absurd (omega arith)
by_heard (l ∷ ls) past f zero h e = rw e
by_heard (l ∷ ls) past f (suc k) h e = rw (by_heard ls past f k (omega arith) e) (or-true (listens l f))
