-- What the definitions of frames promise: of any set of frames, any listeners, any answer.
use Prim.Native.Nat.{ℕ, suc, ◌+◌, ◌-◌, ◌*◌, ◌/◌, ◌%◌, ◌^◌, ◌<◌}
use mathlib.Core.Bool.{true}
use mathlib.Core.List.{List, [], ◌∷◌, map}
use mathlib.Core.Path.{◌≡◌, refl, sym, ap, ap₂, ◌∙◌}
use native.Mathlib.Omega.{arith}
use lib.ListN.{length, get_or}
use Rattle.laws.specs.Choice.{bit_of}
use Rattle.laws.proofs.Bits.{set_bit}
use Rattle.refusal.specs.declared.Refusal.{Refusal}
use Rattle.refusal.specs.Told.{Told, number_of, given, number_told}
use Rattle.refusal.proofs.Laws.{number_tells, number_positive}
use Rattle.frames.specs.declared.Listener.{Listener}
use Rattle.std.specs.Prelude.{Result, Ok, Err}
use Rattle.frames.specs.declared.Listening.{Listening}
use Rattle.frames.specs.Listening.{Frameset, listens, heard, frames_from, mask_from, masks_of, count_from, count_of}
use Rattle.frames.specs.Listening.{all_fit, ones_of, listened, told_listening}
use Rattle.frames.proofs.Masks.{mask_bit, range_at, range_ones}
use Rattle.frames.proofs.Hearing.{heard_by, by_heard}

-- a frame's bit is marked exactly if the frame is in the set
pub marked : (frames : Frameset) (i j : ℕ) → i < 8 → j < 16 → get_or (masks_of frames) i 0 / 2 ^ j % 2 ≡ bit_of (frames (16 * (7 - i) + j))
marked frames i j hi hj =
    let place : 8 - suc i ≡ 7 - i = omega arith in
    rw (range_at frames 8 i hi, place, mask_bit frames (16 * (7 - i)) 16 j hj)

-- the bits marked over all eight packets are the frames of the set, counted
pub counted : (frames : Frameset) → ones_of (masks_of frames) ≡ count_of frames
counted frames = range_ones frames 8

-- a bit that is marked has a listener
pub marked_by : (ls : List Listener) (past : Listener) (i j : ℕ) → i < 8 → j < 16 → get_or (masks_of (heard ls)) i 0 / 2 ^ j % 2 ≡ 1
    → (k : ℕ) × (k < length ls) × (listens (get_or ls k past) (16 * (7 - i) + j) ≡ true)
marked_by ls past i j hi hj bit = heard_by ls past (16 * (7 - i) + j) (set_bit _ (sym (marked (heard ls) i j hi hj) ∙ bit))

-- a listener has its bits marked
pub by_marked : (ls : List Listener) (past : Listener) (i j k : ℕ) → i < 8 → j < 16 → k < length ls
    → listens (get_or ls k past) (16 * (7 - i) + j) ≡ true → get_or (masks_of (heard ls)) i 0 / 2 ^ j % 2 ≡ 1
by_marked ls past i j k hi hj hk e = marked (heard ls) i j hi hj ∙ ap bit_of (by_heard ls past (16 * (7 - i) + j) k hk e)

-- ---- the telling admits one answer

-- no refusal has the number of what is given
none_refused : {A : Type 0} (r : Refusal) → 0 ≡ number_of r → A
none_refused r e = absurd (omega (arith, number_positive r))

-- what is given, told, is known
given_parts : (x y : ℕ) (m n : List ℕ) → given (x ∷ m) ≡ given (y ∷ n) → (x ≡ y) × (m ≡ n)
given_parts x y m n e = (cc, cc)

-- two answers that are told alike are the same
pub listening_tells : (a b : Result Listening Refusal) → told_listening a ≡ told_listening b → a ≡ b
listening_tells (Ok a) (Ok b) e =
    let parts = given_parts a.frames b.frames a.masks b.masks e in
    ap₂ (λ (frames : ℕ) (masks : List ℕ). Ok (record { frames = frames; masks = masks })) parts.0 parts.1
listening_tells (Ok a) (Err s) e = none_refused s (ap number_told e)
listening_tells (Err r) (Ok b) e = none_refused r (sym (ap number_told e))
listening_tells (Err r) (Err s) e = ap Err (number_tells r s (ap number_told e))

-- ---- worked examples

-- a listener of a base frame and a collapse
abbrev at : ℕ → ℕ → Listener
at base collapse = record { frame = base; collapse = collapse }

-- 01's marked case 8, and S8.6.7's example: exactly these frames of the 128, and what is answered for such a listener by itself
pub worked : map {B = List ℕ × Told} (λ (l : Listener). (frames_from (listens l) 0 128, listened (l ∷ []) 1)) (at 3 5 ∷ at 3 4 ∷ [])
    ≡ ((3 ∷ 35 ∷ 67 ∷ 99 ∷ [], given (4 ∷ 0 ∷ 8 ∷ 0 ∷ 8 ∷ 0 ∷ 8 ∷ 0 ∷ 8 ∷ []))
    ∷ (3 ∷ 19 ∷ 35 ∷ 51 ∷ 67 ∷ 83 ∷ 99 ∷ 115 ∷ [], given (8 ∷ 8 ∷ 8 ∷ 8 ∷ 8 ∷ 8 ∷ 8 ∷ 8 ∷ 8 ∷ []))
    ∷ [])
unfolding frames_from listened heard count_from mask_from all_fit
worked = refl
