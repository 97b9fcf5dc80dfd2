-- Frames listened to (document 01, S8.6.7).
use Rattle.std.specs.Prelude.{ℕ, zero, suc, ◌+◌, ◌-◌, ◌*◌, ◌%◌, ◌^◌, Bool, true, false, not, ◌&&◌, ◌||◌, List, [], ◌∷◌, leb, ltb, eqb, replicate, Result, Ok, Err}
use Rattle.std.specs.Int.Count.{ones}
use Rattle.laws.specs.Choice.{pick, bit_of}
use Rattle.refusal.specs.declared.Refusal.{Refusal}
use Rattle.refusal.specs.declared.Refusal.TheVariants.{Packet, Size}
use Rattle.refusal.specs.Told.{Told, told, number_of, given}
use Rattle.frames.specs.declared.Listener.{Listener}
use Rattle.frames.specs.declared.Listening.{Listening}

-- a set of frames: which frames are in it
abbrev pub Frameset : Type 0
Frameset = ℕ → Bool

-- 01, "Frames listened to": "all f with f mod 2^collapse equal to base mod 2^collapse"
abbrev pub listens : Listener → Frameset
listens l f = eqb (f % 2 ^ l.collapse) (l.frame % 2 ^ l.collapse)

-- 01: "merged over up to 16 addresses": some listener listens to the frame
unfoldable pub heard : List Listener → Frameset
heard [] f = false
heard (l ∷ ls) f = listens l f || heard ls f

-- the frames of the set among the n frames from the first on
unfoldable pub frames_from : Frameset → ℕ → ℕ → List ℕ
frames_from frames first zero = []
frames_from frames first (suc n) = pick (frames first) (first ∷ frames_from frames (suc first) n) (frames_from frames (suc first) n)

-- how many of the n frames from the first on are in the set
unfoldable pub count_from : Frameset → ℕ → ℕ → ℕ
count_from frames first zero = 0
count_from frames first (suc n) = bit_of (frames first) + count_from frames (suc first) n

-- the n frames from the first on as a number: bit j is the frame first + j (Table 29)
unfoldable pub mask_from : Frameset → ℕ → ℕ → ℕ
mask_from frames first zero = 0
mask_from frames first (suc n) = bit_of (frames first) + 2 * mask_from frames (suc first) n

-- Table 28: packet 20H + i holds the sixteen frames from 16 (7 - i) on
abbrev pub mask_of : Frameset → ℕ → ℕ
mask_of frames i = mask_from frames (16 * (7 - i)) 16

-- the masks of packets 20H to 27H, in that order
abbrev pub masks_of : Frameset → List ℕ
masks_of frames =
    mask_of frames 0 ∷ mask_of frames 1 ∷ mask_of frames 2 ∷ mask_of frames 3 ∷ mask_of frames 4 ∷ mask_of frames 5 ∷ mask_of frames 6 ∷ mask_of frames 7 ∷ []

-- 01: "the count of marked bits over all eight packets"
unfoldable pub ones_of : List ℕ → ℕ
ones_of [] = 0
ones_of (mask ∷ masks) = ones mask + ones_of masks

-- 01: "the number of frames listened to", of the 128 of a cycle
abbrev pub count_of : Frameset → ℕ
count_of frames = count_from frames 0 128

-- 01's table, 7: "frame over 127"
abbrev pub last_frame : ℕ
last_frame = 127

-- 01's table, 7: "collapse over 5"
abbrev pub last_collapse : ℕ
last_collapse = 5

-- 01's table, 7, of a listener: neither its frame nor its collapse is over the last
abbrev pub fits : Listener → Bool
fits l = leb l.frame last_frame && leb l.collapse last_collapse

-- and of listeners
unfoldable pub all_fit : List Listener → Bool
all_fit [] = true
all_fit (l ∷ ls) = fits l && all_fit ls

-- a refusal marks no frame
abbrev pub unmarked : Refusal → Told
unmarked r = told (number_of r) (0 ∷ replicate 8 0)

-- what is answered for listeners, of which `count` were to be looked at: 7, then 9 for over 16 addresses, else the number of frames and the masks
unfoldable pub listened : List Listener → ℕ → Told
listened ls count =
    pick (not (all_fit ls)) (unmarked Packet)
    (pick (ltb 16 count) (unmarked Size)
    (given (count_of (heard ls) ∷ masks_of (heard ls))))

-- how an answer is told: the number of frames and the masks, all of them 0 after a refusal
abbrev pub told_listening : Result Listening Refusal → Told
told_listening (Ok a) = given (a.frames ∷ a.masks)
told_listening (Err r) = unmarked r
