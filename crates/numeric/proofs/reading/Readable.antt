-- What is written of a page that is read.
use Prim.Native.Nat.{ℕ, ◌/◌, ◌^◌}
use mathlib.Core.Bool.{Bool}
use mathlib.Core.Path.{◌≡◌, ◌∙◌}
use mathlib.Core.List.{List}
use lib.ListN.{length, get_or, take, length-map}
use lib.Seq.{take_at}
use Rattle.laws.specs.Layouts.{size}
use Rattle.laws.specs.Lists.{put}
use Rattle.laws.specs.Numerals.{number, digits}
use Rattle.laws.proofs.Numerals.{length_digits}
use Rattle.sums.specs.Words.{word_bits}
use Rattle.numeric.specs.Pages.{Set, head_of, room_of, text_in}

-- a page's text is as long as its words have room
pub text_length : (set : Set) (numbered : Bool) (words : List ℕ) → length (text_in set numbered words) ≡ room_of numbered (length words)
unfolding text_in
text_length set numbered words =
    let codes = digits 16 (room_of numbered (length words)) (number (2 ^ word_bits) words / 2 ^ size (head_of numbered)) in
    length-map codes (λ c. get_or set c 0) ∙ length_digits 16 (room_of numbered (length words)) _

-- written into lent bytes, it is the first so many of them
pub text_first : (set : Set) (numbered : Bool) (words lent : List ℕ)
    → take (room_of numbered (length words)) (put lent 0 (text_in set numbered words)) ≡ text_in set numbered words
text_first set numbered words lent = take_at (text_in set numbered words) _ (room_of numbered (length words)) (text_length set numbered words)
