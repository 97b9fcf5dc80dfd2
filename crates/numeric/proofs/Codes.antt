-- The two sets of Table 39, as they are computed.
use Prim.Native.Nat.{ℕ, ◌+◌, ◌-◌, ◌≤◌, ◌<◌}
use mathlib.Core.Bool.{Bool, true, false, ◌&&◌, ◌||◌}
use mathlib.Core.List.{List, [], ◌∷◌, map}
use mathlib.Core.Path.{◌≡◌, refl, sym, ap, ◌∙◌}
use native.Mathlib.Omega.{arith}
use borrow.Author.Tests.{lt-ltb, le-ltb, leb-true, ltb-true, ne_eqb}
use lib.Dec.{T, leb, ltb, eqb, eqb→eq}
use lib.ListN.{length, get_or, length-append, length-replicate, length-map, get_or-replicate, get_or-append, get_or-eq_default}
use lib.Seq.{get_or-append-add}
use Rattle.laws.specs.Lists.{place_in, any_of}
use Rattle.laws.proofs.Counting.{all_below, of_all_below}
use Rattle.laws.proofs.Rows.{map_at, all_at}
use Rattle.laws.proofs.Tests.{first_of, second_of}
use Rattle.laws.specs.Choice.{pick}
use Rattle.std.specs.Prelude.{Some, None, is_some}
use Rattle.numeric.specs.Pages.{Set, standard_set, chinese_set, set_with, spaced, in_set}
use Rattle.numeric.specs.Sets.{code_in}

-- what holds of each set holds of the one that is chosen
of_either : (holds : Set → Type 0) → holds chinese_set → holds standard_set → (chinese : Bool) → holds (set_with chinese)
of_either holds on off true = on
of_either holds on off false = off

-- a set has sixteen characters
pub sixteen_of : (chinese : Bool) → length (set_with chinese) ≡ 16
unfolding standard_set chinese_set
sixteen_of = of_either (λ set. length set ≡ 16) refl refl

-- the code of a space is 12
pub space_of : (chinese : Bool) → place_in (set_with chinese) 32 ≡ 12
unfolding standard_set chinese_set place_in
space_of = of_either (λ set. place_in set 32 ≡ 12) refl refl

-- the code of a digit is its byte less that of 0
pub digit_code : (chinese : Bool) (n : ℕ) → 48 ≤ n → n < 58 → n - 48 ≡ place_in (set_with chinese) n
unfolding standard_set chinese_set place_in
digit_code chinese n large small =
    let test : Set → ℕ → Bool = λ set n. ltb n 48 || eqb (n - 48) (place_in set n) in
    eqb→eq _ _
    (rw (le-ltb n 48 large) at
    (of_all_below (test (set_with chinese)) 58 (of_either (λ set. T (all_below (test set) 58)) tt tt chinese) n small))

-- a number is none of those in a row, the last of which was asked first
abbrev Unlike : ℕ → List ℕ → Type 0
Unlike n [] = Unit {0}
Unlike n (k ∷ row) = Unlike n row × (n ≡ k → ⊥)

-- a number that is none of those in a row is not found in it
unlike_none : (n : ℕ) (row : List ℕ) → Unlike n row → any_of (eqb n) row ≡ false
unfolding any_of
unlike_none n [] none = refl
unlike_none n (k ∷ row) (none, other) = rw (ne_eqb n k other, unlike_none n row none)

-- whether a byte is a digit
abbrev is_digit : ℕ → Bool
is_digit n = leb 48 n && leb n 57

-- a digit is within its limits
pub digit_limits : (n : ℕ) → is_digit n ≡ true → (48 ≤ n) × (n < 58)
digit_limits n digit =
    let low = leb-true 48 n (first_of (leb 48 n) (leb n 57) digit) in
    let high = leb-true n 57 (second_of (leb 48 n) (leb n 57) digit) in
    (low, omega (arith, high))

-- a byte that is no digit and none of the others of a set has no place in it, where each byte is one of these, as it is computed
no_place : (set : Set) (others : List ℕ) → T (all_below (λ n. is_digit n || any_of (eqb n) others || eqb 16 (place_in set n)) 256)
    → (n : ℕ) → n < 256 → is_digit n ≡ false → Unlike n others → 16 ≡ place_in set n
no_place set others each n small other none =
    eqb→eq _ _
    (rw (other, unlike_none n others none) at
    (of_all_below (λ n. is_digit n || any_of (eqb n) others || eqb 16 (place_in set n)) 256 each n small))

-- with the option on the others are the space and A to E
pub no_chinese : (n : ℕ) → n < 256 → is_digit n ≡ false → Unlike n (69 ∷ 68 ∷ 67 ∷ 66 ∷ 65 ∷ 32 ∷ []) → 16 ≡ place_in chinese_set n
unfolding chinese_set place_in any_of
no_chinese = no_place chinese_set (69 ∷ 68 ∷ 67 ∷ 66 ∷ 65 ∷ 32 ∷ []) tt

-- with the option off they are the space, `?`, `U`, `-`, `]` and `[`
pub no_standard : (n : ℕ) → n < 256 → is_digit n ≡ false → Unlike n (91 ∷ 93 ∷ 45 ∷ 85 ∷ 63 ∷ 32 ∷ []) → 16 ≡ place_in standard_set n
unfolding standard_set place_in any_of
no_standard = no_place standard_set (91 ∷ 93 ∷ 45 ∷ 85 ∷ 63 ∷ 32 ∷ []) tt

-- a place below 16 is a code of the set
pub code_found : (chinese : Bool) (n code : ℕ) → code ≡ place_in (set_with chinese) n → code < 16 → Some code ≡ code_in (set_with chinese) n
code_found chinese n code is small = rw (← is, sixteen_of chinese, lt-ltb code 16 small)

-- the place 16 is of no character of the set
pub no_code : (chinese : Bool) (n : ℕ) → 16 ≡ place_in (set_with chinese) n → None ≡ code_in (set_with chinese) n
no_code chinese n past = rw (← past, sixteen_of chinese)

-- a set has a code for a character exactly if it has a place for it
pub has_code : (set : Set) (c : ℕ) → is_some (code_in set c) ≡ ltb (place_in set c) (length set)
has_code set c = by_test (ltb (place_in set c) (length set))
  where
    by_test : (good : Bool) → is_some (pick good (Some (place_in set c)) None) ≡ good
    by_test true = refl
    by_test false = refl

-- each character of a text of the set has a code
pub text_has : (set : Set) (text : List ℕ) (i : ℕ) → in_set set text ≡ true → i < length text
    → code_in set (get_or text i 0) ≡ Some (place_in set (get_or text i 0))
unfolding in_set
text_has set text i known within = rw (all_at (λ c. ltb (place_in set c) (length set)) text i known within)

-- a code below 16
pub text_small : (chinese : Bool) (text : List ℕ) (i : ℕ) → in_set (set_with chinese) text ≡ true → i < length text
    → place_in (set_with chinese) (get_or text i 0) < 16
unfolding in_set
text_small chinese text i known within =
    let set = set_with chinese in
    omega (arith, sixteen_of chinese, ltb-true (place_in set (get_or text i 0)) (length set) (all_at (λ c. ltb (place_in set c) (length set)) text i known within))

module _ (set : Set) (text : List ℕ) (room i : ℕ) where
  -- a text and its spaces have the room's length
  length_spaced : length text ≤ room → length (spaced room text) ≡ room
  length_spaced fits = simp (length-append, length-replicate) (omega arith)

  -- the codes of a page: of the text
  pub text_code : i < length text → place_in set (get_or text i 0) ≡ get_or (map (place_in set) (spaced room text)) i 0
  text_code within =
      let here : i < length (spaced room text) = simp length-append (omega arith) in
      sym (map_at (place_in set) (spaced room text) i here ∙ ap (place_in set) (get_or-append text _ 0 i within))

  -- the codes of a page: of a space after the text
  pub space_code : length text ≤ room → length text ≤ i → i < room → place_in set 32 ≡ get_or (map (place_in set) (spaced room text)) i 0
  space_code fits past within =
      let there = i - length text in
      let back : i ≡ length text + there = omega arith in
      let here : i < length (spaced room text) = rw (length_spaced fits) within in
      let space : get_or (spaced room text) i 0 ≡ 32 =
      ap (λ (j : ℕ). get_or (spaced room text) j 0) back ∙ get_or-append-add text _ there 0 ∙ get_or-replicate (room - length text) there 32 0 (omega arith) in
      sym (map_at (place_in set) (spaced room text) i here ∙ ap (place_in set) space)

  -- after the room there are no codes
  pub no_more : length text ≤ room → room ≤ i → 0 ≡ get_or (map (place_in set) (spaced room text)) i 0
  no_more fits past =
      let done : length (map (place_in set) (spaced room text)) ≤ i =
      rw (length-map (spaced room text) (place_in set), length_spaced fits) past in
      sym (get_or-eq_default (map (place_in set) (spaced room text)) 0 done)
