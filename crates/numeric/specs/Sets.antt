-- The two sets as the code names them, and what the numbers of a set and of a vector's type choose.
use Rattle.std.specs.Prelude.{◌≡◌, ℕ, Bool, true, false, Option, Some, None, Result, MatchResult, ltb, length}
use Rattle.laws.specs.Choice.{pick}
use Rattle.laws.specs.Lists.{place_in}
use Rattle.packet.specs.Vectors.{is_numeric}
use Rattle.refusal.specs.declared.Refusal.{Refusal}
use Rattle.refusal.specs.declared.Refusal.TheVariants.{Packet}
use Rattle.numeric.specs.declared.sets.CharacterSet.{CharacterSet}
use Rattle.numeric.specs.declared.sets.CharacterSet.TheVariants.{Standard, Chinese}
use Rattle.numeric.specs.declared.page.Head.{Head}
use Rattle.numeric.specs.Pages.{Set, set_with, set_of, is_set, is_numbered}

-- whether the option of Table 39 is on
abbrev pub is_chinese : CharacterSet → Bool
is_chinese Standard = false
is_chinese Chinese = true

-- the characters of a set, each at the place of its code
abbrev pub set_in : CharacterSet → Set
set_in set = set_with (is_chinese set)

-- the code of a character that the set has
abbrev pub code_in : Set → ℕ → Option ℕ
code_in set c = pick (ltb (place_in set c) (length set)) (Some (place_in set c)) None

-- a number chooses a set, or 7 where it chooses none
abbrev pub Chooses : ℕ → Result CharacterSet Refusal → Type 0
Chooses set r = MatchResult r (λ chosen. (is_set set ≡ true) × (set_in chosen ≡ set_of set)) (λ e. (is_set set ≡ false) × (e ≡ Packet))

-- a vector's type has the head of its page, or 7 where it is no numeric page's
abbrev pub Heads : ℕ → Result Head Refusal → Type 0
Heads kind r = MatchResult r (λ head. (is_numeric kind ≡ true) × (head.numbered ≡ is_numbered kind)) (λ e. (is_numeric kind ≡ false) × (e ≡ Packet))
