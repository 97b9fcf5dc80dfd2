-- Words and addresses lead to each other: what document 01 promises of the way back.
use Rattle.std.specs.Prelude.{Result, Ok, Err}
use Prim.Native.Nat.{ℕ, ◌+◌, ◌-◌, ◌*◌, ◌/◌, ◌%◌, ◌≤◌, ◌<◌}
use mathlib.Core.Bool.{Bool, true, false, and-eq-true_iff}
use mathlib.Core.Path.{◌≡◌, refl, ap, sym, ◌∙◌, subst}
use mathlib.Core.List.{List, [], ◌∷◌, map}
use mathlib.Core.Logic.{◌⊎◌, inl, inr, ⊎_elim}
use lib.Dec.{eqb}
use native.Mathlib.Omega.{arith}
use borrow.Author.Tests.{eq-eqb, eqb-true, le-leb, lt-leb}
use Rattle.laws.specs.Choice.{pick}
use Rattle.refusal.specs.declared.Refusal.TheVariants.{Range}
use Rattle.refusal.specs.Told.{Told, told, refused, given}
use Rattle.refusal.proofs.Laws.{given_not_refused, given_head, given_tells, refused_tells}
use Rattle.capcode.specs.declared.Class.{Class}
use Rattle.capcode.specs.declared.Words.{Words}
use Rattle.capcode.specs.declared.Class.TheVariants.{Short, InformationService, Network, Operator, Set12}
use Rattle.capcode.specs.declared.Class.TheVariants.{Set13, Set14, Set23Country, Set23InformationService}
use Rattle.capcode.specs.Ranges.{rows, class_in, class_of, found, accepted}
use Rattle.capcode.proofs.Bounds.{row_of, class_bounds}
use Rattle.capcode.specs.Words.{pair12, pair13, pair23, layout_of, words_as, words_by, words_of, same, gives}
use Rattle.capcode.specs.Words.{from_word, from_pair, confirmed, address_of, listed, told_worded, told_addressed}
use Rattle.capcode.proofs.Fits.{known_class}
use Rattle.refusal.specs.declared.Refusal.{Refusal}

-- a list is the same as itself
same_self : (words : List ℕ) → same words words ≡ true
unfolding same
same_self [] = refl
same_self (w ∷ ws) = rw (eq-eqb w w refl, same_self ws)

-- lists that are the same are equal
same_equal : (xs ys : List ℕ) → same xs ys ≡ true → xs ≡ ys
unfolding same
same_equal [] [] e = refl
same_equal [] (y ∷ ys) e = cc
same_equal (x ∷ xs) [] e = cc
same_equal (x ∷ xs) (y ∷ ys) e =
    let both = (and-eq-true_iff (eqb x y) (same xs ys)).0 e in
    let head : x ≡ y = eqb-true x y both.0 in
    let rest : xs ≡ ys = same_equal xs ys both.1 in
    cc

-- an answer gives the words that it tells
gives_told : (answer : Told) (words : List ℕ) → answer ≡ given words → gives answer words ≡ true
gives_told answer words e = rw e (same_self words)

-- an answer gives no other words than those that it tells
told_gives : (answer : Told) (words : List ℕ) → gives answer words ≡ true → answer ≡ given words
told_gives (told n values) words e =
    let both = (and-eq-true_iff (eqb n 0) (same values words)).0 e in
    let none : n ≡ 0 = eqb-true n 0 both.0 in
    let same : values ≡ words = same_equal values words both.1 in
    cc

-- where a list of words leads to by Table 24
abbrev leads_to : List ℕ → ℕ
leads_to [] = 0
leads_to (word ∷ []) = from_word word
leads_to (first ∷ second ∷ []) = from_pair first second
leads_to (first ∷ second ∷ third ∷ more) = 0

-- set 1-2 led back: the second word is in bank 2
back12 : (address : ℕ) → 0x1F9001 ≤ address → address < 0x1F9001 + 0x8001 * 0x8000 → leads_to (pair12 address) ≡ address
unfolding from_pair
back12 address low high =
    rw (
      le-leb (1 + (address - 0x1F9001) % 0x8000) 0x8000 (omega arith),
      le-leb 0x1F7FFF (0x1FFFFF - (address - 0x1F9001) / 0x8000) (omega arith),
    )
    (omega arith)

-- sets 1-3 and 1-4: the second word is below bank 2
back13 : (address : ℕ) → 0x1F9001 ≤ address → address < 0x1F9001 + 0x1FFFF * 0x8000 → leads_to (pair13 address) ≡ address
unfolding from_pair
back13 address low high =
    rw (
      le-leb (1 + (address - 0x1F9001) % 0x8000) 0x8000 (omega arith),
      lt-leb 0x1F7FFF (0x1D8000 + (address - 0x1F9001) / 0x8000) (omega arith),
    )
    (omega arith)

-- set 2-3: the first word is not in bank 1
back23 : (address : ℕ) → 0x1F8FFF ≤ address → leads_to (pair23 address) ≡ address
unfolding from_pair
back23 address low = rw (lt-leb (0x1F7FFF + (address - 0x1F8FFF) % 0x8000) 0x8000 (omega arith)) (omega arith)

-- the words of an address in a class's row lead back to it
row_back : (class : Class) (address : ℕ) → (row_of class).from ≤ address → address ≤ (row_of class).to → leads_to (words_as (layout_of class) address) ≡ address
unfolding rows
row_back Short address low high = omega arith
row_back InformationService address low high = omega arith
row_back Network address low high = omega arith
row_back Operator address low high = omega arith
row_back Set12 address low high = back12 address (omega arith) (omega arith)
row_back Set13 address low high = back13 address (omega arith) (omega arith)
row_back Set14 address low high = back13 address (omega arith) (omega arith)
row_back Set23Country address low high = back23 address (omega arith)
row_back Set23InformationService address low high = back23 address (omega arith)

-- an address whose class is known leads to its words and back
class_back : (found : Result Class Refusal) (address : ℕ) (words : List ℕ) → class_of address ≡ found → words_by found address ≡ given words → leads_to words ≡ address
class_back (Ok class) address words e w =
    let bounds = class_bounds address class e in
    ap leads_to (sym (given_tells (words_as (layout_of class) address) words w)) ∙ row_back class address bounds.0 bounds.1
class_back (Err r) address words e w = absurd (given_not_refused words r (sym w))

-- the words of an accepted address lead back to it
words_lead_back : (address : ℕ) (words : List ℕ) → words_of address ≡ given words → leads_to words ≡ address
words_lead_back address words e = class_back (class_of address) address words refl (known_class address refl ∙ e)

-- an address is confirmed for its own words
confirmed_own : (address : ℕ) (words : List ℕ) → words_of address ≡ given words → confirmed address words ≡ given (address ∷ [])
unfolding confirmed
confirmed_own address words e = rw (gives_told (words_of address) words e)

-- what is confirmed has just those words
confirmed_only : (led : ℕ) (words : List ℕ) (address : ℕ) → confirmed led words ≡ given (address ∷ []) → words_of address ≡ given words
unfolding confirmed
confirmed_only led words address e = by_test (gives (words_of led) words) refl e
  where
    by_test : (b : Bool) → gives (words_of led) words ≡ b → pick b (given (led ∷ [])) (refused Range) ≡ given (address ∷ []) → words_of address ≡ given words
    by_test true h e = rw (← given_head led address e) (told_gives (words_of led) words h)
    by_test false h e = absurd (given_not_refused (address ∷ []) Range (sym e))

-- the address 0, to which no one or two words lead, has no words
no_words : (address : ℕ) (words : List ℕ) → 0 ≡ address → words_of address ≡ given words → ⊥
unfolding words_of class_of class_in rows
no_words address words e w =
    let zero-words : words_of 0 ≡ given words = ap words_of e ∙ w in
    given_not_refused words Range (sym zero-words)

-- an address that has words is an accepted one
pub words_accepted : (address : ℕ) (words : List ℕ) → words_of address ≡ given words → accepted address ≡ true
words_accepted address words e = by_class (class_of address) refl
  where
    by_class : (class : Result Class Refusal) → class_of address ≡ class → found class ≡ true
    by_class (Ok class) is = refl
    by_class (Err r) is = absurd (given_not_refused words r (sym (known_class address is ∙ e)))

-- 01: "The way back answers the address for the words of an accepted address": for each accepted address the way back gives it
pub there_and_back : (address : ℕ) (words : List ℕ) → words_of address ≡ given words → address_of words ≡ given (address ∷ [])
there_and_back address [] e = absurd (no_words address [] (words_lead_back address [] e) e)
there_and_back address (word ∷ []) e = rw (words_lead_back address (word ∷ []) e) (confirmed_own address (word ∷ []) e)
there_and_back address (first ∷ second ∷ []) e = rw (words_lead_back address (first ∷ second ∷ []) e) (confirmed_own address (first ∷ second ∷ []) e)
there_and_back address (first ∷ second ∷ third ∷ more) e =
    absurd (no_words address (first ∷ second ∷ third ∷ more) (words_lead_back address (first ∷ second ∷ third ∷ more) e) e)

-- whatever the way back gives has just those words
pub back_and_there : (words : List ℕ) (address : ℕ) → address_of words ≡ given (address ∷ []) → words_of address ≡ given words
back_and_there [] address e = absurd (given_not_refused (address ∷ []) Range (sym e))
back_and_there (word ∷ []) address e = confirmed_only (from_word word) (word ∷ []) address e
back_and_there (first ∷ second ∷ []) address e = confirmed_only (from_pair first second) (first ∷ second ∷ []) address e
back_and_there (first ∷ second ∷ third ∷ more) address e = absurd (given_not_refused (address ∷ []) Range (sym e))

-- a confirmation is an address or 5
confirmed_or_refused : (led : ℕ) (words : List ℕ) → (confirmed led words ≡ given (led ∷ [])) ⊎ (confirmed led words ≡ refused Range)
unfolding confirmed
confirmed_or_refused led words = by_test (gives (words_of led) words)
  where
    by_test : (b : Bool) → (pick b (given (led ∷ [])) (refused Range) ≡ given (led ∷ [])) ⊎ (pick b (given (led ∷ [])) (refused Range) ≡ refused Range)
    by_test true = inl refl
    by_test false = inr refl

-- the way back is the confirmation of where the words lead, or 5
led_or_refused : (words : List ℕ) → (address_of words ≡ given (leads_to words ∷ [])) ⊎ (address_of words ≡ refused Range)
led_or_refused [] = inr refl
led_or_refused (word ∷ []) = confirmed_or_refused (from_word word) (word ∷ [])
led_or_refused (first ∷ second ∷ []) = confirmed_or_refused (from_pair first second) (first ∷ second ∷ [])
led_or_refused (first ∷ second ∷ third ∷ more) = inr refl

-- 01: ".. and refuses all other words"
pub others_refused : (words : List ℕ) → ((address : ℕ) → words_of address ≡ given words → ⊥) → address_of words ≡ refused Range
others_refused words none =
    ⊎_elim (λ led. absurd (none (leads_to words) (back_and_there words (leads_to words) led))) (λ no. no) (led_or_refused words)

-- two accepted addresses never have the same words
pub words_apart : (a b : ℕ) (words : List ℕ) → words_of a ≡ given words → words_of b ≡ given words → a ≡ b
words_apart a b words e f = sym (words_lead_back a words e) ∙ words_lead_back b words f

-- Table 23: each word lies between the two idle words, and so has 21 bits
abbrev pub Codewords : List ℕ → Type 0
Codewords [] = Unit
Codewords (w ∷ ws) = ((0 < w) × (w < 0x1FFFFF)) × Codewords ws

row_codewords : (class : Class) (address : ℕ) → (row_of class).from ≤ address → address ≤ (row_of class).to → Codewords (words_as (layout_of class) address)
unfolding rows
row_codewords Short address low high = (omega arith, tt)
row_codewords InformationService address low high = (omega arith, tt)
row_codewords Network address low high = (omega arith, tt)
row_codewords Operator address low high = (omega arith, tt)
row_codewords Set12 address low high = (omega arith, (omega arith, tt))
row_codewords Set13 address low high = (omega arith, (omega arith, tt))
row_codewords Set14 address low high = (omega arith, (omega arith, tt))
row_codewords Set23Country address low high = (omega arith, (omega arith, tt))
row_codewords Set23InformationService address low high = (omega arith, (omega arith, tt))

class_codewords : (found : Result Class Refusal) (address : ℕ) (words : List ℕ) → class_of address ≡ found → words_by found address ≡ given words → Codewords words
class_codewords (Ok class) address words e w =
    let bounds = class_bounds address class e in
    subst Codewords (given_tells (words_as (layout_of class) address) words w) (row_codewords class address bounds.0 bounds.1)
class_codewords (Err r) address words e w = absurd (given_not_refused words r (sym w))

-- the words of an accepted address are words that the decoder can be given
pub words_sendable : (address : ℕ) (words : List ℕ) → words_of address ≡ given words → Codewords words
words_sendable address words e = class_codewords (class_of address) address words refl (known_class address refl ∙ e)

-- words are told as themselves alone
pub worded_tells : (a b : Result Words Refusal) → told_worded a ≡ told_worded b → a ≡ b
worded_tells (Ok (Words.One w)) (Ok (Words.One x)) e = ap (λ (n : ℕ). Ok (Words.One n)) (given_head w x e)
worded_tells (Ok (Words.One w)) (Ok (Words.Two x y)) e = cc
worded_tells (Ok (Words.Two w v)) (Ok (Words.One x)) e = cc
worded_tells (Ok (Words.Two w v)) (Ok (Words.Two x y)) e = cc
worded_tells (Ok a) (Err r) e = absurd (given_not_refused (listed a) r e)
worded_tells (Err r) (Ok b) e = absurd (given_not_refused (listed b) r (sym e))
worded_tells (Err r) (Err s) e = ap Err (refused_tells r s e)

-- an address is told as itself alone
pub addressed_tells : (a b : Result ℕ Refusal) → told_addressed a ≡ told_addressed b → a ≡ b
addressed_tells (Ok a) (Ok b) e = ap Ok (given_head a b e)
addressed_tells (Ok a) (Err r) e = absurd (given_not_refused (a ∷ []) r e)
addressed_tells (Err r) (Ok b) e = absurd (given_not_refused (b ∷ []) r (sym e))
addressed_tells (Err r) (Err s) e = ap Err (refused_tells r s e)

-- 01's marked cases 1 to 5, and the last and first addresses round them that are refused
pub marked_words :
    map words_of (1 ∷ 1933312 ∷ 2101249 ∷ 1075843073 ∷ 3223326721 ∷ 0 ∷ 1933313 ∷ [])
    ≡ given (0x008001 ∷ []) ∷ given (0x1E0000 ∷ []) ∷ given (0x000001 ∷ 0x1FFFFE ∷ [])
    ∷ given (0x000001 ∷ 0x1E0001 ∷ []) ∷ given (0x1F8001 ∷ 0x1E0001 ∷ []) ∷ refused Range ∷ refused Range ∷ []
unfolding words_of class_of class_in rows
marked_words = refl

-- 01: "The pairs 1F7FFF, 1E0001 and 1F8000, 1E0001 belong to no CAPCODE"; the pair above them belongs to case 5
pub marked_pairs :
    map address_of ((0x1F7FFF ∷ 0x1E0001 ∷ []) ∷ (0x1F8000 ∷ 0x1E0001 ∷ []) ∷ (0x1F8001 ∷ 0x1E0001 ∷ []) ∷ [])
    ≡ refused Range ∷ refused Range ∷ given (3223326721 ∷ []) ∷ []
unfolding words_of class_of class_in rows same from_pair confirmed
marked_pairs = refl
