-- An answer of words, compared with one word or two.
use Prim.Native.Nat.{ℕ}
use Rattle.std.specs.Prelude.{Result, Ok, Err}
use Rattle.std.specs.Result.{result_eq}
use Rattle.capcode.specs.declared.Words.{Words}
use Rattle.capcode.specs.contracts.WordsPartialEq.TheImpl as WordsEq
use Rattle.refusal.specs.contracts.RefusalPartialEq.TheImpl as RefusalEq
use mathlib.Core.Bool.{Bool, false, ◌&&◌, and-true, and-false}
use mathlib.Core.Path.{◌≡◌, ap, sym, ◌∙◌}
use mathlib.Core.List.{List, [], ◌∷◌}
use lib.Dec.{eqb}
use native.Mathlib.Omega.{arith}
use borrow.Author.Tests.{ne_eqb}
use Rattle.refusal.specs.declared.Refusal.{Refusal}
use Rattle.laws.specs.Choice.{pick}
use Rattle.refusal.specs.declared.Refusal.TheVariants.{Range}
use Rattle.refusal.specs.Told.{refused, given, number_of}
use Rattle.refusal.proofs.Laws.{number_positive}
use Rattle.capcode.specs.Words.{words_of, gives, same, told_worded, from_word, from_pair, confirmed, address_of}

-- a refusal gives no words
pub refused_gives : (r : Refusal) (words : List ℕ) → gives (refused r) words ≡ false
refused_gives r words = rw (ne_eqb (number_of r) 0 (λ e. omega (arith, number_positive r)))

-- what `==` answers of two answers
abbrev pub same_answer : Result Words Refusal → Result Words Refusal → Bool
same_answer a b = result_eq (WordsEq.eq-value).it (RefusalEq.eq-value).it a b

-- an answer is one word exactly if it gives that word and no more
pub one_gives : (w : Result Words Refusal) (word : ℕ) → gives (told_worded w) (word ∷ []) ≡ same_answer w (Ok (Words.One word))
unfolding same
one_gives (Ok (Words.One w)) word = and-true (eqb w word)
one_gives (Ok (Words.Two a b)) word = and-false (eqb a word)
one_gives (Err r) word = refused_gives r (word ∷ [])

-- an answer is two words exactly if it gives these two and no more
pub pair_gives : (w : Result Words Refusal) (first second : ℕ) → gives (told_worded w) (first ∷ second ∷ []) ≡ same_answer w (Ok (Words.Two first second))
unfolding same
pair_gives (Ok (Words.One w)) first second = and-false (eqb w first)
pair_gives (Ok (Words.Two a b)) first second = ap (◌&&◌ (eqb a first)) (and-true (eqb b second))
pair_gives (Err r) first second = refused_gives r (first ∷ second ∷ [])

-- the way back's last question, answered by the words looked up
confirmed_by : (words : Result Words Refusal) (address : ℕ) (asked : List ℕ) (t : Bool) → told_worded words ≡ words_of address
    → gives (told_worded words) asked ≡ t → pick t (given (address ∷ [])) (refused Range) ≡ confirmed address asked
unfolding confirmed
confirmed_by words address asked t e h = rw (← e, h)

-- the way back from one word, by what was looked up on it and compared with it
pub word_answered : (words asked : Result Words Refusal) (address word : ℕ) (t : Bool) → address ≡ from_word word
    → told_worded words ≡ words_of address → asked ≡ Ok (Words.One word) → t ≡ same_answer words asked
    → pick t (given (address ∷ [])) (refused Range) ≡ address_of (word ∷ [])
word_answered words asked address word t a e is h =
    confirmed_by words address (word ∷ []) t e (one_gives words word ∙ ap (same_answer words) (sym is) ∙ sym h)
    ∙ ap (λ (x : ℕ). confirmed x (word ∷ [])) a

-- the way back from two words, by what was looked up on it and compared with them
pub pair_answered : (words asked : Result Words Refusal) (address first second : ℕ) (t : Bool) → address ≡ from_pair first second
    → told_worded words ≡ words_of address → asked ≡ Ok (Words.Two first second) → t ≡ same_answer words asked
    → pick t (given (address ∷ [])) (refused Range) ≡ address_of (first ∷ second ∷ [])
pair_answered words asked address first second t a e is h =
    confirmed_by words address (first ∷ second ∷ []) t e (pair_gives words first second ∙ ap (same_answer words) (sym is) ∙ sym h)
    ∙ ap (λ (x : ℕ). confirmed x (first ∷ second ∷ [])) a
