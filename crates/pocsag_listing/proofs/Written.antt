-- What writes write, one after the other, and a text that is shown byte by byte.
use Rattle.std.proofs.Common.{ℕ, ◌+◌, ◌<◌, List, [], ◌∷◌, ◌++◌, length, take, get_or, Result, Ok, Err, OnOk, MatchResult, ◌≡◌, subst, append-nil}
use Rattle.std.proofs.lemmas.List.{take_more}
use Rattle.std.specs.declared.option.Option.{Option}
use Rattle.std.specs.Io.KnownBytes.{Appends}
use Rattle.std.proofs.KnownBytes.{Appends-nil, Appends-trans}
use Rattle.lister.specs.Lines.{shown_byte, shown}
use Rattle.lister.proofs.Said.{shown_joined}

-- what was written, and what a call that went well wrote after it
pub written_then : {T E : Type 0} (r : Result T E) (held between holds : Option (List ℕ)) (xs ys : List ℕ)
    → Appends held between xs → OnOk r (Appends between holds ys) → OnOk r (Appends held holds (xs ++ ys))
written_then (Ok x) held between holds xs ys first then = Appends-trans held between holds xs ys first then
written_then (Err e) held between holds xs ys first then = tt

-- what was written stays so where an error is given its context
pub written_in : {T E F : Type 0} (r : Result T E) (s : Result T F) (bad : F → Type 0) (wrote : Type 0)
    → MatchResult s (λ x. r ≡ Ok x) bad → OnOk r wrote → OnOk s wrote
written_in r (Ok x) bad wrote same done = subst (λ answer. OnOk answer wrote) same done
written_in r (Err e) bad wrote same done = tt

-- a text of no byte is shown as nothing
pub shown_none : (held : Option (List ℕ)) (text : List ℕ) → Appends held held (shown (take 0 text))
unfolding shown
shown_none held text = Appends-nil held

-- one byte of a text more
pub shown_more : (held between holds : Option (List ℕ)) (text : List ℕ) (i : ℕ) → i < length text
    → Appends held between (shown (take i text)) → Appends between holds (shown_byte (get_or text i 0)) → Appends held holds (shown (take (i + 1) text))
unfolding shown
shown_more held between holds text i within before more =
    rw (take_more text i 0 within, shown_joined (take i text) (get_or text i 0 ∷ []), append-nil)
    (Appends-trans held between holds _ _ before more)
