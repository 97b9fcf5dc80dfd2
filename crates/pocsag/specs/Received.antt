-- What reaches the reader of a transmission: words with at most two wrong code bits each, and other words around a page.
use Rattle.std.specs.Prelude.{ℕ, true, List, [], ◌∷◌, ◌≡◌}
use Rattle.pocsag.specs.Codewords.{is_sent, Near}
use Rattle.pocsag.specs.Batches.{sync_word}

-- words as they came, each with at most two wrong code bits
abbrev pub AllNear : List ℕ → List ℕ → Type 0
AllNear [] [] = Unit {0}
AllNear [] (word ∷ words) = ⊥
AllNear (sent ∷ row) [] = ⊥
AllNear (sent ∷ row) (word ∷ words) = Near sent word × AllNear row words

-- words that may stand in a batch: sent words, but not the sync word
abbrev pub Traffic : List ℕ → Type 0
Traffic [] = Unit {0}
Traffic (word ∷ words) = (is_sent word ≡ true) × (word ≡ sync_word → ⊥) × Traffic words
