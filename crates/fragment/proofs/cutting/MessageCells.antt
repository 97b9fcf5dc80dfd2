-- The message cell by cell: its signature, its text, its fill.
use Rattle.std.proofs.Common.{◌≡◌, ℕ, zero, suc, ◌+◌, ◌-◌, ◌*◌, ◌%◌, ◌<◌, ◌≤◌, true, not, eqb, ltb, List, [], ◌∷◌, ◌++◌, length, get_or, take, drop, replicate, sym, refl, ap, ◌∙◌, arith, drop-cons, ltb-true}
use lib.ListN.{get_or-append}
use Rattle.laws.specs.Lists.{sum_by}
use Rattle.laws.proofs.Lists.{at_within}
use Rattle.laws.proofs.Rows.{all_at, sum_join}
use Rattle.laws.proofs.Tests.{first_of}
use Rattle.laws.specs.Numerals.{number}
use Rattle.sums.specs.Sums.{whole, signature_of}
use Rattle.fragment.specs.Fragments.{etx}
use Rattle.fragment.specs.Cutting.{is_text, sendable, filled, message_of}

-- three numbers of a row, as the number that they make
three_of : (row : List ℕ) (place : ℕ) → place + 3 ≤ length row
    → get_or row place etx + 128 * (get_or row (place + 1) etx + 128 * get_or row (place + 2) etx) ≡ number 128 (take 3 (drop place row))
unfolding number
three_of row place within =
    let second : place + 1 ≡ suc place = omega arith in
    let third : place + 2 ≡ suc (suc place) = omega arith in
    let last : get_or row (suc (suc place)) etx ≡ get_or row (suc (suc place)) etx + 128 * 0 = omega arith in
    rw (second, third, drop-cons row place etx (omega arith), drop-cons row (suc place) etx (omega arith), drop-cons row (suc (suc place)) etx (omega arith))
    (ap (λ (n : ℕ). get_or row place etx + 128 * (get_or row (suc place) etx + 128 * n)) last)

-- a signature has seven bits
pub sum_small : (text : List ℕ) → signature_of (filled text) < 128
sum_small text = omega arith

-- at its first place the message has its signature
pub first_cell : (text : List ℕ) (place : ℕ) → place ≡ 0 → signature_of (filled text) ≡ get_or (message_of text) place etx
unfolding message_of
first_cell text place first = rw first

-- after a text there is fill, and nothing but fill
fill_after : (text : List ℕ) (count place : ℕ) → length text ≤ place → get_or (text ++ replicate count etx) place etx ≡ etx
fill_after [] zero place past = refl
fill_after [] (suc count) zero past = refl
fill_after [] (suc count) (suc place) past = fill_after [] count place (omega arith)
fill_after (c ∷ text) count zero past = absurd (omega arith)
fill_after (c ∷ text) count (suc place) past = fill_after text count place (omega arith)

-- after its signature the message has the text
pub text_cell : (text : List ℕ) (place : ℕ) → (place ≡ 0 → ⊥) → place ≤ length text → get_or text (place - 1) 0 ≡ get_or (message_of text) place etx
unfolding message_of
text_cell text zero later within = absurd (later refl)
text_cell text (suc place) later within =
    let less : suc place - 1 ≡ place = omega arith in
    let here : place < length text = omega arith in
    rw less (at_within text place 0 etx here ∙ sym (get_or-append text (replicate (2 - length text % 3) etx) etx place here))

-- every character of a text to send has seven bits
pub cell_small : (text : List ℕ) (place : ℕ) → sendable text ≡ true → (place ≡ 0 → ⊥) → place ≤ length text → get_or text (place - 1) 0 < 128
unfolding sendable
cell_small text zero good later within = absurd (later refl)
cell_small text (suc place) good later within =
    let less : suc place - 1 ≡ place = omega arith in
    let c = get_or text place 0 in
    rw less (ltb-true c 128 (first_of (ltb c 128) (not (eqb c etx)) (all_at is_text text place good (omega arith))))

-- after the text the message has fill
pub fill_cell : (text : List ℕ) (place : ℕ) → length text < place → 3 ≡ get_or (message_of text) place etx
unfolding message_of
fill_cell text zero past = absurd (omega arith)
fill_cell text (suc place) past = sym (fill_after text (2 - length text % 3) place (omega arith))

-- three cells of a row, as the number that they make
pub three_cells : (text : List ℕ) (place : ℕ) → place + 3 ≤ length (message_of text)
    → get_or (message_of text) place etx + 128 * (get_or (message_of text) (place + 1) etx + 128 * get_or (message_of text) (place + 2) etx)
    ≡ number 128 (take 3 (drop place (message_of text)))
three_cells text place within = three_of (message_of text) place within

-- so much fill sums to three times as much
fill_sum : (count : ℕ) → sum_by whole (replicate count etx) ≡ 3 * count
unfolding sum_by
fill_sum zero = refl
fill_sum (suc count) = omega (arith, fill_sum count)

-- each character of fill lowers the signature by 3
pub fill_lowers : (text : List ℕ) → (signature_of text + 128 - 3 * (2 - length text % 3)) % 128 ≡ signature_of (filled text)
fill_lowers text =
    let fill = replicate (2 - length text % 3) etx in
    lowered (sum_by whole text) (sum_by whole (text ++ fill)) (2 - length text % 3) (omega arith)
    (sum_join whole text fill ∙ ap (λ (n : ℕ). sum_by whole text + n) (fill_sum (2 - length text % 3)))
  where
    lowered : (s t k : ℕ) → k ≤ 2 → t ≡ s + 3 * k → (127 - s % 128 + 128 - 3 * k) % 128 ≡ 127 - t % 128
    lowered s t zero few more = omega arith
    lowered s t (suc zero) few more = omega arith
    lowered s t (suc (suc zero)) few more = omega arith
    lowered s t (suc (suc (suc k))) few more = absurd (omega arith)
