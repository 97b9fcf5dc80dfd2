-- `write_fragment` meets its contract: K as 0 first, then K in the first word.
use Rattle.std.proofs.Common.{◌≡◌, ℕ, ◌+◌, ◌-◌, ◌*◌, ◌<◌, ◌≤◌, Bool, eqb, List, [], ◌∷◌, ◌++◌, length, get_or, take, drop, set, ap, ◌∙◌, ap₂, arith}
use borrow.Rule.Slice.PartMut.{put_mid}
use Rattle.laws.specs.Layouts.{packed}
use Rattle.sums.specs.Sums.{ten_bits}
use Rattle.fragment.specs.Fragments.{head_of, words_of, fragment_with}
use Rattle.fragment.specs.Cutting.{message_of, head_at}
use Rattle.fragment.proofs.CutHeads.{head_fits}
use Rattle.fragment.proofs.cutting.Writing.{k_added, head_and_rest, rest_length}
use Rattle.fragment.proofs.cutting.Message.write_fragment.Goals as goal

-- the fragment with K as 0
zeroed : (words new cells : List ℕ) (first : Bool) (head : List ℕ) (word : ℕ) → 1 ≤ length words → word ≡ packed (head_of first) (head ++ 0 ∷ [])
    → new ≡ words_of cells
    → put_mid 1 (length (set words 0 word) - 1) (set words 0 word) new ≡ fragment_with first head 0 cells
zeroed words new cells first head word some is written = head_and_rest words new word some ∙ ap₂ (λ (w : ℕ) (rest : List ℕ). w ∷ rest) is written

pub overflow_add-words : goal.overflow_add-words
overflow_add-words c =
    let message = c.args.self in
    let first = eqb c.args.place 0 in
    let head = head_at message.marks c.args.place c.args.left in
    let words = c.args.words.now in
    let row = drop c.args.cell (message_of message.text.now) in
    let cells : List ℕ = take (3 * (length words - 1)) row in
    let zeroes = zeroed words c.write_cells.new.words cells first head c.head.result c.requires.in_bounds c.head.ensures
    (c.write_cells.ensures ∙ ap (λ (n : ℕ). words_of (take (3 * n) row)) (rest_length words c.head.result)) in
    let with-k = k_added first head cells (head_fits message.marks message.can_be_marked c.args.place c.args.left) in
    let whole = put_mid 1 (length (set words 0 c.head.result) - 1) (set words 0 c.head.result) c.write_cells.new.words in
    let k-fits : get_or whole 0 0 + ten_bits whole < 0x200000 = rw zeroes with-k.1 in
    omega (arith, k-fits, c.ten_bit-check.ensures)

pub returns : goal.returns
returns c =
    let message = c.args.self in
    let first = eqb c.args.place 0 in
    let head = head_at message.marks c.args.place c.args.left in
    let words = c.args.words.now in
    let row = drop c.args.cell (message_of message.text.now) in
    let cells : List ℕ = take (3 * (length words - 1)) row in
    let zeroes = zeroed words c.write_cells.new.words cells first head c.head.result c.requires.in_bounds c.head.ensures
    (c.write_cells.ensures ∙ ap (λ (n : ℕ). words_of (take (3 * n) row)) (rest_length words c.head.result)) in
    let with-k = k_added first head cells (head_fits message.marks message.can_be_marked c.args.place c.args.left) in
    ap₂ (λ (words : List ℕ) (n : ℕ). set words 0 (get_or words 0 0 + n)) zeroes (c.ten_bit-check.ensures ∙ ap ten_bits zeroes)
    ∙ with-k.0
