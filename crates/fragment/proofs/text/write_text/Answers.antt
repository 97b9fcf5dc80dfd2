-- `write_text` meets its contract: the text is that of the second word without the signature and of the words after it.
use Rattle.std.proofs.Common.{◌≡◌, ℕ, ◌≤◌, ◌-◌, Bool, List, ◌∷◌, length, get_or, take, drop, sym, ap, ◌∙◌, arith, leb-false, leb-true}
use Rattle.laws.specs.Lists.{put}
use Rattle.fragment.specs.Fragments.{is_first, text_in}
use Rattle.fragment.proofs.Laws.{text_told}
use Rattle.fragment.specs.Cells.{unsigned, plain_text, text_from}
use Rattle.fragment.proofs.text.Cells.{text_after_signature, tail}
use Rattle.fragment.proofs.text.Telling.{text_given, text_refused, text_none}
use Rattle.fragment.proofs.text.write_text.Goals as goal

-- the words after the second, behind the second without its signature, have the fragment's text
whole : (words : List ℕ) (second : ℕ) (first : Bool) → 2 ≤ length words → first ≡ is_first words → second ≡ unsigned first (get_or words 1 0)
    → plain_text (second ∷ take (length words - 2) (drop 2 words)) ≡ text_in words
whole words second first two is there =
    ap (λ (row : List ℕ). plain_text (second ∷ row)) (tail 2 words)
    ∙ ap (λ (n : ℕ). text_from n words) (there ∙ ap (λ (f : Bool). unsigned f (get_or words 1 0)) is)
    ∙ text_after_signature (is_first words) words two

pub returns-then-words-lt-FEWEST_WORDS : goal.returns-then-words-lt-FEWEST_WORDS
returns-then-words-lt-FEWEST_WORDS c = let args = c.args in
    let none = text_none args.words.now args.text.now c.if-words-lt-FEWEST_WORDS.true in
    record { told = sym none.0; buffer = sym none.1 }

pub returns-then-not-has_room : goal.returns-then-not-has_room
returns-then-not-has_room c =
    let words = c.args.words.now in
    let same = whole words c.unsigned-second.result c.is_first.result (omega arith) c.is_first.ensures c.unsigned-second.ensures in
    let short = leb-false (length (plain_text (c.unsigned-second.result ∷ take (length words - 2) (drop 2 words)))) (length c.args.text.now)
    (sym c.has_room.ensures ∙ c.if-not-has_room.true) in
    let told = text_refused words c.args.text.now (omega (arith, short, ap length same)) in
    record { told = sym told.0; buffer = sym told.1 }

pub returns : goal.returns
returns c =
    let words = c.args.words.now in
    let same = whole words c.unsigned-second.result c.is_first.result (omega arith) c.is_first.ensures c.unsigned-second.ensures in
    let room = leb-true (length (plain_text (c.unsigned-second.result ∷ take (length words - 2) (drop 2 words)))) (length c.args.text.now)
    (sym c.has_room.ensures ∙ c.if-not-has_room.false) in
    let lent : length (text_in words) ≤ length c.args.text.now = omega (arith, room, ap length same) in record {
      told = rw (c.write_words.ensures.count, same) (sym (text_told words (length c.args.text.now) lent));
      buffer = c.write_words.ensures.buffer ∙ ap (put c.args.text.now 0) same ∙ sym (text_given words c.args.text.now lent);
    }
