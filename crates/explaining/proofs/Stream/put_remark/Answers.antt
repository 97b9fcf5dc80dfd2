-- `put_remark` meets its contract: the number of the line, the sentence, its letter and a line feed.
use Rattle.std.proofs.Common.{◌≡◌, ap, subst, ◌∙◌}
use Rattle.std.specs.Io.KnownBytes.{Appends}
use Rattle.std.proofs.KnownBytes.{Appends-trans}
use Rattle.refusal.specs.Sentences.{sentence_at}
use Rattle.capcode.specs.Advice.{row_of, letter_of}
use Rattle.explaining.specs.Remarks.{letter_shown, sentence_of}
use Rattle.explaining.proofs.Writing.{written_then}
use Rattle.explaining.proofs.Stream.put_remark.Goals as goal

pub returns : goal.returns
unfolding sentence_of
returns g c =
    let advice = c.advise-advice.result in
    let text : c.as_bytes.result.now ≡ sentence_at (row_of advice) = c.as_bytes.ensures.value ∙ c.in_words.ensures.words ∙ ap sentence_at c.row.ensures in
    let letter : letter_shown c.letter.result ≡ letter_shown (letter_of advice) = ap letter_shown c.letter.ensures in
    let numbered = Appends-trans _ _ _ _ _ c.in_ok-put.ensures c.in_ok-put_number.ensures in
    let named = Appends-trans _ _ _ _ _ numbered c.in_ok-put-2.ensures in
    let said = subst (Appends (g.W.Write.contents c.put-2.new.self.writer) (g.W.Write.contents c.put-3.new.self.writer)) text c.in_ok-put-3.ensures in
    let told = Appends-trans _ _ _ _ _ named said in
    let mended = subst (Appends (g.W.Write.contents c.put-3.new.self.writer) (g.W.Write.contents c.put_letter.new.self.writer)) letter c.in_ok-put_letter.ensures in
    let whole = written_then c.put-4.result _ _ _ _ _ (Appends-trans _ _ _ _ _ told mended) c.put-4.ensures in
    rw (← c.advise-advice.ensures) whole
