-- `read` meets its contract: the heading is told first, then the text.
use Rattle.std.proofs.Common.{◌≡◌, length, sym, ap, ◌∙◌, arith}
use Rattle.std.proofs.lemmas.Result.{err_from_is_err_and}
use Rattle.refusal.specs.Told.{told_by, number_told}
use Rattle.refusal.proofs.Laws.{number_positive}
use Rattle.fragment.specs.Answers.{heading_of, text_of}
use Rattle.fragment.specs.FlatAnswers.{of_heading}
use Rattle.fragment.proofs.Laws.{Good, accepted}
use Rattle.fragment.proofs.reading.Telling.{read_refused, read_full, text_full, read_given, read_writes}
use Rattle.fragment.proofs.reading.read.Goals as goal

pub returns-in_err-heading : goal.returns-in_err-heading
returns-in_err-heading c =
    let p = err_from_is_err_and c.from_residual.result c.from_residual.ensures.1 in
    let told : told_by of_heading c.from_residual.result ≡ heading_of c.args.words.now = rw (p.1, p.2) c.in_err-heading.ensures in
    let same = read_refused c.args.words.now c.args.text.now
    (λ none. omega (arith, none, ap number_told c.in_err-heading.ensures, number_positive c.in_err-heading.field-0.0)) in
    record { told = told ∙ sym same.0; buffer = sym same.1 }

pub returns-in_err-write_text : goal.returns-in_err-write_text
returns-in_err-write_text c =
    let words = c.args.words.now in
    let text = c.args.text.now in
    let good : Good words = (accepted words).0 (ap number_told (sym c.in_ok-heading.ensures)) in
    let some : number_told (text_of (length text) words) ≡ 0 → ⊥ =
    λ none. omega (arith, none, ap number_told c.in_err-write_text.ensures.told, number_positive c.in_err-write_text.field-0.0) in
    let p = err_from_is_err_and c.from_residual-in_err-write_text.result c.from_residual-in_err-write_text.ensures.1 in
    let told : told_by of_heading c.from_residual-in_err-write_text.result ≡ text_of (length text) words =
    rw (p.1, p.2) c.in_err-write_text.ensures.told in
    record {
      told = told ∙ text_full words text good some ∙ sym (read_full words text good some);
      buffer = c.in_err-write_text.ensures.buffer ∙ sym (read_writes words text good);
    }

pub returns : goal.returns
returns c =
    let words = c.args.words.now in
    let text = c.args.text.now in
    let good : Good words = (accepted words).0 (ap number_told (sym c.in_ok-heading.ensures)) in
    record {
      told = c.in_ok-heading.ensures ∙ sym (read_given words text good (ap number_told (sym c.in_ok-write_text.ensures.told)));
      buffer = c.in_ok-write_text.ensures.buffer ∙ sym (read_writes words text good);
    }
