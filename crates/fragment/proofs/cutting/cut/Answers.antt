-- `cut` meets its contract: a refusal is told, or the fragments are written.
use Rattle.std.proofs.Common.{◌≡◌, ℕ, ◌+◌, List, [], ◌∷◌, length, sym, ap, ◌∙◌, ap₂, arith}
use mathlib.Core.List.{flatten}
use Rattle.std.proofs.lemmas.Result.{err_from_is_err_and}
use Rattle.laws.specs.Lists.{put}
use Rattle.refusal.specs.Told.{told, told_by, given, number_of, number_told}
use Rattle.refusal.proofs.Laws.{number_positive, refusal_keeps, given_writes}
use Rattle.fragment.specs.Cutting.{words_for, fragments_for, cut}
use Rattle.fragment.specs.CutAnswers.{of_cut, cut_of}
use Rattle.fragment.proofs.CutLaws.{accepted, accepted_told, cut_plain}
use Rattle.fragment.proofs.cutting.cut.Goals as goal

pub returns-in_err-message : goal.returns-in_err-message
returns-in_err-message c =
    let args = c.args in
    let lent = args.words.now in
    let answer = cut_of (length lent) args.marks args.largest args.text.now in
    let number : number_of c.in_err-message.field-0.0 ≡ number_told answer = c.in_err-message.ensures.told in
    let some : number_told answer ≡ 0 → ⊥ = λ none. omega (arith, none, number, number_positive c.in_err-message.field-0.0) in
    let same = ap (λ (n : ℕ). told n []) number ∙ sym (cut_plain (length lent) args.marks args.largest args.text.now some) in
    let p = err_from_is_err_and c.from_residual.result c.from_residual.ensures.1 in
    let told_is : told_by of_cut c.from_residual.result ≡ answer = rw (p.1, p.2) same in
    record { told = told_is; buffer = sym (refusal_keeps answer lent (flatten (cut args.marks args.largest args.text.now)) some) }

pub write-requires : goal.write-requires
write-requires c =
    let args = c.args in
    let v = c.in_ok-message.ensures.value in
    let known = (accepted (length args.words.now) args.marks args.largest args.text.now).0 (sym c.in_ok-message.ensures.told) in
    rw (v.0, v.2) known.1

pub returns : goal.returns
returns c =
    let args = c.args in
    let lent = args.words.now in
    let answer = cut_of (length lent) args.marks args.largest args.text.now in
    let v = c.in_ok-message.ensures.value in
    let known = (accepted (length lent) args.marks args.largest args.text.now).0 (sym c.in_ok-message.ensures.told) in
    let fragments = c.size.ensures.fragments ∙ ap₂ fragments_for v.2 (ap length v.0) in
    let size = c.size.ensures.words ∙ ap₂ ◌+◌ fragments (ap (λ (t : List ℕ). words_for (length t)) v.0) in
    let m = c.in_ok-message.message in
    let same : cut m.marks m.largest m.text.now ≡ cut args.marks args.largest args.text.now = cc (v.0, v.1, v.2) in
    record {
      told = ap₂ (λ (n w : ℕ). given (n ∷ w ∷ [])) fragments size
          ∙ sym (accepted_told (length lent) args.marks args.largest args.text.now known.0 known.1);
      buffer = c.write.ensures
          ∙ ap (λ (cuts : List (List ℕ)). put lent 0 (flatten cuts)) same
          ∙ sym (given_writes answer lent (flatten (cut args.marks args.largest args.text.now)) (sym c.in_ok-message.ensures.told));
    }
