-- `take` meets its contract: a refusal before the fragment is joined changes nothing, and after it all is as `join` leaves it.
use Rattle.std.proofs.Common.{[], refl, ap, ◌∙◌, arith}
use Rattle.std.proofs.lemmas.Result.{err_from_is_err_and}
use Rattle.refusal.specs.Told.{told, number_of}
use Rattle.refusal.proofs.Laws.{number_positive}
use Rattle.fragment.specs.declared.FragmentHeading.{FragmentHeading}
use Rattle.chain.specs.declared.ChainStep.{ChainStep}
use Rattle.chain.specs.Steps.{heading_in}
use Rattle.chain.specs.Answers.{as_answer, as_step}
use Rattle.chain.specs.JoiningPieces.{join_of, joined_row}
use Rattle.chain.proofs.joining.Answering.{stops_early, goes_late}
use Rattle.chain.proofs.joining.take.Goals as goal

pub returns-in_err-heading : goal.returns-in_err-heading
returns-in_err-heading c =
    let row = c.args.slots.now in
    let n = number_of c.in_err-heading.field-0.0 in
    let both = stops_early row c.args.address c.args.words.now c.args.buffer.now (as_step (told n []) row) n
    (λ none. omega (arith, none, number_positive c.in_err-heading.field-0.0)) c.in_err-heading.ensures.refused refl in
    let p = err_from_is_err_and c.from_residual.result c.from_residual.ensures.1 in
    record {
      told = rw (p.1, p.2) (ap (λ (s : ChainStep). s.answer) both.0);
      slots = ap (λ (s : ChainStep). s.chains.slots) both.0;
      buffer = both.1;
    }

pub join-requires : goal.join-requires
join-requires c =
    let h = c.in_ok-heading.ensures.heard in
    record { slots_value = h.right; count = c.requires; most_characters_in_bounds = omega (arith, c.requires, h.room); heading_value = h.says }

pub returns : goal.returns
returns c =
    let row = c.args.slots.now in
    let address = c.args.address in
    let words = c.args.words.now in
    let h = c.in_ok-heading.ensures.heard in
    let both = goes_late row address words c.args.buffer.now (as_step (join_of row address (heading_in words)) (joined_row row address (heading_in words)))
    _ h.room h.right h.small h.good refl c.join.ensures.buffer in
    record {
      told = c.join.ensures.told ∙ ap (λ (f : FragmentHeading). as_answer (join_of row address f)) h.says ∙ ap (λ (s : ChainStep). s.answer) both.0;
      slots = c.join.ensures.slots ∙ ap (joined_row row address) h.says ∙ ap (λ (s : ChainStep). s.chains.slots) both.0;
      buffer = both.1;
    }
