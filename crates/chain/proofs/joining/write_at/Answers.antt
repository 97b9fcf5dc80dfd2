-- `write_at` meets its contract: the part of the buffer from the place on has room for the text.
use Prim.Native.Nat.{◌-◌}
use mathlib.Core.Path.{◌≡◌, ap, ◌∙◌}
use native.Mathlib.Omega.{arith}
use borrow.Rule.Slice.PartMut.{mid_of, put_mid, mid_len}
use lib.ListN.{length}
use Rattle.laws.proofs.Parts.{part_written}
use Rattle.refusal.proofs.Laws.{given_writes}
use Rattle.fragment.specs.Fragments.{text_in}
use Rattle.fragment.specs.Answers.{text_of}
use Rattle.fragment.proofs.Laws.{text_accepted}
use Rattle.chain.proofs.joining.write_at.Goals as goal

pub returns : goal.returns
returns c = let buffer = c.args.buffer.now in
    let place = c.args.place in
    let text = text_in c.args.words.now in
    let part = mid_of place (length buffer - place) buffer in
    let room : length part ≡ length buffer - place = mid_len place (length buffer) buffer (omega arith) in
    let told = (text_accepted c.args.words.now (length part)).1 (omega (arith, c.requires)) in
    ap (put_mid place (length buffer - place) buffer)
    (c.write_text-written.ensures.buffer ∙ given_writes (text_of (length part) c.args.words.now) part text told)
    ∙ part_written buffer place (length buffer) (omega (arith, c.requires)) (omega arith) text (omega (arith, c.requires))
