-- `write_three` meets its contract: three stores are a text of three.
use Rattle.std.proofs.Common.{length, sym, ap, ◌∙◌, arith, length-set}
use Rattle.laws.specs.Lists.{put}
use Rattle.fragment.proofs.text.Full.{full_text, put_three}
use Rattle.fragment.proofs.text.write_three.Goals as goal

pub bounds-text-at : goal.bounds-text-at
bounds-text-at c = omega (arith, ap length (full_text c.args.word c.requires.word_value), c.requires.word_in_bounds)

pub bounds-text-at-2 : goal.bounds-text-at-2
bounds-text-at-2 c = simp length-set (omega (arith, ap length (full_text c.args.word c.requires.word_value), c.requires.word_in_bounds))

pub bounds-text-at-3 : goal.bounds-text-at-3
bounds-text-at-3 c = simp length-set (omega (arith, ap length (full_text c.args.word c.requires.word_value), c.requires.word_in_bounds))

pub returns : goal.returns
returns c = let text = full_text c.args.word c.requires.word_value in record {
  next = omega (arith, ap length text);
  buffer = put_three c.args.text.now c.args.at _ _ _ (omega (arith, ap length text, c.requires.word_in_bounds))
      ∙ ap (put c.args.text.now c.args.at) (sym text);
}
