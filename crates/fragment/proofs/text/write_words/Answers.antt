-- `write_words` meets its contract: the text of the second word, then that of the words after it, by the one way or the other.
use Rattle.std.proofs.Common.{sym, ◌∙◌, arith}
use Rattle.fragment.proofs.text.Cells.{length_cons}
use Rattle.fragment.proofs.text.Telling.{joined}
use Rattle.fragment.proofs.text.write_words.Goals as goal

pub write_word-begun-requires : goal.write_word-begun-requires
write_word-begun-requires c = omega (arith, length_cons c.args.second c.args.words.now, c.requires)

pub write_all-requires : goal.write_all-requires
write_all-requires c = record {
  words_value = λ _. sym c.are_full.ensures ∙ c.if-are_full.true;
  words_in_bounds = omega (arith, c.requires, c.write_word-begun.ensures.next, length_cons c.args.second c.args.words.now);
}

pub returns-then-are_full : goal.returns-then-are_full
returns-then-are_full c = let both = joined _ _ _ c.args.words.now _ _ _ c.write_word-begun.ensures.next c.write_word-begun.ensures.buffer
    c.write_all.ensures.next c.write_all.ensures.buffer in record { count = both.0; buffer = both.1 }

pub write_all-requires-2-clause-words_in_bounds : goal.write_all-requires-2-clause-words_in_bounds
write_all-requires-2-clause-words_in_bounds c = omega (arith, c.requires, c.write_word-begun.ensures.next, length_cons c.args.second c.args.words.now)

pub returns : goal.returns
returns c = let both = joined _ _ _ c.args.words.now _ _ _ c.write_word-begun.ensures.next c.write_word-begun.ensures.buffer
    c.write_all-2.ensures.next c.write_all-2.ensures.buffer in record { count = both.0; buffer = both.1 }
