-- `mended_by` meets its contract: its two questions are those of the definition, with what is known of the remainder and the entry.
use Prim.Native.Nat.{ℕ}
use mathlib.Core.Bool.{true, false}
use mathlib.Core.Path.{◌≡◌, sym, ap, ◌∙◌}
use lib.Bits.{bit_xor}
use Rattle.pocsag.specs.Codewords.{is_even, bits_named}
use Rattle.pocsag.specs.Mending.{mended_of}
use Rattle.pocsag.proofs.Entries.{wrong_most}
use Rattle.pocsag.proofs.code.mended_by.Goals as goal

pub bits_named-requires : goal.bits_named-requires
bits_named-requires c = rw c.requires.value (wrong_most c.args.remainder)

pub returns-then-remainder-entry : goal.returns-then-remainder-entry
unfolding mended_of
returns-then-remainder-entry c = rw (← c.requires.remainder_value, ← c.requires.value, c.if-remainder-entry.true)

pub returns-then-not-is_even : goal.returns-then-not-is_even
unfolding mended_of
returns-then-not-is_even c = let odd : is_even (bit_xor c.args.word (bits_named c.args.entry)) ≡ false =
    ap (λ (n : ℕ). is_even (bit_xor c.args.word n)) (sym c.bits_named.ensures)
    ∙ sym c.is_even.ensures
    ∙ c.if-not-is_even.true in
    rw (← c.requires.remainder_value, ← c.requires.value, c.if-remainder-entry.false, odd)

pub returns : goal.returns
unfolding mended_of
returns c = let even : is_even (bit_xor c.args.word (bits_named c.args.entry)) ≡ true =
    ap (λ (n : ℕ). is_even (bit_xor c.args.word n)) (sym c.bits_named.ensures)
    ∙ sym c.is_even.ensures
    ∙ c.if-not-is_even.false in
    rw (← c.requires.remainder_value, ← c.requires.value, c.if-remainder-entry.false, even, c.how_many.ensures, c.bits_named.ensures)
