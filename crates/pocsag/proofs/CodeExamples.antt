-- The code at work: the sync word and the idle word, as they are sent and as they may come.
use Prim.Native.Nat.{ℕ, ◌+◌, ◌*◌, ◌<◌}
use mathlib.Core.Bool.{true}
use mathlib.Core.List.{[], ◌∷◌}
use mathlib.Core.Path.{◌≡◌, refl, sym, ap, ◌∙◌}
use native.Mathlib.Omega.{arith}
use lib.Bits.{bit_xor}
use lib.Count.{ones, ones_in}
use Rattle.laws.proofs.Bits.{ones_within}
use Rattle.laws.proofs.Xor.{xor_back}
use Rattle.refusal.specs.Told.{given, number_told}
use Rattle.pocsag.specs.Codewords.{divided, remainder_of, is_sent, sent_word, bit_at, named_up_to, wrong_bits, flipped}
use Rattle.pocsag.specs.Mending.{mended_of}
use Rattle.pocsag.specs.Batches.{sync_word, idle_word}
use Rattle.pocsag.proofs.CodeLaws.{sent_form, bits_within, flipped_near, mended_sent, parity_beyond, three_beyond}

-- the sync word is a sent word
pub sync_sent : is_sent sync_word ≡ true
unfolding divided ones_in
sync_sent = rw (ones_within 32 sync_word (omega arith))

-- the idle word is a sent word
pub idle_sent : is_sent idle_word ≡ true
unfolding divided ones_in
idle_sent = rw (ones_within 32 idle_word (omega arith))

-- they are what is sent for their 21 bits
pub sync_bits : sent_word 0xF9A42 ≡ sync_word
sync_bits = sym (sent_form sync_word sync_sent)

pub idle_bits : sent_word 0xF5138 ≡ idle_word
idle_bits = sym (sent_form idle_word idle_sent)

-- a sent word with the bits at two places wrong
comes_back : (sent a b : ℕ) → is_sent sent ≡ true → a < 32 → b < 32
    → mended_of (flipped a b sent) ≡ given (sent ∷ ones_in 32 (bit_xor (bit_at a) (bit_at b)) ∷ [])
comes_back sent a b is within_a within_b =
    mended_sent sent (flipped a b sent) is (flipped_near sent a b within_a within_b)
    ∙ ap (λ (n : ℕ). given (sent ∷ n ∷ [])) (ap ones (xor_back sent _) ∙ ones_within 32 _ (bits_within a b within_a within_b))

-- the sync word with its bit 9 wrong is mended to it
pub one_wrong : mended_of 0x7CD217D8 ≡ given (sync_word ∷ 1 ∷ [])
unfolding ones_in
one_wrong = comes_back sync_word 9 0 sync_sent (omega arith) (omega arith)

-- and so it is with its bits 9 and 30 wrong
pub two_wrong : mended_of 0x3CD217D8 ≡ given (sync_word ∷ 2 ∷ [])
unfolding ones_in
two_wrong = comes_back sync_word 9 30 sync_sent (omega arith) (omega arith)

-- with its bits 1, 2 and 3 wrong it is beyond repair: no one or two bits have the remainder
pub three_wrong : (wrong_bits (remainder_of 0x7CD215D6) ≡ 0) × (number_told (mended_of 0x7CD215D6) ≡ 25)
unfolding divided named_up_to
three_wrong = (refl, three_beyond sync_word 1 2 3 sync_sent (omega arith) (omega arith) (omega arith) (omega arith))

-- and with its bits 1, 2 and 5 wrong: the bits 20 and 23 have the remainder, but with them changed the parity is wrong
pub three_wrong_odd : (wrong_bits (remainder_of 0x7CD215FE) ≡ 20 + 32 * 23) × (number_told (mended_of 0x7CD215FE) ≡ 25)
unfolding divided named_up_to
three_wrong_odd = (refl, three_beyond sync_word 1 2 5 sync_sent (omega arith) (omega arith) (omega arith) (omega arith))

-- with its parity bit wrong it is beyond repair
pub parity_wrong : number_told (mended_of 0x7CD215D9) ≡ 25
parity_wrong = parity_beyond sync_word sync_sent

-- with its bits 1, 2, 3 and 4 wrong it is mended to another sent word: of more than three wrong bits nothing is promised
pub four_wrong : mended_of (flipped 1 2 (flipped 3 4 sync_word)) ≡ given (0x749215C6 ∷ 2 ∷ [])
unfolding divided ones_in
four_wrong = comes_back 0x749215C6 22 27 (rw (ones_within 32 0x749215C6 (omega arith))) (omega arith) (omega arith)
