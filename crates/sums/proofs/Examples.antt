-- Sums worked by hand from Table 60 and S8.8.6.
use Rattle.std.proofs.Common.{◌≡◌, [], ◌∷◌, map, refl}
use Rattle.laws.specs.Lists.{sum_by}
use Rattle.laws.specs.Texts.{bytes_of}
use Rattle.sums.specs.Sums.{groups_of, six_bits, ten_bits, signature_of}

-- all bits set: 255, 255 and 31; only bits above the 21: nothing
pub group_examples : map groups_of (0x1FFFFF ∷ 0xFFE00000 ∷ 0x01C500 ∷ []) ≡ 541 ∷ 0 ∷ 198 ∷ []
group_examples = refl

-- no word: 63. All bits set, K as 0: 252, 255 and 31 make 538, whose low eight bits are 26; 63 - 26. The same with eleven more bits.
-- "0417": 198 is 3 times 64 and 6; 63 - 9. K's own bits change nothing, and the bit above them does. Two words: 198
-- and 541 make 739, whose low eight bits are 227, 3 times 64 and 35; 63 - 38
pub six_examples :
    map six_bits ([] ∷ (0x1FFFFF ∷ []) ∷ (0xFFFFFFFF ∷ []) ∷ (0x01C500 ∷ []) ∷ (0x01C503 ∷ []) ∷ (0x01C504 ∷ []) ∷ (0x01C500 ∷ 0x1FFFFF ∷ []) ∷ [])
    ≡ 63 ∷ 37 ∷ 37 ∷ 54 ∷ 54 ∷ 50 ∷ 25 ∷ []
unfolding sum_by
six_examples = refl

-- no word: 1023. All bits set, K as 0: 252 and 31 make 283; 1023 - 283. K's own bits change nothing, and the bit
-- above them does: 252, less 4, and 31 make 279. Three words: 0 and twice 541 make 1082, whose low ten bits are 58;
-- 1023 - 58
pub ten_examples :
    map ten_bits ([] ∷ (0x1FFFFF ∷ []) ∷ (0x1FFC00 ∷ []) ∷ (0x1FF800 ∷ []) ∷ (0 ∷ 0x1FFFFF ∷ 0x1FFFFF ∷ []) ∷ [])
    ≡ 1023 ∷ 740 ∷ 740 ∷ 744 ∷ 965 ∷ []
unfolding sum_by
ten_examples = refl

-- no character: 127. "AB": 65 and 66 make 131, whose low seven bits are 3; 127 - 3. With a fill: 127 - 6
pub signature_examples : map signature_of ([] ∷ bytes_of "AB" ∷ (65 ∷ 66 ∷ 3 ∷ []) ∷ []) ≡ 127 ∷ 124 ∷ 121 ∷ []
unfolding sum_by
signature_examples = refl
