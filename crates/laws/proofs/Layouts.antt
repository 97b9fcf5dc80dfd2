-- Laws of every row of parts: what was built is read back, and what was read is built again.
use Prim.Native.Nat.{ℕ, zero, suc, ◌+◌, ◌-◌, ◌*◌, ◌/◌, ◌%◌, ◌^◌, ◌≤◌, ◌<◌}
use mathlib.Core.Bool.{Bool, true, false, ◌&&◌, and-eq-true_iff, false≢true}
use mathlib.Core.List.{List, [], ◌∷◌, ◌++◌}
use mathlib.Core.Path.{◌≡◌, refl, sym, ap, ap₂, ◌∙◌}
use native.Mathlib.Nat.{add_assoc, add-mul, add-zero, div-one, lt_of_le_of_lt, mod-eq_of_lt, mod-lt, mul_assoc, mul-one, zero-add, zero-mul}
use native.Mathlib.Omega.{arith}
use borrow.Author.Tests.{lt-ltb, ltb-true, eqb-true, eqb-false, eq-eqb, ne_eqb}
use lib.Arith.{digits_lt, digits_div, digits_mod}
use lib.Bits.{bit_and, bit_or, and_block, and_le_r, and_mask, and_mod, and_zero_r, or_shifted}
use lib.Dec.{T, leb, ltb, eqb, leb→le, ltb→lt}
use lib.Pow.{pow-add, pow_pos, shl_exact, shl_lt, shr-shr, split, ones_lt}
use mir.Facts.{and_yes}
use Rattle.laws.specs.Choice.{pick}
use Rattle.laws.specs.Layouts.{Part, printed, zeros, field, unused, Layout, width, size, above, bits_at, moved}
use Rattle.laws.specs.Layouts.{fields_of, ones_at, mask_of, is_printed, is_read, printed_bits, shows, fit_after, fit}
use Rattle.laws.specs.Layouts.{packed_after, packed}

-- whether each number that a row prints fits its bits
abbrev pub printed_fit : Layout → Bool
printed_fit [] = true
printed_fit (printed w v ∷ row) = ltb v (2 ^ w) && printed_fit row
printed_fit (zeros w ∷ row) = printed_fit row
printed_fit (field w ∷ row) = printed_fit row
printed_fit (unused w ∷ row) = printed_fit row

-- whether a packet can be laid out so: the row has at most 32 bits, and each number that it prints fits its bits
abbrev pub laid : Layout → Bool
laid row = leb (size row) 32 && printed_fit row

-- whether a packet has each of the bits that the table prints, asked part by part
abbrev pub shown_each : Layout → ℕ → Bool
shown_each [] n = true
shown_each (printed w v ∷ row) n = eqb (bits_at (size row) w n) v && shown_each row n
shown_each (zeros w ∷ row) n = eqb (bits_at (size row) w n) 0 && shown_each row n
shown_each (field w ∷ row) n = shown_each row n
shown_each (unused w ∷ row) n = shown_each row n

-- the number that stands in a part, where these values are still to be placed; where none is left for a field, one that fits none
abbrev pub number_in : Part → List ℕ → ℕ
number_in (printed w p) values = p
number_in (zeros w) values = 0
number_in (field w) [] = 2 ^ w
number_in (field w) (v ∷ values) = v
number_in (unused w) values = 0

-- the values that are still to be placed after it
abbrev pub values_after : Part → List ℕ → List ℕ
values_after (printed w p) values = values
values_after (zeros w) values = values
values_after (field w) [] = []
values_after (field w) (v ∷ values) = values
values_after (unused w) values = values

-- the numbers of all parts, each times the weight of its place
abbrev pub sum_of : Layout → List ℕ → ℕ
sum_of [] values = 0
sum_of (part ∷ row) values = number_in part values * 2 ^ size row + sum_of row (values_after part values)

-- each number is below the power of its part's width, and no value is left over
abbrev Fits : Layout → List ℕ → Type 0
Fits [] values = values ≡ []
Fits (part ∷ row) values = (number_in part values < 2 ^ width part) × Fits row (values_after part values)

-- what the tests of the row and of the values say
fits : (so : Bool) (row : Layout) (values : List ℕ) → T (printed_fit row) → fit_after so row values ≡ true → (so ≡ true) × Fits row values
fits so [] [] t e = (e, refl)
fits so [] (v ∷ values) t e = absurd (false≢true e)
fits so (printed w p ∷ row) values t e =
    let both = and_yes (ltb p (2 ^ w)) (printed_fit row) t in
    let rest = fits so row values both.1 e in
    (rest.0, (ltb→lt p (2 ^ w) both.0, rest.1))
fits so (zeros w ∷ row) values t e =
    let rest = fits so row values t e in
    (rest.0, (pow_pos w, rest.1))
fits so (field w ∷ row) [] t e = absurd (false≢true e)
fits so (field w ∷ row) (v ∷ values) t e =
    let rest = fits (so && ltb v (2 ^ w)) row values t e in
    let both = (and-eq-true_iff so (ltb v (2 ^ w))).0 rest.0 in
    (both.0, (ltb-true v (2 ^ w) both.1, rest.1))
fits so (unused w ∷ row) values t e =
    let rest = fits so row values t e in
    (rest.0, (pow_pos w, rest.1))

-- a number and the bits after it stay below the power of both widths
number_lt : (w s v rest : ℕ) → v < 2 ^ w → rest < 2 ^ s → v * 2 ^ s + rest < 2 ^ (w + s)
number_lt w s v rest h k = rw (pow-add 2 w s) (digits_lt h k)

-- a part that is 0 adds nothing
nothing_added : (s rest : ℕ) → 0 * 2 ^ s + rest ≡ rest
nothing_added s rest = rw (zero-mul, zero-add)

-- a row's sum has no more bits than the row
sum_lt : (row : Layout) (values : List ℕ) → Fits row values → sum_of row values < 2 ^ size row
sum_lt [] values f = omega arith
sum_lt (part ∷ row) values f =
    number_lt (width part) (size row) (number_in part values) (sum_of row (values_after part values)) f.0 (sum_lt row (values_after part values) f.1)

-- a number is moved to its place whole
moved_whole : (w place v : ℕ) → v < 2 ^ w → w + place ≤ 32 → moved place v ≡ v * 2 ^ place
moved_whole w zero v h l = sym (mul-one v)
moved_whole w (suc place) v h l = shl_exact w (suc place) 32 h l

-- what stands above a part, and the part's number, together stand above the rest
above_rest : (w s v q : ℕ) → q * 2 ^ (w + s) + v * 2 ^ s ≡ (q * 2 ^ w + v) * 2 ^ s
above_rest w s v q = rw (pow-add 2 w s, add-mul (q * 2 ^ w) v (2 ^ s), mul_assoc q (2 ^ w) (2 ^ s))

regroup : (w s v rest q : ℕ) → q * 2 ^ (w + s) + (v * 2 ^ s + rest) ≡ (q * 2 ^ w + v) * 2 ^ s + rest
regroup w s v rest q = sym (add_assoc (q * 2 ^ (w + s)) (v * 2 ^ s) rest) ∙ ap (λ (x : ℕ). x + rest) (above_rest w s v q)

-- "or" puts a number after what stands above it
joined : (w s v q : ℕ) → v < 2 ^ w → w + s ≤ 32 → bit_or (q * 2 ^ (w + s)) (moved s v) ≡ (q * 2 ^ w + v) * 2 ^ s
joined w s v q h l =
    ap (bit_or (q * 2 ^ (w + s))) (moved_whole w s v h l)
    ∙ or_shifted q (w + s) (v * 2 ^ s) (shl_lt w s h)
    ∙ above_rest w s v q

-- a part that is 0 needs no "or"
not_joined : (w s q : ℕ) → q * 2 ^ (w + s) ≡ (q * 2 ^ w + 0) * 2 ^ s
not_joined w s q = rw (add-zero, pow-add 2 w s, mul_assoc q (2 ^ w) (2 ^ s))

-- what is known of the rest is known of the part and the rest
one_more : (w v q so : ℕ) (row : Layout) (values : List ℕ) → so ≡ (q * 2 ^ w + v) * 2 ^ size row
    → packed_after ((q * 2 ^ w + v) * 2 ^ size row) row values ≡ (q * 2 ^ w + v) * 2 ^ size row + sum_of row values
    → packed_after so row values ≡ q * 2 ^ (w + size row) + (v * 2 ^ size row + sum_of row values)
one_more w v q so row values e rest =
    ap (λ (x : ℕ). packed_after x row values) e ∙ rest ∙ sym (regroup w (size row) v (sum_of row values) q)

-- each part's number is added to the parts so far
packed_after_lem : (row : Layout) (values : List ℕ) (q : ℕ) → Fits row values → size row ≤ 32
    → packed_after (q * 2 ^ size row) row values ≡ q * 2 ^ size row + sum_of row values
packed_after_lem [] values q f l = sym (add-zero (q * 2 ^ 0))
packed_after_lem (printed w p ∷ row) values q f l =
    one_more w p q _ row values (joined w (size row) p q f.0 l) (packed_after_lem row values (q * 2 ^ w + p) f.1 (omega arith))
packed_after_lem (zeros w ∷ row) values q f l =
    one_more w 0 q _ row values (not_joined w (size row) q) (packed_after_lem row values (q * 2 ^ w + 0) f.1 (omega arith))
packed_after_lem (field w ∷ row) [] q f l = absurd (omega arith)
packed_after_lem (field w ∷ row) (v ∷ values) q f l =
    one_more w v q _ row values (joined w (size row) v q f.0 l) (packed_after_lem row values (q * 2 ^ w + v) f.1 (omega arith))
packed_after_lem (unused w ∷ row) values q f l =
    one_more w 0 q _ row values (not_joined w (size row) q) (packed_after_lem row values (q * 2 ^ w + 0) f.1 (omega arith))

-- a packet is the sum of its numbers
packed_sum : (row : Layout) (values : List ℕ) → Fits row values → size row ≤ 32 → packed row values ≡ sum_of row values
packed_sum row values f l =
    ap (λ (x : ℕ). packed_after x row values) (sym (zero-mul (2 ^ size row)))
    ∙ packed_after_lem row values 0 f l
    ∙ nothing_added (size row) (sum_of row values)

-- a row is larger by a field after it
size_last : (row : Layout) (w : ℕ) → size (row ++ field w ∷ []) ≡ size row + w
size_last [] w = omega arith
size_last (part ∷ row) w = rw (size_last row w) (omega arith)

-- no numbers fit no row with a field
none_fit : (so : Bool) (row : Layout) (w : ℕ) → fit_after so (row ++ field w ∷ []) [] ≡ false
none_fit so [] w = refl
none_fit so (printed u p ∷ row) w = none_fit so row w
none_fit so (zeros u ∷ row) w = none_fit so row w
none_fit so (field u ∷ row) w = refl
none_fit so (unused u ∷ row) w = none_fit so row w

-- of a row with a field after it the last number is asked last
fit_last_after : (so : Bool) (row : Layout) (values : List ℕ) (w k : ℕ)
    → fit_after so (row ++ field w ∷ []) (values ++ k ∷ []) ≡ (fit_after so row values && ltb k (2 ^ w))
fit_last_after so [] [] w k = refl
fit_last_after so [] (v ∷ []) w k = refl
fit_last_after so [] (v ∷ u ∷ values) w k = refl
fit_last_after so (printed u p ∷ row) values w k = fit_last_after so row values w k
fit_last_after so (zeros u ∷ row) values w k = fit_last_after so row values w k
fit_last_after so (field u ∷ row) [] w k = none_fit (so && ltb k (2 ^ u)) row w
fit_last_after so (field u ∷ row) (v ∷ values) w k = fit_last_after (so && ltb v (2 ^ u)) row values w k
fit_last_after so (unused u ∷ row) values w k = fit_last_after so row values w k

-- numbers fit a row with a field after it where those before the last fit the row and the last fits the field
fit_last : (row : Layout) (values : List ℕ) (w k : ℕ) → fit (row ++ field w ∷ []) (values ++ k ∷ []) ≡ (fit row values && ltb k (2 ^ w))
fit_last row values w k = fit_last_after true row values w k

-- where all numbers fit, those before the last fit the row
pub fit_before : (row : Layout) (values : List ℕ) (w k : ℕ) → fit (row ++ field w ∷ []) (values ++ k ∷ []) ≡ true → fit row values ≡ true
fit_before row values w k e = ((and-eq-true_iff (fit row values) (ltb k (2 ^ w))).0 (sym (fit_last row values w k) ∙ e)).0

-- numbers that fit with one last number fit with any other that fits the field
pub fit_other : (row : Layout) (values : List ℕ) (w k other : ℕ)
    → fit (row ++ field w ∷ []) (values ++ k ∷ []) ≡ true → other < 2 ^ w
    → fit (row ++ field w ∷ []) (values ++ other ∷ []) ≡ true
fit_other row values w k other e small = fit_last row values w other ∙ rw (fit_before row values w k e, lt-ltb other (2 ^ w) small)

-- the sum of the row stands above the last number
sum_last : (row : Layout) (values : List ℕ) (w k : ℕ) → Fits row values → sum_of (row ++ field w ∷ []) (values ++ k ∷ []) ≡ sum_of row values * 2 ^ w + k
sum_last [] values w k f = rw f (omega arith)
sum_last (printed u p ∷ row) values w k f = rw (size_last row w, sum_last row values w k f.1) (regroup (size row) w (sum_of row values) k p)
sum_last (zeros u ∷ row) values w k f = rw (size_last row w, sum_last row values w k f.1) (regroup (size row) w (sum_of row values) k 0)
sum_last (field u ∷ row) [] w k f = absurd (omega arith)
sum_last (field u ∷ row) (v ∷ values) w k f = rw (size_last row w, sum_last row values w k f.1) (regroup (size row) w (sum_of row values) k v)
sum_last (unused u ∷ row) values w k f = rw (size_last row w, sum_last row values w k f.1) (regroup (size row) w (sum_of row values) k 0)

-- the lowest bits left out, at every place
above_is : (place n : ℕ) → above place n ≡ n / 2 ^ place
above_is zero n = sym (div-one n)
above_is (suc place) n = refl

-- the bits at a place are what is left over a power, up to another
pub bits_are : (place wide n : ℕ) → bits_at place wide n ≡ n / 2 ^ place % 2 ^ wide
bits_are place wide n = ap (λ (x : ℕ). x % 2 ^ wide) (above_is place n)

-- the bits above a place are those of the number above it
pub bits_above : (below place wide n : ℕ) → bits_at (below + place) wide n ≡ bits_at place wide (n / 2 ^ below)
bits_above below place wide n =
    bits_are (below + place) wide n ∙ rw (← shr-shr n below place) (sym (bits_are place wide (n / 2 ^ below)))

-- the number at a part's place, between what stands above it and the rest
at_place : (w s v rest q n : ℕ) → v < 2 ^ w → rest < 2 ^ s → n ≡ q * 2 ^ (w + s) + (v * 2 ^ s + rest) → bits_at s w n ≡ v
at_place w s v rest q n h k e =
    bits_are s w n
    ∙ ap (λ (x : ℕ). x % 2 ^ w) (ap (λ (x : ℕ). x / 2 ^ s) (e ∙ regroup w s v rest q) ∙ digits_div (q * 2 ^ w + v) k)
    ∙ digits_mod q h

-- in a number that ends in a row's sum each part has its number
found : (row : Layout) (values : List ℕ) (n q : ℕ) → Fits row values → n ≡ q * 2 ^ size row + sum_of row values
    → (fields_of row n ≡ values) × (shown_each row n ≡ true)
found [] values n q f e = (sym f, refl)
found (printed w p ∷ row) values n q f e =
    let rest = found row values n (q * 2 ^ w + p) f.1 (e ∙ regroup w (size row) p (sum_of row values) q) in
    let here = at_place w (size row) p (sum_of row values) q n f.0 (sum_lt row values f.1) e in
    (rest.0, rw (eq-eqb (bits_at (size row) w n) p here) rest.1)
found (zeros w ∷ row) values n q f e =
    let rest = found row values n (q * 2 ^ w + 0) f.1 (e ∙ regroup w (size row) 0 (sum_of row values) q) in
    let here = at_place w (size row) 0 (sum_of row values) q n f.0 (sum_lt row values f.1) e in
    (rest.0, rw (eq-eqb (bits_at (size row) w n) 0 here) rest.1)
found (field w ∷ row) [] n q f e = absurd (omega arith)
found (field w ∷ row) (v ∷ values) n q f e =
    let rest = found row values n (q * 2 ^ w + v) f.1 (e ∙ regroup w (size row) v (sum_of row values) q) in
    let here = at_place w (size row) v (sum_of row values) q n f.0 (sum_lt row values f.1) e in
    (ap₂ ◌∷◌ here rest.0, rest.1)
found (unused w ∷ row) values n q f e = found row values n (q * 2 ^ w + 0) f.1 (e ∙ regroup w (size row) 0 (sum_of row values) q)

-- a number read at a place fits there
bits_lt : (s w n : ℕ) → bits_at s w n < 2 ^ w
bits_lt s w n = mod-lt (above s n) (pow_pos w)

-- the numbers that are read fit their fields
pub fit_read : (row : Layout) (n : ℕ) → fit row (fields_of row n) ≡ true
fit_read [] n = refl
fit_read (printed w v ∷ row) n = fit_read row n
fit_read (zeros w ∷ row) n = fit_read row n
fit_read (field w ∷ row) n = rw (lt-ltb (bits_at (size row) w n) (2 ^ w) (bits_lt (size row) w n)) (fit_read row n)
fit_read (unused w ∷ row) n = fit_read row n

-- a part's bits in a mask, all set or none
mask_times : (c : Bool) (s w : ℕ) → pick c (ones_at s w) 0 ≡ pick c (2 ^ w - 1) 0 * 2 ^ s
mask_times true s w = refl
mask_times false s w = sym (zero-mul (2 ^ s))

mask_number_lt : (c : Bool) (w : ℕ) → pick c (2 ^ w - 1) 0 < 2 ^ w
mask_number_lt true w = ones_lt w
mask_number_lt false w = pow_pos w

-- a mask has no more bits than the row
mask_lt : (chosen : Part → Bool) (row : Layout) → mask_of chosen row < 2 ^ size row
mask_lt chosen [] = omega arith
mask_lt chosen (part ∷ row) =
    rw (mask_times (chosen part) (size row) (width part))
    (number_lt (width part) (size row) (pick (chosen part) (2 ^ width part - 1) 0) (mask_of chosen row)
    (mask_number_lt (chosen part) (width part)) (mask_lt chosen row))

-- a mask's own bits are enough to look at
and_low : (n m s : ℕ) → m < 2 ^ s → bit_and (n % 2 ^ s) m ≡ bit_and n m
and_low n m s h =
    ap (bit_and (n % 2 ^ s)) (sym (mod-eq_of_lt h))
    ∙ sym (and_mod n m s)
    ∙ mod-eq_of_lt (lt_of_le_of_lt (and_le_r n m) h)

-- the bits of a part, or none
and_part : (c : Bool) (s w n : ℕ) → bit_and (n / 2 ^ s) (pick c (2 ^ w - 1) 0) ≡ pick c (bits_at s w n) 0
and_part true s w n = and_mask (n / 2 ^ s) w ∙ sym (bits_are s w n)
and_part false s w n = and_zero_r (n / 2 ^ s)

-- the chosen parts' bits, each times the weight of its place
abbrev taken_of : (Part → Bool) → Layout → ℕ → ℕ
taken_of chosen [] n = 0
taken_of chosen (part ∷ row) n = pick (chosen part) (bits_at (size row) (width part) n) 0 * 2 ^ size row + taken_of chosen row n

-- "and" with a mask takes the chosen parts' bits
masked : (chosen : Part → Bool) (row : Layout) (n : ℕ) → bit_and n (mask_of chosen row) ≡ taken_of chosen row n
masked chosen [] n = and_zero_r n
masked chosen (part ∷ row) n =
    let s = size row in
    let w = width part in
    let ones = pick (chosen part) (2 ^ w - 1) 0 in
    ap₂ (λ (x y : ℕ). bit_and x (y + mask_of chosen row)) (sym (split n s)) (mask_times (chosen part) s w)
    ∙ and_block s (n / 2 ^ s) ones (n % 2 ^ s) (mask_of chosen row) (mod-lt n (pow_pos s)) (mask_lt chosen row)
    ∙ ap₂ (λ (x y : ℕ). x * 2 ^ s + y) (and_part (chosen part) s w n) (and_low n (mask_of chosen row) s (mask_lt chosen row) ∙ masked chosen row n)

-- what a mask takes has no more bits than the row
taken_lt : (chosen : Part → Bool) (row : Layout) (n : ℕ) → taken_of chosen row n < 2 ^ size row
taken_lt chosen row n = rw (← masked chosen row n) (lt_of_le_of_lt (and_le_r n (mask_of chosen row)) (mask_lt chosen row))

-- two numbers are the same where their high parts are and their low parts are
same_parts : (s a b r t : ℕ) → r < 2 ^ s → t < 2 ^ s → eqb (a * 2 ^ s + r) (b * 2 ^ s + t) ≡ (eqb a b && eqb r t)
same_parts s a b r t h k = by_test (eqb a b) refl (eqb r t) refl
  where
    by_test : (x : Bool) → eqb a b ≡ x → (y : Bool) → eqb r t ≡ y → eqb (a * 2 ^ s + r) (b * 2 ^ s + t) ≡ (x && y)
    by_test true e true f = eq-eqb _ _ (ap₂ (λ (x y : ℕ). x * 2 ^ s + y) (eqb-true a b e) (eqb-true r t f))
    by_test true e false f = ne_eqb _ _ (λ q. eqb-false r t f (sym (digits_mod a h) ∙ ap (λ (x : ℕ). x % 2 ^ s) q ∙ digits_mod b k))
    by_test false e y f = ne_eqb _ _ (λ q. eqb-false a b e (sym (digits_div a h) ∙ ap (λ (x : ℕ). x / 2 ^ s) q ∙ digits_div b k))

-- what the table prints has no more bits than the row
printed_after : (w : ℕ) (row : Layout) → printed_bits row < 2 ^ size row → printed_bits row < 2 ^ (w + size row)
printed_after w row h =
    rw (nothing_added (size row) (printed_bits row)) at (number_lt w (size row) 0 (printed_bits row) (pow_pos w) h)

printed_lt : (row : Layout) → T (printed_fit row) → printed_bits row < 2 ^ size row
printed_lt [] t = omega arith
printed_lt (printed w v ∷ row) t =
    let both = and_yes (ltb v (2 ^ w)) (printed_fit row) t in
    number_lt w (size row) v (printed_bits row) (ltb→lt v (2 ^ w) both.0) (printed_lt row both.1)
printed_lt (zeros w ∷ row) t = printed_after w row (printed_lt row t)
printed_lt (field w ∷ row) t = printed_after w row (printed_lt row t)
printed_lt (unused w ∷ row) t = printed_after w row (printed_lt row t)

-- what the mask takes is what the table prints exactly if each part is
shown_each_lem : (row : Layout) (n : ℕ) → T (printed_fit row) → eqb (taken_of is_printed row n) (printed_bits row) ≡ shown_each row n
shown_each_lem [] n t = refl
shown_each_lem (printed w v ∷ row) n t =
    let rest = (and_yes (ltb v (2 ^ w)) (printed_fit row) t).1 in
    same_parts (size row) (bits_at (size row) w n) v (taken_of is_printed row n) (printed_bits row) (taken_lt is_printed row n) (printed_lt row rest)
    ∙ ap (λ (b : Bool). eqb (bits_at (size row) w n) v && b) (shown_each_lem row n rest)
shown_each_lem (zeros w ∷ row) n t =
    ap (eqb (taken_of is_printed (zeros w ∷ row) n)) (sym (nothing_added (size row) (printed_bits row)))
    ∙ same_parts (size row) (bits_at (size row) w n) 0 (taken_of is_printed row n) (printed_bits row) (taken_lt is_printed row n) (printed_lt row t)
    ∙ ap (λ (b : Bool). eqb (bits_at (size row) w n) 0 && b) (shown_each_lem row n t)
shown_each_lem (field w ∷ row) n t = rw (nothing_added (size row)) (shown_each_lem row n t)
shown_each_lem (unused w ∷ row) n t = rw (nothing_added (size row)) (shown_each_lem row n t)

-- a packet has the bits that the table prints exactly if it has those of each printed part; bits above the row are not looked at
pub shows_each : (row : Layout) (n : ℕ) → T (laid row) → shows row n ≡ shown_each row n
shows_each row n t = rw (masked is_printed row n) (shown_each_lem row n (and_yes (leb (size row) 32) (printed_fit row) t).1)

-- what the table prints, as a fact for each printed part
abbrev pub Shown : Layout → ℕ → Type 0
Shown [] n = Unit
Shown (printed w v ∷ row) n = (bits_at (size row) w n ≡ v) × Shown row n
Shown (zeros w ∷ row) n = (bits_at (size row) w n ≡ 0) × Shown row n
Shown (field w ∷ row) n = Shown row n
Shown (unused w ∷ row) n = Shown row n

each_shown : (row : Layout) (n : ℕ) → shown_each row n ≡ true → Shown row n
each_shown [] n e = tt
each_shown (printed w v ∷ row) n e =
    let both = (and-eq-true_iff (eqb (bits_at (size row) w n) v) (shown_each row n)).0 e in
    (eqb-true (bits_at (size row) w n) v both.0, each_shown row n both.1)
each_shown (zeros w ∷ row) n e =
    let both = (and-eq-true_iff (eqb (bits_at (size row) w n) 0) (shown_each row n)).0 e in
    (eqb-true (bits_at (size row) w n) 0 both.0, each_shown row n both.1)
each_shown (field w ∷ row) n e = each_shown row n e
each_shown (unused w ∷ row) n e = each_shown row n e

-- a packet that has the bits that the table prints has each printed number at its place, the ID first
pub shown_bits : (row : Layout) (n : ℕ) → T (laid row) → shows row n ≡ true → Shown row n
shown_bits row n t e = each_shown row n (sym (shows_each row n t) ∙ e)

-- the numbers that were read make the sum of the parts that are looked at
read_sum : (row : Layout) (n : ℕ) → Shown row n → sum_of row (fields_of row n) ≡ taken_of is_read row n
read_sum [] n e = refl
read_sum (printed w v ∷ row) n e = ap₂ (λ (x y : ℕ). x * 2 ^ size row + y) (sym e.0) (read_sum row n e.1)
read_sum (zeros w ∷ row) n e = ap₂ (λ (x y : ℕ). x * 2 ^ size row + y) (sym e.0) (read_sum row n e.1)
read_sum (field w ∷ row) n e = ap (λ (y : ℕ). bits_at (size row) w n * 2 ^ size row + y) (read_sum row n e)
read_sum (unused w ∷ row) n e = ap (λ (y : ℕ). 0 * 2 ^ size row + y) (read_sum row n e)

-- the premises of the laws: the row has at most 32 bits, and each number fits its part
at_most_32 : (row : Layout) → T (laid row) → size row ≤ 32
at_most_32 row t = leb→le (size row) 32 (and_yes (leb (size row) 32) (printed_fit row) t).0

each_fits : (row : Layout) (values : List ℕ) → T (laid row) → fit row values ≡ true → Fits row values
each_fits row values t e = (fits true row values (and_yes (leb (size row) 32) (printed_fit row) t).1 e).1

-- what was built is the sum of its numbers
pub packed_is : (row : Layout) (values : List ℕ) → T (laid row) → fit row values ≡ true → packed row values ≡ sum_of row values
packed_is row values t e = packed_sum row values (each_fits row values t e) (at_most_32 row t)

-- what was built has no more bits than the row
pub packed_lt : (row : Layout) (values : List ℕ) → T (laid row) → fit row values ≡ true → packed row values < 2 ^ size row
packed_lt row values t e = rw (packed_is row values t e) (sum_lt row values (each_fits row values t e))

-- what was built with one field more is the rest above that field's number
pub packed_last : (row : Layout) (values : List ℕ) (w k : ℕ) → T (laid row) → T (laid (row ++ field w ∷ []))
    → fit row values ≡ true → k < 2 ^ w
    → packed (row ++ field w ∷ []) (values ++ k ∷ []) ≡ packed row values * 2 ^ w + k
packed_last row values w k t u e h =
    packed_is (row ++ field w ∷ []) (values ++ k ∷ []) u (fit_last row values w k ∙ rw (e, lt-ltb k (2 ^ w) h))
    ∙ sum_last row values w k (each_fits row values t e)
    ∙ rw (packed_is row values t e)

-- a number that ends in what was built has the numbers of its fields and all that its table prints
found_packed : (row : Layout) (values : List ℕ) (n : ℕ) → T (laid row) → fit row values ≡ true
    → n % 2 ^ size row ≡ packed row values → (fields_of row n ≡ values) × (shown_each row n ≡ true)
found_packed row values n t e low =
    found row values n (n / 2 ^ size row) (each_fits row values t e)
    (sym (split n (size row)) ∙ ap (λ (x : ℕ). n / 2 ^ size row * 2 ^ size row + x) (low ∙ packed_is row values t e))

-- reading a number that ends in what was built gives the numbers it was built from
pub read_ending : (row : Layout) (values : List ℕ) (n : ℕ) → T (laid row) → fit row values ≡ true
    → n % 2 ^ size row ≡ packed row values → fields_of row n ≡ values
read_ending row values n t e low = (found_packed row values n t e low).0

-- what was built is all of its own bits
whole : (row : Layout) (values : List ℕ) → T (laid row) → fit row values ≡ true → packed row values % 2 ^ size row ≡ packed row values
whole row values t e = mod-eq_of_lt (packed_lt row values t e)

-- reading what was built gives the numbers it was built from
pub read_packed : (row : Layout) (values : List ℕ) → T (laid row) → fit row values ≡ true → fields_of row (packed row values) ≡ values
read_packed row values t e = read_ending row values (packed row values) t e (whole row values t e)

-- what was built has the bits that its table prints
pub shows_packed : (row : Layout) (values : List ℕ) → T (laid row) → fit row values ≡ true → shows row (packed row values) ≡ true
shows_packed row values t e = shows_each row (packed row values) t ∙ (found_packed row values (packed row values) t e (whole row values t e)).1

-- building what was read gives the bits that were read, up to those that are not looked at
pub packed_read : (row : Layout) (n : ℕ) → T (laid row) → shows row n ≡ true → packed row (fields_of row n) ≡ bit_and n (mask_of is_read row)
packed_read row n t e =
    packed_is row (fields_of row n) t (fit_read row n)
    ∙ read_sum row n (shown_bits row n t e)
    ∙ sym (masked is_read row n)

-- building what was read gives the very bits where every one is looked at
pub packed_read_whole : (row : Layout) (n : ℕ) → T (laid row) → n < 2 ^ size row → shows row n ≡ true
    → mask_of is_read row ≡ 2 ^ size row - 1 → packed row (fields_of row n) ≡ n
packed_read_whole row n t h e whole = packed_read row n t e ∙ ap (bit_and n) whole ∙ and_mask n (size row) ∙ mod-eq_of_lt h
