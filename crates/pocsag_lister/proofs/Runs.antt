-- A text that is taken byte by byte: what is found is its runs of characters, in their order.
use Prim.Native.Nat.{ℕ, suc, ◌+◌, ◌-◌, ◌*◌, ◌%◌, ◌^◌, ◌≤◌, ◌<◌}
use mathlib.Core.Bool.{Bool, true, false, not, ◌&&◌, ◌||◌}
use mathlib.Core.List.{List, [], ◌∷◌, ◌++◌}
use mathlib.Core.Path.{◌≡◌, refl, sym, ap, ◌∙◌}
use mathlib.Core.Logic.{⊎_elim}
use native.Mathlib.Omega.{arith}
use lib.Dec.{leb, ltb, eqb}
use lib.ListN.{length, length-append}
use borrow.Author.Tests.{ltb-true, ltb-false, leb-false, eqb-true, eqb-false, lt-ltb, le-leb, lt-leb, ne_eqb}
use Rattle.laws.specs.Choice.{pick}
use Rattle.laws.specs.Lists.{all, first_that}
use Rattle.laws.proofs.Tests.{decided, first_of, second_of}
use Rattle.refusal.specs.declared.Refusal.TheVariants.{Size, Character}
use Rattle.refusal.specs.Told.{number_of}
use Rattle.std.specs.Prelude.{Some}
use Rattle.pocsag_lister.specs.declared.Token.{Token}
use Rattle.pocsag_lister.specs.Inputs.{Found, one_more, word_found, start}
use Rattle.pocsag_lister.specs.Tokens.{is_blank, is_hex, hex_value, shifted, counted, goes_wrong, grown, run, finished, after_blank}
use Rattle.pocsag_lister.specs.Runs.{hex_number, wrong_found, is_other, run_found, ended, runs_from, runs_of, some_of, found_from}
use Rattle.pocsag_lister.proofs.Digits.{hex_small}

-- ---- one character more of a row

-- whether all characters are digits, with one more
all_more : (run : List ℕ) (byte : ℕ) → all is_hex (run ++ byte ∷ []) ≡ (all is_hex run && is_hex byte)
unfolding all
all_more [] byte = and-true (is_hex byte)
  where
    and-true : (test : Bool) → (test && true) ≡ test
    and-true true = refl
    and-true false = refl
all_more (first ∷ run) byte =
    ap (λ (test : Bool). is_hex first && test) (all_more run byte) ∙ and_three (is_hex first) (all is_hex run) (is_hex byte)
  where
    and_three : (a b c : Bool) → (a && (b && c)) ≡ (a && b && c)
    and_three true b c = refl
    and_three false b c = refl

-- where all characters are digits none is another
none_other : (run : List ℕ) → all is_hex run ≡ true → first_that is_other run ≡ length run
unfolding all first_that
none_other [] digits = refl
none_other (byte ∷ run) digits =
    rw (first_of (is_hex byte) (all is_hex run) digits) (ap suc (none_other run (second_of (is_hex byte) (all is_hex run) digits)))

-- the first that is no digit, where it stands after digits alone
first_other : (run : List ℕ) (byte : ℕ) → all is_hex run ≡ true → is_hex byte ≡ false → first_that is_other (run ++ byte ∷ []) ≡ length run
unfolding all first_that
first_other [] byte digits other = rw other
first_other (first ∷ run) byte digits other =
    rw (first_of (is_hex first) (all is_hex run) digits) (ap suc (first_other run byte (second_of (is_hex first) (all is_hex run) digits) other))

-- and where one stood before it
same_other : (run : List ℕ) (byte : ℕ) → all is_hex run ≡ false → first_that is_other (run ++ byte ∷ []) ≡ first_that is_other run
unfolding all first_that
same_other [] byte wrong = let no : ◌≡◌ {A = Bool} true false = wrong in cc
same_other (first ∷ run) byte wrong =
    ⊎_elim
    (λ hex. rw hex (ap suc (same_other run byte (ap (λ (test : Bool). test && all is_hex run) (sym hex) ∙ wrong))))
    (λ other. rw other)
    (decided (is_hex first))

-- the number that digits make in 32 bits, after one
unfoldable value_of : ℕ → List ℕ → ℕ
value_of value [] = value
value_of value (byte ∷ run) = value_of (pick (is_hex byte) (shifted value (hex_value byte)) value) run

-- with one character more
value_more : (value : ℕ) (run : List ℕ) (byte : ℕ)
    → value_of value (run ++ byte ∷ []) ≡ pick (is_hex byte) (shifted (value_of value run) (hex_value byte)) (value_of value run)
unfolding value_of
value_more value [] byte = refl
value_more value (first ∷ run) byte = value_more (pick (is_hex first) (shifted value (hex_value first)) value) run byte

-- how many characters are counted: 9 stands for more than eight
abbrev up_to_nine : ℕ → ℕ
up_to_nine n = pick (leb n 9) n 9

-- with one more
count_more : (n : ℕ) → counted (up_to_nine n) ≡ up_to_nine (n + 1)
count_more n =
    ⊎_elim
    (λ few. let h : n < 9 = ltb-true n 9 few in rw (le-leb n 9 (omega arith), lt-ltb n 9 h, le-leb (n + 1) 9 (omega arith)))
    (λ many.
    let h : 9 ≤ n = ltb-false n 9 many in
    ⊎_elim
    (λ nine. let k : n ≡ 9 = eqb-true n 9 nine in rw k)
    (λ more. let k : n ≡ 9 → ⊥ = eqb-false n 9 more in rw (lt-leb n 9 (omega arith), lt-leb (n + 1) 9 (omega arith)))
    (decided (eqb n 9)))
    (decided (ltb n 9))

-- ---- where the reading stands

-- after the characters of a run that began at a place
abbrev token_of : ℕ → ℕ → List ℕ → Token
token_of line place run =
    record {
      line = line;
      place = place + length run;
      «at» = pick (eqb (length run) 0) 0 (pick (all is_hex run) place (place + first_that is_other run));
      number = pick (all is_hex run) 0 (number_of Character);
      count = up_to_nine (length run);
      value = value_of 0 run;
    }

-- two tokens of the same fields
same_token : (line place place' told told' n n' count count' value value' : ℕ) → place ≡ place' → told ≡ told' → n ≡ n' → count ≡ count' → value ≡ value'
    → ◌≡◌ {A = Token} (record { line = line; place = place; «at» = told; number = n; count = count; value = value })
    (record { line = line; place = place'; «at» = told'; number = n'; count = count'; value = value' })
same_token line place place' told told' n n' count count' value value' a b c d e = rw (a, b, c, d, e)

-- a run of some characters is counted as some
count_some : (n : ℕ) → 0 < n → eqb (up_to_nine n) 0 ≡ false
count_some n some =
    ⊎_elim
    (λ few. rw few (ne_eqb n 0 (λ none. omega arith)))
    (λ many. rw many)
    (decided (leb n 9))

-- a row with one more
length_more : (run : List ℕ) (byte : ℕ) → length (run ++ byte ∷ []) ≡ length run + 1
length_more run byte = length-append run (byte ∷ [])

-- the number that is told of a run after one character more
number_more : (digits digit : Bool)
    → pick (eqb (pick digits 0 (number_of Character)) 0 && not digit) (number_of Character) (pick digits 0 (number_of Character))
    ≡ pick (digits && digit) 0 (number_of Character)
number_more true true = refl
number_more true false = refl
number_more false true = refl
number_more false false = refl

-- the place that is told of a run after one character more: that of its first, of this one, or of one before it
told_picked : (digits digit : Bool) (first here before after : ℕ) → (digits ≡ true → digit ≡ false → here ≡ after) → (digits ≡ false → before ≡ after)
    → pick (eqb (pick digits 0 (number_of Character)) 0 && not digit) here (pick digits first before) ≡ pick (digits && digit) first after
told_picked true true first here before after now earlier = refl
told_picked true false first here before after now earlier = now refl refl
told_picked false true first here before after now earlier = earlier refl
told_picked false false first here before after now earlier = earlier refl

module _ (line place : ℕ) (byte : ℕ) where
  -- the place that is told after the first character of a run
  told_first : pick (eqb (up_to_nine 0) 0 || goes_wrong (token_of line place []) byte) (place + 0) 0
      ≡ pick (eqb 1 0) 0 (pick (all is_hex (byte ∷ [])) place (place + first_that is_other (byte ∷ [])))
  unfolding all first_that
  told_first = ⊎_elim (λ hex. rw hex (omega arith)) (λ other. rw other) (decided (is_hex byte))

  module _ (run : List ℕ) (some : 0 < length run) where
    -- the place that is told after a later one
    told_later : pick (eqb (up_to_nine (length run)) 0 || goes_wrong (token_of line place run) byte) (place + length run) (token_of line place run).«at»
        ≡ (token_of line place (run ++ byte ∷ [])).«at»
    told_later =
        let begun : eqb (length run) 0 ≡ false = ne_eqb (length run) 0 (λ none. omega arith) in
        let longer : eqb (length (run ++ byte ∷ [])) 0 ≡ false = ne_eqb (length (run ++ byte ∷ [])) 0 (λ none. omega (arith, length_more run byte)) in
        rw (count_some (length run) some, begun, longer, all_more run byte)
        (told_picked (all is_hex run) (is_hex byte) place (place + length run) (place + first_that is_other run) (place + first_that is_other (run ++ byte ∷ []))
        (λ digits other. ap (λ (n : ℕ). place + n) (sym (first_other run byte digits other)))
        (λ wrong. ap (λ (n : ℕ). place + n) (sym (same_other run byte wrong))))

  -- a run with one character more
  grown_token : (run : List ℕ) → place + length run < 2 ^ 64 - 1 → grown (token_of line place run) byte ≡ token_of line place (run ++ byte ∷ [])
  grown_token run small =
      same_token line (one_more (place + length run)) (place + length (run ++ byte ∷ [])) _ _ _ _ _ _ _ _
      (rw (lt-ltb (place + length run) (2 ^ 64 - 1) small) (omega (arith, length_more run byte)))
      (told run)
      (number_more (all is_hex run) (is_hex byte) ∙ ap (λ (test : Bool). pick test 0 (number_of Character)) (sym (all_more run byte)))
      (count_more (length run) ∙ ap up_to_nine (sym (length_more run byte)))
      (sym (value_more 0 run byte))
    where
      told : (run : List ℕ)
          → pick (eqb (up_to_nine (length run)) 0 || goes_wrong (token_of line place run) byte) (place + length run) (token_of line place run).«at»
          ≡ (token_of line place (run ++ byte ∷ [])).«at»
      told [] = told_first
      told (first ∷ run) = told_later (first ∷ run) (omega arith)

-- ---- what a run is where it ends

-- eight characters are counted as eight
count_eight : (n : ℕ) → eqb (up_to_nine n) 8 ≡ eqb n 8
count_eight n =
    ⊎_elim
    (λ few. rw few)
    (λ many. let h : 9 < n = leb-false n 9 many in rw many (sym (ne_eqb n 8 (λ eight. omega arith))))
    (decided (leb n 9))

module _ (value byte : ℕ) (run : List ℕ) (hex : is_hex byte ≡ true) where
  -- a digit after fewer than eight
  value_step : value < 2 ^ 28 → value_of value (byte ∷ run) ≡ value_of (value * 16 + hex_value byte) run
  unfolding value_of
  value_step small =
      let same : value % 2 ^ 28 ≡ value = omega arith in
      rw hex (ap (λ (n : ℕ). value_of (n * 16 + hex_value byte) run) same)

-- eight digits are the number that they make
value_eight : (run : List ℕ) → length run ≡ 8 → all is_hex run ≡ true → value_of 0 run ≡ hex_number 0 run
unfolding value_of hex_number all
value_eight [] e digits = absurd (omega arith)
value_eight (a ∷ []) e digits = absurd (omega arith)
value_eight (a ∷ b ∷ []) e digits = absurd (omega arith)
value_eight (a ∷ b ∷ c ∷ []) e digits = absurd (omega arith)
value_eight (a ∷ b ∷ c ∷ d ∷ []) e digits = absurd (omega arith)
value_eight (a ∷ b ∷ c ∷ d ∷ e ∷ []) l digits = absurd (omega arith)
value_eight (a ∷ b ∷ c ∷ d ∷ e ∷ f ∷ []) l digits = absurd (omega arith)
value_eight (a ∷ b ∷ c ∷ d ∷ e ∷ f ∷ g ∷ []) l digits = absurd (omega arith)
value_eight (a ∷ b ∷ c ∷ d ∷ e ∷ f ∷ g ∷ h ∷ []) l digits =
    let as-a = first_of (is_hex a) _ digits in
    let after-a = second_of (is_hex a) _ digits in
    let as-b = first_of (is_hex b) _ after-a in
    let after-b = second_of (is_hex b) _ after-a in
    let as-c = first_of (is_hex c) _ after-b in
    let after-c = second_of (is_hex c) _ after-b in
    let as-d = first_of (is_hex d) _ after-c in
    let after-d = second_of (is_hex d) _ after-c in
    let as-e = first_of (is_hex e) _ after-d in
    let after-e = second_of (is_hex e) _ after-d in
    let as-f = first_of (is_hex f) _ after-e in
    let after-f = second_of (is_hex f) _ after-e in
    let as_g = first_of (is_hex g) _ after-f in
    let after-g = second_of (is_hex g) _ after-f in
    let as-h = first_of (is_hex h) _ after-g in
    let va = 0 * 16 + hex_value a in
    let small-a : va < 2 ^ 4 = omega (arith, hex_small a as-a) in
    let vb = va * 16 + hex_value b in
    let small_b : vb < 2 ^ 8 = omega (arith, hex_small b as-b) in
    let vc = vb * 16 + hex_value c in
    let small-c : vc < 2 ^ 12 = omega (arith, hex_small c as-c) in
    let vd = vc * 16 + hex_value d in
    let small-d : vd < 2 ^ 16 = omega (arith, hex_small d as-d) in
    let ve = vd * 16 + hex_value e in
    let small-e : ve < 2 ^ 20 = omega (arith, hex_small e as-e) in
    let vf = ve * 16 + hex_value f in
    let small-f : vf < 2 ^ 24 = omega (arith, hex_small f as-f) in
    let vg = vf * 16 + hex_value g in
    let small-g : vg < 2 ^ 28 = omega (arith, hex_small g as_g) in
    value_step 0 a (b ∷ c ∷ d ∷ e ∷ f ∷ g ∷ h ∷ []) as-a (omega arith)
    ∙ value_step va b (c ∷ d ∷ e ∷ f ∷ g ∷ h ∷ []) as-b (omega arith)
    ∙ value_step vb c (d ∷ e ∷ f ∷ g ∷ h ∷ []) as-c (omega arith)
    ∙ value_step vc d (e ∷ f ∷ g ∷ h ∷ []) as-d (omega arith)
    ∙ value_step vd e (f ∷ g ∷ h ∷ []) as-e (omega arith)
    ∙ value_step ve f (g ∷ h ∷ []) as-f (omega arith)
    ∙ value_step vf g (h ∷ []) as_g (omega arith)
    ∙ value_step vg h [] as-h (omega arith)
value_eight (a ∷ b ∷ c ∷ d ∷ e ∷ f ∷ g ∷ h ∷ i ∷ more) l digits = absurd (omega arith)

-- a run that ends, by whether its characters are digits and whether they are eight
found_picked : (digits : Bool) (count line place first other value word : ℕ) → (digits ≡ true → eqb count 8 ≡ true → value ≡ word)
    → run (record { line = line; place = place; «at» = pick digits first other; number = pick digits 0 (number_of Character); count = count; value = value })
    ≡ pick (not digits) (wrong_found (number_of Character) line other) (pick (not (eqb count 8)) (wrong_found (number_of Size) line first) (word_found word))
found_picked true count line place first other value word same =
    ⊎_elim (λ eight. rw eight (ap word_found (same refl eight))) (λ more. rw more) (decided (eqb count 8))
found_picked false count line place first other value word same = refl

module _ (line place : ℕ) where
  -- what is found where a run of some characters ends
  finished_run : (run : List ℕ) → 0 < length run → finished (token_of line place run) ≡ Some (run_found line place run)
  finished_run run some =
      let begun : eqb (length run) 0 ≡ false = ne_eqb (length run) 0 (λ none. omega arith) in
      rw (count_some (length run) some, begun)
      (ap Some
      (found_picked (all is_hex run) (up_to_nine (length run)) line (place + length run) place (place + first_that is_other run) (value_of 0 run) (hex_number 0 run)
      (λ digits eight. value_eight run (eqb-true (length run) 8 (sym (count_eight (length run)) ∙ eight)) digits)
      ∙ ap (λ (test : Bool). pick (not (all is_hex run)) (wrong_found (number_of Character) line (place + first_that is_other run))
      (pick (not test) (wrong_found (number_of Size) line place) (word_found (hex_number 0 run))))
      (count_eight (length run))))

  -- what is found where a run ends, if it has a character
  finished_ended : (run : List ℕ) → some_of (finished (token_of line place run)) ≡ ended line place run
  finished_ended [] = refl
  finished_ended (byte ∷ run) = ap some_of (finished_run (byte ∷ run) (omega arith))

-- before the first character of a run
rest_token : (line place : ℕ) → ◌≡◌ {A = Token} (record { line = line; place = place; «at» = 0; number = 0; count = 0; value = 0 }) (token_of line place [])
unfolding all value_of
rest_token line place = same_token line place (place + 0) 0 0 0 0 0 0 0 0 (omega arith) refl refl refl refl

-- where the reading stands after a blank
blank_token : (line place : ℕ) (run : List ℕ) (byte : ℕ) → line < 2 ^ 64 - 1 → place + length run < 2 ^ 64 - 1
    → after_blank (token_of line place run) byte ≡ token_of (pick (eqb byte 10) (line + 1) line) (pick (eqb byte 10) 0 (place + length run + 1)) []
blank_token line place run byte few small =
    rw (lt-ltb line (2 ^ 64 - 1) few, lt-ltb (place + length run) (2 ^ 64 - 1) small)
    (rest_token (pick (eqb byte 10) (line + 1) line) (pick (eqb byte 10) 0 (place + length run + 1)))

-- one of two numbers, where both are small enough
picked_below : (test : Bool) (a b more bound : ℕ) → a + more < bound → b + more < bound → pick test a b + more < bound
picked_below true a b more bound first second = first
picked_below false a b more bound first second = second

-- what is found in a text that goes on after the characters of a run
found_from_lem : (line place : ℕ) (run text : List ℕ) → line + length text < 2 ^ 64 → place + length run + length text < 2 ^ 64
    → found_from (token_of line place run) text ≡ runs_from line place run text
unfolding found_from runs_from
found_from_lem line place run [] few small = finished_ended line place run
found_from_lem line place run (byte ∷ text) few small =
    ⊎_elim
    (λ blank.
    let next_line = pick (eqb byte 10) (line + 1) line in
    let next_place = pick (eqb byte 10) 0 (place + length run + 1) in
    let few-left : next_line + length text < 2 ^ 64 = picked_below (eqb byte 10) (line + 1) line (length text) (2 ^ 64) (omega arith) (omega arith) in
    let small-left : next_place + length text < 2 ^ 64 =
    picked_below (eqb byte 10) 0 (place + length run + 1) (length text) (2 ^ 64) (omega arith) (omega arith) in
    rw blank
    (ap (λ (row : List Found). row ++ found_from (after_blank (token_of line place run) byte) text) (finished_ended line place run)
    ∙ ap (λ (row : List Found). ended line place run ++ row)
    (ap (λ (t : Token). found_from t text) (blank_token line place run byte (omega arith) (omega arith))
    ∙ found_from_lem next_line next_place [] text few-left (omega arith))))
    (λ other.
    rw other
    (ap (λ (t : Token). found_from t text) (grown_token line place byte run (omega arith))
    ∙ found_from_lem line place (run ++ byte ∷ []) text (omega arith) (omega (arith, length_more run byte))))
    (decided (is_blank byte))

-- what is found in a text is its runs of characters, where its lines and places can be counted
pub text_runs : (text : List ℕ) → length text < 2 ^ 64 - 1 → found_from start text ≡ runs_of text
text_runs text small = ap (λ (t : Token). found_from t text) (rest_token 1 0) ∙ found_from_lem 1 0 [] text (omega arith) (omega arith)
