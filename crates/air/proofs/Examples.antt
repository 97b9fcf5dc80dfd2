-- Worked examples of demand 3: a text that comes whole through losses, damage, repeats and other traffic; one that
-- does not; and what each premise is for. All worked by hand from 01 and from Tables 44, 45 and 60.
use Prim.Native.Nat.{ℕ, zero, suc, ◌-◌, ◌≤◌}
use mathlib.Core.Bool.{Bool, true, false, not}
use mathlib.Core.List.{List, [], ◌∷◌, ◌++◌, map}
use mathlib.Core.Path.{◌≡◌, refl, ap, sym, ◌∙◌}
use native.Mathlib.Omega.{arith}
use borrow.Author.Tests.{eqb-false, not-true}
use lib.Dec.{ltb, eqb}
use lib.ListN.{length, get_or, set, replicate}
use Rattle.laws.specs.Lists.{first_that, all, any_of, up_from, sum_by}
use Rattle.laws.specs.Numerals.{number, digits}
use Rattle.laws.specs.Texts.{bytes_of}
use Rattle.refusal.specs.Told.{number_told}
use Rattle.fragment.specs.Fragments.{cells_of, words_of, fragment_of, without_fill}
use Rattle.fragment.specs.Answers.{heading_of}
use Rattle.fragment.specs.Cutting.{sendable, message_of, fragment_at, fragments_from, cut}
use Rattle.chain.specs.Chains.{blank, sound, fresh}
use Rattle.chain.specs.Steps.{fate}
use Rattle.chain.specs.Answers.{step_of, chains_after, buffer_after, drop_of}
use Rattle.chain.specs.Runs.{came, dropped, State, answers, after_all}
use Rattle.chain.proofs.Examples.{opened, one, two}
use Rattle.air.specs.Demand.{Message, fragments, is_cut, Arrival, copy, other, event_of, places, neighbours}
use Rattle.air.specs.Demand.{is_in_order, loses_few, is_open, is_ready, undisturbed, Premises, texts_out, from_first}
use Rattle.air.specs.Demand.{ArrivesWhole, Promised, ours}

-- ---- the message

-- a message: address number, N, the largest fragment, the text; R and M are 0
abbrev saying : ℕ → ℕ → ℕ → List ℕ → Message
saying address n largest text =
    record { address = address; marks = record { message_number = n; retrieval = 0; mail_drop = 0 }; largest = largest; text = text }

-- a line for a picker, for address number 7 with N 5, in fragments of two words: "TA", "KE ", "28 ", "CAB" and "LES". T and A
-- make 149, the three after them 512, which is 4 times 128, and the last 228: 889, whose low seven bits are 121, so that S is 6
abbrev line : Message
line = saying 7 5 2 (bytes_of "TAKE 28 CABLES")

-- its fragments by hand. F 3 and C 1, 00BC00, then 6, 84 at i7 and 65 at i14: the groups BCH, and 06H, 6AH, 10H make 316; K is 707, 2C3H.
-- F 0 and C 1, 00A400, then "K", "E" and " ": A4H, and CBH, 22H, 08H make 409; 614, 266H. F 1 and C 1, 00AC00, then
-- "2", "8" and " ": ACH, and 32H, 1CH, 08H make 258; 765, 2FDH.
-- F 2 and C 1, 00B400, then "C", "A" and "B": B4H, and C3H, A0H, 10H make 551; 472, 1D8H. F 0 and C 0, 00A000, then
-- "L", "E" and "S": A0H, and CCH, E2H, 14H make 610; 413, 19DH
pub line_cut : fragments line
    ≡ (0x00BEC3 ∷ 0x106A06 ∷ []) ∷ (0x00A666 ∷ 0x0822CB ∷ []) ∷ (0x00AEFD ∷ 0x081C32 ∷ []) ∷ (0x00B5D8 ∷ 0x10A0C3 ∷ []) ∷ (0x00A19D ∷ 0x14E2CC ∷ []) ∷ []
unfolding cut fragments_from fragment_at fragment_of message_of words_of number sum_by
line_cut = refl

-- ---- the premises as tests

-- whether each premise holds, in their order: cuts, copies, in_order, few_lost, ready, closed, quiet
unfoldable pub held : Message → State → List Arrival → List Bool
unfolding places neighbours undisturbed texts_out from_first answers step_of drop_of chains_after buffer_after sound fate
    cut fragments_from fragment_at fragment_of sendable message_of heading_of words_of cells_of without_fill number
    digits sum_by all any_of up_from first_that
held m start air =
    is_cut m ∷ all (λ place. ltb place (length (fragments m))) (places air) ∷ is_in_order (places air)
    ∷ loses_few (places air) ∷ is_ready start ∷ not (is_open m start) ∷ undisturbed ours m start air ∷ []

-- where all seven hold, all is as it is taken for granted
pub all_held : (m : Message) (start : State) (air : List Arrival) → held m start air ≡ replicate 7 true → Premises ours m start air
unfolding held
all_held m start air e =
    record { cuts = at 0; copies = at 1; in_order = at 2; few_lost = at 3; ready = at 4; closed = not-true _ (at 5); quiet = at 6 }
  where
    at : (premise : ℕ) → get_or (held m start air) premise true ≡ get_or (replicate 7 true) premise true
    at premise = ap (λ tests. get_or tests premise true) e

-- ---- a text that comes whole

-- three slots, of which the first is another key's
abbrev begun : State
begun = record { chains = opened 3 5 2 9 4 ∷ blank ∷ blank ∷ []; bytes = replicate 3024 0 }

-- what comes: the fragments with losses, damage and repeats, and other traffic
abbrev rough : List Arrival
rough =
    -- the first fragment, into slot 1, and once more
    copy 0
    ∷ copy 0
    -- the second with another K, the third with a word of 22 bits, of the fourth one word alone; the last is lost
    ∷ other (came 7 (0x00A667 ∷ 0x0822CB ∷ []))
    ∷ other (came 7 (0x20AEFD ∷ 0x081C32 ∷ []))
    ∷ other (came 7 (0x00B5D8 ∷ []))
    -- "HELLO ME" begins in slot 2, for another address number; the chain in slot 0 is dropped
    ∷ other (came 8 one)
    ∷ other (dropped 3 5)
    -- the first again: it closes its older chain, and takes slot 0
    ∷ copy 0
    -- for the same address number "HI", with N 6, at once whole: 00D800, then 12646E, the groups D8H, and 6EH, 64H, 12H make 444; K is 579, 243H
    ∷ other (came 7 (0x00DA43 ∷ 0x12646E ∷ []))
    -- the later ones, with one of "HELLO ME" in between
    ∷ copy 1
    ∷ copy 2
    ∷ other (came 8 two)
    ∷ copy 3
    ∷ copy 4
    -- the last once more, and a drop, where no chain is open by then
    ∷ copy 4
    ∷ other (dropped 7 5)
    ∷ []

-- the answers in the rough air, by 01's number
pub rough_told : map {B = ℕ} number_told (answers begun (map (event_of line) rough)) ≡ 0 ∷ 0 ∷ 11 ∷ 10 ∷ 9 ∷ 0 ∷ 0 ∷ 0 ∷ 0 ∷ 0 ∷ 0 ∷ 0 ∷ 0 ∷ 0 ∷ 13 ∷ 13 ∷ []
unfolding held
rough_told = refl

-- in the rough air all is as it is taken for granted
pub rough_premises : Premises ours line begun rough
unfolding held
rough_premises = all_held line begun rough refl

-- in the rough air the text is handed out, once
pub rough_text : texts_out ours line begun rough ≡ bytes_of "TAKE 28 CABLES" ∷ []
unfolding held
rough_text = refl

-- in the rough air, after the last good arrival of the first fragment, come 1, 2, 3, 4, and 4 once more
pub rough_whole : ArrivesWhole (length (fragments line)) (places rough)
unfolding held
rough_whole = (1, refl)

-- ---- a text that does not come whole

-- one free slot
abbrev free : State
free = record { chains = fresh 1; bytes = replicate 1008 0 }

-- the third fragment is lost: the fourth is out of its turn, and the last finds no chain
abbrev broken : List Arrival
broken = copy 0 ∷ copy 1 ∷ copy 3 ∷ copy 4 ∷ []

-- with the third fragment lost all is as it is taken for granted
pub broken_premises : Premises ours line free broken
unfolding held
broken_premises = all_held line free broken refl

-- with the third fragment lost nothing is handed out
pub broken_silent : texts_out ours line free broken ≡ []
unfolding held
broken_silent = refl

-- with the third fragment lost the fragments do not arrive whole: after 0 and 1 stands 3
pub broken_not_whole : ArrivesWhole (length (fragments line)) (places broken) → ⊥
unfolding held
broken_not_whole (again, e) = eqb-false 3 2 refl (ap (λ row. get_or row 2 0) e)

-- ---- what each premise is for

-- an example in which one premise alone fails, what is handed out then, and that this is not what is promised
pub record Needed (premise : ℕ) (m : Message) (start : State) (air : List Arrival) (texts : List (List ℕ)) : Type 0 where
  pub alone : held m start air ≡ set (replicate 7 true) premise false
  pub handed : texts_out ours m start air ≡ texts
  pub fails : Promised ours m start air → ⊥

module _ {premise : ℕ} {m : Message} {start : State} {air : List Arrival} where
  -- a text is handed out that is not the sender's, of which the character at a place is another
  misread : {out : List ℕ} (place : ℕ) → held m start air ≡ set (replicate 7 true) premise false
      → texts_out ours m start air ≡ out ∷ [] → eqb (get_or out place 0) (get_or m.text place 0) ≡ false
      → Needed premise m start air (out ∷ [])
  misread {out} place alone handed differs =
      record { alone = alone; handed = handed; fails = λ promised. eqb-false _ _ differs (ap (λ text. get_or text place 0) (sender promised)) }
    where
      sender : Promised ours m start air → out ≡ m.text
      sender promised = ap (λ texts. get_or texts 0 []) (sym handed) ∙ promised.senders 0 (rw handed (omega arith))

  -- the fragments arrive whole, the last so many times again, and nothing is handed out
  silent : (again : ℕ) → held m start air ≡ set (replicate 7 true) premise false → texts_out ours m start air ≡ []
      → from_first (places air) ≡ up_from 0 (length (fragments m)) ++ replicate again (length (fragments m) - 1)
      → Needed premise m start air []
  silent again alone handed whole =
      record { alone = alone; handed = handed; fails = λ promised. none (promised.exactly.1 (again, whole)) }
    where
      none : 1 ≤ length (texts_out ours m start air) → ⊥
      none some =
          let empty : length (texts_out ours m start air) ≡ 0 = ap length handed in
          absurd (omega (arith, some, empty))

-- all five fragments in their order
abbrev in_turn : List Arrival
in_turn = copy 0 ∷ copy 1 ∷ copy 2 ∷ copy 3 ∷ copy 4 ∷ []

-- cuts: ETX in the text is read as fill
pub cuts_etx : Needed 0 (saying 7 5 2 (bytes_of "TAKE" ++ 0x03 ∷ bytes_of "28 CABLES")) free in_turn (bytes_of "TAKE28 CABLES" ∷ [])
unfolding held
cuts_etx = misread 4 refl refl refl

-- cuts: with a character of eight bits the sum does not fit, 16
pub cuts_high : Needed 0 (saying 7 5 2 (0x80 ∷ [])) free (copy 0 ∷ []) []
unfolding held
cuts_high = silent 0 refl refl refl

-- cuts: of address number 32 each fragment is refused, 8
pub cuts_address : Needed 0 (saying 32 5 2 (bytes_of "TAKE 28 CABLES")) free in_turn []
unfolding held
cuts_address = silent 0 refl refl refl

-- cuts: N of 64 is read as 0, and the text is handed out for that
pub cuts_number : Needed 0 (saying 7 64 2 (bytes_of "TAKE 28 CABLES")) free in_turn []
unfolding held
cuts_number = silent 0 refl refl refl

-- cuts: fragments of one word are none, and where nothing comes, all of them came
pub cuts_one_word : Needed 0 (saying 7 5 1 (bytes_of "TAKE 28 CABLES")) free [] []
unfolding held
cuts_one_word = silent 0 refl refl refl

-- cuts: a fragment of 86 words is refused, 9
pub cuts_large : Needed 0 (saying 7 5 86 (replicate 254 65)) free (copy 0 ∷ []) []
unfolding held
cuts_large = silent 0 refl refl refl

-- cuts: of 1,009 characters the last fragment is refused, 15
pub cuts_long : Needed 0 (saying 7 5 85 (replicate 1009 65)) free in_turn []
unfolding held
cuts_long = silent 0 refl refl refl

-- copies: one of a place past the last, where no words are
abbrev past_last : List Arrival
past_last = in_turn ++ copy 5 ∷ []

-- after the last place comes that place again or nothing
after_last : (again : ℕ) → get_or (up_from 0 5 ++ replicate again 4) 5 4 ≡ 4
unfolding up_from
after_last zero = refl
after_last (suc again) = refl

-- with a copy of a place past the last the text is handed out, but what came is not the five fragments and the last again
pub copies_past : Needed 1 line free past_last (bytes_of "TAKE 28 CABLES" ∷ [])
unfolding held
copies_past = record { alone = refl; handed = refl; fails = λ promised. not_whole (promised.exactly.0 (omega arith)) }
  where
    not_whole : ArrivesWhole 5 (places past_last) → ⊥
    not_whole (again, e) = eqb-false 5 4 refl (ap (λ row. get_or row 5 4) e ∙ after_last again)

-- in_order: the three whose sum is 0 come again, each with the next F, and a longer text is handed out
pub order_needed : Needed 2 line free (copy 0 ∷ copy 1 ∷ copy 2 ∷ copy 3 ∷ copy 1 ∷ copy 2 ∷ copy 3 ∷ copy 4 ∷ []) (bytes_of "TAKE 28 CABKE 28 CABLES" ∷ [])
unfolding held
order_needed = misread 11 refl refl refl

-- few_lost: the same three are lost, the last has the next F, and a shorter text is handed out
pub few_needed : Needed 3 line free (copy 0 ∷ copy 4 ∷ []) (bytes_of "TALES" ∷ [])
unfolding held
few_needed = misread 2 refl refl refl

-- ready: another key's chain awaits an F of 3, and each fragment is refused, 2
pub ready_sound : Needed 4 line (record { chains = opened 3 5 3 9 4 ∷ blank ∷ []; bytes = replicate 2016 0 }) in_turn []
unfolding held
ready_sound = silent 0 refl refl refl

-- ready: a byte too few is lent, 1
pub ready_room : Needed 4 line (record { chains = fresh 1; bytes = replicate 1007 0 }) in_turn []
unfolding held
ready_room = silent 0 refl refl refl

-- closed: of an older text, "MAKE 28 CABLES", the first fragment came: S is 13, and 13, 77 and 65 make 155, of which
-- 27 is left. The first of this one is lost, and the later ones complete the older
pub closed_needed : Needed 5 line
    (record { chains = opened 7 5 0 27 2 ∷ []; bytes = bytes_of "MA" ++ replicate 1006 0 })
    (copy 1 ∷ copy 2 ∷ copy 3 ∷ copy 4 ∷ []) (bytes_of "MAKE 28 CABLES" ∷ [])
unfolding held
closed_needed = misread 0 refl refl refl

-- quiet: "TAKE 82 CABLES" comes with the same N, and of it the third fragment alone, in place of this one's: 00AC00,
-- then "8", "2" and " ", the groups ACH, and 38H, 19H, 08H make 261; K is 762, 2FAH
pub quiet_alone : Needed 6 line free (copy 0 ∷ copy 1 ∷ other (came 7 (0x00AEFA ∷ 0x081938 ∷ [])) ∷ copy 3 ∷ copy 4 ∷ []) (bytes_of "TAKE 82 CABLES" ∷ [])
unfolding held
quiet_alone = misread 5 refl refl refl

-- quiet: the chain is dropped in between
pub quiet_undropped : Needed 6 line free (copy 0 ∷ copy 1 ∷ other (dropped 7 5) ∷ copy 2 ∷ copy 3 ∷ copy 4 ∷ []) []
unfolding held
quiet_undropped = silent 0 refl refl refl

-- quiet: the first fragment finds no slot, 12, and the later ones no chain, 13
pub quiet_slot : Needed 6 line (record { chains = opened 3 5 2 9 4 ∷ []; bytes = replicate 1008 0 }) in_turn []
unfolding held
quiet_slot = silent 0 refl refl refl

-- ---- state and buffer come back untouched, and no one resets

-- the state after the first two fragments, and those that follow
abbrev midway : State
midway = after_all free (map (event_of line) (copy 0 ∷ copy 1 ∷ []))

abbrev onward : List Arrival
onward = copy 2 ∷ copy 3 ∷ copy 4 ∷ []

-- with that state the text is handed out
pub untouched : texts_out ours line midway onward ≡ bytes_of "TAKE 28 CABLES" ∷ []
unfolding held after_all
untouched = refl

-- with one byte of the buffer changed another text is handed out
pub touched : texts_out ours line (record { chains = midway.chains; bytes = set midway.bytes 0 77 }) onward ≡ bytes_of "MAKE 28 CABLES" ∷ []
unfolding held after_all
touched = refl

-- with fresh records no text is handed out
pub reset : texts_out ours line free onward ≡ []
unfolding held
reset = refl
