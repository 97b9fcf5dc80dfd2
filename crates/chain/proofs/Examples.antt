-- Worked examples: a text of three fragments joined, what is refused, and what each premise of the laws is for. All
-- worked by hand from Tables 44, 45 and 60 and from 01.
use Prim.Native.Nat.{ℕ}
use mathlib.Core.Bool.{true, false}
use mathlib.Core.List.{List, [], ◌∷◌, ◌++◌, map}
use mathlib.Core.Path.{◌≡◌, refl}
use native.Mathlib.Omega.{arith}
use lib.ListN.{length, get_or, take, drop, set, replicate}
use Rattle.laws.specs.Lists.{first_that, all, sum_by}
use Rattle.laws.specs.Numerals.{digits}
use Rattle.laws.specs.Texts.{bytes_of}
use Rattle.refusal.specs.declared.Refusal.TheVariants.{OutOfTurn}
use Rattle.refusal.specs.Told.{Told, told, given, number_told}
use Rattle.fragment.specs.Fragments.{cells_of, without_fill, text_in}
use Rattle.fragment.specs.Answers.{heading_of}
use Rattle.chain.specs.declared.Chain.{Chain}
use Rattle.chain.specs.Chains.{blank, is_of, find, holds, sound, fresh}
use Rattle.chain.specs.Steps.{heading_in, lost, fate, slot_for, chain_before, row_after, end_place}
use Rattle.chain.specs.Answers.{step_of, chains_after, buffer_after, drop_of, dropped_from, as_answer}
use Rattle.chain.specs.Runs.{Event, came, dropped, State, answers, after_all, text_at}
use Rattle.chain.proofs.Texts.{other_text, handed_out}

-- an open chain: its key, the next F, the sum and the length of what came
abbrev pub opened : ℕ → ℕ → ℕ → ℕ → ℕ → Chain
opened address n next sum characters =
    record { is_open = 1; address = address; message_number = n; next_fragment = next; sum = sum; characters = characters }

-- ---- fragments

-- "HELLO ME", N 5, in fragments of two words: 72, 69, 76, 76, 79, 32, 77 and 69 make 550, whose low seven bits are 38, so that S is 89.
-- The first has F 3 and C 1: 00BC00, then 89, "H" and "E", 59H, 72 at i7 and 69 at i14, 116459. The groups BCH, and
-- 59H, 64H, 11H make 394; 1023 - 394 is 629, 275H
abbrev pub one : List ℕ
one = 0x00BE75 ∷ 0x116459 ∷ []

-- the second has F 0 and C 1: 00A400, then "L", "L" and "O", 13E64C. The groups A4H, and 4CH, E6H, 13H make 489; 1023 - 489 is 534, 216H
abbrev pub two : List ℕ
two = 0x00A616 ∷ 0x13E64C ∷ []

-- the third has F 1 and C 0: 00A800, then " ", "M" and "E", 20H, 77 at i7 and 69 at i14, 1166A0. The groups A8H, and
-- A0H, 66H, 11H make 447; 1023 - 447 is 576, 240H
abbrev pub three : List ℕ
three = 0x00AA40 ∷ 0x1166A0 ∷ []

-- the sums of the three: 89, 72 and 69 make 230, of which 102 is left; 76, 76 and 79 make 231, of which 103 is left; 32,
-- 77 and 69 make 178, of which 50 is left
pub told_of_three : map heading_of (one ∷ two ∷ three ∷ [])
    ≡ given (1 ∷ 3 ∷ 5 ∷ 0 ∷ 0 ∷ 89 ∷ 102 ∷ 2 ∷ []) ∷ given (1 ∷ 0 ∷ 5 ∷ 0 ∷ 0 ∷ 0 ∷ 103 ∷ 3 ∷ []) ∷ given (0 ∷ 1 ∷ 5 ∷ 0 ∷ 0 ∷ 0 ∷ 50 ∷ 3 ∷ []) ∷ []
unfolding heading_of cells_of without_fill digits sum_by all
told_of_three = refl

-- "HI", N 5, a first fragment and the only one: 00B800, then 110, which is S, 72 and 73, 12646E. The groups B8H, and
-- 6EH, 64H, 12H make 412; 1023 - 412 is 611, 263H
abbrev pub hi : List ℕ
hi = 0x00BA63 ∷ 0x12646E ∷ []

-- the same with S one more, 111, and K one less: 111, 72 and 73 make 256, of which 0 is left
abbrev pub unsigned : List ℕ
unsigned = 0x00BA62 ∷ 0x12646F ∷ []

-- ---- a text joined

-- two slots, of which the first is another key's, and their bytes
abbrev begun : State
begun = record { chains = opened 3 5 2 9 4 ∷ blank ∷ []; bytes = replicate 2016 0 }

-- the three fragments for address number 7
abbrev joining : List Event
joining = came 7 one ∷ came 7 two ∷ came 7 three ∷ []

-- the answers to the three: the first is begun, R and M are 0; the last hands out slot 1, from byte 1,008 on, 8 characters
pub joined_told : answers begun joining ≡ given (0 ∷ 1 ∷ 0 ∷ 0 ∷ []) ∷ given (0 ∷ 0 ∷ 0 ∷ 0 ∷ []) ∷ given (0 ∷ 0 ∷ 0 ∷ 0 ∷ 1 ∷ 1 ∷ 1008 ∷ 8 ∷ []) ∷ []
unfolding answers step_of chains_after buffer_after sound fate cells_of without_fill digits sum_by all first_that
joined_told = refl

-- the records after one, two and three of them: 102 and 103 make 205, of which 77 is left; 77 and 50 make 127
pub joined_records : map (λ events. (after_all begun events).chains) (take 1 joining ∷ take 2 joining ∷ joining ∷ [])
    ≡ (opened 3 5 2 9 4 ∷ opened 7 5 0 102 2 ∷ []) ∷ (opened 3 5 2 9 4 ∷ opened 7 5 1 77 5 ∷ []) ∷ (opened 3 5 2 9 4 ∷ blank ∷ []) ∷ []
unfolding after_all step_of chains_after buffer_after sound fate cells_of without_fill digits sum_by all first_that
joined_records = refl

-- the text at the place that is told
pub joined_text : take 8 (drop 1008 (after_all begun joining).bytes) ≡ bytes_of "HELLO ME"
unfolding after_all step_of chains_after buffer_after sound fate cells_of without_fill digits sum_by all first_that
joined_text = refl

-- a page of one fragment: begun and handed out at once
pub single : step_of 1008 (fresh 1) 7 hi ≡ given (0 ∷ 1 ∷ 0 ∷ 0 ∷ 1 ∷ 0 ∷ 0 ∷ 2 ∷ [])
unfolding step_of sound fate cells_of without_fill digits sum_by all first_that
single = refl

-- a page of one fragment leaves no open chain
pub single_closed : chains_after 1008 (fresh 1) 7 hi ≡ fresh 1
unfolding chains_after sound fate cells_of without_fill digits sum_by all first_that
single_closed = refl

-- ---- an older chain

-- three slots: another key's chain, a free one, and a chain of address number 7 and N 5
abbrev older : List Chain
older = opened 3 5 2 9 4 ∷ blank ∷ opened 7 5 1 77 5 ∷ []

-- a newer first fragment closes the older chain of its key, which is told as 1
pub newer_told : step_of 3024 older 7 one ≡ given (1 ∷ 1 ∷ 0 ∷ 0 ∷ [])
unfolding step_of sound fate cells_of without_fill digits sum_by all first_that
newer_told = refl

-- the newer first fragment takes the lowest free slot
pub newer_records : chains_after 3024 older 7 one ≡ opened 3 5 2 9 4 ∷ opened 7 5 0 102 2 ∷ blank ∷ []
unfolding chains_after sound fate cells_of without_fill digits sum_by all first_that
newer_records = refl

-- with no other slot free it takes the older one's, and writes over its text
pub newer_in_place : chains_after 2016 (opened 3 5 2 9 4 ∷ opened 7 5 1 77 5 ∷ []) 7 one ≡ opened 3 5 2 9 4 ∷ opened 7 5 0 102 2 ∷ []
unfolding chains_after sound fate cells_of without_fill digits sum_by all first_that
newer_in_place = refl

-- the text of the older one is lost then: a chain's text stays only where another key's fragment comes
pub older_overwritten : take 5 (buffer_after (opened 7 5 1 77 5 ∷ []) 7 one (bytes_of "abcde" ++ replicate 1003 0)) ≡ bytes_of "HEcde"
unfolding buffer_after step_of sound fate cells_of without_fill digits sum_by all first_that
older_overwritten = refl

-- ---- what is refused

-- a chain that awaits the third fragment, with so many characters
abbrev long : ℕ → List Chain
long characters = opened 7 5 1 77 characters ∷ []

-- a slot that is closed and not all zero
abbrev shut : ℕ → ℕ → ℕ → ℕ → ℕ → Chain
shut address n next sum characters =
    record { is_open = 0; address = address; message_number = n; next_fragment = next; sum = sum; characters = characters }

-- eight open chains but for the last
abbrev eight : Chain → List Chain
eight last = opened 0 5 0 0 0 ∷ opened 1 5 0 0 0 ∷ opened 2 5 0 0 0 ∷ opened 3 5 0 0 0 ∷ opened 4 5 0 0 0 ∷ opened 5 5 0 0 0 ∷ opened 6 5 0 0 0 ∷ last ∷ []

-- fragments, each with 01's number
unfoldable pub steps : List (Told × ℕ)
steps =
    (step_of 1008 (fresh 1) 0 one, 0)
    ∷ (step_of 1008 (fresh 1) 31 one, 0)
    ∷ (step_of 8064 (eight blank) 7 one, 0)
    -- a byte too few for one slot, and for eight
    ∷ (step_of 1007 (fresh 1) 7 one, 1)
    ∷ (step_of 8063 (eight blank) 7 one, 1)
    -- an open chain at its limits, and over each: address, N, next F, sum, length
    ∷ (step_of 2016 (opened 31 63 2 127 1008 ∷ blank ∷ []) 7 one, 0)
    ∷ (step_of 2016 (opened 32 5 0 0 0 ∷ blank ∷ []) 7 one, 2)
    ∷ (step_of 2016 (opened 3 64 0 0 0 ∷ blank ∷ []) 7 one, 2)
    ∷ (step_of 2016 (opened 3 5 3 0 0 ∷ blank ∷ []) 7 one, 2)
    ∷ (step_of 2016 (opened 3 5 0 128 0 ∷ blank ∷ []) 7 one, 2)
    ∷ (step_of 2016 (opened 3 5 0 0 1009 ∷ blank ∷ []) 7 one, 2)
    -- a closed slot's record not all zero, each of its numbers
    ∷ (step_of 1008 (shut 1 0 0 0 0 ∷ []) 7 one, 2)
    ∷ (step_of 1008 (shut 0 1 0 0 0 ∷ []) 7 one, 2)
    ∷ (step_of 1008 (shut 0 0 1 0 0 ∷ []) 7 one, 2)
    ∷ (step_of 1008 (shut 0 0 0 1 0 ∷ []) 7 one, 2)
    ∷ (step_of 1008 (shut 0 0 0 0 1 ∷ []) 7 one, 2)
    -- two open chains of one key, next to each other and not; of one address alone, and of one N alone, they may be
    ∷ (step_of 2016 (opened 3 5 0 0 0 ∷ opened 3 5 1 1 1 ∷ []) 7 one, 2)
    ∷ (step_of 3024 (opened 3 5 0 0 0 ∷ blank ∷ opened 3 5 1 1 1 ∷ []) 7 one, 2)
    ∷ (step_of 3024 (opened 3 5 0 0 0 ∷ opened 3 6 0 0 0 ∷ blank ∷ []) 7 one, 0)
    ∷ (step_of 3024 (opened 3 5 0 0 0 ∷ opened 4 5 0 0 0 ∷ blank ∷ []) 7 one, 0)
    -- any number but 0 is open
    ∷ (step_of 1008 (record { is_open = 2; address = 7; message_number = 5; next_fragment = 1; sum = 77; characters = 5 } ∷ []) 7 three, 0)
    -- address number 32
    ∷ (step_of 1008 (fresh 1) 32 one, 8)
    -- no word, one, and 86
    ∷ (step_of 1008 (fresh 1) 7 [], 9)
    ∷ (step_of 1008 (fresh 1) 7 (0x00BE75 ∷ []), 9)
    ∷ (step_of 1008 (fresh 1) 7 (replicate 86 0), 9)
    -- a word of 22 bits, and another K
    ∷ (step_of 1008 (fresh 1) 7 (0x20BE75 ∷ 0x116459 ∷ []), 10)
    ∷ (step_of 1008 (fresh 1) 7 (0x00BE74 ∷ 0x116459 ∷ []), 11)
    -- a later fragment of a key that is not open: none is, another address's is, another N's is
    ∷ (step_of 1008 (fresh 1) 7 two, 13)
    ∷ (step_of 1008 (opened 8 5 0 102 2 ∷ []) 7 two, 13)
    ∷ (step_of 1008 (opened 7 6 0 102 2 ∷ []) 7 two, 13)
    -- the next F; the last F again; one left out
    ∷ (step_of 1008 (opened 7 5 0 102 2 ∷ []) 7 two, 0)
    ∷ (step_of 1008 (opened 7 5 1 77 5 ∷ []) 7 two, 14)
    ∷ (step_of 1008 (opened 7 5 0 102 2 ∷ []) 7 three, 14)
    ∷ (step_of 1008 (opened 7 5 2 77 5 ∷ []) 7 three, 14)
    -- 1,005 and 3 characters are 1,008; one more is too long, also where more follows
    ∷ (step_of 1008 (long 1005) 7 three, 0)
    ∷ (step_of 1008 (long 1006) 7 three, 15)
    ∷ (step_of 1008 (long 1008) 7 three, 15)
    ∷ (step_of 1008 (opened 7 5 0 102 1005 ∷ []) 7 two, 0)
    ∷ (step_of 1008 (opened 7 5 0 102 1006 ∷ []) 7 two, 15)
    -- the total of a last fragment: 76 and 50 make 126; of one that is the only one; where more follows it is not asked
    ∷ (step_of 1008 (opened 7 5 1 76 5 ∷ []) 7 three, 16)
    ∷ (step_of 1008 (fresh 1) 7 unsigned, 16)
    ∷ (step_of 1008 (opened 7 5 0 0 2 ∷ []) 7 two, 0)
    -- no slot free, of one and of eight; the older chain's slot is free; a later fragment needs none
    ∷ (step_of 1008 (opened 3 5 0 0 0 ∷ []) 7 one, 12)
    ∷ (step_of 1008 (opened 3 5 0 0 0 ∷ []) 7 hi, 12)
    ∷ (step_of 8064 (eight (opened 7 6 0 0 0)) 7 one, 12)
    ∷ (step_of 8064 (eight (opened 7 5 0 0 0)) 7 one, 0)
    ∷ (step_of 8064 (eight (opened 7 5 0 0 0)) 7 two, 0)
    ∷ (step_of 0 [] 7 one, 12)
    -- the first question that refuses decides: 1, 2, 8, 9, 10, 11, 13, 14, 15, 16, 12
    ∷ (step_of 1007 (opened 32 5 0 0 0 ∷ []) 32 (0x20BE74 ∷ []), 1)
    ∷ (step_of 1008 (opened 32 5 0 0 0 ∷ []) 32 (0x20BE74 ∷ []), 2)
    ∷ (step_of 1008 (fresh 1) 32 (0x20BE74 ∷ []), 8)
    ∷ (step_of 1008 (fresh 1) 7 (0x20BE74 ∷ []), 9)
    ∷ (step_of 1008 (fresh 1) 7 (0x20A617 ∷ 0x13E64C ∷ []), 10)
    ∷ (step_of 1008 (fresh 1) 7 (0x00A617 ∷ 0x13E64C ∷ []), 11)
    ∷ (step_of 1008 (opened 8 5 1 76 1006 ∷ []) 7 three, 13)
    ∷ (step_of 1008 (opened 7 5 0 76 1006 ∷ []) 7 three, 14)
    ∷ (step_of 1008 (opened 7 5 1 76 1006 ∷ []) 7 three, 15)
    ∷ (step_of 1008 (opened 3 5 0 0 0 ∷ []) 7 unsigned, 16)
    ∷ (step_of 1008 (opened 3 5 0 0 0 ∷ []) 7 hi, 12)
    ∷ []

-- the step gives these answers
pub step_examples : map {A = Told × ℕ} {B = ℕ} (λ row. number_told row.0) steps ≡ map {A = Told × ℕ} {B = ℕ} (λ row. row.1) steps
unfolding steps step_of sound fate cells_of without_fill digits sum_by all first_that
step_examples = refl

-- with 14, 15 and 16 the chain is closed as lost, which is told; of a first fragment the older one, if there was one
unfoldable pub losses : List (Told × Told)
losses =
    (step_of 1008 (opened 7 5 0 102 2 ∷ []) 7 three, told 14 (1 ∷ []))
    ∷ (step_of 1008 (long 1006) 7 three, told 15 (1 ∷ []))
    ∷ (step_of 1008 (opened 7 5 1 76 5 ∷ []) 7 three, told 16 (1 ∷ []))
    ∷ (step_of 1008 (opened 7 5 1 76 5 ∷ []) 7 unsigned, told 16 (1 ∷ []))
    ∷ (step_of 1008 (fresh 1) 7 unsigned, told 16 (0 ∷ []))
    ∷ []

-- the step gives these answers
pub loss_examples : map {A = Told × Told} {B = Told} (λ row. row.0) losses ≡ map {A = Told × Told} {B = Told} (λ row. row.1) losses
unfolding losses step_of sound fate cells_of without_fill digits sum_by all first_that
loss_examples = refl

-- the record of a chain that is lost is all zero
pub lost_records :
    chains_after 1008 (opened 7 5 0 102 2 ∷ []) 7 three ∷ chains_after 1008 (long 1006) 7 three
    ∷ chains_after 1008 (opened 7 5 1 76 5 ∷ []) 7 three ∷ chains_after 1008 (opened 7 5 1 76 5 ∷ []) 7 unsigned ∷ []
    ≡ fresh 1 ∷ fresh 1 ∷ fresh 1 ∷ fresh 1 ∷ []
unfolding chains_after sound fate cells_of without_fill digits sum_by all first_that
lost_records = refl

-- any other refusal leaves the records, here 11 and 12
pub refused_records : chains_after 1008 (opened 7 5 0 102 2 ∷ []) 7 (0x00A617 ∷ 0x13E64C ∷ []) ∷ chains_after 1008 (opened 3 5 0 102 2 ∷ []) 7 one ∷ []
    ≡ (opened 7 5 0 102 2 ∷ []) ∷ (opened 3 5 0 102 2 ∷ []) ∷ []
unfolding chains_after sound fate cells_of without_fill digits sum_by all first_that
refused_records = refl

-- each refusal leaves the lent bytes, here 16
pub refused_bytes : buffer_after (opened 7 5 1 76 5 ∷ []) 7 three (bytes_of "HELLO" ++ replicate 1003 0) ≡ bytes_of "HELLO" ++ replicate 1003 0
unfolding buffer_after step_of sound fate cells_of without_fill digits sum_by all first_that
refused_bytes = refl

-- drops, each with 01's number: 2, 7, 8, 13, and the first that refuses decides
unfoldable pub drops : List (Told × ℕ)
drops =
    (drop_of (opened 7 5 0 102 2 ∷ []) 7 5, 0)
    ∷ (drop_of (opened 31 63 0 102 2 ∷ []) 31 63, 0)
    ∷ (drop_of (opened 7 5 3 102 2 ∷ []) 7 5, 2)
    ∷ (drop_of (opened 7 5 0 102 2 ∷ []) 7 64, 7)
    ∷ (drop_of (opened 7 5 0 102 2 ∷ []) 32 5, 8)
    ∷ (drop_of (opened 7 5 0 102 2 ∷ []) 7 6, 13)
    ∷ (drop_of (opened 7 5 0 102 2 ∷ []) 8 5, 13)
    -- a closed slot has no key, also where all is 0
    ∷ (drop_of (fresh 1) 0 0, 13)
    ∷ (drop_of (opened 7 5 3 102 2 ∷ []) 32 64, 2)
    ∷ (drop_of (opened 7 5 0 102 2 ∷ []) 32 64, 7)
    ∷ (drop_of (opened 7 5 0 102 2 ∷ []) 32 63, 8)
    ∷ []

-- the drop gives these answers
pub drop_examples : map {A = Told × ℕ} {B = ℕ} (λ row. number_told row.0) drops ≡ map {A = Told × ℕ} {B = ℕ} (λ row. row.1) drops
unfolding drops drop_of sound first_that
drop_examples = refl

-- a drop closes its slot alone
pub drop_records : dropped_from older 7 5 ≡ opened 3 5 2 9 4 ∷ blank ∷ blank ∷ []
unfolding drop_of sound first_that
drop_records = refl

-- a refused drop changes no record
pub drop_refused_records : dropped_from older 7 6 ≡ older
unfolding drop_of sound first_that
drop_refused_records = refl

-- ---- what each premise of the laws is for

-- two open chains of one key
abbrev twice : List Chain
twice = opened 7 5 0 102 2 ∷ opened 7 5 1 77 5 ∷ []

-- of the two the lower is found, though the other is the key's too
pub found_lower : (find 7 5 twice ≡ 0) × (is_of 7 5 (get_or twice 1 blank) ≡ true)
unfolding first_that
found_lower = (refl, refl)

-- with the lower one closed the key is still open
pub still_open : holds 7 5 (set twice (find 7 5 twice) blank) ≡ true
unfolding first_that
still_open = refl

-- a first fragment would leave two again
pub two_again : row_after twice 7 (heading_in one) ≡ twice
unfolding fate cells_of without_fill digits sum_by first_that
two_again = refl

-- every fragment and every drop is refused, so that a row that is not sound stays as it is
pub unsound_stays : (after_all (record { chains = twice; bytes = replicate 2016 0 }) (came 7 one ∷ dropped 7 5 ∷ came 7 three ∷ [])).chains ≡ twice
unfolding after_all step_of drop_of chains_after buffer_after sound fate cells_of without_fill digits sum_by all first_that
unsound_stays = refl

-- a closed slot that is not all zero: a page of one fragment would change it, though no chain of its key was open
pub zero_needed : row_after (shut 0 0 0 1 0 ∷ []) 7 (heading_in hi) ≡ fresh 1
unfolding fate cells_of without_fill digits sum_by first_that
zero_needed = refl

-- an address number over 31, and N over 63: the record would not be sound
pub limits_needed :
    sound (row_after (fresh 1) 32 (heading_in one)) ∷ sound (row_after (fresh 1) 7 (record {
      continued = 1;
      fragment_number = 3;
      message_number = 64;
      retrieval = 0;
      mail_drop = 0;
      signature = 0;
      sum = 0;
      characters = 0;
    })) ∷ []
    ≡ false ∷ false ∷ []
unfolding sound fate cells_of without_fill digits sum_by first_that
limits_needed = refl

-- a later fragment with no chain of its key: there is none that it could go on with
pub chain_needed : chain_before (fresh 1) 7 (heading_in two) ≡ blank
unfolding first_that
chain_needed = refl

-- a second chain of a key put into a free slot: the row is not sound
pub alone_needed : sound (set (opened 7 5 0 102 2 ∷ blank ∷ []) 1 (opened 7 5 1 77 5)) ≡ false
unfolding sound first_that
alone_needed = refl

-- a fragment that is not accepted: its text would end past its slot, 1,006 and 3, or there is no slot for it
pub accepted_needed : (end_place (long 1006) 7 (heading_in three) ≡ 1006) × (length (text_in three) ≡ 3) × (slot_for (opened 3 5 0 0 0 ∷ []) 7 (heading_in one) ≡ 1)
unfolding cells_of without_fill digits first_that
accepted_needed = (refl, refl, refl)

-- a fragment out of its turn is not told as too long, though it is
pub turn_needed : fate (opened 7 5 0 102 1006) (heading_in three) ≡ lost OutOfTurn
unfolding fate cells_of without_fill digits sum_by
turn_needed = refl

-- where more follows no text is told: place and length are 0
pub whole_needed : as_answer (step_of 2016 (opened 3 5 0 0 0 ∷ blank ∷ []) 7 one)
    ≡ record { number = 0; lost = 0; begun = 1; retrieval = 0; mail_drop = 0; complete = 0; slot = 0; place = 0; characters = 0 }
unfolding step_of sound fate cells_of without_fill digits sum_by all first_that
whole_needed = refl

-- ---- the laws, whose premises hold here

-- the text of another key's chain stays where one is joined beside it
pub beside : text_at (buffer_after (opened 3 5 2 9 4 ∷ blank ∷ []) 7 one (bytes_of "PAGE" ++ replicate 2012 0)) 0 4 ≡ bytes_of "PAGE"
beside = other_text (opened 3 5 2 9 4 ∷ blank ∷ []) 7 one (bytes_of "PAGE" ++ replicate 2012 0) 3 5 0 (λ same. absurd (omega arith)) refl

-- the text that is handed out is what stood there and what came
pub handed : take 8 (buffer_after (opened 7 5 1 77 5 ∷ []) 7 three (bytes_of "HELLO" ++ replicate 1003 0)) ≡ bytes_of "HELLO ME"
unfolding step_of sound fate cells_of without_fill digits sum_by all first_that
handed = handed_out (opened 7 5 1 77 5 ∷ []) 7 three (bytes_of "HELLO" ++ replicate 1003 0) refl
