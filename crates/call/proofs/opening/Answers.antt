-- The lines of the answer to an address packet, as the code asks them: what is told, and what the records are then.
use Prim.Native.Nat.{ℕ}
use mathlib.Core.Bool.{Bool, true, false, not}
use mathlib.Core.Path.{◌≡◌, refl, sym, ap, ◌∙◌}
use borrow.Author.Tests.{eq-eqb, ne_eqb}
use lib.Dec.{leb, eqb}
use lib.ListN.{length}
use Rattle.std.specs.Prelude.{Result, Ok, Err}
use Rattle.laws.specs.Choice.{pick}
use Rattle.refusal.specs.declared.Refusal.{Refusal}
use Rattle.refusal.specs.declared.Refusal.TheVariants as refusals
use Rattle.refusal.specs.Told.{Told, given, refused, ask, number_told, value_told}
use Rattle.packet.specs.declared.heard.Address.{Address}
use Rattle.packet.specs.Heard.{address_right, address_numbered}
use Rattle.packet.specs.Reading.{read_by, unless}
use Rattle.call.specs.declared.Calls.{Calls}
use Rattle.call.specs.Calls.{opens, holds, sound}
use Rattle.call.specs.Steps.{call_of, added}
use Rattle.call.specs.Answers.{address_in, telling, opening_of, open_of, opened_in}
use Rattle.call.specs.OpeningPieces.{opening_calls, address_result}

-- ---- an address that is to open a call

module _ (s : Calls) (a : Address) where
  -- a call is told to be opened exactly if nothing is refused
  opened_not_refused : eqb (value_told (opening_of s a) 0) 1 ≡ eqb (number_told (opening_of s a)) 0
  opened_not_refused = by_questions (holds a.phase a.vector (opens s)) (leb (length s.calls) (length (opens s)))
    where
      by_questions : (again full : Bool)
          → let t = ask again refusals.OutOfTurn (ask full refusals.Full (given (telling 1 (length (opens s)) a))) in eqb (value_told t 0) 1
          ≡ eqb (number_told t) 0
      by_questions true full = refl
      by_questions false true = refl
      by_questions false false = refl

-- ---- an address packet

-- what is told after a packet that was read, or its own refusal
abbrev pub told_then : (Address → Told) → Result Address Refusal → Told
told_then then (Ok a) = then a
told_then then (Err r) = refused r

-- what was read of a packet
abbrev read_or : Address → Result Address Refusal → Address
read_or a (Ok b) = b
read_or a (Err r) = a

-- a packet that is not refused says what its table says
pub read_is : (n : ℕ) (a : Address) → address_result n ≡ Ok a → a ≡ address_in n
read_is n a is = sym (ap (read_or (address_in n)) is) ∙ by_questions (address_right n) (address_numbered n)
  where
    by_questions : (right numbered : Bool)
        → read_or (address_in n) (read_by (pick right (unless refusals.Address numbered) (Err refusals.Packet)) (address_in n)) ≡ address_in n
    by_questions true true = refl
    by_questions true false = refl
    by_questions false numbered = refl

module _ (s : Calls) (n : ℕ) where
  -- the records then are known by what is told
  pub calls_so : (t : Told) → open_of s n ≡ t → pick (eqb (value_told t 0) 1) (added s (call_of (address_in n))) s ≡ opened_in s n
  unfolding opened_in
  calls_so t is = rw is

  -- 2: the records are not sound
  pub unsound : sound (opens s) ≡ false → open_of s n ≡ refused refusals.State
  unfolding open_of
  unsound bad = rw bad

  module _ (right : sound (opens s) ≡ true) where
    -- where the records are sound, what is read decides
    pub by_read : open_of s n ≡ told_then (λ a. pick (eqb a.tone_only 1) (given (telling 0 0 a)) (opening_of s a)) (address_result n)
    unfolding open_of
    by_read = rw right (by_questions (address_right n) (address_numbered n))
      where
        by_questions : (good numbered : Bool)
            → ask (not good) refusals.Packet
            (ask (not numbered) refusals.Address
            (pick (eqb (address_in n).tone_only 1) (given (telling 0 0 (address_in n))) (opening_of s (address_in n))))
            ≡ told_then (λ a. pick (eqb a.tone_only 1) (given (telling 0 0 a)) (opening_of s a))
            (read_by (pick good (unless refusals.Address numbered) (Err refusals.Packet)) (address_in n))
        by_questions true true = refl
        by_questions true false = refl
        by_questions false numbered = refl

    -- 7, 8: the packet's own refusals
    pub no_address : (r : Refusal) → address_result n ≡ Err r → open_of s n ≡ refused r
    no_address r is = by_read ∙ rw is

    module _ (a : Address) (is : address_result n ≡ Ok a) where
      -- a tone-only address opens no call
      pub tone-only : a.tone_only ≡ 1 → open_of s n ≡ given (telling 0 0 a)
      tone-only tone = by_read ∙ rw (is, eq-eqb a.tone_only 1 tone)

      -- any other address is to open one
      pub goes_on : (a.tone_only ≡ 1 → ⊥) → open_of s n ≡ opening_of s a
      goes_on speaks = by_read ∙ rw (is, ne_eqb a.tone_only 1 speaks)

      -- the records then
      pub goes_on_calls : (a.tone_only ≡ 1 → ⊥) → opening_calls s a ≡ opened_in s n
      goes_on_calls speaks =
          ap (λ (opened : Bool). pick opened (added s (call_of a)) s) (sym (opened_not_refused s a))
          ∙ ap (λ (b : Address). pick (eqb (value_told (opening_of s a) 0) 1) (added s (call_of b)) s) (read_is n a is)
          ∙ calls_so (opening_of s a) (goes_on speaks)
