-- A message word at one call, as the code asks it.
use Prim.Native.Nat.{ℕ, ◌+◌, ◌*◌, ◌^◌, ◌≤◌, ◌<◌}
use mathlib.Core.Bool.{Bool, true, false, ◌||◌}
use mathlib.Core.List.{List, [], ◌∷◌}
use mathlib.Core.Path.{◌≡◌, refl}
use native.Mathlib.Omega.{arith}
use lib.ListN.{length}
use lib.Pow.{pow_mono}
use Rattle.laws.specs.Choice.{bit_of}
use Rattle.laws.specs.Lists.{any_of}
use Rattle.laws.proofs.Tests.{first_of}
use Rattle.refusal.specs.Told.{number_told}
use Rattle.packet.specs.declared.heard.Message.{Message}
use Rattle.call.specs.declared.Call.{Call}
use Rattle.call.specs.Words.{holds_word, lacks, is_held, is_lacked, completes, offered, given_to, finished}
use Rattle.call.specs.MemoryPieces.{asked}
use Rattle.call.proofs.MemoryLaws.{finished_small}

-- what holds of a row's first holds of the row, if it holds of the rest or of the first
lacked_or : (a b c d : Bool) → (a ≡ true → b ≡ true) → (c ≡ true → d ≡ true) → (a || c) ≡ true → (b || d) ≡ true
lacked_or true b c d first rest some = rw (first refl)
lacked_or false true c d first rest some = refl
lacked_or false false c d first rest some = rest some

-- a call that lacks a word holds it
lacks_holds : (c : Call) (m : Message) (memory : List ℕ) → lacks c m memory ≡ true → holds_word c m ≡ true
lacks_holds c m memory lacked = first_of (holds_word c m) _ lacked

-- a word that some call lacks is held
pub lacked_held : (row : List Call) (m : Message) (memory : List ℕ) → is_lacked row m memory ≡ true → is_held row m ≡ true
unfolding any_of
lacked_held [] m memory lacked = lacked
lacked_held (c ∷ row) m memory lacked =
    lacked_or (lacks c m memory) (holds_word c m) (is_lacked row m memory) (is_held row m) (lacks_holds c m memory) (lacked_held row m memory) lacked

module _ (row : List Call) (m : Message) (memory : List ℕ) where
  -- a word that some call lacks is not refused
  pub asked_lacked : is_lacked row m memory ≡ true → number_told (asked row m memory) ≡ 0
  asked_lacked lacked = rw (lacked_held row m memory lacked, lacked)

  -- 14: a word that all have that hold it
  pub asked_held : is_lacked row m memory ≡ false → is_held row m ≡ true → number_told (asked row m memory) ≡ 14
  asked_held had held = rw (held, had)

  -- 17: a word of no call
  pub asked_none : is_held row m ≡ false → number_told (asked row m memory) ≡ 17
  asked_none none = rw none

module _ (row : List Call) (m : Message) (memory : List ℕ) (c : Call) (rest : List Call) (is : row ≡ c ∷ rest) where
  -- a turn: the word is offered to the call before those that it was offered to
  pub given_turn : offered c m (given_to rest m memory) ≡ given_to row m memory
  unfolding given_to
  given_turn = rw is

  -- a turn: what the word completes is a bit below those of the later calls
  pub finished_turn : finished rest m memory * 2 + bit_of (completes c m (given_to rest m memory)) ≡ finished row m memory
  unfolding finished
  finished_turn = rw is (omega arith)

-- of eight calls it completes at most eight
pub finished_few : (row : List Call) (m : Message) (memory : List ℕ) → length row ≤ 8 → finished row m memory < 256
finished_few row m memory most =
    let small = finished_small m row memory in
    let bound : 2 ^ length row ≤ 2 ^ 8 = pow_mono {j = 8} (omega arith) in
    omega (arith, small, bound)
