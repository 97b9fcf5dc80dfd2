-- What is answered when a CAPCODE is printed, and what the buffer holds then.
use Prim.Native.Nat.{ℕ, ◌+◌, ◌≤◌, ◌<◌}
use mathlib.Core.Path.{◌≡◌, ap, sym}
use mathlib.Core.List.{List, [], ◌∷◌}
use native.Mathlib.Omega.{arith}
use lib.ListN.{length}
use borrow.Author.Tests.{lt-ltb, le-ltb}
use Rattle.laws.specs.Lists.{put}
use Rattle.refusal.specs.declared.Refusal.{Refusal}
use Rattle.refusal.specs.declared.Refusal.TheVariants.{Room}
use Rattle.refusal.specs.Told.{refused, given, number_told}
use Rattle.refusal.proofs.Laws.{number_positive, refusal_keeps}
use Rattle.capcode.specs.declared.Capcode.{Capcode}
use Rattle.capcode.specs.Assigned.{Fine}
use Rattle.capcode.specs.Text.{width_of, head_width, text_of}
use Rattle.capcode.proofs.Judging.{fine_asked, fine_collapse}
use Rattle.capcode.proofs.Writes.{length_text}
use Rattle.capcode.specs.Printed.{print_of, buffer_after}

-- a refusal leaves the buffer as it was
pub refused_keeps : (r : Refusal) (c : Capcode) (buffer : List ℕ) → refused r ≡ print_of c (length buffer) → buffer ≡ buffer_after c buffer
refused_keeps r c buffer e =
    let some : number_told (print_of c (length buffer)) ≡ 0 → ⊥ = λ none. omega (arith, number_positive r, ap number_told e) in
    sym (refusal_keeps (print_of c (length buffer)) buffer (text_of c) some)

-- what is not refused puts the text at its start
pub given_writes : (values : List ℕ) (c : Capcode) (buffer : List ℕ) → given values ≡ print_of c (length buffer)
    → put buffer 0 (text_of c) ≡ buffer_after c buffer
given_writes values c buffer e = rw (← e)

module _ (c : Capcode) (room : ℕ) (fine : Fine c) where
  -- the buffer is too short
  pub print_refused : room < head_width c + (1 + width_of c.address) → refused Room ≡ print_of c room
  print_refused short =
      let long : room < length (text_of c) = rw (length_text c (fine_collapse c fine)) short in
      rw (← fine_asked c _ fine, lt-ltb _ _ long)

  -- there is room
  pub print_given : head_width c + (1 + width_of c.address) ≤ room → given ((head_width c + (1 + width_of c.address)) ∷ []) ≡ print_of c room
  print_given enough =
      let fits : length (text_of c) ≤ room = rw (length_text c (fine_collapse c fine)) enough in
      rw (← fine_asked c _ fine, le-ltb _ _ fits, length_text c (fine_collapse c fine))
