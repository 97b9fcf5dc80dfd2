-- The steps of a run, one after the other: what portions read and write together.
use Rattle.std.proofs.Common.{◌≡◌, ℕ, ◌+◌, ◌-◌, ◌≤◌, ◌<◌, List, [], ◌∷◌, ◌++◌, length, take, drop, refl, sym, ap, ◌∙◌, arith, length-append, take-append-drop, append_assoc, append-nil, subst, Result, Ok, Err, OnOk}
use Rattle.std.proofs.lemmas.List.{take_rest}
use Rattle.std.specs.declared.option.Option.{Option}
use Rattle.std.specs.Io.KnownBytes.{Appends}
use Rattle.std.proofs.KnownBytes.{Appends-nil, Appends-trans, Consumes-nil, Consumes-trans}
use Rattle.lister.specs.Stands.{Stand, fresh}
use Rattle.lister.specs.Texts.{header}
use Rattle.lister.specs.Portions.{writes_all, next_all, closes}
use Rattle.lister.proofs.Laws.{portions_join, portions_list}
use Rattle.listing.specs.Runs.{Went, WentOn, Listed}

-- no byte leads nowhere
pub stands_none : (s : Stand) → s ≡ next_all s []
unfolding next_all
stands_none s = refl

-- and writes nothing
pub wrote_none : (s : Stand) (held : Option (List ℕ)) → Appends held held (writes_all s [])
unfolding writes_all
wrote_none s held = Appends-nil held

-- a portion of which the listing is written but for a rest
pub record Underway (held holds : Option (List ℕ)) (before now : Stand) (input rest : List ℕ) : Type 0 where
  pub written : List ℕ
  pub appends : Appends held holds written
  pub writes : writes_all before input ≡ written ++ writes_all now rest
  pub leads : next_all before input ≡ next_all now rest

-- nothing of it is written
pub underway_none : (held : Option (List ℕ)) (s : Stand) (input : List ℕ) → Underway held held s s input input
underway_none held s input = record { written = []; appends = Appends-nil held; writes = refl; leads = refl }

-- a part more of it is written
pub underway_more : (held between holds : Option (List ℕ)) (before now after : Stand) (input rest : List ℕ) (taken : ℕ)
    → Underway held between before now input rest
    → after ≡ next_all now (take taken rest) → Appends between holds (writes_all now (take taken rest))
    → Underway held holds before after input (take (length rest - taken) (drop taken rest))
underway_more held between holds before now after input rest taken so_far leads more =
    let part : List ℕ = take taken rest in
    let left : List ℕ = drop taken rest in
    let parts : rest ≡ part ++ left = sym (take-append-drop taken rest) in
    let joined = portions_join now part left in
    rw (take_rest rest taken) (record {
      written = so_far.written ++ writes_all now part;
      appends = Appends-trans held between holds _ _ so_far.appends more;
      writes = so_far.writes ∙ ap (λ (l : List ℕ). so_far.written ++ writes_all now l) parts
          ∙ ap (λ (l : List ℕ). so_far.written ++ l) (joined.0 ∙ ap (λ (s : Stand). writes_all now part ++ writes_all s left) (sym leads))
          ∙ sym (append_assoc so_far.written (writes_all now part) (writes_all after left));
      leads = so_far.leads ∙ ap (next_all now) parts ∙ joined.1 ∙ ap (λ (s : Stand). next_all s left) (sym leads);
    })

-- all of it is written
pub underway_end : (held holds : Option (List ℕ)) (before now : Stand) (input rest : List ℕ) → Underway held holds before now input rest → length rest ≡ 0
    → (now ≡ next_all before input) × Appends held holds (writes_all before input)
unfolding writes_all next_all
underway_end held holds before now input [] so_far none =
    let writes : writes_all before input ≡ so_far.written = rw append-nil at so_far.writes in
    (sym so_far.leads, rw writes so_far.appends)
underway_end held holds before now input (byte ∷ rest) so_far none = absurd (omega arith)

-- a run that has not begun
pub went_nowhere : (unread : Option (List ℕ)) (s : Stand) (held : Option (List ℕ)) → Went unread unread s s held held
went_nowhere unread s held = record {
  bytes = [];
  read = Consumes-nil unread;
  stands = stands_none s;
  wrote = wrote_none s held;
}

-- one part of a run after another
pub went_then : (unread middle left : Option (List ℕ)) (before between after : Stand) (held keeps holds : Option (List ℕ))
    → Went unread middle before between held keeps → Went middle left between after keeps holds → Went unread left before after held holds
went_then unread middle left before between after held keeps holds one next =
    let joined = portions_join before one.bytes next.bytes in
    record {
      bytes = one.bytes ++ next.bytes;
      read = Consumes-trans unread middle left _ _ one.read next.read;
      stands = next.stands ∙ ap (λ (s : Stand). next_all s next.bytes) one.stands ∙ sym joined.1;
      wrote = subst (Appends held holds) (sym joined.0)
          (Appends-trans held keeps holds _ _ one.wrote (subst (λ (s : Stand). Appends keeps holds (writes_all s next.bytes)) one.stands next.wrote));
    }

-- a run after one read more, which gave some bytes
pub went_more : (unread middle left : Option (List ℕ)) (before between after : Stand) (held keeps holds : Option (List ℕ)) (n : ℕ)
    (one : Went unread middle before between held keeps) → n ≤ length one.bytes
    → (next : Went middle left between after keeps holds) → 0 < length next.bytes
    → (run : Went unread left before after held holds) × (n + 1 ≤ length run.bytes)
unfolding went_then
went_more unread middle left before between after held keeps holds n one enough next some =
    (went_then unread middle left before between after held keeps holds one next, omega (arith, length-append one.bytes next.bytes))

-- an input from its first line to its end
pub listed_whole : (unread left : Option (List ℕ)) (after : Stand) (held titled holds closed : Option (List ℕ))
    → Appends held titled header → WentOn unread left fresh after titled holds → Appends holds closed (closes after) → Listed unread left held closed
listed_whole unread left after held titled holds closed title run close =
    let bytes = run.went.bytes in
    record {
      bytes = bytes;
      read = run.went.read;
      ends = run.ends;
      wrote = subst (Appends held closed) (portions_list bytes)
          (Appends-trans held holds closed _ _ (Appends-trans held titled holds _ _ title run.went.wrote)
          (subst (λ (s : Stand). Appends holds closed (closes s)) run.went.stands close));
    }

-- what a call that went well says, and what follows from that
pub ok_then : {T E : Type 0} {P Q : Type 0} (r : Result T E) → (P → Q) → OnOk r P → OnOk r Q
ok_then (Ok x) f p = f p
ok_then (Err e) f p = tt
