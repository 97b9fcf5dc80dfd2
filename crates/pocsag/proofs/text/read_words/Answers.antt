-- `read_words` meets its contract: what is not refused can be read, and its fill is counted in what was written.
use Prim.Native.Nat.{ℕ, ◌≤◌}
use mathlib.Core.List.{List}
use mathlib.Core.Path.{◌≡◌, sym, ap, ap₂, ◌∙◌}
use native.Mathlib.Omega.{arith}
use lib.ListN.{length, take}
use lib.Seq.{length-take-le}
use Rattle.refusal.proofs.Laws.{given_writes}
use Rattle.pocsag.specs.Texts.{kind_number, text_in, is_fill, fill_at_end, read_of}
use Rattle.laws.proofs.Endings.{counted_backwards}
use Rattle.pocsag.proofs.Readable.{Readable, readable, read_told, text_fits, text_first}
use Rattle.pocsag.proofs.text.read_words.Goals as goal

pub spell-requires : goal.spell-requires
spell-requires c =
    let known : let a = c.args in Readable (kind_number a.kind) (length a.text.now) a.words.now × (read_of (kind_number a.kind) (length a.text.now) a.words.now ≡ read_told (kind_number a.kind) a.words.now) = let a = c.args in readable (kind_number a.kind) (length a.text.now) a.words.now c.requires in
    let page = known.0 in
    record { words_value = page.whole; room_value = c.room_of-room.ensures; room_in_bounds = omega (arith, c.room_of-room.ensures, page.room) }

pub slice_bounds-fill_at_end-end : goal.slice_bounds-fill_at_end-end
slice_bounds-fill_at_end-end c =
    let known : let a = c.args in Readable (kind_number a.kind) (length a.text.now) a.words.now × (read_of (kind_number a.kind) (length a.text.now) a.words.now ≡ read_told (kind_number a.kind) a.words.now) = let a = c.args in readable (kind_number a.kind) (length a.text.now) a.words.now c.requires in
    let written : List ℕ = c.spell.new.text in
    let as_many : (length written ≡ length c.args.text.now) × (c.room_of-room.result ≤ length c.args.text.now) = let args = c.args in
    let page = known.0 in (
      ap length c.spell.ensures ∙ text_fits (kind_number args.kind) args.words.now args.text.now page.room,
      omega (arith, c.room_of-room.ensures, page.room),
    ) in
    omega (arith, as_many)

pub slice_bounds-fill_at_end-end-2 : goal.slice_bounds-fill_at_end-end-2
slice_bounds-fill_at_end-end-2 c =
    let known : let a = c.args in Readable (kind_number a.kind) (length a.text.now) a.words.now × (read_of (kind_number a.kind) (length a.text.now) a.words.now ≡ read_told (kind_number a.kind) a.words.now) = let a = c.args in readable (kind_number a.kind) (length a.text.now) a.words.now c.requires in
    let written : List ℕ = c.spell.new.text in
    let as_many : (length written ≡ length c.args.text.now) × (c.room_of-room.result ≤ length c.args.text.now) = let args = c.args in
    let page = known.0 in (
      ap length c.spell.ensures ∙ text_fits (kind_number args.kind) args.words.now args.text.now page.room,
      omega (arith, c.room_of-room.ensures, page.room),
    ) in
    sym (length-take-le _ _ (omega (arith, as_many)))

pub returns : goal.returns
returns c =
    let known : let a = c.args in Readable (kind_number a.kind) (length a.text.now) a.words.now × (read_of (kind_number a.kind) (length a.text.now) a.words.now ≡ read_told (kind_number a.kind) a.words.now) = let a = c.args in readable (kind_number a.kind) (length a.text.now) a.words.now c.requires in
    let written : List ℕ = c.spell.new.text in
    let first-ones : take c.room_of-room.result written ≡ text_in (kind_number c.args.kind) c.args.words.now = let args = c.args in
    ap₂ (λ (n : ℕ) (bytes : List ℕ). take n bytes) c.room_of-room.ensures c.spell.ensures
    ∙ text_first (kind_number args.kind) args.words.now args.text.now in
    let args = c.args in
    let answer = read_of (kind_number args.kind) (length args.text.now) args.words.now in
    let fill = c.fill_at_end.ensures ∙ counted_backwards (is_fill (kind_number args.kind)) _ ∙ ap (fill_at_end (kind_number args.kind)) first-ones in record {
      told = rw (c.room_of-room.ensures, fill) (sym known.1);
      buffer = c.spell.ensures
          ∙ sym (given_writes answer args.text.now (text_in (kind_number args.kind) args.words.now) c.requires);
    }
