-- `heard` meets its contract: each return is one line of the definition.
use Rattle.std.proofs.Common.{◌≡◌, ◌*◌, ◌≤◌, true, length, sym, ◌∙◌, arith}
use Rattle.chain.proofs.joining.Answering.{heard_refused, heard_good}
use Rattle.chain.specs.Chains.{sound}
use Rattle.chain.proofs.joining.heard.Goals as goal

pub returns : goal.returns
returns c =
    let row = c.args.slots.now in
    let room : length row * 1008 ≤ c.args.lent = omega (arith, c.requires, c.if-lent.false) in
    let right : sound row ≡ true = sym c.sound.ensures ∙ c.if-not-sound.false in
    record {
      refused = heard_refused row c.args.address c.args.words.now c.args.lent room right c.if-address-gt-LAST_ADDRESS.false c.heading.result c.heading.ensures;
      heard = heard_good row c.args.address c.args.words.now c.args.lent room right c.if-address-gt-LAST_ADDRESS.false c.heading.result c.heading.ensures;
    }
