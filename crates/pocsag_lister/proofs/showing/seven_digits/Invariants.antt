-- `seven_digits` meets its contract: the digits from the lowest on are written, and those before them still to come.
use mathlib.Core.Path.{◌≡◌}
use lib.ListN.{length}
use Rattle.laws.specs.Lists.{put}
use Rattle.capcode.specs.Text.{digits}
use Rattle.pocsag_lister.proofs.showing.seven_digits.Given as goal

abbrev pub invariant-loop-place : goal.invariant-loop-place
invariant-loop-place l = record {
  long : length l.text ≡ 7;
  so : put l.text 0 (digits l.place l.rest) ≡ digits 7 l.address;
}
