use Rattle.abt_verify.proofs.Flashed.{either, flashed_stands, not_both, one_first, unchanged}
use Rattle.abt_verify.proofs.laws.verifying_is_right.Goals as goal

pub returns : goal.returns
returns c = record {
  unchanged = unchanged;
  flashed = flashed_stands;
  either = either;
  not_both = not_both;
  one = one_first;
}
