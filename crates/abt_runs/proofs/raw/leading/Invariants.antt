use Rattle.std.proofs.Common.{◌≡◌, ◌≤◌, ◌<◌, ◌+◌, ◌-◌, ◌*◌, ◌/◌}
use Rattle.abt_io.specs.Lent.{NoStep}
use Rattle.abt_runs.specs.Part.{AllOf}
use Rattle.abt_runs.specs.Words.{kind_of_word}
use Rattle.abt_runs.proofs.Classes.{classes}
use Rattle.abt_runs.proofs.raw.leading.Given as goal

abbrev pub invariant-loop-count : goal.invariant-loop-count
invariant-loop-count l = record {
  kind : l.kind ≡ kind_of_word l.word;
  some : 0 < l.count;
  within : l.count ≤ l.n;
  at : l.at ≡ l.count * l.size;
  all : AllOf (kind_of_word l.word) (classes l.size l.count l.blocks);
  turns : 2 * l.m.turns.number + l.size / 2 ≤ 2 * l.fn.m.turns.number + l.at;
  looked : 4 * l.m.turns.number + 4 ≤ 4 * l.fn.m.turns.number + l.at + 4 * l.count;
  no_step : NoStep l.fn.m l.m;
}

abbrev pub decreases-loop-count : goal.decreases-loop-count
decreases-loop-count l = l.n - l.count
