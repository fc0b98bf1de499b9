use Rattle.std.proofs.Common.{length, ◌-◌, ◌≡◌, ◌≤◌, ◌+◌, ◌*◌, ◌++◌, replicate}
use Rattle.std.specs.List.{concat}
use Rattle.abt_chunks.proofs.expansion.write_words.Given as goal

abbrev pub invariant-writes : goal.invariant-writes
invariant-writes g l = record {
  within : l.done ≤ l.n;
  long : length (g.O.Output.written l.output) ≡ length (g.O.Output.written l.fn.output) + 4 * l.done;
  written : g.O.Output.written l.output ≡ g.O.Output.written l.fn.output ++ concat (replicate l.done l.fn.word);
  word : length l.fn.word ≡ 4;
  frame : g.O.Output.write_frame l.output ≡ g.O.Output.write_frame l.fn.output;
  faults : g.O.Output.write_faults l.output ≡ g.O.Output.write_faults l.fn.output;
  full : g.O.Output.full_faults l.output ≡ g.O.Output.full_faults l.fn.output;
  calls : g.O.Output.writes l.output ≤ g.O.Output.writes l.fn.output + 8 * l.done;
  turns : l.m.turns.number ≤ l.fn.m.turns.number + 14 + 6 * l.done;
  few : l.m.turns.number ≤ l.fn.m.turns.number + l.n + 6 * l.done;
  steps : l.m.steps.number ≡ l.fn.m.steps.number;
  greatest : l.m.greatest.number ≡ l.fn.m.greatest.number;
}

abbrev pub decreases-writes : goal.decreases-writes
decreases-writes g l = l.n - l.done
