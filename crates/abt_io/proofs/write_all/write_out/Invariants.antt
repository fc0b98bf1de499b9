use Rattle.std.proofs.Common.{length, ◌-◌, ◌≡◌, ◌≤◌, ◌+◌, ◌++◌, take}
use Rattle.abt_io.proofs.write_all.write_out.Given as goal

abbrev pub invariant-loop-at : goal.invariant-loop-at
invariant-loop-at g l = record {
  within : l.at ≤ length l.bytes;
  long : length (g.O.Output.written l.output) ≡ length (g.O.Output.written l.fn.output) + l.at;
  written : g.O.Output.written l.output ≡ g.O.Output.written l.fn.output ++ take l.at l.bytes;
  frame : g.O.Output.write_frame l.output ≡ g.O.Output.write_frame l.fn.output;
  faults : g.O.Output.write_faults l.output ≡ g.O.Output.write_faults l.fn.output;
  full_faults : g.O.Output.full_faults l.output ≡ g.O.Output.full_faults l.fn.output;
  calls : g.O.Output.writes l.output ≤ g.O.Output.writes l.fn.output + l.at;
  turns : l.m.turns.number ≤ l.fn.m.turns.number + l.at;
  steps : l.m.steps.number ≡ l.fn.m.steps.number;
  greatest : l.m.greatest.number ≡ l.fn.m.greatest.number;
}

abbrev pub decreases-loop-at : goal.decreases-loop-at
decreases-loop-at g l = length l.bytes - l.at
