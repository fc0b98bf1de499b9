use Rattle.std.proofs.Common.{length, ◌-◌, ◌≡◌, ◌≤◌, ◌+◌, ◌++◌, replicate}
use Rattle.abt_io.proofs.copying.write_zeros.Given as goal

abbrev pub invariant-loop-at : goal.invariant-loop-at
invariant-loop-at g l =
    let written = g.O.Output.written in
    record {
      within : l.at ≤ l.n;
      long : length (written l.output) ≡ length (written l.fn.output) + l.at;
      written : written l.output ≡ written l.fn.output ++ replicate l.at 0;
      write_frame : g.O.Output.write_frame l.output ≡ g.O.Output.write_frame l.fn.output;
      write_faults : g.O.Output.write_faults l.output ≡ g.O.Output.write_faults l.fn.output;
      full_faults : g.O.Output.full_faults l.output ≡ g.O.Output.full_faults l.fn.output;
      writes : g.O.Output.writes l.output ≤ g.O.Output.writes l.fn.output + l.at;
      turns : l.m.turns.number ≤ l.fn.m.turns.number + l.at;
      steps : l.m.steps.number ≡ l.fn.m.steps.number;
      greatest : l.m.greatest.number ≡ l.fn.m.greatest.number;
    }

abbrev pub decreases-loop-at : goal.decreases-loop-at
decreases-loop-at g l = l.n - l.at
