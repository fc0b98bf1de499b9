use Rattle.std.proofs.Common.{length, ◌-◌, ◌≡◌, ◌≤◌, ◌+◌, take}
use Rattle.abt_io.specs.Moment.{put_at}
use Rattle.abt_io.proofs.write_all.write_over_all.Given as goal

abbrev pub invariant-loop-done : goal.invariant-loop-done
invariant-loop-done g l = record {
  within : l.done ≤ length l.bytes;
  written : g.O.Output.written l.output ≡ put_at (g.O.Output.written l.fn.output) l.at (take l.done l.bytes);
  long : length (g.O.Output.written l.output) ≡ length (g.O.Output.written l.fn.output);
  before : take l.at (g.O.Output.written l.output) ≡ take l.at (g.O.Output.written l.fn.output);
  frame : g.O.Output.write_frame l.output ≡ g.O.Output.write_frame l.fn.output;
  clean : g.O.Output.write_faults l.output ≡ g.O.Output.write_faults l.fn.output;
  full_faults : g.O.Output.full_faults l.output ≡ g.O.Output.full_faults l.fn.output;
  calls : g.O.Output.writes l.output ≤ g.O.Output.writes l.fn.output + l.done;
  turns : l.m.turns.number ≤ l.fn.m.turns.number + l.done;
  steps : l.m.steps.number ≡ l.fn.m.steps.number;
  greatest : l.m.greatest.number ≡ l.fn.m.greatest.number;
}

abbrev pub decreases-loop-done : goal.decreases-loop-done
decreases-loop-done g l = length l.bytes - l.done
