use Rattle.std.proofs.Common.{◌-◌, ◌≤◌, length, take}
use Rattle.sys_text.specs.Printed.{Prints}
use Rattle.sys_text.proofs.text_output.Text.put.Given as goal

abbrev pub decreases-loop-at : goal.decreases-loop-at
decreases-loop-at g l = length l.initial.bytes - l.at

abbrev pub invariant-loop-at : goal.invariant-loop-at
invariant-loop-at g l = record {
  within : l.at ≤ length l.bytes;
  prints : Prints g.O.Output.written g.O.Output.write_faults l.initial.self l.self (take l.at l.bytes);
}
