use Rattle.std.proofs.Common.{◌≤◌}
use Rattle.sys_report.specs.Shows.{ShowsHere, refusals}
use Rattle.cmd_info.proofs.Told.{upto}
use Rattle.cmd_info.proofs.telling.tell_reasons.Given as goal

-- what could not be printed is counted, and the lines so far went out
abbrev pub invariant-loop-i : goal.invariant-loop-i
invariant-loop-i l = record {
  rises : refusals l.initial.report ≤ refusals l.report;
  shown : ShowsHere l.initial.report l.report (upto l.lines l.i);
}
