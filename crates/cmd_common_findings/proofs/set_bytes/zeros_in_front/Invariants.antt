use Rattle.std.proofs.Common.{◌≡◌, ◌+◌, drop}
use Rattle.cmd_common_findings.specs.Finding.{leading_zeros}
use Rattle.cmd_common_findings.proofs.set_bytes.zeros_in_front.Given as goal

abbrev pub invariant-loop-i : goal.invariant-loop-i
invariant-loop-i l = leading_zeros l.bytes ≡ l.i + leading_zeros (drop l.i l.bytes)
