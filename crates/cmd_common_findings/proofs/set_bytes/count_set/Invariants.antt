use Rattle.std.proofs.Common.{◌≡◌, ◌≤◌, ◌+◌, drop}
use Rattle.cmd_common_findings.specs.LeftOut.{set_in}
use Rattle.cmd_common_findings.proofs.set_bytes.count_set.Given as goal

abbrev pub invariant-loop-byte : goal.invariant-loop-byte
invariant-loop-byte l = record {
  value : l.count + set_in (drop l.byte-index l.bytes) ≡ set_in l.bytes;
  few : l.count ≤ l.byte-index;
}
