use Rattle.std.proofs.Common.{◌≡◌, ◌≤◌, false, length, drop}
use Rattle.std.specs.Fmt.{digits, digits_onto}
use Rattle.cmd_common_texts.proofs.info_lines.put_hexadecimal.Given as goal

abbrev pub invariant-loop-first : goal.invariant-loop-first
invariant-loop-first l = record {
  room : l.first ≤ 64;
  long : length l.room ≡ 64;
  left : digits_onto l.first 16 false l.rest (drop l.first l.room) ≡ digits 16 false l.number;
}

abbrev pub decreases-loop-first : goal.decreases-loop-first
decreases-loop-first l = l.first
