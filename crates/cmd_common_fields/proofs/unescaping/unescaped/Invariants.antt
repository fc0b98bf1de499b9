use Rattle.std.proofs.Common.{◌≡◌, ◌++◌, drop, length, ◌-◌}
use Rattle.cmd_common_fields.specs.Unescaped.{unescaped}
use Rattle.cmd_common_fields.proofs.unescaping.unescaped.Given as goal

abbrev pub invariant-loop-at : goal.invariant-loop-at
invariant-loop-at l = l.bytes.items ++ unescaped (drop l.at l.text-2) ≡ unescaped l.text-2

abbrev pub decreases-loop-at : goal.decreases-loop-at
decreases-loop-at l = length l.text-2 - l.at
