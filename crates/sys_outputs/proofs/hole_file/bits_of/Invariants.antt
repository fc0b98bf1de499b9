use Rattle.std.proofs.Common.{◌≡◌, take, replicate}
use Rattle.sys_outputs.proofs.hole_file.bits_of.Given as goal

abbrev pub invariant-loop-byte : goal.invariant-loop-byte
invariant-loop-byte l = l.all ≡ 0 → take l.byte-index l.bytes ≡ replicate l.byte-index 0
