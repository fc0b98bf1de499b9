use Rattle.std.proofs.Common.{take}
use Rattle.mem_disk.proofs.Numbered.{Left}
use Rattle.mem_disk.proofs.left.least_of.Given as goal

abbrev pub invariant-loop-path : goal.invariant-loop-path
invariant-loop-path l = Left (take l.path-index l.paths) l.front l.behind l.least
