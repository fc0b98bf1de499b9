use Rattle.std.proofs.Common.{◌≡◌, IsTrue}
use Rattle.sys_file.proofs.tries.write.Given as goal

-- nothing was done yet
abbrev pub invariant-loop : goal.invariant-loop
invariant-loop g l = (IsTrue g.F.SystemFile.models → g.F.SystemFile.stands l.file ≡ g.F.SystemFile.stands l.fn.file)
    × (IsTrue g.F.SystemFile.models → g.F.SystemFile.place l.file ≡ g.F.SystemFile.place l.fn.file)
