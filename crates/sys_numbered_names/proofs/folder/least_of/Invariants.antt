use Rattle.std.proofs.Common.{Some}
use Rattle.std.specs.Prelude.{IsTrue}
use Rattle.sys_numbered_names.specs.Numbers.{IsLeastSoFar}
use Rattle.sys_refusals.specs.Paths.{numbered}
use Rattle.sys_numbered_names.proofs.folder.least_of.Given as goal

-- the least number of the names that were returned
abbrev pub invariant-loop : goal.invariant-loop
invariant-loop g l = IsTrue g.S.File.SystemFile.models → IsLeastSoFar
    (λ n. g.S.System.at l.system (numbered l.prefix (Some n))) l.name l.behind (g.S.System.to_come l.names) l.least
