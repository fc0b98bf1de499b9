use Rattle.abt_sparse.proofs.RunLaws.{runs_are, only_runs}
use Rattle.law_sparse.proofs.theorems.one_grouping.Goals as goal

pub returns : goal.returns
returns c = record { found = runs_are; only = λ l gs r. only_runs l gs r.whole r.each r.apart }
