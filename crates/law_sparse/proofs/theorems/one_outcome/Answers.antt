use Rattle.abt_sparse.proofs.Exactly.{is_so, only}
use Rattle.law_sparse.proofs.theorems.one_outcome.Goals as goal

pub returns : goal.returns
returns c = record { found = is_so; only = only }
