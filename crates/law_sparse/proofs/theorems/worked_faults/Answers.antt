use Rattle.law_sparse.proofs.Rows.{worked_faults}
use Rattle.law_sparse.proofs.theorems.worked_faults.Goals as goal

pub returns : goal.returns
returns c = worked_faults
