use Rattle.abt_sparse.proofs.Spelling.{reads_back}
use Rattle.law_sparse.proofs.theorems.reads_back.Goals as goal

pub returns : goal.returns
returns c = reads_back
