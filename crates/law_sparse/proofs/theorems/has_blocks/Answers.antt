use Rattle.abt_sparse.proofs.Spelling.{spelled_blocks}
use Rattle.law_sparse.proofs.theorems.has_blocks.Goals as goal

pub returns : goal.returns
returns c = spelled_blocks
