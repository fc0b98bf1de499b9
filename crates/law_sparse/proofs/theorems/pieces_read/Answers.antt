use Rattle.abt_sparse.proofs.Spelling.{pieces_read}
use Rattle.law_sparse.proofs.theorems.pieces_read.Goals as goal

pub returns : goal.returns
returns c = pieces_read
