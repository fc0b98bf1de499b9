use Rattle.law_sparse.proofs.Rows.{worked_pieces}
use Rattle.law_sparse.proofs.theorems.worked_pieces.Goals as goal

pub returns : goal.returns
returns c = worked_pieces
