use Rattle.abt_sparse.proofs.Flashing.{same_pieces}
use Rattle.law_sparse.proofs.theorems.same_pieces.Goals as goal

pub returns : goal.returns
returns c = same_pieces
