use Rattle.abt_sparse.proofs.Flashing.{from_piece}
use Rattle.law_sparse.proofs.theorems.from_piece.Goals as goal

pub returns : goal.returns
returns c = from_piece
