use Rattle.abt_sparse.proofs.Flashing.{each_piece}
use Rattle.law_sparse.proofs.theorems.each_piece.Goals as goal

pub returns : goal.returns
returns c = each_piece
