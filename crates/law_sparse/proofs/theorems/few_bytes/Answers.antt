use Rattle.abt_sparse.proofs.Totals.{pieces_of_sparse, pieces_of_blocks, length-pieces}
use Rattle.law_sparse.proofs.theorems.few_bytes.Goals as goal

pub returns : goal.returns
returns c = record { sparse = pieces_of_sparse; blocks = pieces_of_blocks; count = length-pieces }
