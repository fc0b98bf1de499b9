use Rattle.abt_sparse.proofs.Weights.{fewest}
use Rattle.law_sparse.proofs.theorems.fewest_pieces.Goals as goal

pub returns : goal.returns
returns c = fewest
