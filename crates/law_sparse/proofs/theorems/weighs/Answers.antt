use Rattle.abt_sparse.proofs.Gains.{weight_gains}
use Rattle.abt_sparse.proofs.Lengths.{piece_le}
use Rattle.abt_sparse.proofs.Weights.{weight_grows, one_weighs}
use Rattle.law_sparse.proofs.theorems.weighs.Goals as goal

pub returns : goal.returns
returns c = record { fits = piece_le; grows = weight_grows; one = one_weighs; along = weight_gains }
