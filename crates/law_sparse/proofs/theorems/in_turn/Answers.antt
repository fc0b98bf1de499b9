use Rattle.abt_sparse.proofs.Lay.{segments_in_turn}
use Rattle.abt_sparse.proofs.Flashing.{in_turn_bytes}
use Rattle.law_sparse.proofs.theorems.in_turn.Goals as goal

pub returns : goal.returns
returns c = record { blocks = segments_in_turn; bytes = in_turn_bytes }
