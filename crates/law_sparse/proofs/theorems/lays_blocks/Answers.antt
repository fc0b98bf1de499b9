use Rattle.abt_sparse.proofs.Lay.{length-over}
use Rattle.abt_sparse.proofs.Bytewise.{laid_byte, expanded_long}
use Rattle.law_sparse.proofs.theorems.lays_blocks.Goals as goal

pub returns : goal.returns
returns c = record { byte = laid_byte; kept = length-over; expanded = expanded_long }
