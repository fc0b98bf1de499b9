use Rattle.abt_sparse.proofs.MendLaws.{mended, mendable_first, mendable_touched, mendable_moved}
use Rattle.law_sparse.proofs.theorems.mends.Goals as goal

pub returns : goal.returns
returns c = record { first = mendable_first; touched = mendable_touched; moved = mendable_moved; whole = mended }
