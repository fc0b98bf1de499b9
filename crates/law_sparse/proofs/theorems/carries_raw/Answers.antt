use Rattle.law_sparse.proofs.RawLaws.{raw_expands, raw_flashes}
use Rattle.law_sparse.proofs.theorems.carries_raw.Goals as goal

pub returns : goal.returns
returns c = record { expands = raw_expands; flashes = raw_flashes }
