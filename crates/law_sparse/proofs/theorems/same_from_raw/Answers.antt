use Rattle.law_sparse.proofs.RawLaws.{same_from_raw}
use Rattle.law_sparse.proofs.theorems.same_from_raw.Goals as goal

pub returns : goal.returns
returns c = same_from_raw
