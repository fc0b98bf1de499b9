use Rattle.law_sparse.proofs.CutShortLaws.{cut_short_is}
use Rattle.law_sparse.proofs.theorems.ends_early.Goals as goal

pub returns : goal.returns
returns c = cut_short_is
