use Rattle.law_sparse.proofs.SparseCuts.{segments_are, only_cuts}
use Rattle.law_sparse.proofs.theorems.one_cutting.Goals as goal

pub returns : goal.returns
returns c = record {
  found = segments_are;
  only = λ limit b l parts four room h. only_cuts limit b l _ parts
      (segments_are limit b l four room) h;
}
