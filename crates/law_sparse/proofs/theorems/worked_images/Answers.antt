use Rattle.law_sparse.proofs.Rows.{worked_images}
use Rattle.law_sparse.proofs.theorems.worked_images.Goals as goal

pub returns : goal.returns
returns c = worked_images
