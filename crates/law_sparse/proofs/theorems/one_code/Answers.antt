use Rattle.abt_sparse.proofs.ChunkLaws.{kind-code, code-kind}
use Rattle.law_sparse.proofs.theorems.one_code.Goals as goal

pub returns : goal.returns
returns c = record { known = kind-code; only = code-kind }
