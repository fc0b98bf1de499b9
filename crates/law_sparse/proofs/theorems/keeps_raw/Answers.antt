use Rattle.law_sparse.proofs.RawLaws.{raw_blocks, raw_count, raw_bytes_kept, raw_laid}
use Rattle.law_sparse.proofs.theorems.keeps_raw.Goals as goal

pub returns : goal.returns
returns c = record { blocks = raw_blocks; count = raw_count; bytes = raw_bytes_kept; laid = raw_laid }
