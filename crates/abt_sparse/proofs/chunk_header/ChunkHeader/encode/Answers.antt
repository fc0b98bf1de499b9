use Rattle.abt_sparse.proofs.HeadLaws.{head_again}
use Rattle.abt_sparse.proofs.chunk_header.ChunkHeader.encode.Goals as goal

pub returns-clause-again : goal.returns-clause-again
returns-clause-again c =
    rw c.record.ensures (head_again c.args.self.now c.in_range.ensures.blocks c.in_range.ensures.total)
