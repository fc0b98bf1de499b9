use Rattle.abt_sparse.proofs.Fields.{record-again}
use Rattle.abt_sparse.specs.View.{view}
use Rattle.abt_sparse.proofs.header.SparseHeader.encode.Goals as goal

pub returns-clause-again : goal.returns-clause-again
returns-clause-again c = rw c.record_of.ensures (record-again (view c.args.self.now) c.fits.ensures)
