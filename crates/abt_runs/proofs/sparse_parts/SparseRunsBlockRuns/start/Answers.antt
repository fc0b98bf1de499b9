use Rattle.std.proofs.Common.{sym, subst, ℕ}
use Rattle.abt_sparse.specs.View.{view}
use Rattle.abt_runs.specs.Sparse.{SparsePlace}
use Rattle.abt_runs.specs.SparseLaws.{sparse_start}
use Rattle.abt_runs.proofs.sparse_parts.SparseRunsBlockRuns.start.Goals as goal

pub returns-clause-place : goal.returns-clause-place
returns-clause-place c x o =
    let s = c.args.self.now in
    subst (λ (n : ℕ). SparsePlace (view s.header) x (record { block = 0; at = n; chunk = 0; used = 0; ask = 1 }))
    (sym c.from.ensures) (sparse_start (view s.header) s.length s.image x o)
