use Rattle.cmd_sparse_dispatch.proofs.command.sparse_command.Goals as goal

pub returns-in-Sparse-clause-leaves : goal.returns-in-Sparse-clause-leaves
returns-in-Sparse-clause-leaves g c = λ t. record {
  spares = rw c.in-Sparse.is (c.sparsify.ensures.leaves t).spares;
  clean = (c.sparsify.ensures.leaves t).clean;
}

pub returns-in-Sparse-clause-whole : goal.returns-in-Sparse-clause-whole
returns-in-Sparse-clause-whole g c = λ t. rw c.in-Sparse.is (c.sparsify.ensures.whole t)
