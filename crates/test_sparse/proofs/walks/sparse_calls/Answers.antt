use Rattle.test_sparse.proofs.walks.sparse_calls.Goals as goal

pub copy-requires-clause-told : goal.copy-requires-clause-told
copy-requires-clause-told c = λ models.
    let part = c.in_ok-next_part.ensures in
    let run = c.in_ok-raw.ensures in
    let image = c.in_ok-runs.ensures in
    rw (part.part.source.reads.content models, run.source.reads.content models, image.reads.content models) (
      image.opened models,
      rw (image.reads.content models) at (run.told models).places.0,
    )
