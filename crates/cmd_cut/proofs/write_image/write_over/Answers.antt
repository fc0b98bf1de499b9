use Rattle.std.proofs.Common.{refl, ◌∙◌}
use Rattle.sys_disk.specs.Counts.{no_counts}
use Rattle.cmd_cut.proofs.Answered.{holds, left_whole, left_broken}
use Rattle.cmd_cut.proofs.Counted.{closes_done, closes_undone, none_behind, outside_refusal, outside_stopped}
use Rattle.cmd_cut.proofs.Told.{tells_host}
use Rattle.cmd_cut.proofs.write_image.write_over.Goals as goal

pub returns-in-Err-finish_image-clause-broken : goal.returns-in-Err-finish_image-clause-broken
returns-in-Err-finish_image-clause-broken g c = λ t.
    rw (c.let_go_source.ensures.held t) at
    (left_whole _ c.args.as_img2simg c.args.blocks.size (g.D.At.Source.content c.args.source) _ _ _
    (c.in-Ok.ensures.lays.written
    (g.met.D.Disk.source_told t)) (c.in-Err-finish_image.ensures.left t))

pub returns-in-Err-finish_image-clause-writes : goal.returns-in-Err-finish_image-clause-writes
returns-in-Err-finish_image-clause-writes g c = λ t. record {
  holds = tt;
  closed = closes_undone _ _ _ _ _ (c.let_go_source.ensures.held t) (c.in-Err-finish_image.ensures.closed t);
  rest = rw (c.let_go_source.ensures.held t, c.let_go_source.ensures.world t) at (c.in-Err-finish_image.ensures.rest t);
  outside = outside_refusal _ _ _ c.in-Err-finish_image.refusal.fault _ _ _ _ c.into.ensures
      (c.let_go_source.ensures.held t) (c.in-Err-finish_image.ensures.closed t);
}

pub returns-in-Err-clause-broken : goal.returns-in-Err-clause-broken
returns-in-Err-clause-broken g c = λ t.
    rw (c.let_go_source.ensures.held t) at
    (left_broken _ c.args.as_img2simg c.args.blocks.size (g.D.At.Source.content c.args.source) _ _
    c.in-Err.ensures.broken
    (c.stopped.ensures.left t))

pub returns-in-Err-clause-writes : goal.returns-in-Err-clause-writes
returns-in-Err-clause-writes g c = λ t.
    let told = g.met.D.Disk.source_told t in
    let fails = c.in-Err.ensures.lays.fails in
    record {
      holds = tt;
      closed = closes_undone _ _ _ _ _ (c.let_go_source.ensures.held t) (c.stopped.ensures.closed t).closed;
      rest = rw (c.let_go_source.ensures.held t, c.let_go_source.ensures.world t) at (c.stopped.ensures.closed t).rest;
      outside = outside_stopped _ _ _ _ _ c.in-Err.fault c.stopped.result.fault _ _ _ _ _ _
          (c.requires.ready.image.read t) (c.requires.ready.output.clean t) (c.let_go_source.ensures.held t)
          (c.stopped.ensures.closed t) (fails.cause told) c.stopped.ensures.told t;
    }

pub returns-in-Ok-finish_image-clause-writes : goal.returns-in-Ok-finish_image-clause-writes
returns-in-Ok-finish_image-clause-writes g c = λ t.
    let told = g.met.D.Disk.source_told t in
    let fails = c.in-Ok.ensures.lays.fails in
    record {
      holds = rw (c.let_go_source.ensures.held t, c.let_go_source.ensures.world t) at
          (holds _ c.args.as_img2simg c.args.blocks.size (g.D.At.Source.content c.args.source) _ c.in-Ok.written _ _
          (c.in-Ok.ensures.lays.written told) (c.in-Ok-finish_image.ensures.ended t));
      closed = closes_done _ _ _ _ _ (c.let_go_source.ensures.held t) (c.in-Ok-finish_image.ensures.closed t)
          (none_behind _ _ no_counts (fails.clean.0 ∙ c.requires.ready.image.read t)
          (fails.clean.1 ∙ c.requires.ready.output.clean t) (λ cause. refl));
      rest = rw (c.let_go_source.ensures.held t, c.let_go_source.ensures.world t) at
          (c.in-Ok-finish_image.ensures.rest t);
      outside = tt;
    }

-- the file that a refusal is told of

pub returns-in-Err-finish_image-clause-told_of : goal.returns-in-Err-finish_image-clause-told_of
returns-in-Err-finish_image-clause-told_of g c = tells_host _ c.in-Err-finish_image.refusal.fault _ _ _ c.into.ensures

pub returns-in-Err-clause-told_of : goal.returns-in-Err-clause-told_of
returns-in-Err-clause-told_of g c = c.stopped.ensures.told_of
