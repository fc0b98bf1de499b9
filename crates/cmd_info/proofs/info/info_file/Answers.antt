use Rattle.std.proofs.Common.{◌∙◌, ap}
use Rattle.cmd_info.proofs.Told.{begun_same, none_failed, refuses, refuses_host, tells_file}
use Rattle.cmd_common_boot.proofs.Sides.{reads_host}
use Rattle.cmd_info.proofs.info.info_file.Goals as goal

-- IN could not be opened
pub returns-in-Err-clause-begun : goal.returns-in-Err-clause-begun
returns-in-Err-clause-begun g c = λ t. ap (λ k. k.begun) (c.in-Err.ensures.kept t)

pub returns-in-Err-clause-refused : goal.returns-in-Err-clause-refused
returns-in-Err-clause-refused g c = λ t. refuses_host _ _ _ _ _ c.into.ensures (c.in-Err.ensures.kept t)

-- it was told
pub returns-in-Ok-tell_image-clause-done : goal.returns-in-Ok-tell_image-clause-done
returns-in-Ok-tell_image-clause-done g c = λ t.
    tells_file _ _ _ _ _ _ _ _ _ (c.in-Ok.ensures.opened t)
    (c.in-Ok-tell_image.ensures.done (g.met.D.Disk.source_told t))

pub returns-in-Ok-tell_image-clause-leaves : goal.returns-in-Ok-tell_image-clause-leaves
returns-in-Ok-tell_image-clause-leaves g c = record {
  world = λ t. c.let_go_source.ensures.world t ∙ c.in-Ok.ensures.world t;
  clean = λ t.
      none_failed _ _ _ _ _ _ _ _ _ (c.in-Ok.ensures.opened t) (c.in-Ok.ensures.clean t)
      c.in-Ok-tell_image.ensures.clean (c.let_go_source.ensures.held t);
}

pub returns-in-Ok-tell_image-clause-begun : goal.returns-in-Ok-tell_image-clause-begun
returns-in-Ok-tell_image-clause-begun g c = λ t.
    begun_same _ _ _ _ _ _ _ (c.in-Ok.ensures.opened t) (c.let_go_source.ensures.held t)

-- it was not
pub returns-in-Err-tell_image-clause-leaves : goal.returns-in-Err-tell_image-clause-leaves
returns-in-Err-tell_image-clause-leaves g c = record {
  world = λ t.
      c.let_go_source-in-Err-tell_image.ensures.world t ∙ c.in-Ok.ensures.world t;
  clean = λ t. tt;
}

pub returns-in-Err-tell_image-clause-begun : goal.returns-in-Err-tell_image-clause-begun
returns-in-Err-tell_image-clause-begun g c = λ t.
    begun_same _ _ _ _ _ _ _ (c.in-Ok.ensures.opened t) (c.let_go_source-in-Err-tell_image.ensures.held t)

pub returns-in-Err-tell_image-clause-refused : goal.returns-in-Err-tell_image-clause-refused
returns-in-Err-tell_image-clause-refused g c = λ t.
    refuses _ _ _ _ _ _ _ _ _ _ _ _ _ _ (c.in-Ok.ensures.opened t) (c.in-Ok.ensures.clean t)
    (c.let_go_source-in-Err-tell_image.ensures.held t)
    (c.in-Err-tell_image.ensures.refused (g.met.D.Disk.source_told t))

-- the file that a refusal is told of

pub returns-in-Err-clause-told_of : goal.returns-in-Err-clause-told_of
returns-in-Err-clause-told_of g c = reads_host _ c.in-Err.refusal.fault _ _ c.into.ensures
