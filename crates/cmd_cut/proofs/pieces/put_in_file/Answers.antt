use Rattle.cmd_cut.proofs.Beside.{beside_done, beside_refused, beside_stopped, beside_undone, beside_unended}
use Rattle.cmd_cut.proofs.Leavings.{none_left, whole_left}
use Rattle.cmd_cut.proofs.Told.{tells_host}
use Rattle.cmd_cut.proofs.pieces.put_in_file.Goals as goal

pub returns-in-Err-finish_image-clause-broken : goal.returns-in-Err-finish_image-clause-broken
returns-in-Err-finish_image-clause-broken g c = λ t.
    whole_left _ _ _ _ _ (rw c.in-Ok.is at (c.lay_next-image.ensures.laid (g.met.D.Disk.source_told t)))
    (c.in-Err-finish_image.ensures.left t)

pub returns-in-Err-Host-clause-broken : goal.returns-in-Err-Host-clause-broken
returns-in-Err-Host-clause-broken g c = λ t.
    none_left _ _ _ _ _ (rw c.in-Err-Host.is at (c.lay_next-image.ensures.broken (g.met.D.Disk.source_told t)))
    (c.unended.ensures.holds t)

pub returns-in-Err-clause-broken : goal.returns-in-Err-clause-broken
returns-in-Err-clause-broken g c = λ t.
    none_left _ _ _ _ _ (rw c.in-Err.is at (c.lay_next-image.ensures.broken (g.met.D.Disk.source_told t)))
    (c.stopped.ensures.left t)

-- why it was not put there

pub returns-in-Ok-finish_image-clause-puts : goal.returns-in-Ok-finish_image-clause-puts
returns-in-Ok-finish_image-clause-puts g c = λ t. record {
  holds = record {
    bytes = g.D.Image.Output.written c.lay_next-image.result.0;
    is_next = rw c.in-Ok.is at (c.lay_next-image.ensures.laid (g.met.D.Disk.source_told t));
    ends = c.in-Ok-finish_image.ensures.ended t;
  };
  closed = beside_done _ _ _ _ _ _ (c.requires.output.clean t) (rw c.in-Ok.is at c.lay_next-image.ensures.clean)
      (c.in-Ok-finish_image.ensures.closed t);
  rest = c.in-Ok-finish_image.ensures.rest t;
  outside = tt;
}

pub returns-in-Err-finish_image-clause-puts : goal.returns-in-Err-finish_image-clause-puts
returns-in-Err-finish_image-clause-puts g c = λ t. record {
  holds = tt;
  closed = beside_undone _ _ _ _ _ (c.in-Err-finish_image.ensures.closed t);
  rest = c.in-Err-finish_image.ensures.rest t;
  outside = beside_refused _ _ _ _ c.in-Err-finish_image.refusal.fault (g.D.Disk.held c.args.disk.now)
      (g.D.Disk.held c.finish_image.new.self) c.into.ensures
      (c.in-Err-finish_image.ensures.closed t);
}

pub returns-in-Err-Host-clause-puts : goal.returns-in-Err-Host-clause-puts
returns-in-Err-Host-clause-puts g c = λ t. record {
  holds = tt;
  closed = beside_undone _ _ _ _ _ (c.unended.ensures.closed t).closed;
  rest = (c.unended.ensures.closed t).rest;
  outside = beside_unended _ _ _ _ _ _ _ (g.D.Disk.held c.args.disk.now) (g.D.Disk.held c.unended.new.disk) _ _
      (c.requires.output.clean t) (rw c.in-Err-Host.is at c.in-Err-Host.field-0-is)
      (rw c.in-Err-Host.is at (c.lay_next-image.ensures.cause (g.met.D.Disk.source_told t)))
      (c.unended.ensures.closed t) c.unended.ensures.host;
}

pub returns-in-Err-clause-puts : goal.returns-in-Err-clause-puts
returns-in-Err-clause-puts g c = λ t. record {
  holds = tt;
  closed = beside_undone _ _ _ _ _ (c.stopped.ensures.closed t).closed;
  rest = (c.stopped.ensures.closed t).rest;
  outside = beside_stopped _ _ _ _ c.in-Err.fault _ _ (g.D.Disk.held c.args.disk.now)
      (g.D.Disk.held c.stopped.new.disk) _ _ (c.requires.output.clean t)
      (rw c.in-Err.is at (c.lay_next-image.ensures.cause (g.met.D.Disk.source_told t)))
      (c.stopped.ensures.closed t) c.stopped.ensures.told t;
}

-- the file that a refusal is told of

pub returns-in-Err-finish_image-clause-told_of : goal.returns-in-Err-finish_image-clause-told_of
returns-in-Err-finish_image-clause-told_of g c = tells_host _ c.in-Err-finish_image.refusal.fault _ _ _ c.into.ensures

pub returns-in-Err-Host-clause-told_of : goal.returns-in-Err-Host-clause-told_of
returns-in-Err-Host-clause-told_of g c = tells_host _ _ _ _ _ c.unended.ensures.host
