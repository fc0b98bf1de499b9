use Rattle.cmd_pack_outputs.proofs.Closes.{closes_laid, closes_undone, end_fails, stopped_fails}
use Rattle.cmd_pack_outputs.proofs.Magics.{left_all, left_none}
use Rattle.cmd_pack_outputs.proofs.Outputs.{ends_behind, part_behind, rest_behind}
use Rattle.cmd_pack_outputs.proofs.image_output.write_over.Goals as goal

pub returns-in-Ok-finish_image : goal.returns-in-Ok-finish_image
returns-in-Ok-finish_image g c = record {
  writes = λ t.
      let laid = c.lay_image-file.ensures.lays.packs in
      let let_go = c.let_go.ensures.fails in
      let told = g.met.D.Disk.source_told t in
      record {
        ended = ends_behind _ _ _ _ _ _ _ _ (let_go.held t) (let_go.world t)
            (rw c.in-Ok.is at (laid.written told)) (c.in-Ok-finish_image.ensures.ended t);
        number = rw c.in-Ok.is at (laid.number told);
        stream = c.in-Ok-finish_image.ensures.stream t;
        closed = closes_laid _ _ _ _ _ _ _ _ (c.requires.ready.unread t) (c.requires.ready.clean t) (let_go.held t)
            (c.in-Ok-finish_image.ensures.closed t) (rw c.in-Ok.is at laid.clean);
        rest = rest_behind _ _ _ _ _ _ (let_go.held t) (let_go.world t) (c.in-Ok-finish_image.ensures.rest t);
        failed = tt;
        broken = λ over. tt;
      };
}

pub returns-in-Err-finish_image : goal.returns-in-Err-finish_image
returns-in-Err-finish_image g c = record {
  writes = λ t.
      let let_go = c.let_go.ensures.fails in
      record {
        ended = tt;
        number = tt;
        stream = tt;
        closed = closes_undone _ _ _ _ _ (let_go.held t) (c.in-Err-finish_image.ensures.closed t);
        rest = rest_behind _ _ _ _ _ _ (let_go.held t) (let_go.world t) (c.in-Err-finish_image.ensures.rest t);
        failed = end_fails _ c.in-Err-finish_image.refusal.fault _ _ _ _ _ _ c.into.ensures (let_go.held t)
            (c.in-Err-finish_image.ensures.closed t);
        broken = λ over. part_behind _ _ _ _ _ (let_go.held t)
            (left_all _ _ _ _
            (rw c.in-Ok.is at (c.lay_image-file.ensures.lays.packs.written (g.met.D.Disk.source_told t)))
            (c.in-Err-finish_image.ensures.left t));
      };
}

pub returns-in-Err : goal.returns-in-Err
returns-in-Err g c = record {
  writes = λ t.
      let let_go = c.let_go.ensures.fails in
      let laid = c.lay_image-file.ensures.lays in
      record {
        ended = tt;
        number = tt;
        stream = tt;
        closed = closes_undone _ _ _ _ _ (let_go.held t) (c.stopped.ensures.gone.closed t);
        rest = rest_behind _ _ _ _ _ _ (let_go.held t) (let_go.world t) (c.stopped.ensures.gone.rest t);
        failed = stopped_fails _ c.in-Err.fault _ _ _ _ _ _ _ _ _ c.stopped.ensures.told (let_go.held t)
            (c.stopped.ensures.gone.closed t) (λ changed. changed (g.met.D.Disk.source_told t))
            (rw c.in-Err.is at laid.packs.cause);
        broken = λ over. part_behind _ _ _ _ _ (let_go.held t)
            (left_none _ _ _ _ (rw c.in-Err.is at laid.broken) (c.stopped.ensures.gone.left t));
      };
}
