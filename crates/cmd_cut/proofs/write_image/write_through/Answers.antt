use Rattle.cmd_cut.proofs.Answered.{holds_end}
use Rattle.cmd_cut.proofs.Counted.{answered, closes_answer, outside_answer}
use Rattle.cmd_cut.proofs.Opened.{if_err}
use Rattle.cmd_cut.proofs.Told.{tells_end}
use Rattle.cmd_cut.proofs.write_image.write_through.Goals as goal

pub returns : goal.returns
returns g c = record {
  writes = λ t.
      let told = g.met.D.Disk.source_told t in
      let fails = c.write_image-answer.ensures.lays.fails in
      record {
        holds = rw (c.let_go_source.ensures.held t, c.let_go_source.ensures.world t) at
            (holds_end c.write_image-answer.result c.ended.result _ _ _ _ _ _ _
            (c.write_image-answer.ensures.lays.written told) c.ended.ensures.done (c.ended.ensures.ended t));
        closed = closes_answer _ _ _ _ _ _ _ _ _ _ (c.requires.ready.image.read t)
            (c.requires.ready.output.clean t) (c.let_go_source.ensures.held t) (c.ended.ensures.closed t) fails.clean
            (answered _ _ c.ended.ensures.done);
        rest = rw (c.let_go_source.ensures.held t, c.let_go_source.ensures.world t) at (c.ended.ensures.rest t);
        outside = outside_answer (λ r. r.fault) c.write_image-answer.result c.ended.result _ _ _ _ _ _ _ _
            (c.requires.ready.image.read t) (c.requires.ready.output.clean t) (c.let_go_source.ensures.held t)
            (c.ended.ensures.closed t) (fails.cause told) c.ended.ensures.told
            (λ ok. if_err c.ended.result _ _ (λ e host. (host.0, host.1, host.2 t)) (c.ended.ensures.host ok));
      };
  stream = λ t. c.ended.ensures.stream t;
  told_of = tells_end (λ r. r.fault) (λ r. r.about.place) c.write_image-answer.result c.ended.result _ _
      c.ended.ensures.told c.ended.ensures.told_of
      (λ ok. if_err c.ended.result _ _ (λ e host. (host.0, host.1)) (c.ended.ensures.host ok));
}
