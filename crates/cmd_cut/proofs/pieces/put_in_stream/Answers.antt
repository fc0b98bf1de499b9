use Rattle.cmd_cut.proofs.Beside.{beside_answer, beside_outside, holds_piece, told_of}
use Rattle.cmd_cut.proofs.Counted.{answered}
use Rattle.cmd_cut.proofs.Opened.{if_err}
use Rattle.cmd_cut.proofs.Told.{tells_end}
use Rattle.cmd_cut.proofs.pieces.put_in_stream.Goals as goal

pub returns : goal.returns
returns g c =
    let cuts = c.write_next-answer.ensures.cuts in
    record {
      puts = λ t.
          let told = g.met.D.Disk.source_told t in
          let fails = c.write_next-answer.ensures.fails in
          record {
            holds = holds_piece _ _ _ _ _ _ _ _ (c.write_next-answer.ensures.laid told) c.ended.ensures.done
                (c.ended.ensures.ended t);
            closed = beside_answer _ _ _ _ _ _ _ _ (c.requires.output.clean t) (c.ended.ensures.closed t) fails.clean
                (answered _ _ c.ended.ensures.done);
            rest = c.ended.ensures.rest t;
            outside = beside_outside (λ r. r.fault) c.write_next-answer.result c.ended.result _ _ _ _ _ _
                (c.requires.output.clean t) (c.ended.ensures.closed t) (fails.cause told) c.ended.ensures.told
                (λ ok. if_err c.ended.result _ _ (λ e host. (host.0, host.1, host.2 t))
                (c.ended.ensures.host ok));
          };
      told = λ t. told_of _ _ _ (c.write_next-answer.ensures.told (g.met.D.Disk.source_told t)) c.ended.ensures.done;
      stream = c.ended.ensures.stream;
      cuts = record {
        is_next = told_of _ _ _ cuts.is_next c.ended.ensures.done;
        cutter = cuts.cutter;
        content = cuts.content;
        told = cuts.told;
      };
      told_of = tells_end (λ r. r.fault) (λ r. r.about.place) c.write_next-answer.result c.ended.result _ _
          c.ended.ensures.told c.ended.ensures.told_of
          (λ ok. if_err c.ended.result _ _ (λ e host. (host.0, host.1)) (c.ended.ensures.host ok));
    }
