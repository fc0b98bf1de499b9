use Rattle.std.proofs.lemmas.Bool.{false≢true}
use Rattle.std.specs.Prelude.{IsTrue}
use Rattle.cmd_common_boot.specs.declared.fault.BootCommandFault.TheVariants as faults
use Rattle.cmd_pack_outputs.proofs.Closes.{answer_fails, answered, closes_answer}
use Rattle.cmd_pack_outputs.proofs.Outputs.{counts_end, ends_end, rest_behind, told_done}
use Rattle.cmd_pack_outputs.proofs.image_output.write_through.Goals as goal

pub returns : goal.returns
returns g c = record {
  writes = λ t.
      let packs = c.pack_contents-answer.ensures.packs in
      let let_go = c.let_go.ensures.fails in
      let told = g.met.D.Disk.source_told t in
      record {
        ended = ends_end c.pack_contents-answer.result c.of_bytes.result c.ended.result faults.Section _ _ _ _ _ _ _ _ _
            c.of_bytes.ensures c.ended.ensures.done c.requires.ready.empty (let_go.held t) (let_go.world t)
            (packs.written told) (c.ended.ensures.ended t);
        number = counts_end c.pack_contents-answer.result c.of_bytes.result c.ended.result faults.Section _
            c.of_bytes.ensures c.ended.ensures.done (packs.number told);
        stream = c.ended.ensures.stream t;
        closed = closes_answer c.of_bytes.result c.ended.result _ _ _ _ _ _ _ _ (c.requires.ready.unread t)
            (c.requires.ready.clean t) (let_go.held t) (c.ended.ensures.closed t)
            (told_done c.pack_contents-answer.result c.of_bytes.result faults.Section _ c.of_bytes.ensures packs.clean)
            (answered _ _ c.ended.ensures.done);
        rest = rest_behind _ _ _ _ _ _ (let_go.held t) (let_go.world t) (c.ended.ensures.rest t);
        failed = answer_fails c.pack_contents-answer.result c.of_bytes.result c.ended.result (λ r. r.fault) _ _ _ _ _ _
            (IsTrue g.D.Disk.models) _ _ _ c.of_bytes.ensures (let_go.held t) (c.ended.ensures.closed t)
            (λ changed. changed told) packs.cause c.ended.ensures.told t c.ended.ensures.host;
        broken = λ over. absurd (false≢true over);
      };
}
