use Rattle.std.specs.Prelude.{false, true}
use Rattle.cmd_unpack_aosp.proofs.Ends.{answer_done, answer_told, closed_by, counts_all}
use Rattle.cmd_unpack_aosp.proofs.write_part.finish.Goals as goal

pub returns-in-Ok : goal.returns-in-Ok
returns-in-Ok g c = record {
  done = answer_done c.args.answer c.of_bytes.result c.in-Ok._end.0 c.of_bytes.ensures c.in-Ok.ensures.done;
  ends = record { ended = c.in-Ok.ensures.ended; rest = c.in-Ok.ensures.rest };
  closed = λ t. closed_by true (g.D.Onto.Output.written c.args.onto) _
      (g.D.Disk.held c.args.disk.now) (g.D.Disk.held c.ended.new.disk) (g.D.Disk.world c.args.disk.now)
      (g.D.Disk.world c.ended.new.disk) (c.in-Ok.ensures.closed t);
  clean = c.in-Ok.ensures.clean;
  counts = λ t. counts_all true (g.D.Onto.Output.written c.args.onto) (g.D.Onto.Output.write_faults c.args.onto)
      (g.D.Disk.held c.args.disk.now) (g.D.Disk.held c.ended.new.disk) (g.D.Disk.world c.args.disk.now)
      (g.D.Disk.world c.ended.new.disk) (c.in-Ok.ensures.closed t);
  told = λ t. tt;
}

pub returns-in-Err : goal.returns-in-Err
returns-in-Err g c = record {
  done = tt;
  ends = record { ended = λ t. tt; rest = c.in-Err.ensures.rest };
  closed = λ t. closed_by false (g.D.Onto.Output.written c.args.onto) _
      (g.D.Disk.held c.args.disk.now) (g.D.Disk.held c.ended.new.disk) (g.D.Disk.world c.args.disk.now)
      (g.D.Disk.world c.ended.new.disk) (c.in-Err.ensures.closed t);
  clean = λ t. tt;
  counts = λ t. counts_all false (g.D.Onto.Output.written c.args.onto) (g.D.Onto.Output.write_faults c.args.onto)
      (g.D.Disk.held c.args.disk.now) (g.D.Disk.held c.ended.new.disk) (g.D.Disk.world c.args.disk.now)
      (g.D.Disk.world c.ended.new.disk) (c.in-Err.ensures.closed t);
  told = λ t. answer_told c.args.answer c.of_bytes.result (g.D.Onto.Output.write_faults c.args.onto)
      (g.D.Disk.held c.args.disk.now) (g.D.Disk.held c.ended.new.disk) c.in-Err.refusal.fault c.of_bytes.ensures
      c.in-Err.ensures.told
      (λ done. let host = c.in-Err.ensures.host done in (host.0, host.1, host.2 t));
}
