use Rattle.std.proofs.Common.{◌∙◌}
use Rattle.sys_report.specs.Shows.{ShowsBeside, Unprinted}
use Rattle.sys_refusals.specs.Paths.{output_path, path_of}
use Rattle.cmd_pack.specs.RefusingAgain.{no_image}
use Rattle.cmd_pack.specs.Repacking.{ShowsFirst}
use Rattle.cmd_pack.proofs.Repacks.{clean_all, failed_all, keeps_all, left_all, refuses_all, repacks}
use Rattle.cmd_pack_outputs.proofs.Closes.{left_unopened}
use Rattle.cmd_pack.proofs.Repacks.{keeps_read}
use Rattle.cmd_pack.proofs.repack.repack_file.Goals as goal

-- IN could not be opened, or is no image
pub returns-in-Err : goal.returns-in-Err
returns-in-Err g c = record {
  done = λ t. tt;
  left = λ t.
      left_unopened _ _ _ _ _ _ _ _ ((c.in-Err.ensures.opens.keeps t).output ∙ (c.requires.first t).output)
      (c.in-Err.ensures.opens.keeps t).world;
  inputs = λ t. keeps_read _ c.args.command.now _ _ (c.in-Err.ensures.opens.keeps t).world;
  refused = λ t. no_image (c.in-Err.ensures.refused t) (c.in-Err.ensures.opens.keeps t).world;
}

-- it was packed
pub returns-in-Ok-answer : goal.returns-in-Ok-answer
returns-in-Ok-answer g c = record {
  done = λ t.
      repacks (path_of c.args.input) c.args.command.now _ _ _ _ _ _ _ _ (c.in-Ok.ensures.opens.opened t)
      (c.in-Ok.ensures.image (g.met.D.Disk.source_told t))
      (c.in-Ok.ensures.opens.keeps t).world (c.let_go_source.ensures.world t)
      (ShowsBeside (g.D.Disk.on_output (output_path c.args.command.now.output.now)) c.args.report.now
      c.pack_again-answer.new.report)
      (ShowsFirst (g.D.Disk.on_output (output_path c.args.command.now.output.now)) c.args.report.now
      c.tell_left_out.new.report)
      (λ line shown. record {
        between = c.pack_again-answer.new.report;
        line = shown;
        behind = c.tell_left_out.ensures;
      }) (c.in-Ok-answer.ensures.done t);
  left = λ t.
      left_all (path_of c.args.input) c.args.command.now _ _ _ _ _ _ _ _ (c.in-Ok.ensures.opens.opened t)
      (c.in-Ok.ensures.image (g.met.D.Disk.source_told t)) (c.in-Ok.ensures.opens.keeps t).world
      (c.let_go_source.ensures.world t)
      _ _ _ _ _ _ (λ e. e) (c.let_go_source.ensures.held t)
      (clean_all _ _ _ _ _ _ _ _ _ _ (c.in-Ok.ensures.opens.opened t) (c.in-Ok.ensures.opens.unread t)
      (c.in-Ok-answer.ensures.clean t) (c.let_go_source.ensures.held t)) (c.in-Ok-answer.ensures.left t);
  inputs = λ t.
      keeps_all (path_of c.args.input) c.args.command.now _ _ _ _ _ _ _ _ (c.in-Ok.ensures.opens.opened t)
      (c.in-Ok.ensures.image (g.met.D.Disk.source_told t))
      (c.in-Ok.ensures.opens.keeps t).world (c.let_go_source.ensures.world t) (c.in-Ok-answer.ensures.left t).others
      (c.in-Ok-answer.ensures.given t);
  refused = λ t. tt;
}

pub returns-in-Err-answer : goal.returns-in-Err-answer
returns-in-Err-answer g c = record {
  done = λ t. tt;
  left = λ t.
      left_all (path_of c.args.input) c.args.command.now _ _ _ _ _ _ _ _ (c.in-Ok.ensures.opens.opened t)
      (c.in-Ok.ensures.image (g.met.D.Disk.source_told t)) (c.in-Ok.ensures.opens.keeps t).world
      (c.let_go_source.ensures.world t)
      _ _ _ _ _ _ (λ e. tt) (c.let_go_source.ensures.held t) tt (c.in-Err-answer.ensures.left t);
  inputs = λ t.
      keeps_all (path_of c.args.input) c.args.command.now _ _ _ _ _ _ _ _ (c.in-Ok.ensures.opens.opened t)
      (c.in-Ok.ensures.image (g.met.D.Disk.source_told t))
      (c.in-Ok.ensures.opens.keeps t).world (c.let_go_source.ensures.world t) (c.in-Err-answer.ensures.left t).others
      (c.in-Err-answer.ensures.given t);
  refused = λ t.
      refuses_all (path_of c.args.input) c.args.command.now _ _ _ _ _ _ _ _ (c.in-Ok.ensures.opens.opened t)
      (c.in-Ok.ensures.image (g.met.D.Disk.source_told t))
      (c.in-Ok.ensures.opens.keeps t).world (c.let_go_source.ensures.world t) _ _ _ _ _
      (c.in-Err-answer.ensures.refused t)
      (λ cause failed. failed_all _ _ _ _ _ _ _ _ _ _ cause (c.in-Ok.ensures.opens.opened t) failed
      (c.let_go_source.ensures.held t))
      (λ done. repacks (path_of c.args.input) c.args.command.now _ _ _ _ _ _ _ _ (c.in-Ok.ensures.opens.opened t)
      (c.in-Ok.ensures.image (g.met.D.Disk.source_told t))
      (c.in-Ok.ensures.opens.keeps t).world (c.let_go_source.ensures.world t) _
      (Unprinted c.args.report.now c.pack_again-answer.new.report) (λ line shown. shown) done);
}
