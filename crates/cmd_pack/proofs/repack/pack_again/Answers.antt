use Rattle.std.proofs.Common.{◌∙◌, ap, subst, sym}
use Rattle.sys_refusals.specs.Paths.{output_path}
use Rattle.sys_report.specs.Shows.{ShowsBeside, Unprinted}
use Rattle.abt_sections.specs.Header.{fragment_count, view_of}
use Rattle.abt_sections.specs.Open.{IsOpened}
use Rattle.cmd_pack_inputs.specs.Own.{entries_to}
use Rattle.cmd_pack.proofs.Again.{content_done, content_left, content_refused, judging_refuses, stays_kept}
use Rattle.cmd_pack.proofs.Repacks.{calls_failed, nothing_more}
use Rattle.cmd_pack.proofs.Left.{left_refused, left_told}
use Rattle.cmd_pack_outputs.proofs.Closes.{left_unopened}
use Rattle.cmd_pack.proofs.repack.pack_again.Goals as goal

-- the words are wrong, or the image could not be read
pub returns-in-Err : goal.returns-in-Err
returns-in-Err g c = record {
  done = λ t. tt;
  clean = λ t. tt;
  left = λ t.
      left_unopened _ _ _ _ _ _ _ _
      (ap (λ k. k.output) (c.counted-fault.ensures.fails.held t) ∙ (c.requires.first t).output)
      (c.counted-fault.ensures.fails.world t);
  given = λ t.
      stays_kept c.args.command.now _ _ _ (c.counted-fault.ensures.fails.world t);
  refused = λ t.
      judging_refuses c.args.command.now _ _ _ _ _ _ _ _ _ _ c.in-Err.why _ (c.counted-fault.ensures.fails.world t)
      c.of_header-kind.ensures (c.of_own.ensures ∙ c.counted-fault.ensures.told) (c.counted-fault.ensures.fails.held t)
      c.in-Err.ensures.reads.faults
      (c.in-Err.ensures.refused (g.met.D.Disk.source_told t) (c.requires.opened (g.met.D.Disk.source_told t)));
}

-- it is packed
pub returns-in-Ok-write_again : goal.returns-in-Ok-write_again
returns-in-Ok-write_again g c = record {
  done = λ t.
      content_done c.args.command.now _ _ _ _ _ _
      (ShowsBeside (g.D.Disk.on_output (output_path c.args.command.now.output.now)) c.args.report.now
      c.write_again.new.report)
      (c.in-Ok.ensures.reads.content (g.met.D.Disk.source_told t)) (c.in-Ok-write_again.ensures.done t);
  clean = λ t.
      nothing_more _ _ _ _ (c.in-Ok-write_again.ensures.left t).clean c.in-Ok.ensures.reads.clean;
  left = λ t.
      content_left _ c.args.command.now _ _ (view_of c.args.own.now.image.header) (g.D.Disk.world c.args.disk.now)
      (output_path c.args.command.now.output.now) _ _ _ _ _ (c.in-Ok.ensures.reads.content (g.met.D.Disk.source_told t))
      (left_told _ (c.in-Ok-write_again.ensures.left t));
  given = (c.in-Ok-write_again.ensures.given);
  refused = λ t. tt;
}

-- it is not
pub returns : goal.returns
returns g c = record {
  done = λ t. tt;
  clean = λ t. tt;
  left = λ t.
      content_left _ c.args.command.now _ _ (view_of c.args.own.now.image.header) (g.D.Disk.world c.args.disk.now)
      (output_path c.args.command.now.output.now) _ _ _ _ _ (c.in-Ok.ensures.reads.content (g.met.D.Disk.source_told t))
      (left_refused _ (c.in-Err-write_again.ensures.left t));
  given = c.in-Err-write_again.ensures.given;
  refused = λ t.
      content_refused c.args.command.now _ _ _ _ _ _ _ _ (Unprinted c.args.report.now c.write_again.new.report) _
      (c.in-Ok.ensures.reads.content (g.met.D.Disk.source_told t)) (c.in-Err-write_again.ensures.refused t)
      (λ cause failed. calls_failed _ _ _ _ cause c.in-Ok.ensures.reads.clean failed);
}

pub write_again-requires-clause-own : goal.write_again-requires-clause-own
write_again-requires-clause-own g c =
    let h = view_of c.args.own.now.image.header in
    record {
      opened = λ told. subst (λ x. IsOpened x c.args.own.now.image) (sym (c.in-Ok.ensures.reads.content told))
          (c.requires.opened told);
      kind = c.of_header-kind.ensures;
      taken = c.in-Ok.ensures.taken;
      entries = λ told none. c.in-Ok.ensures.entries told none
          ∙ ap (λ x. entries_to x h (fragment_count h)) (sym (c.in-Ok.ensures.reads.content told));
    }
