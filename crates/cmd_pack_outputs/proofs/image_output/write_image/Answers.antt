use Rattle.std.proofs.Common.{ap, ◌∙◌}
use Rattle.sys_disk.proofs.Worlds.{only_written}
use Rattle.cmd_common_boot.specs.Sources.{faults_of}
use Rattle.cmd_common_boot.specs.declared.fault.BootCommandFault.TheVariants as faults
use Rattle.cmd_pack_outputs.specs.Writing.{failed, untold}
use Rattle.cmd_common_boot.proofs.Causes.{source_failed}
use Rattle.cmd_pack_outputs.proofs.Closes.{call_fails, closed_created, failed_created, left_unopened}
use Rattle.cmd_pack_outputs.proofs.Outputs.{beside_as, judged_stops, lays, left_done, part_emptied}
use Rattle.cmd_pack_outputs.proofs.Outputs.{part_left, spared_made}
use Rattle.cmd_pack_outputs.proofs.Outputs.{ready_image}
use Rattle.cmd_pack_outputs.proofs.image_output.write_image.Goals as goal

-- packing fails

pub returns-in-Err-clause-left : goal.returns-in-Err-clause-left
returns-in-Err-clause-left g c = λ t.
    left_unopened _ _ _ _ _ _ _ _ (ap (λ k. k.output) (c.counted-fault.ensures.fails.held t) ∙ c.requires.one t)
    (c.counted-fault.ensures.fails.world t)

pub returns-in-Err-clause-refused : goal.returns-in-Err-clause-refused
returns-in-Err-clause-refused g c = λ t.
    judged_stops _ _ _ _ _ _ c.in-Err.why _ (c.in-Err.ensures.refused (g.met.D.Disk.source_told t))
    (c.refuse.ensures.fault ∙ c.counted-fault.ensures.told) (c.counted-fault.ensures.fails.held t)
    (c.counted-fault.ensures.fails.world t)

-- what the writing asks for

pub write_to-requires : goal.write_to-requires
write_to-requires g c = record {
  ready = ready_image (faults_of g.D.At.Source.read_faults) c.in-Ok-image.image g.D.Image.Output.written
      g.D.Image.Output.write_faults g.D.Onto.Output.written g.D.Onto.Output.write_faults
      (record { accepted = c.in-Ok.ensures.accepted; nothing = c.requires.nothing }) c.requires.unread
      c.in-Ok-image.ensures.empty c.in-Ok-image.ensures.clean;
  this = c.in-Ok-image.ensures.this;
}

-- OUT cannot be opened

pub returns-in-Err-image-clause-left : goal.returns-in-Err-image-clause-left
returns-in-Err-image-clause-left g c = λ t. record {
  others = c.in-Err-image.ensures.only t;
  guarded = c.in-Err-image.ensures.guarded t;
  closed = ap (λ k. k.output) (c.in-Err-image.ensures.kept t) ∙ c.requires.one t;
  whole = λ o file at. part_emptied _ _ _ (c.in-Err-image.ensures.empties t file at);
  clean = tt;
  synced = tt;
}

pub returns-in-Err-image-clause-refused : goal.returns-in-Err-image-clause-refused
returns-in-Err-image-clause-refused g c = λ t.
    failed (call_fails _ _ _ c.into.ensures (source_failed _ _ _ (c.in-Err-image.ensures.kept t)))

-- the image cannot be written

pub returns-in-Err-write_to-clause-left : goal.returns-in-Err-write_to-clause-left
returns-in-Err-write_to-clause-left g c = λ t.
    let made = c.in-Ok-image.ensures.created t in
    let wrote = c.in-Err-write_to.ensures.writes t in
    record {
      others = only_written _ _ _ _ _ _ made wrote.rest;
      guarded = spared_made _ _ _ _ _ _ made;
      closed = closed_created _ _ _ wrote.closed;
      whole = λ o. part_left _ _ _ _ _ _ _ made wrote.rest
          (wrote.broken (c.in-Ok-image.ensures.kind t o));
      clean = tt;
      synced = tt;
    }

pub returns-in-Err-write_to-clause-refused : goal.returns-in-Err-write_to-clause-refused
returns-in-Err-write_to-clause-refused g c = λ t.
    failed (failed_created _ _ (g.D.Disk.held c.args.disk.now) (g.D.Disk.held c.image.new.self)
    (g.D.Disk.held c.write_to.new.disk) _ _ (c.in-Ok-image.ensures.created t)
    (c.in-Err-write_to.ensures.writes t).failed)

-- nothing can be printed

pub returns-in-Err-printed-clause-left : goal.returns-in-Err-printed-clause-left
returns-in-Err-printed-clause-left g c = λ t.
    let wrote = c.in-Ok-write_to.ensures.writes t in
    left_done _ _ _ _ _ _ _ _ _ _ (c.in-Ok-image.ensures.created t) wrote.rest wrote.ended wrote.closed

pub returns-in-Err-printed-clause-refused : goal.returns-in-Err-printed-clause-refused
returns-in-Err-printed-clause-refused g c = λ t.
    untold (c.into-in-Err-printed.ensures ∙ ap (λ f. faults.Host f) c.in-Err-printed.ensures.fault)
    (lays _ _ _ _ _ _ _ _ _ (c.in-Ok-image.ensures.created t) (c.in-Ok-write_to.ensures.writes t).ended
    (c.in-Ok-write_to.ensures.writes t).number c.in-Err-printed.ensures.refused)

-- all is done

pub returns-in-Ok-printed-clause-left : goal.returns-in-Ok-printed-clause-left
returns-in-Ok-printed-clause-left g c = λ t.
    let made = c.in-Ok-image.ensures.created t in
    let wrote = c.in-Ok-write_to.ensures.writes t in
    left_done _ _ _ _ _ _ _ _ _ _ made wrote.rest wrote.ended wrote.closed

pub returns-in-Ok-printed-clause-done : goal.returns-in-Ok-printed-clause-done
returns-in-Ok-printed-clause-done g c = λ t.
    let wrote = c.in-Ok-write_to.ensures.writes t in
    lays _ _ _ _ _ _ _ _ _ (c.in-Ok-image.ensures.created t) wrote.ended wrote.number
    (beside_as _ _ c.args.report.now c.printed.new.report _ wrote.stream c.in-Ok-printed.ensures.shown)
