use Rattle.std.proofs.Common.{◌∙◌, ap, true}
use Rattle.cmd_common_boot.proofs.Causes.{host_refused, ok_gives, told_so}
use Rattle.cmd_unpack.proofs.Counts.{copy_failed, end_failed, none_created}
use Rattle.cmd_common_boot.specs.declared.part_names.ImagePart.{ImagePart}
use Rattle.cmd_common_boot.specs.declared.part_names.ImagePart.TheVariants as parts
use Rattle.cmd_unpack.specs.Unpacking.{path_of_part}
use Rattle.cmd_unpack.proofs.Loops.{part_done}
use Rattle.cmd_unpack.proofs.Shown.{shown_part}
use Rattle.cmd_common_boot.proofs.Sides.{host_output, reads_host}
use Rattle.cmd_unpack.proofs.UnpackSteps.{part_broken, part_refused, part_written}
use Rattle.cmd_unpack.proofs.write_part.write_pack_words.Goals as goal

pub returns-in-Err : goal.returns-in-Err
returns-in-Err g c = record {
  writes = λ t.
      part_refused c.place_of-place.ensures.path _ (c.requires.one t)
      (c.in-Err.ensures.kept t) (c.in-Err.ensures.only t) (c.in-Err.ensures.begun t) (c.in-Err.ensures.guarded t);
  done = λ t. tt;
  shown = λ t. tt;
  refused = λ t opened.
      host_refused _ _ _ _ _ c.into.ensures (none_created _ _ _ _ (c.in-Err.ensures.kept t));
  told_of = reads_host _ c.in-Err.refusal.fault _ _ c.into.ensures;
  told_of_part = λ on. absurd (host_output _ c.in-Err.refusal.fault c.into.ensures on);
}

pub returns-in-Ok-finish : goal.returns-in-Ok-finish
returns-in-Ok-finish g c = record {
  writes = λ t.
      let copies = c.copy_words-onto.ensures.copies in
      let done = c.in-Ok-finish.ensures.done in
      part_written c.place_of-place.ensures.path
      (c.in-Ok.ensures.created t) (c.in-Ok-finish.ensures.ends.rest t) _ _ (c.in-Ok-finish.ensures.clean t)
      (ok_gives _ _ done (copies.content (g.met.D.Disk.source_told t))) (c.in-Ok.ensures.clean t)
      (ok_gives _ _ done copies.clean);
  done = λ t.
      part_done _ _ _ _ _ true _ _ _ _ _ _ _ c.place_of-place.ensures.path
      c.in-Ok.ensures.empty
      (ok_gives _ _ c.in-Ok-finish.ensures.done (c.copy_words-onto.ensures.copies.written
      (g.met.D.Disk.source_told t)))
      (c.in-Ok.ensures.created t) (c.in-Ok-finish.ensures.clean t) (c.in-Ok-finish.ensures.ends.ended t);
  shown = λ t.
      shown_part (λ (part : ImagePart). g.D.Disk.on_output (path_of_part c.args.folder.now part)) _ _
      c.args.report.now c.finish.new.report parts.Words _
      (ap g.D.Disk.on_output c.place_of-place.ensures.written) c.in-Ok-finish.ensures.done
      (c.in-Ok-finish.ensures.shown t) (c.copy_words-onto.ensures.count (g.met.D.Disk.source_told t));
  refused = λ t opened. tt;
  told_of = tt;
  told_of_part = tt;
}

pub returns-in-Err-finish : goal.returns-in-Err-finish
returns-in-Err-finish g c = record {
  writes = λ t.
      part_broken c.place_of-place.ensures.path
      (c.in-Ok.ensures.created t) (c.in-Err-finish.ensures.ends.rest t) (c.in-Err-finish.ensures.closed t);
  done = λ t. tt;
  shown = λ t. tt;
  refused = λ t opened.
      let told = g.met.D.Disk.source_told t in
      told_so _ (g.D.At.Source.content c.args.source.now) _ _ _ _ _ _ (c.in-Err-finish.ensures.told t)
      (c.copy_words-onto.ensures.copies.refused told opened)
      (λ done cause failed. end_failed _ _ _ _ _ _ _ _ _ (c.in-Ok.ensures.created t)
      (ok_gives _ _ done c.copy_words-onto.ensures.copies.clean).0 cause failed)
      (λ cause failed. copy_failed _ _ _ _ _ _ _ _ _ _ (c.in-Ok.ensures.created t) (c.in-Ok.ensures.clean t)
      (c.in-Err-finish.ensures.counts t) cause failed)
      (λ done ends. (
        part_done _ _ _ _ _ (c.in-Err-finish.ensures.closed t).0 _ _ _ _ _ _ _ c.place_of-place.ensures.path
            c.in-Ok.ensures.empty
            (ok_gives _ _ done (c.copy_words-onto.ensures.copies.written (g.met.D.Disk.source_told t)))
            (c.in-Ok.ensures.created t) (c.in-Err-finish.ensures.closed t).2 ends.0,
        ends.1,
      ));
  told_of = c.in-Err-finish.ensures.told_of.reads;
  told_of_part = λ on. record {
    named = c.place_of-place.result;
    is_named = c.in-Err-finish.ensures.told_of.written on;
    leads = c.place_of-place.ensures.path;
  };
}

-- what is given back is what was created
pub finish-requires : goal.finish-requires
finish-requires g c = record {
  this = λ t. c.copy_words-onto.ensures.copies.this ∙ c.in-Ok.ensures.this t;
}
