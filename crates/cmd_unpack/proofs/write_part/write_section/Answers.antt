use Rattle.std.proofs.Common.{◌∙◌, Bool, ap, subst, true}
use Rattle.cmd_common_boot.proofs.Causes.{host_refused, ok_gives, told_so}
use Rattle.cmd_unpack.proofs.Counts.{copy_failed, end_failed, none_created}
use Rattle.cmd_common_boot.specs.declared.part_names.ImagePart.{ImagePart}
use Rattle.cmd_unpack.specs.Lines.{ShowsLineOf}
use Rattle.cmd_unpack.specs.Unpacking.{path_of_part, section_part}
use Rattle.cmd_unpack.proofs.Loops.{part_done, same_path, same_section, section_named}
use Rattle.cmd_unpack.proofs.Shown.{shown_part}
use Rattle.cmd_common_boot.proofs.Sides.{host_output, reads_host}
use Rattle.cmd_unpack.proofs.UnpackSteps.{part_broken, part_refused, part_written}
use Rattle.cmd_unpack.proofs.write_part.write_section.Goals as goal

pub returns-in-Err : goal.returns-in-Err
returns-in-Err g c = record {
  writes = λ t.
      part_refused (section_named _ _ c.args.i c.section.result _ c.requires.there c.section.ensures.value
      c.place_of-place.ensures.path) _ (c.requires.one t)
      (c.in-Err.ensures.kept t) (c.in-Err.ensures.only t) (c.in-Err.ensures.begun t) (c.in-Err.ensures.guarded t);
  done = λ t. tt;
  shown = λ t. tt;
  rises = tt;
  refused = λ t opened. host_refused _ _ _ _ _ c.into.ensures (none_created _ _ _ _ (c.in-Err.ensures.kept t));
  told_of = reads_host _ c.in-Err.refusal.fault _ _ c.into.ensures;
  told_of_part = λ p found on. absurd (host_output _ c.in-Err.refusal.fault c.into.ensures on);
}

pub returns-in-Ok-finish : goal.returns-in-Ok-finish
returns-in-Ok-finish g c =
    let done = c.in-Ok-finish.ensures.done in
    record {
      writes = λ t.
          let copies = c.copy_section-onto.ensures.copies c.section.result c.section.ensures.value in
          part_written (section_named _ _ c.args.i c.section.result _ c.requires.there c.section.ensures.value
          c.place_of-place.ensures.path)
          (c.in-Ok.ensures.created t) (c.in-Ok-finish.ensures.ends.rest t) _ _ (c.in-Ok-finish.ensures.clean t)
          (ok_gives _ _ done (copies.content (g.met.D.Disk.source_told t))) (c.in-Ok.ensures.clean t)
          (ok_gives _ _ done copies.clean);
      done = λ t p found.
          part_done _ _ _ _ _ true _ _ _ _ _ _ _ (c.place_of-place.ensures.path ∙ same_path _ _ c.args.i
          c.section.result p c.requires.there c.section.ensures.value found)
          c.in-Ok.ensures.empty
          (ok_gives _ _ done ((c.copy_section-onto.ensures.copies p found).written (g.met.D.Disk.source_told t)))
          (c.in-Ok.ensures.created t) (c.in-Ok-finish.ensures.clean t) (c.in-Ok-finish.ensures.ends.ended t);
      shown = λ t p found.
          let on : ImagePart → Bool = λ part. g.D.Disk.on_output (path_of_part c.args.folder.now part) in
          subst (λ part. ShowsLineOf on (record { part = part; bytes = p.size }) c.args.report.now c.finish.new.report)
          (ap section_part (same_section _ c.args.i c.section.result p c.requires.there c.section.ensures.value found))
          (shown_part on _ _ c.args.report.now c.finish.new.report (section_part c.section.result) p.size
          (ap g.D.Disk.on_output c.place_of-place.ensures.written) done (c.in-Ok-finish.ensures.shown t)
          (c.copy_section-onto.ensures.count p found));
      rises = c.in-Ok-finish.ensures.rises;
      refused = λ t opened. tt;
      told_of = tt;
      told_of_part = tt;
    }

pub returns-in-Err-finish : goal.returns-in-Err-finish
returns-in-Err-finish g c =
    let copies = c.copy_section-onto.ensures.copies c.section.result c.section.ensures.value in
    record {
      writes = λ t.
          part_broken (section_named _ _ c.args.i c.section.result _ c.requires.there c.section.ensures.value
          c.place_of-place.ensures.path)
          (c.in-Ok.ensures.created t) (c.in-Err-finish.ensures.ends.rest t) (c.in-Err-finish.ensures.closed t);
      done = λ t. tt;
      shown = λ t. tt;
      rises = tt;
      refused = λ t opened.
          let told = g.met.D.Disk.source_told t in
          told_so _ (g.D.At.Source.content c.args.source.now) _ _ _ _ _ _ (c.in-Err-finish.ensures.told t)
          (copies.refused told opened)
          (λ done cause failed. end_failed _ _ _ _ _ _ _ _ _ (c.in-Ok.ensures.created t)
          (ok_gives _ _ done copies.clean).0 cause failed)
          (λ cause failed. copy_failed _ _ _ _ _ _ _ _ _ _ (c.in-Ok.ensures.created t) (c.in-Ok.ensures.clean t)
          (c.in-Err-finish.ensures.counts t) cause failed)
          (λ done ends. (
            λ p found. part_done _ _ _ _ _ (c.in-Err-finish.ensures.closed t).0 _ _ _ _ _ _ _
                (c.place_of-place.ensures.path ∙ same_path _ _ c.args.i c.section.result p c.requires.there
                c.section.ensures.value found)
                c.in-Ok.ensures.empty
                (ok_gives _ _ done ((c.copy_section-onto.ensures.copies p found).written (g.met.D.Disk.source_told t)))
                (c.in-Ok.ensures.created t) (c.in-Err-finish.ensures.closed t).2 ends.0,
            ends.1,
          ));
      told_of = c.in-Err-finish.ensures.told_of.reads;
      told_of_part = λ p found on. record {
        named = c.place_of-place.result;
        is_named = c.in-Err-finish.ensures.told_of.written on;
        leads = c.place_of-place.ensures.path ∙ same_path _ _ c.args.i c.section.result p c.requires.there
            c.section.ensures.value found;
      };
    }

-- what is given back is what was created
pub finish-requires : goal.finish-requires
finish-requires g c = record {
  this = λ t.
      (c.copy_section-onto.ensures.copies c.section.result c.section.ensures.value).this ∙ c.in-Ok.ensures.this t;
}
