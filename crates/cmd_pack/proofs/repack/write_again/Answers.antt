use Rattle.std.proofs.Common.{◌∙◌, refl}
use Rattle.std.specs.Prelude.{IsTrue}
use Rattle.sys_refusals.specs.Paths.{output_path}
use Rattle.sys_report.specs.Shows.{ShowsBeside, Unprinted}
use Rattle.cmd_pack_outputs.specs.Contents.{packing_of}
use Rattle.cmd_common_boot.specs.Sources.{content_of}
use Rattle.cmd_pack.proofs.Again.{filling_refuses, keeps_again, left_again, packs_again, ready}
use Rattle.cmd_pack.proofs.Again.{stays_kept}
use Rattle.cmd_pack.proofs.Again.{words_refuse, writing_stops}
use Rattle.cmd_pack.proofs.Packs.{lays_beside}
use Rattle.cmd_pack_outputs.proofs.Closes.{left_unopened}
use Rattle.cmd_pack.proofs.repack.write_again.Goals as goal

-- the words are wrong
pub returns-in-Err : goal.returns-in-Err
returns-in-Err g c = record {
  done = λ t. tt;
  left = λ t. left_unopened _ _ _ _ _ _ _ _ (c.requires.first t).output refl;
  given = λ t. stays_kept c.args.command.now _ _ _ refl;
  refused = λ t.
      words_refuse c.args.command.now _ _ _ _ _ _ c.args.kind _ _ _ refl c.requires.own.kind
      c.own_fields-own_fields.ensures
      c.of_own.ensures c.in-Err.ensures.wrong;
}

-- the data is incomplete
pub returns-in-Err-contents_of : goal.returns-in-Err-contents_of
returns-in-Err-contents_of g c = record {
  done = λ t. tt;
  left = λ t.
      left_unopened _ _ _ _ _ _ _ _ ((c.in-Err-contents_of.ensures.fills.keeps t).output ∙ (c.requires.first t).output)
      (c.in-Err-contents_of.ensures.fills.keeps t).world;
  given = λ t.
      stays_kept c.args.command.now _ _ _ (c.in-Err-contents_of.ensures.fills.keeps t).world;
  refused = λ t.
      filling_refuses c.args.command.now _ _ _ _ _ _ _ (c.in-Err-contents_of.ensures.fills.keeps t).world
      (c.in-Err-contents_of.ensures.refused t);
}

pub write_image-requires-clause-one : goal.write_image-requires-clause-one
write_image-requires-clause-one g c = λ t.
    (c.in-Ok-contents_of.ensures.fills.keeps t).output ∙ (c.requires.first t).output

-- it is written
pub returns-in-Ok-write_image : goal.returns-in-Ok-write_image
returns-in-Ok-write_image g c =
    let hand = λ (t : IsTrue g.D.Disk.models). ready c.args.command.now _ _ _ _ _ _ c.args.kind _ _ _
    (packing_of (content_of g.D.At.Source.content) c.in-Ok-contents_of.contents) _ c.requires.own.kind
    c.in-Ok-contents_of.ensures.fills.kind (c.in-Ok-contents_of.ensures.fills.keeps t).world
    (c.in-Ok-contents_of.ensures.fills.opened t) c.own_fields-own_fields.ensures c.in-Ok.ensures.given
    (c.in-Ok-contents_of.ensures.asked t) (c.in-Ok-contents_of.ensures.behind t) in
    record {
      done = λ t.
          packs_again c.args.command.now _ _ _ _ _ _ _ _ (hand t) _ _
          (ShowsBeside (g.D.Disk.on_output (output_path c.args.command.now.output.now)) c.args.report.now
          c.write_image.new.report) c.output_at-output.ensures
          (lays_beside g.D.Disk.on_output _ _ _ _ _ _ c.args.report.now c.write_image.new.report
          c.output_at-output.ensures
          (c.in-Ok-write_image.ensures.done t));
      left = λ t.
          left_again c.args.command.now _ _ _ _ _ _ _ _ (hand t) _
          (g.D.Disk.world c.write_image.new.disk) (g.D.Disk.held c.write_image.new.disk) _ g.D.Disk.is_over
          c.output_at-output.ensures (c.in-Ok-write_image.ensures.left t);
      given = λ t.
          keeps_again c.args.command.now _ _ _ _ _ _ _ _ (hand t) _ _
          (c.in-Ok-write_image.ensures.left t).others;
      refused = λ t. tt;
    }

pub returns-in-Err-write_image : goal.returns-in-Err-write_image
returns-in-Err-write_image g c =
    let hand = λ (t : IsTrue g.D.Disk.models). ready c.args.command.now _ _ _ _ _ _ c.args.kind _ _ _
    (packing_of (content_of g.D.At.Source.content) c.in-Ok-contents_of.contents) _ c.requires.own.kind
    c.in-Ok-contents_of.ensures.fills.kind (c.in-Ok-contents_of.ensures.fills.keeps t).world
    (c.in-Ok-contents_of.ensures.fills.opened t) c.own_fields-own_fields.ensures c.in-Ok.ensures.given
    (c.in-Ok-contents_of.ensures.asked t) (c.in-Ok-contents_of.ensures.behind t) in
    record {
      done = λ t. tt;
      left = λ t.
          left_again c.args.command.now _ _ _ _ _ _ _ _ (hand t) _
          (g.D.Disk.world c.write_image.new.disk) (g.D.Disk.held c.write_image.new.disk) _ g.D.Disk.is_over
          c.output_at-output.ensures (c.in-Err-write_image.ensures.left t);
      given = λ t.
          keeps_again c.args.command.now _ _ _ _ _ _ _ _ (hand t) _ _
          (c.in-Err-write_image.ensures.left t).others;
      refused = λ t.
          writing_stops c.args.command.now _ _ _ _ _ _ _ _ (hand t) _ _ _
          (Unprinted c.args.report.now c.write_image.new.report) _ c.output_at-output.ensures
          (c.in-Err-write_image.ensures.refused t);
    }
