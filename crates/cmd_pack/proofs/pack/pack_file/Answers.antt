use Rattle.std.proofs.Common.{ap, refl, sym, subst, ◌∙◌}
use Rattle.std.specs.List.{All}
use Rattle.std.specs.Prelude.{IsTrue}
use Rattle.sys_report.specs.Shows.{Unprinted}
use Rattle.sys_disk.specs.World.{World}
use Rattle.cmd_common_boot.specs.Carried.{IsTaken}
use Rattle.cmd_pack_outputs.specs.Contents.{packed_image}
use Rattle.cmd_pack.specs.Packing.{IsPackedBy}
use Rattle.cmd_common_boot.specs.Sources.{content_of}
use Rattle.cmd_pack.proofs.Packs.{given_kind, keeps_given, lays_beside, left_behind, opens_kind, packed_by, packs}
use Rattle.cmd_pack.proofs.Packs.{refuses_filling, refuses_words, refuses_writing, stops_kind}
use Rattle.cmd_pack_outputs.proofs.Closes.{left_unopened}
use Rattle.cmd_pack.proofs.pack.pack_file.Goals as goal

-- what the steps ask for

pub contents_of-requires-clause-first : goal.contents_of-requires-clause-first
contents_of-requires-clause-first g c = λ t. (c.requires.first t).begun

pub contents_of-requires-clause-kind : goal.contents_of-requires-clause-kind
contents_of-requires-clause-kind g c = c.in-Ok.ensures.kind

pub contents_of-requires-clause-versioned : goal.contents_of-requires-clause-versioned
contents_of-requires-clause-versioned g c = c.in-Ok.ensures.given.version

pub contents_of-requires-clause-taken : goal.contents_of-requires-clause-taken
contents_of-requires-clause-taken g c =
    subst (λ k. All (IsTaken k) c.args.command.now.texts.fragments.items) (sym c.in-Ok.ensures.kind)
    c.in-Ok.ensures.taken

pub write_image-requires-clause-one : goal.write_image-requires-clause-one
write_image-requires-clause-one g c = λ t.
    (c.in-Ok-contents_of.ensures.fills.keeps t).output ∙ (c.requires.first t).output

-- the words are wrong

pub returns-in-Err : goal.returns-in-Err
returns-in-Err g c = record {
  done = λ t. tt;
  left = λ t. left_unopened _ _ _ _ _ _ _ _ (c.requires.first t).output refl;
  inputs = λ t path given f there. refl;
  refused = λ t. refuses_words _ _ _ _ _ _ c.in-Err.ensures.wrong c.of.ensures;
}

-- the image is not filled

pub returns-in-Err-contents_of : goal.returns-in-Err-contents_of
returns-in-Err-contents_of g c = record {
  done = λ t. tt;
  left = λ t.
      left_unopened _ _ _ _ _ _ _ _ ((c.in-Err-contents_of.ensures.fills.keeps t).output ∙ (c.requires.first t).output)
      (c.in-Err-contents_of.ensures.fills.keeps t).world;
  inputs = λ t path given f there.
      ap (λ (u : World). u.holds f) (c.in-Err-contents_of.ensures.fills.keeps t).world;
  refused = λ t.
      refuses_filling _ _ _ _ _ _ _ (c.in-Err-contents_of.ensures.fills.keeps t).world
      (stops_kind _ _ _ _ _ _ _ _ c.in-Ok.ensures.kind (c.in-Err-contents_of.ensures.refused t));
}

-- it is not written

pub returns-in-Err-write_image : goal.returns-in-Err-write_image
returns-in-Err-write_image g c =
    let opens = λ (t : IsTrue g.D.Disk.models).
    opens_kind _ _ _ _ _ _ c.in-Ok.ensures.kind (c.in-Ok-contents_of.ensures.fills.opened t) in
    let said = given_kind _ _ _ _ _ c.in-Ok.ensures.kind c.in-Ok.ensures.given in
    let kind = c.in-Ok-contents_of.ensures.fills.kind ∙ c.in-Ok.ensures.kind in
    record {
      done = λ t. tt;
      left = λ t.
          left_behind _ _ _ _ g.D.Disk.is_over (IsPackedBy c.args.command.now (g.D.Disk.world c.args.disk.now))
          (packed_image (content_of g.D.At.Source.content) c.in-Ok-contents_of.contents)
          (g.D.Disk.world c.args.disk.now)
          (g.D.Disk.world c.contents_of.new.disk) (g.D.Disk.world c.write_image.new.disk)
          (g.D.Disk.held c.args.disk.now) (g.D.Disk.held c.contents_of.new.disk) (g.D.Disk.held c.write_image.new.disk)
          c.output_at-output.ensures
          (c.in-Ok-contents_of.ensures.fills.keeps t).world (c.in-Ok-contents_of.ensures.fills.opened t)
          (λ x e. packed_by (content_of g.D.At.Source.content) c.args.command.now (g.D.Disk.world c.args.disk.now) _
          c.in-Ok-contents_of.contents x (c.in-Ok.ensures.known refl)
          said kind (c.in-Ok-contents_of.ensures.asked t)
          c.in-Ok-contents_of.ensures.alone e)
          (c.in-Err-write_image.ensures.left t);
      inputs = λ t.
          keeps_given c.args.command.now _ _ _ _ _ _ (c.in-Ok-contents_of.ensures.fills.keeps t).world
          (opens t)
          (c.in-Err-write_image.ensures.left t).others;
      refused = λ t.
          refuses_writing (content_of g.D.At.Source.content) c.args.command.now _ _ _ _ _ _ _
          c.in-Ok-contents_of.contents
          _ _ _ (c.in-Ok-contents_of.ensures.fills.keeps t).world
          (opens t)
          said kind (c.in-Ok-contents_of.ensures.asked t)
          (packs c.args.command.now _ _ _ _ _ _ _ (Unprinted c.args.report.now c.write_image.new.report)
          c.output_at-output.ensures
          (c.in-Ok-contents_of.ensures.fills.keeps t).world
          (opens t)
          (packed_by (content_of g.D.At.Source.content) c.args.command.now _ _ c.in-Ok-contents_of.contents _
          (c.in-Ok.ensures.known refl) said
          kind (c.in-Ok-contents_of.ensures.asked t)
          c.in-Ok-contents_of.ensures.alone refl))
          (c.in-Err-write_image.ensures.refused t);
    }

-- all is done

pub returns-in-Ok-write_image : goal.returns-in-Ok-write_image
returns-in-Ok-write_image g c =
    let opens = λ (t : IsTrue g.D.Disk.models).
    opens_kind _ _ _ _ _ _ c.in-Ok.ensures.kind (c.in-Ok-contents_of.ensures.fills.opened t) in
    let said = given_kind _ _ _ _ _ c.in-Ok.ensures.kind c.in-Ok.ensures.given in
    let kind = c.in-Ok-contents_of.ensures.fills.kind ∙ c.in-Ok.ensures.kind in
    record {
      done = λ t.
          packs c.args.command.now _ _ _ _ _ _ _ _ c.output_at-output.ensures
          (c.in-Ok-contents_of.ensures.fills.keeps t).world
          (opens t)
          (packed_by (content_of g.D.At.Source.content) c.args.command.now _ _ c.in-Ok-contents_of.contents _
          (c.in-Ok.ensures.known refl) said
          kind (c.in-Ok-contents_of.ensures.asked t)
          c.in-Ok-contents_of.ensures.alone refl)
          (lays_beside g.D.Disk.on_output _ _ _ _ _ _ c.args.report.now c.write_image.new.report
          c.output_at-output.ensures
          (c.in-Ok-write_image.ensures.done t));
      left = λ t.
          left_behind _ _ _ _ g.D.Disk.is_over (IsPackedBy c.args.command.now (g.D.Disk.world c.args.disk.now))
          (packed_image (content_of g.D.At.Source.content) c.in-Ok-contents_of.contents)
          (g.D.Disk.world c.args.disk.now)
          (g.D.Disk.world c.contents_of.new.disk) (g.D.Disk.world c.write_image.new.disk)
          (g.D.Disk.held c.args.disk.now) (g.D.Disk.held c.contents_of.new.disk) (g.D.Disk.held c.write_image.new.disk)
          c.output_at-output.ensures
          (c.in-Ok-contents_of.ensures.fills.keeps t).world (c.in-Ok-contents_of.ensures.fills.opened t)
          (λ x e. packed_by (content_of g.D.At.Source.content) c.args.command.now (g.D.Disk.world c.args.disk.now) _
          c.in-Ok-contents_of.contents x (c.in-Ok.ensures.known refl)
          said kind (c.in-Ok-contents_of.ensures.asked t)
          c.in-Ok-contents_of.ensures.alone e)
          (c.in-Ok-write_image.ensures.left t);
      inputs = λ t.
          keeps_given c.args.command.now _ _ _ _ _ _ (c.in-Ok-contents_of.ensures.fills.keeps t).world
          (opens t)
          (c.in-Ok-write_image.ensures.left t).others;
      refused = λ t. tt;
    }
