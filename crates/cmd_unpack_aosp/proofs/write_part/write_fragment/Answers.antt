use Rattle.std.proofs.Common.{◌∙◌, true, inl, inr}
use Rattle.cmd_common_boot.proofs.Causes.{host_refused, ok_gives, told_so}
use Rattle.cmd_unpack.proofs.Counts.{copy_failed, end_failed, none_created}
use Rattle.cmd_unpack.proofs.Loops.{part_done}
use Rattle.cmd_unpack.proofs.UnpackSteps.{part_broken, part_refused, part_written}
use Rattle.cmd_unpack_aosp.proofs.Files.{file_done, file_named, fragment_bytes, fragment_found, fragment_in_count}
use Rattle.cmd_unpack_aosp.proofs.Files.{nothing_begun}
use Rattle.cmd_unpack_aosp.proofs.write_part.write_fragment.Goals as goal

-- it has no name
pub returns-in-None : goal.returns-in-None
returns-in-None g c = record {
  writes = λ t. (0, nothing_begun (c.requires.one t));
  done = λ t. tt;
  refused = λ t opened.
      inr (record {
        index = c.args.index;
        behind = c.in-None.ensures;
        there = c.requires.there;
        told = c.of.ensures;
      });
}

-- it could not be created
pub returns-in-Err : goal.returns-in-Err
returns-in-Err g c = record {
  writes = λ t. (
    0,
    part_refused (file_named _ _ c.args.i c.in-Some.name.now _
        (fragment_in_count _ c.args.i c.args.index c.requires.behind c.requires.there)
        (fragment_found _ c.args.i c.args.index _ c.requires.behind c.in-Some.ensures)
        c.place_in-place.ensures) _ (c.requires.one t)
        (c.in-Err.ensures.kept t) (c.in-Err.ensures.only t) (c.in-Err.ensures.begun t) (c.in-Err.ensures.guarded t),
  );
  done = λ t. tt;
  refused = λ t opened.
      inl (host_refused _ _ _ _ _ c.into.ensures (none_created _ _ _ _ (c.in-Err.ensures.kept t)));
}

-- it was written
pub returns-in-Ok-finish : goal.returns-in-Ok-finish
returns-in-Ok-finish g c = record {
  writes = λ t.
      let copies = c.copy_fragment-onto.ensures.copies in
      let done = c.in-Ok-finish.ensures.done in (
        1,
        part_written (file_named _ _ c.args.i c.in-Some.name.now _
            (fragment_in_count _ c.args.i c.args.index c.requires.behind c.requires.there)
            (fragment_found _ c.args.i c.args.index _ c.requires.behind c.in-Some.ensures)
            c.place_in-place.ensures)
            (c.in-Ok.ensures.created t) (c.in-Ok-finish.ensures.ends.rest t) _ _ (c.in-Ok-finish.ensures.clean t)
            (ok_gives _ _ done (copies.content (g.met.D.Disk.source_told t))) (c.in-Ok.ensures.clean t)
            (ok_gives _ _ done copies.clean),
      );
  done = λ t.
      let copies = c.copy_fragment-onto.ensures.copies in
      file_done _ _ _ c.args.i _ _ c.in-Some.name.now _
      (fragment_found _ c.args.i c.args.index _ c.requires.behind c.in-Some.ensures)
      (fragment_bytes _ _ c.args.i c.args.index c.requires.behind)
      (part_done _ _ _ _ _ true _ _ _ _ _ _ _ c.place_in-place.ensures c.in-Ok.ensures.empty
      (ok_gives _ _ c.in-Ok-finish.ensures.done (copies.written (g.met.D.Disk.source_told t)))
      (c.in-Ok.ensures.created t) (c.in-Ok-finish.ensures.clean t) (c.in-Ok-finish.ensures.ends.ended t));
  refused = λ t opened. tt;
}

-- or not
pub returns-in-Err-finish : goal.returns-in-Err-finish
returns-in-Err-finish g c = record {
  writes = λ t. (
    0,
    part_broken (file_named _ _ c.args.i c.in-Some.name.now _
        (fragment_in_count _ c.args.i c.args.index c.requires.behind c.requires.there)
        (fragment_found _ c.args.i c.args.index _ c.requires.behind c.in-Some.ensures)
        c.place_in-place.ensures)
        (c.in-Ok.ensures.created t) (c.in-Err-finish.ensures.ends.rest t) (c.in-Err-finish.ensures.closed t),
  );
  done = λ t. tt;
  refused = λ t opened.
      let copies = c.copy_fragment-onto.ensures.copies in
      let told = g.met.D.Disk.source_told t in
      inl (told_so _ (g.D.At.Source.content c.args.source.now) _ _ _ _ _ _ (c.in-Err-finish.ensures.told t)
      (copies.refused told opened)
      (λ done cause failed. end_failed _ _ _ _ _ _ _ _ _ (c.in-Ok.ensures.created t)
      (ok_gives _ _ done copies.clean).0 cause failed)
      (λ cause failed. copy_failed _ _ _ _ _ _ _ _ _ _ (c.in-Ok.ensures.created t) (c.in-Ok.ensures.clean t)
      (c.in-Err-finish.ensures.counts t) cause failed)
      (λ done none. none));
}

-- what is given back is what was created
pub finish-requires : goal.finish-requires
finish-requires g c = record {
  this = λ t. c.copy_fragment-onto.ensures.copies.this ∙ c.in-Ok.ensures.this t;
}
