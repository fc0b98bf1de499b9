use Rattle.std.proofs.Common.{◌∙◌, sym, subst, inl, refl}
use Rattle.sys_refusals.specs.Paths.{path_of}
use Rattle.sys_disk.proofs.Amongs.{among_none}
use Rattle.cmd_common_boot.proofs.Causes.{open_failed, opened, opened_as, opens_as, refuses_file}
use Rattle.cmd_common_boot.proofs.Causes.{section_refused}
use Rattle.cmd_common_boot.proofs.Calls.{same_counting}
use Rattle.cmd_unpack.proofs.Counts.{clean_within, failed_within, unopened}
use Rattle.cmd_unpack.proofs.Wholes.{has_as, keeps_let_go, keeps_same, only_opened, twice}
use Rattle.cmd_unpack_aosp.specs.AospFiles.{UnpacksAsAosp, unchanged}
use Rattle.cmd_unpack_aosp.proofs.Files.{looks, only_files, taken_refused, unpack_refused, unpacks_all}
use Rattle.cmd_unpack_aosp.proofs.unpack.unpack_as_aosp.Goals as goal

-- IN could not be opened
pub returns-in-Err : goal.returns-in-Err
returns-in-Err g c = record {
  done = λ t. tt;
  only = λ t.
      among_none _ _ _ _ _ _ (c.requires.first t).begun (c.in-Err.ensures.kept t) (c.in-Err.ensures.world t);
  keeps = record {
    input = λ t. keeps_same _ _ _ (c.in-Err.ensures.world t);
    clean = λ t. tt;
  };
  looks = λ t. unchanged (c.in-Err.ensures.world t);
  refused = λ t.
      inl (unopened (path_of c.args.input) (g.D.Disk.world c.args.disk.now) _ _ _ _ _ c.into.ensures
      (c.in-Err.ensures.kept t));
  quiet = refl;
}

-- it is no image
pub returns-in-Err-open : goal.returns-in-Err-open
returns-in-Err-open g c = record {
  done = λ t. tt;
  only = λ t.
      only_opened _ _ _ _ _ _ _ _ _ (c.requires.first t).begun (c.in-Ok.ensures.opened t)
      (c.let_go_source.ensures.world t ∙ c.in-Ok.ensures.world t) (c.let_go_source.ensures.held t);
  keeps = record {
    input = λ t.
        keeps_same _ _ _ (c.let_go_source.ensures.world t ∙ c.in-Ok.ensures.world t);
    clean = λ t. tt;
  };
  looks = λ t. unchanged (c.let_go_source.ensures.world t ∙ c.in-Ok.ensures.world t);
  refused = λ t.
      let told = g.met.D.Disk.source_told t in
      inl (refuses_file _ _ _ _ _ _ _ _ _ _ (c.in-Ok.ensures.opened t)
      (section_refused _ _ ⊥ _ _ c.refused_in.ensures
      (opened c.in-Err-open.fault (g.D.At.Source.content c.in-Ok.device) _ _ _ c.in-Err-open.ensures.reads.cause
      (c.in-Err-open.ensures.opens told)))
      (λ cause failed. open_failed _ _ _ _ _ _ _ _ _ cause (c.in-Ok.ensures.opened t) (c.in-Ok.ensures.clean t)
      (c.let_go_source.ensures.held t) failed)
      (λ none. absurd none));
  quiet = refl;
}

-- it is one of the files, or a fragment has no name
pub returns-in-Err-refuse_taken : goal.returns-in-Err-refuse_taken
returns-in-Err-refuse_taken g c = record {
  done = λ t. tt;
  only = λ t.
      only_opened _ _ _ _ _ _ _ _ _ (c.requires.first t).begun (c.in-Ok.ensures.opened t)
      (c.let_go_source-in-Err-refuse_taken.ensures.world t ∙ c.in-Err-refuse_taken.ensures.world t
      ∙ c.in-Ok.ensures.world
      t)
      (twice _ _ _ _ _ (c.in-Err-refuse_taken.ensures.held t).1 (c.let_go_source-in-Err-refuse_taken.ensures.held t));
  keeps = record {
    input = λ t.
        keeps_same _ _ _ (c.let_go_source-in-Err-refuse_taken.ensures.world t ∙ c.in-Err-refuse_taken.ensures.world t
        ∙ c.in-Ok.ensures.world t);
    clean = λ t. tt;
  };
  looks = λ t.
      unchanged (c.let_go_source-in-Err-refuse_taken.ensures.world t ∙ c.in-Err-refuse_taken.ensures.world t
      ∙ c.in-Ok.ensures.world t);
  refused = λ t.
      let told = g.met.D.Disk.source_told t in
      let same = c.in-Ok-open.ensures.reads.only.content told in
      taken_refused _ _ _ _ _ _ _ _ _ _ (opens_as _ _ _ _ _ _ same (c.in-Ok.ensures.opened t))
      (has_as _ _ c.in-Ok-open.image same (c.in-Ok-open.ensures.opens told))
      (c.let_go_source-in-Err-refuse_taken.ensures.held t)
      (c.in-Err-refuse_taken.ensures.refused t);
  quiet = refl;
}

-- all parts are written
pub returns-in-Ok-write_files : goal.returns-in-Ok-write_files
returns-in-Ok-write_files g c = record {
  done = λ t.
      let told = g.met.D.Disk.source_told t in
      let same = c.in-Ok-open.ensures.reads.only.content told in
      subst (λ w. UnpacksAsAosp (path_of c.args.input) c.args.folder.now (g.D.Disk.world c.args.disk.now) w)
      (sym (c.let_go_source-in-Ok-write_files.ensures.world t))
      (unpacks_all _ _ _ _ _ _ _ _ _ (opens_as _ _ _ _ _ _ same (c.in-Ok.ensures.opened t))
      (has_as _ _ c.in-Ok-open.image same (c.in-Ok-open.ensures.opens told))
      (c.in-Ok-write_files.ensures.done t));
  only = λ t.
      let told = g.met.D.Disk.source_told t in
      only_files _ _ _ _ _ _ _ _ _ _ _ _ _ _ _ (c.requires.first t).begun (c.in-Ok.ensures.opened t)
      (c.in-Ok-refuse_taken.ensures.world t ∙ c.in-Ok.ensures.world t) (c.in-Ok-open.ensures.opens told).has
      (c.in-Ok-refuse_taken.ensures.clean t ∙ sym (same_counting _)) (c.in-Ok-write_files.ensures.writes t).1.allowed
      (c.let_go_source-in-Ok-write_files.ensures.held t) (c.let_go_source-in-Ok-write_files.ensures.world t);
  keeps = record {
    input = λ t.
        keeps_let_go _ _ _ _ _ _ _ _ _ _ _ _ _ _ (c.in-Ok.ensures.opened t)
        (c.in-Ok-refuse_taken.ensures.world t ∙ c.in-Ok.ensures.world t)
        (c.in-Ok-refuse_taken.ensures.clean t ∙ sym (same_counting _)) (c.in-Ok-write_files.ensures.writes t).1.only
        (c.let_go_source-in-Ok-write_files.ensures.held t) (c.let_go_source-in-Ok-write_files.ensures.world t);
    clean = λ t.
        clean_within _ _ _ _ _ _ _ _ _ _ _ _ (c.in-Ok.ensures.opened t) (c.in-Ok.ensures.clean t)
        c.in-Ok-open.ensures.reads.only.clean
        (c.in-Ok-refuse_taken.ensures.clean t ∙ sym (same_counting _)) (c.in-Ok-write_files.ensures.writes t).1.clean
        (c.let_go_source-in-Ok-write_files.ensures.held t);
  };
  looks = λ t.
      let told = g.met.D.Disk.source_told t in
      let same = c.in-Ok-open.ensures.reads.only.content told in
      looks _ _ _ _ _ _ _ _ _ (opens_as _ _ _ _ _ _ same (c.in-Ok.ensures.opened t)) (c.in-Ok.ensures.world t)
      (has_as _ _ c.in-Ok-open.image same (c.in-Ok-open.ensures.opens told)) (c.in-Ok-refuse_taken.ensures.free t);
  refused = λ t. tt;
  quiet = refl;
}

-- one failed
pub returns-in-Err-write_files : goal.returns-in-Err-write_files
returns-in-Err-write_files g c = record {
  done = λ t. tt;
  only = λ t.
      let told = g.met.D.Disk.source_told t in
      only_files _ _ _ _ _ _ _ _ _ _ _ _ _ _ _ (c.requires.first t).begun (c.in-Ok.ensures.opened t)
      (c.in-Ok-refuse_taken.ensures.world t ∙ c.in-Ok.ensures.world t) (c.in-Ok-open.ensures.opens told).has
      (c.in-Ok-refuse_taken.ensures.clean t ∙ sym (same_counting _)) (c.in-Err-write_files.ensures.writes t).1.allowed
      (c.let_go_source-in-Err-write_files.ensures.held t) (c.let_go_source-in-Err-write_files.ensures.world t);
  keeps = record {
    input = λ t.
        keeps_let_go _ _ _ _ _ _ _ _ _ _ _ _ _ _ (c.in-Ok.ensures.opened t)
        (c.in-Ok-refuse_taken.ensures.world t ∙ c.in-Ok.ensures.world t)
        (c.in-Ok-refuse_taken.ensures.clean t ∙ sym (same_counting _)) (c.in-Err-write_files.ensures.writes t).1.only
        (c.let_go_source-in-Err-write_files.ensures.held t) (c.let_go_source-in-Err-write_files.ensures.world t);
    clean = λ t. tt;
  };
  looks = λ t.
      let told = g.met.D.Disk.source_told t in
      let same = c.in-Ok-open.ensures.reads.only.content told in
      looks _ _ _ _ _ _ _ _ _ (opens_as _ _ _ _ _ _ same (c.in-Ok.ensures.opened t)) (c.in-Ok.ensures.world t)
      (has_as _ _ c.in-Ok-open.image same (c.in-Ok-open.ensures.opens told)) (c.in-Ok-refuse_taken.ensures.free t);
  refused = λ t.
      let told = g.met.D.Disk.source_told t in
      let same = c.in-Ok-open.ensures.reads.only.content told in
      unpack_refused _ _ _ _ _ _ _ _ _ (opens_as _ _ _ _ _ _ same (c.in-Ok.ensures.opened t))
      (has_as _ _ c.in-Ok-open.image same (c.in-Ok-open.ensures.opens told))
      (c.in-Err-write_files.ensures.refused t (opened_as _ _ c.in-Ok-open.image same (c.in-Ok-open.ensures.opens told)))
      (λ cause failed. failed_within _ _ _ _ _ _ _ _ _ _ _ _ (c.in-Ok.ensures.opened t) (c.in-Ok.ensures.clean t)
      c.in-Ok-open.ensures.reads.only.clean (c.in-Ok-refuse_taken.ensures.clean t ∙ sym (same_counting _))
      (c.let_go_source-in-Err-write_files.ensures.held t) cause failed);
  quiet = refl;
}
