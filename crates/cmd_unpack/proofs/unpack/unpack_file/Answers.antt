use Rattle.std.proofs.Common.{◌∙◌, sym, subst}
use Rattle.sys_refusals.specs.Paths.{path_of}
use Rattle.cmd_unpack.specs.Lines.{ShowsEach}
use Rattle.cmd_unpack.specs.Unpacking.{Unpacks, no_part, path_of_part, unchanged}
use Rattle.sys_disk.proofs.Amongs.{among_none}
use Rattle.cmd_common_boot.proofs.Causes.{open_failed, opened, opened_as, opens_as, refuses_file}
use Rattle.cmd_common_boot.proofs.Causes.{section_refused}
use Rattle.cmd_unpack.proofs.Counts.{clean_within, failed_within, syncs_within}
use Rattle.cmd_unpack.proofs.Counts.{taken, unopened}
use Rattle.cmd_unpack.proofs.Looks.{looks}
use Rattle.cmd_unpack.proofs.Loops.{begun_later}
use Rattle.cmd_unpack.proofs.Wholes.{allowed_let_go}
use Rattle.cmd_unpack.proofs.Wholes.{has_as, keeps_let_go, keeps_same, leaves_parts, only_let_go, only_opened}
use Rattle.cmd_unpack.proofs.Wholes.{parts_stand, syncs_parts, twice, unpacks}
use Rattle.cmd_common_boot.proofs.Sides.{host_output, reads_host}
use Rattle.cmd_unpack.proofs.Told.{open_side}
use Rattle.cmd_unpack.proofs.unpack.unpack_file.Goals as goal

-- IN could not be opened
pub returns-in-Err : goal.returns-in-Err
returns-in-Err g c = record {
  done = λ t. tt;
  synced = λ t. tt;
  only = λ t.
      among_none _ _ _ _ _ _ (c.requires.first t).begun (c.in-Err.ensures.kept t) (c.in-Err.ensures.world t);
  guarded = λ t.
      among_none _ _ _ _ _ _ (c.requires.first t).begun (c.in-Err.ensures.kept t) (c.in-Err.ensures.world t);
  keeps = record {
    input = λ t. keeps_same _ _ _ (c.in-Err.ensures.world t);
    clean = λ t. tt;
  };
  looks = λ t. unchanged (c.in-Err.ensures.world t);
  stands = λ t.
      no_part (c.in-Err.ensures.world t) (host_output _ c.in-Err.refusal.fault c.into.ensures);
  told_of = reads_host _ c.in-Err.refusal.fault _ _ c.into.ensures;
  refused = λ t.
      unopened (path_of c.args.input) (g.D.Disk.world c.args.disk.now) _ _ _ _ _ c.into.ensures
      (c.in-Err.ensures.kept t);
}

-- it is no image
pub returns-in-Err-open : goal.returns-in-Err-open
returns-in-Err-open g c = record {
  done = λ t. tt;
  synced = λ t. tt;
  only = λ t.
      only_opened _ _ _ _ _ _ _ _ _ (c.requires.first t).begun (c.in-Ok.ensures.opened t)
      (c.let_go_source.ensures.world t ∙ c.in-Ok.ensures.world t) (c.let_go_source.ensures.held t);
  guarded = λ t.
      only_opened _ _ _ _ _ _ _ _ _ (c.requires.first t).begun (c.in-Ok.ensures.opened t)
      (c.let_go_source.ensures.world t ∙ c.in-Ok.ensures.world t) (c.let_go_source.ensures.held t);
  keeps = record {
    input = λ t.
        keeps_same _ _ _ (c.let_go_source.ensures.world t ∙ c.in-Ok.ensures.world t);
    clean = λ t. tt;
  };
  looks = λ t. unchanged (c.let_go_source.ensures.world t ∙ c.in-Ok.ensures.world t);
  stands = λ t.
      no_part (c.let_go_source.ensures.world t ∙ c.in-Ok.ensures.world t)
      (open_side c.in-Err-open.fault _ _ _ _ c.not_opened.ensures.fault c.in-Err-open.ensures.reads.cause);
  told_of = c.not_opened.ensures.told_of;
  refused = λ t.
      let told = g.met.D.Disk.source_told t in
      refuses_file _ _ _ _ _ _ _ _ _ _ (c.in-Ok.ensures.opened t)
      (section_refused _ _ ⊥ _ _ c.not_opened.ensures.fault
      (opened c.in-Err-open.fault (g.D.At.Source.content c.in-Ok.device) _ _ _ c.in-Err-open.ensures.reads.cause
      (c.in-Err-open.ensures.opens told)))
      (λ cause failed. open_failed _ _ _ _ _ _ _ _ _ cause (c.in-Ok.ensures.opened t) (c.in-Ok.ensures.clean t)
      (c.let_go_source.ensures.held t) failed)
      (λ none. absurd none);
}

-- it is one of the files
pub returns-in-Err-refuse_taken : goal.returns-in-Err-refuse_taken
returns-in-Err-refuse_taken g c = record {
  done = λ t. tt;
  synced = λ t. tt;
  only = λ t.
      only_opened _ _ _ _ _ _ _ _ _ (c.requires.first t).begun (c.in-Ok.ensures.opened t)
      (c.let_go_source-in-Err-refuse_taken.ensures.world t ∙ c.in-Err-refuse_taken.ensures.fails.world t
      ∙ c.in-Ok.ensures.world t)
      (twice _ _ _ _ _ (c.in-Err-refuse_taken.ensures.fails.held t)
      (c.let_go_source-in-Err-refuse_taken.ensures.held t));
  guarded = λ t.
      only_opened _ _ _ _ _ _ _ _ _ (c.requires.first t).begun (c.in-Ok.ensures.opened t)
      (c.let_go_source-in-Err-refuse_taken.ensures.world t ∙ c.in-Err-refuse_taken.ensures.fails.world t
      ∙ c.in-Ok.ensures.world t)
      (twice _ _ _ _ _ (c.in-Err-refuse_taken.ensures.fails.held t)
      (c.let_go_source-in-Err-refuse_taken.ensures.held t));
  keeps = record {
    input = λ t.
        keeps_same _ _ _ (c.let_go_source-in-Err-refuse_taken.ensures.world t
        ∙ c.in-Err-refuse_taken.ensures.fails.world t ∙ c.in-Ok.ensures.world t);
    clean = λ t. tt;
  };
  looks = λ t.
      unchanged (c.let_go_source-in-Err-refuse_taken.ensures.world t ∙ c.in-Err-refuse_taken.ensures.fails.world t
      ∙ c.in-Ok.ensures.world t);
  stands = λ t.
      no_part (c.let_go_source-in-Err-refuse_taken.ensures.world t ∙ c.in-Err-refuse_taken.ensures.fails.world t
      ∙ c.in-Ok.ensures.world t)
      (host_output _ c.in-Err-refuse_taken.refusal.fault c.into-in-Err-refuse_taken.ensures);
  told_of = reads_host _ c.in-Err-refuse_taken.refusal.fault _ _ c.into-in-Err-refuse_taken.ensures;
  refused = λ t.
      taken _ _ _ _ _ _ _ _ _ _ _ (c.in-Ok.ensures.opened t) c.into-in-Err-refuse_taken.ensures
      (c.in-Err-refuse_taken.ensures.fails.held t) (c.let_go_source-in-Err-refuse_taken.ensures.held t);
}

-- all parts are written
pub returns-in-Ok-write_parts : goal.returns-in-Ok-write_parts
returns-in-Ok-write_parts g c = record {
  done = λ t.
      let told = g.met.D.Disk.source_told t in
      let same = c.in-Ok-open.ensures.reads.only.content told in
      subst (λ w. Unpacks (path_of c.args.input) c.args.folder.now c.args.with_words (g.D.Disk.world c.args.disk.now) w
      (λ told. ShowsEach (λ part. g.D.Disk.on_output (path_of_part c.args.folder.now part)) told c.args.report.now
      c.write_parts.new.report))
      (sym (c.let_go_source-in-Ok-write_parts.ensures.world t))
      (unpacks _ _ _ _ _ _ _ _ _ _ _ (opens_as _ _ _ _ _ _ same (c.in-Ok.ensures.opened t))
      (has_as _ _ c.in-Ok-open.image same (c.in-Ok-open.ensures.opens told))
      (c.in-Ok-write_parts.ensures.sections t) (c.in-Ok-write_parts.ensures.fragments t)
      (c.in-Ok-write_parts.ensures.words t) (c.in-Ok-write_parts.ensures.shown t));
  synced = λ t.
      let told = g.met.D.Disk.source_told t in
      let same = c.in-Ok-open.ensures.reads.only.content told in
      syncs_parts _ _ _ _ _ _ _ _ (c.in-Ok.ensures.opened t) (c.in-Ok-open.ensures.opens told).has
      (syncs_within _ _ _ _ _ _ _ _ _ _ (c.in-Ok.ensures.opened t) (c.in-Ok-refuse_taken.ensures.fails.held t)
      (c.in-Ok-write_parts.ensures.writes t).synced (c.let_go_source-in-Ok-write_parts.ensures.held t));
  only = λ t.
      let told = g.met.D.Disk.source_told t in
      only_let_go _ _ _ _ _ _ _ _ _ _ _ _ _ _ _ _ (c.requires.first t).begun (c.in-Ok.ensures.opened t)
      (c.in-Ok-refuse_taken.ensures.fails.world t ∙ c.in-Ok.ensures.world t) (c.in-Ok-open.ensures.opens told).has
      (c.in-Ok-refuse_taken.ensures.fails.held t) (c.in-Ok-write_parts.ensures.writes t).only
      (c.let_go_source-in-Ok-write_parts.ensures.held t) (c.let_go_source-in-Ok-write_parts.ensures.world t);
  guarded = λ t.
      let told = g.met.D.Disk.source_told t in
      allowed_let_go _ _ _ _ _ _ _ _ _ _ _ _ _ _ _ _ (c.requires.first t).begun (c.in-Ok.ensures.opened t)
      (c.in-Ok-refuse_taken.ensures.fails.world t ∙ c.in-Ok.ensures.world t) (c.in-Ok-open.ensures.opens told).has
      (c.in-Ok-refuse_taken.ensures.fails.held t) (c.in-Ok-write_parts.ensures.writes t).allowed
      (c.let_go_source-in-Ok-write_parts.ensures.held t) (c.let_go_source-in-Ok-write_parts.ensures.world t);
  keeps = record {
    input = λ t.
        keeps_let_go _ _ _ _ _ _ _ _ _ _ _ _ _ _ (c.in-Ok.ensures.opened t)
        (c.in-Ok-refuse_taken.ensures.fails.world t ∙ c.in-Ok.ensures.world t)
        (c.in-Ok-refuse_taken.ensures.fails.held t) (c.in-Ok-write_parts.ensures.writes t).only
        (c.let_go_source-in-Ok-write_parts.ensures.held t) (c.let_go_source-in-Ok-write_parts.ensures.world t);
    clean = λ t.
        clean_within _ _ _ _ _ _ _ _ _ _ _ _ (c.in-Ok.ensures.opened t) (c.in-Ok.ensures.clean t)
        c.in-Ok-open.ensures.reads.only.clean
        (c.in-Ok-refuse_taken.ensures.fails.held t) (c.in-Ok-write_parts.ensures.writes t).clean
        (c.let_go_source-in-Ok-write_parts.ensures.held t);
  };
  looks = λ t.
      let told = g.met.D.Disk.source_told t in
      let same = c.in-Ok-open.ensures.reads.only.content told in
      looks _ _ _ _ _ _ _ _ _ _ (opens_as _ _ _ _ _ _ same (c.in-Ok.ensures.opened t)) (c.in-Ok.ensures.world t)
      (has_as _ _ c.in-Ok-open.image same (c.in-Ok-open.ensures.opens told)) (c.in-Ok-refuse_taken.ensures.free t);
  stands = λ t. tt;
  told_of = tt;
  refused = λ t. tt;
}

-- one failed
pub returns-in-Err-write_parts : goal.returns-in-Err-write_parts
returns-in-Err-write_parts g c = record {
  done = λ t. tt;
  synced = λ t. tt;
  only = λ t.
      let told = g.met.D.Disk.source_told t in
      only_let_go _ _ _ _ _ _ _ _ _ _ _ _ _ _ _ _ (c.requires.first t).begun (c.in-Ok.ensures.opened t)
      (c.in-Ok-refuse_taken.ensures.fails.world t ∙ c.in-Ok.ensures.world t) (c.in-Ok-open.ensures.opens told).has
      (c.in-Ok-refuse_taken.ensures.fails.held t) (c.in-Err-write_parts.ensures.writes t).only
      (c.let_go_source-in-Err-write_parts.ensures.held t) (c.let_go_source-in-Err-write_parts.ensures.world t);
  guarded = λ t.
      let told = g.met.D.Disk.source_told t in
      allowed_let_go _ _ _ _ _ _ _ _ _ _ _ _ _ _ _ _ (c.requires.first t).begun (c.in-Ok.ensures.opened t)
      (c.in-Ok-refuse_taken.ensures.fails.world t ∙ c.in-Ok.ensures.world t) (c.in-Ok-open.ensures.opens told).has
      (c.in-Ok-refuse_taken.ensures.fails.held t) (c.in-Err-write_parts.ensures.writes t).allowed
      (c.let_go_source-in-Err-write_parts.ensures.held t) (c.let_go_source-in-Err-write_parts.ensures.world t);
  keeps = record {
    input = λ t.
        keeps_let_go _ _ _ _ _ _ _ _ _ _ _ _ _ _ (c.in-Ok.ensures.opened t)
        (c.in-Ok-refuse_taken.ensures.fails.world t ∙ c.in-Ok.ensures.world t)
        (c.in-Ok-refuse_taken.ensures.fails.held t) (c.in-Err-write_parts.ensures.writes t).only
        (c.let_go_source-in-Err-write_parts.ensures.held t) (c.let_go_source-in-Err-write_parts.ensures.world t);
    clean = λ t. tt;
  };
  looks = λ t.
      let told = g.met.D.Disk.source_told t in
      let same = c.in-Ok-open.ensures.reads.only.content told in
      looks _ _ _ _ _ _ _ _ _ _ (opens_as _ _ _ _ _ _ same (c.in-Ok.ensures.opened t)) (c.in-Ok.ensures.world t)
      (has_as _ _ c.in-Ok-open.image same (c.in-Ok-open.ensures.opens told)) (c.in-Ok-refuse_taken.ensures.free t);
  stands = λ t.
      let told = g.met.D.Disk.source_told t in
      let same = c.in-Ok-open.ensures.reads.only.content told in
      leaves_parts _ _ _ _ _ _ _ _ _ _ _ _ _ _ _ _ _ (c.requires.first t).begun
      (opens_as _ _ _ _ _ _ same (c.in-Ok.ensures.opened t))
      (c.in-Ok-refuse_taken.ensures.fails.world t ∙ c.in-Ok.ensures.world t)
      (has_as _ _ c.in-Ok-open.image same (c.in-Ok-open.ensures.opens told)) (c.in-Ok-refuse_taken.ensures.fails.held t)
      (c.in-Err-write_parts.ensures.stands t) (c.let_go_source-in-Err-write_parts.ensures.held t)
      (c.let_go_source-in-Err-write_parts.ensures.world t);
  told_of = c.in-Err-write_parts.ensures.told_of;
  refused = λ t.
      let told = g.met.D.Disk.source_told t in
      let same = c.in-Ok-open.ensures.reads.only.content told in
      let opens = opens_as _ _ _ _ _ _ same (c.in-Ok.ensures.opened t) in
      refuses_file _ _ _ _ _ _ _ _ _ _ opens
      (c.in-Err-write_parts.ensures.refused t (opened_as _ _ c.in-Ok-open.image same (c.in-Ok-open.ensures.opens told)))
      (λ cause failed. failed_within _ _ _ _ _ _ _ _ _ _ _ _ (c.in-Ok.ensures.opened t) (c.in-Ok.ensures.clean t)
      c.in-Ok-open.ensures.reads.only.clean (c.in-Ok-refuse_taken.ensures.fails.held t)
      (c.let_go_source-in-Err-write_parts.ensures.held t) cause failed)
      (λ begun. (
        parts_stand _ _ _ _ _ _ _ _ _ _ opens
            (has_as _ _ c.in-Ok-open.image same (c.in-Ok-open.ensures.opens told))
            (begun_later _ _ _ _ _ _ _ _ _ (c.let_go_source-in-Err-write_parts.ensures.held t)
            (c.let_go_source-in-Err-write_parts.ensures.world t) begun.0),
        begun.1,
      ));
}
