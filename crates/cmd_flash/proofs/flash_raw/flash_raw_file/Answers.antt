use Rattle.std.proofs.Common.{rules, ap, refl, ◌∙◌}
use Rattle.sys_report.proofs.Beside.{beside}
use Rattle.cmd_common_sparse.specs.declared.fault.SparseCommandFault.TheVariants as faults
use Rattle.cmd_flash.specs.FlashingRaw.{IsFlashedRaw}
use Rattle.cmd_flash.proofs.Refusals.{raw_untold, handed_on, host_late, is_flashed_raw, on_ok, refuses_raw}
use Rattle.cmd_flash.proofs.Written.{ran, ran_clean, ran_failed, ran_given, settled_once, this_part}
use Rattle.cmd_flash.proofs.flash_raw.flash_raw_file.Goals as goal

pub returns-in-Err-clause-leaves : goal.returns-in-Err-clause-leaves
returns-in-Err-clause-leaves g c = λ t.
    let all = ran _ _ _ _ _ _ _ _ _ _ _ _ _ _ _ _ _ (g.D.InPlace.Partition.past c.flash_blocks-answer.new.onto) _
    (c.in_ok-source.ensures.opened t) (c.in_ok-source.ensures.world t)
    (c.in_ok-onto.ensures.opened t) (c.in_ok-onto.ensures.world t) (c.let_go_source.ensures.held t)
    (c.let_go_source.ensures.world t)
    (c.closed.ensures.ended t) (c.closed.ensures.paths t) (c.in-Err.ensures.closed t) in
    record {
      others = all.others;
      input = all.kept;
      clean = tt;
      closed = tt;
    }

pub returns-in_err-line_beside-clause-leaves : goal.returns-in_err-line_beside-clause-leaves
returns-in_err-line_beside-clause-leaves g c = λ t.
    let all = ran _ _ _ _ _ _ _ _ _ _ _ _ _ _ _ _ _ (g.D.InPlace.Partition.past c.flash_blocks-answer.new.onto) _
    (c.in_ok-source.ensures.opened t) (c.in_ok-source.ensures.world t)
    (c.in_ok-onto.ensures.opened t) (c.in_ok-onto.ensures.world t) (c.let_go_source.ensures.held t)
    (c.let_go_source.ensures.world t)
    (c.closed.ensures.ended t) (c.closed.ensures.paths t) (c.in-Ok.ensures.closed t) in
    record {
      others = all.others;
      input = all.kept;
      clean = search rules;
      closed = search rules;
    }

pub returns-clause-leaves : goal.returns-clause-leaves
returns-clause-leaves g c = λ t.
    let all = ran _ _ _ _ _ _ _ _ _ _ _ _ _ _ _ _ _ (g.D.InPlace.Partition.past c.flash_blocks-answer.new.onto) _
    (c.in_ok-source.ensures.opened t) (c.in_ok-source.ensures.world t)
    (c.in_ok-onto.ensures.opened t) (c.in_ok-onto.ensures.world t) (c.let_go_source.ensures.held t)
    (c.let_go_source.ensures.world t)
    (c.closed.ensures.ended t) (c.closed.ensures.paths t) (c.in-Ok.ensures.closed t) in
    record {
      others = all.others;
      input = all.kept;
      clean = ran_clean _ _ _ _ _ _ _ _ _ _ _ _ _ _ _ _ _ all (c.in_ok-source.ensures.clean t)
          (c.in_ok-onto.ensures.clean t)
          (on_ok c.flash_blocks-answer.result c.in-Ok.end.0 _ c.in-Ok.ensures.done
          c.flash_blocks-answer.ensures.clean) ((c.in-Ok.ensures.closed t).clean refl);
      closed = all.closed;
    }

pub returns-in-Err-clause-refused : goal.returns-in-Err-clause-refused
returns-in-Err-clause-refused g c = λ t.
    let all = ran _ _ _ _ _ _ _ _ _ _ _ _ _ _ _ _ _ (g.D.InPlace.Partition.past c.flash_blocks-answer.new.onto) _
    (c.in_ok-source.ensures.opened t) (c.in_ok-source.ensures.world t)
    (c.in_ok-onto.ensures.opened t) (c.in_ok-onto.ensures.world t) (c.let_go_source.ensures.held t)
    (c.let_go_source.ensures.world t)
    (c.closed.ensures.ended t) (c.closed.ensures.paths t) (c.in-Err.ensures.closed t) in
    refuses_raw _ c.flash_blocks-answer.result c.in-Err.refusal.fault _ _ _ _ _ c.args.size _ _ _ _ _ _ _ _ _
    c.in-Err.ensures.told
    (host_late _ _ _ _ _ _ _ _ _ _ _ _ _ _ _ _ _ all t c.in-Err.ensures.host)
    all.closed (ran_given _ _ _ _ _ _ _ _ _ _ _ _ _ _ _ _ all (c.in_ok-source.ensures.unread t))
    (ran_failed _ _ _ _ _ _ _ _ _ _ _ _ _ _ _ _ _ all (c.in_ok-source.ensures.clean t) (c.in_ok-onto.ensures.clean t))
    all.with_files
    (c.flash_blocks-answer.ensures.lays (g.met.D.Disk.source_told t) (g.met.D.Disk.part_told t))

pub returns-clause-done : goal.returns-clause-done
returns-clause-done g c = λ t.
    let f = c.flash_blocks-answer.ensures in
    let done = c.in-Ok.ensures.done in
    let all = ran _ _ _ _ _ _ _ _ _ _ _ _ _ _ _ _ _ (g.D.InPlace.Partition.past c.flash_blocks-answer.new.onto) _
    (c.in_ok-source.ensures.opened t) (c.in_ok-source.ensures.world t)
    (c.in_ok-onto.ensures.opened t) (c.in_ok-onto.ensures.world t) (c.let_go_source.ensures.held t)
    (c.let_go_source.ensures.world t)
    (c.closed.ensures.ended t) (c.closed.ensures.paths t) (c.in-Ok.ensures.closed t) in
    record {
      blocks = c.in-Ok.end.0;
      flashed = all.with_files (IsFlashedRaw c.in-Ok.end.0 c.args.size)
          (is_flashed_raw c.flash_blocks-answer.result c.in-Ok.end.0 c.args.size _ _ _ _ _ _ _ _ done
          (f.lays (g.met.D.Disk.source_told t) (g.met.D.Disk.part_told t)));
      synced = all.synced (settled_once (g.D.InPlace.Partition.past c.in_ok-onto.onto)
          (g.D.InPlace.Partition.past c.flash_blocks-answer.new.onto) (c.in_ok-onto.ensures.past t)
          (on_ok c.flash_blocks-answer.result c.in-Ok.end.0 _ done f.syncs.synced)
          (on_ok c.flash_blocks-answer.result c.in-Ok.end.0 _ done (f.syncs.settled (g.met.D.Disk.part_told t))));
      shown = beside c.args.report.now c.line_beside.new.self _ _ _ (c.in-Ok.ensures.stream t)
          c.in_ok-line_beside.ensures.shown;
    }

pub returns-in_err-line_beside-clause-refused : goal.returns-in_err-line_beside-clause-refused
returns-in_err-line_beside-clause-refused g c = λ t.
    let f = c.flash_blocks-answer.ensures in
    let done = c.in-Ok.ensures.done in
    let all = ran _ _ _ _ _ _ _ _ _ _ _ _ _ _ _ _ _ (g.D.InPlace.Partition.past c.flash_blocks-answer.new.onto) _
    (c.in_ok-source.ensures.opened t) (c.in_ok-source.ensures.world t)
    (c.in_ok-onto.ensures.opened t) (c.in_ok-onto.ensures.world t) (c.let_go_source.ensures.held t)
    (c.let_go_source.ensures.world t)
    (c.closed.ensures.ended t) (c.closed.ensures.paths t) (c.in-Ok.ensures.closed t) in
    handed_on c.from_residual-in_err-line_beside.result _ _
    (λ r made. raw_untold _ r.fault c.args.size _ _ _ _ _ _
    (made ∙ ap faults.Host c.in_err-line_beside.ensures.fault) all.closed (record {
      blocks = c.in-Ok.end.0;
      flashed = all.with_files (IsFlashedRaw c.in-Ok.end.0 c.args.size)
          (is_flashed_raw c.flash_blocks-answer.result c.in-Ok.end.0 c.args.size _ _ _ _ _ _ _ _ done
          (f.lays (g.met.D.Disk.source_told t) (g.met.D.Disk.part_told t)));
      synced = all.synced (settled_once (g.D.InPlace.Partition.past c.in_ok-onto.onto)
          (g.D.InPlace.Partition.past c.flash_blocks-answer.new.onto) (c.in_ok-onto.ensures.past t)
          (on_ok c.flash_blocks-answer.result c.in-Ok.end.0 _ done f.syncs.synced)
          (on_ok c.flash_blocks-answer.result c.in-Ok.end.0 _ done (f.syncs.settled (g.met.D.Disk.part_told t))));
      shown = c.in_err-line_beside.ensures.refused;
    }))
    c.from_residual-in_err-line_beside.ensures.1

pub closed-requires : goal.closed-requires
closed-requires g c = record {
  this = λ t. this_part (g.D.InPlace.Partition.past c.in_ok-onto.onto)
      (g.D.InPlace.Partition.past c.flash_blocks-answer.new.onto) _ _ _ (c.in_ok-onto.ensures.past t)
      (c.flash_blocks-answer.ensures.same (g.met.D.Disk.part_told t)) (c.let_go_source.ensures.held t);
}
