use Rattle.std.proofs.Common.{rules, ap, refl, sym, ◌∙◌, ◌≡◌, ◌-◌, arith}
use Rattle.sys_report.proofs.Beside.{beside}
use Rattle.std.specs.Prelude.{max}
use Rattle.abt_io.specs.Moment.{Past}
use Rattle.sys_disk.specs.World.{OpenFiles}
use Rattle.cmd_common_sparse.specs.declared.fault.SparseCommandFault.TheVariants as faults
use Rattle.cmd_flash.proofs.Crossing.{crossed, only_both, only_kept, part_kept, this_across}
use Rattle.cmd_flash.proofs.Ended.{clean_across, done_across, none_of, pieces_unopened, pieces_untold}
use Rattle.cmd_flash.proofs.Ended.{refuses_across, refuses_uncuttable}
use Rattle.cmd_flash.proofs.Refusals.{handed_on}
use Rattle.cmd_flash.proofs.Written.{of_file}
use Rattle.cmd_flash.proofs.pieces.flash_pieces_file.Goals as goal

pub returns-in-Err-closed-clause-leaves : goal.returns-in-Err-closed-clause-leaves
returns-in-Err-closed-clause-leaves g c = λ t.
    let all = crossed _ _ _ _ _ _ _ _ _ _ _ _ _ _ _ _ _ _ _ _ _ _
    (g.D.InPlace.Partition.past c.delivered_through-answer.new.onto) _ (c.in_ok-source.ensures.opened t)
    (c.in_ok-source.ensures.world t) (c.in_ok-onto.ensures.opened t) (c.in_ok-onto.ensures.world t)
    (c.in_ok-through.ensures.opened t) (c.delivered_through-answer.ensures.closed t)
    (c.delivered_through-answer.ensures.rest t) (c.let_go_source.ensures.held t) (c.let_go_source.ensures.world t)
    (c.closed.ensures.ended t) (c.closed.ensures.paths t) (c.in-Err-closed.ensures.closed t) in
    record {
      others = all.others;
      input = all.kept;
      clean = tt;
      closed = tt;
    }

pub returns-in_err-line_beside-clause-leaves : goal.returns-in_err-line_beside-clause-leaves
returns-in_err-line_beside-clause-leaves g c = λ t.
    let all = crossed _ _ _ _ _ _ _ _ _ _ _ _ _ _ _ _ _ _ _ _ _ _
    (g.D.InPlace.Partition.past c.delivered_through-answer.new.onto) _ (c.in_ok-source.ensures.opened t)
    (c.in_ok-source.ensures.world t) (c.in_ok-onto.ensures.opened t) (c.in_ok-onto.ensures.world t)
    (c.in_ok-through.ensures.opened t) (c.delivered_through-answer.ensures.closed t)
    (c.delivered_through-answer.ensures.rest t) (c.let_go_source.ensures.held t) (c.let_go_source.ensures.world t)
    (c.closed.ensures.ended t) (c.closed.ensures.paths t) (c.in-Ok.ensures.closed t) in
    record {
      others = all.others;
      input = all.kept;
      clean = search rules;
      closed = search rules;
    }

pub returns-clause-leaves : goal.returns-clause-leaves
returns-clause-leaves g c = λ t.
    let all = crossed _ _ _ _ _ _ _ _ _ _ _ _ _ _ _ _ _ _ _ _ _ _
    (g.D.InPlace.Partition.past c.delivered_through-answer.new.onto) _ (c.in_ok-source.ensures.opened t)
    (c.in_ok-source.ensures.world t) (c.in_ok-onto.ensures.opened t) (c.in_ok-onto.ensures.world t)
    (c.in_ok-through.ensures.opened t) (c.delivered_through-answer.ensures.closed t)
    (c.delivered_through-answer.ensures.rest t) (c.let_go_source.ensures.held t) (c.let_go_source.ensures.world t)
    (c.closed.ensures.ended t) (c.closed.ensures.paths t) (c.in-Ok.ensures.closed t) in
    record {
      others = all.others;
      input = all.kept;
      clean = clean_across c.delivered_through-answer.result.0 c.in-Ok.end.0 _ _ _ _ _ _ _ _ _ _ _ _ _ _ _ _ _ _ _ all
          (sym c.counted.ensures ∙ c.in-Ok.ensures.done)
          (none_of _ _ _ (c.in_ok-source.ensures.clean t) (c.in_ok-onto.ensures.clean t)
          (c.in_ok-through.ensures.clean t))
          (c.delivered_through-answer.ensures.clean t) ((c.in-Ok.ensures.closed t).clean refl);
      closed = all.closed;
    }

pub returns-in_err-through-clause-leaves : goal.returns-in_err-through-clause-leaves
returns-in_err-through-clause-leaves g c = λ t. record {
  others = only_both _ _ _ _ _ _ _ _ _ _ _ _ _ (c.in_ok-source.ensures.opened t) (c.in_ok-source.ensures.world t)
      (c.in_ok-onto.ensures.opened t) (c.in_ok-onto.ensures.world t) (c.in_err-through.ensures.only t)
      (c.in_err-through.ensures.guarded t);
  input = only_kept _ _ _ _ _ _ _ _ _ _ _ _ (c.in_ok-source.ensures.opened t) (c.in_ok-source.ensures.world t)
      (c.in_ok-onto.ensures.opened t) (c.in_ok-onto.ensures.world t) (c.in_err-through.ensures.only t);
  clean = search rules;
  closed = search rules;
}

pub returns-in-Err-clause-refused : goal.returns-in-Err-clause-refused
returns-in-Err-clause-refused g c = λ t.
    rw c.refuse.ensures.fault (refuses_uncuttable _ c.in-Err.fault c.args.raw c.args.limit _ _ _ _ _ _ _ _ _
    (c.in_ok-onto.ensures.world t ∙ c.in_ok-source.ensures.world t)
    (λ P so. of_file _ _ _ _ _ P (c.in_ok-source.ensures.opened t) so) (c.in-Err.ensures (g.met.D.Disk.source_told t)))

pub returns-in-Err-closed-clause-refused : goal.returns-in-Err-closed-clause-refused
returns-in-Err-closed-clause-refused g c = λ t.
    let most = c.max-from.ensures in
    let same : c.max-from.result - 1 ≡ max 1 c.args.from - 1 = omega (arith, most) in
    let all = crossed _ _ _ _ _ _ _ _ _ _ _ _ _ _ _ _ _ _ _ _ _ _
    (g.D.InPlace.Partition.past c.delivered_through-answer.new.onto) _ (c.in_ok-source.ensures.opened t)
    (c.in_ok-source.ensures.world t) (c.in_ok-onto.ensures.opened t) (c.in_ok-onto.ensures.world t)
    (c.in_ok-through.ensures.opened t) (c.delivered_through-answer.ensures.closed t)
    (c.delivered_through-answer.ensures.rest t) (c.let_go_source.ensures.held t) (c.let_go_source.ensures.world t)
    (c.closed.ensures.ended t) (c.closed.ensures.paths t) (c.in-Err-closed.ensures.closed t) in
    refuses_across _ c.counted.result c.delivered_through-answer.result.0 c.in-Err-closed.refusal.fault _ _ _ _ _ _
    c.args.raw c.args.limit _ _
    _ _ _ _ _ _ _ _ _ _ _ _ _ _ all c.counted.ensures c.in-Err-closed.ensures.told t c.in-Err-closed.ensures.host
    (none_of _ _ _ (c.in_ok-source.ensures.clean t) (c.in_ok-onto.ensures.clean t) (c.in_ok-through.ensures.clean t))
    same (c.delivered_through-answer.ensures.delivers t (ap (λ (q : Past). q.pending) (c.in_ok-onto.ensures.past t)))

pub returns-clause-done : goal.returns-clause-done
returns-clause-done g c = λ t.
    let most = c.max-from.ensures in
    let same : c.max-from.result - 1 ≡ max 1 c.args.from - 1 = omega (arith, most) in
    let d = c.delivered_through-answer.ensures in
    let all = crossed _ _ _ _ _ _ _ _ _ _ _ _ _ _ _ _ _ _ _ _ _ _
    (g.D.InPlace.Partition.past c.delivered_through-answer.new.onto) _ (c.in_ok-source.ensures.opened t)
    (c.in_ok-source.ensures.world t) (c.in_ok-onto.ensures.opened t) (c.in_ok-onto.ensures.world t)
    (c.in_ok-through.ensures.opened t) (c.delivered_through-answer.ensures.closed t)
    (c.delivered_through-answer.ensures.rest t) (c.let_go_source.ensures.held t) (c.let_go_source.ensures.world t)
    (c.closed.ensures.ended t) (c.closed.ensures.paths t) (c.in-Ok.ensures.closed t) in
    done_across c.delivered_through-answer.result.0 c.in-Ok.end.0 _ _ _ c.args.raw c.args.limit _ _ _ _ _ _ _ _ _ _
    _ _ _ _ _ _ _ _
    (g.D.InPlace.Partition.past c.in_ok-onto.onto) (g.D.InPlace.Partition.past c.delivered_through-answer.new.onto) _
    all
    (sym c.counted.ensures ∙ c.in-Ok.ensures.done) (c.in_ok-onto.ensures.past t) d.syncs.some
    d.syncs.synced (d.syncs.settled (g.met.D.Disk.part_told t)) same
    (d.delivers t (ap (λ (q : Past). q.pending) (c.in_ok-onto.ensures.past t)))
    (ap (λ (q : OpenFiles). q.keeps) (c.in_ok-through.ensures.opened t).begins ∙ c.is_some.ensures)
    (beside c.args.report.now c.line_beside.new.self _ _ _ (c.in-Ok.ensures.stream t) c.in_ok-line_beside.ensures.shown)

pub returns-in_err-line_beside-clause-refused : goal.returns-in_err-line_beside-clause-refused
returns-in_err-line_beside-clause-refused g c = λ t.
    let most = c.max-from.ensures in
    let same : c.max-from.result - 1 ≡ max 1 c.args.from - 1 = omega (arith, most) in
    let d = c.delivered_through-answer.ensures in
    let all = crossed _ _ _ _ _ _ _ _ _ _ _ _ _ _ _ _ _ _ _ _ _ _
    (g.D.InPlace.Partition.past c.delivered_through-answer.new.onto) _ (c.in_ok-source.ensures.opened t)
    (c.in_ok-source.ensures.world t) (c.in_ok-onto.ensures.opened t) (c.in_ok-onto.ensures.world t)
    (c.in_ok-through.ensures.opened t) (c.delivered_through-answer.ensures.closed t)
    (c.delivered_through-answer.ensures.rest t) (c.let_go_source.ensures.held t) (c.let_go_source.ensures.world t)
    (c.closed.ensures.ended t) (c.closed.ensures.paths t) (c.in-Ok.ensures.closed t) in
    handed_on c.from_residual-in_err-line_beside.result _ _
    (λ r made. pieces_untold _ r.fault c.args.raw c.args.limit _
    _ _ _ _ _ _ _ (made ∙ ap faults.Host c.in_err-line_beside.ensures.fault) all.closed
    (done_across c.delivered_through-answer.result.0 c.in-Ok.end.0 _ _ _ c.args.raw c.args.limit _ _ _
    _ _
    _ _ _ _ _ _ _ _ _ _ _ _ _
    (g.D.InPlace.Partition.past c.in_ok-onto.onto) (g.D.InPlace.Partition.past c.delivered_through-answer.new.onto) _
    all
    (sym c.counted.ensures ∙ c.in-Ok.ensures.done) (c.in_ok-onto.ensures.past t) d.syncs.some
    d.syncs.synced (d.syncs.settled (g.met.D.Disk.part_told t)) same
    (d.delivers t (ap (λ (q : Past). q.pending) (c.in_ok-onto.ensures.past t)))
    (ap (λ (q : OpenFiles). q.keeps) (c.in_ok-through.ensures.opened t).begins ∙ c.is_some.ensures)
    c.in_err-line_beside.ensures.refused))
    c.from_residual-in_err-line_beside.ensures.1

pub closed-requires : goal.closed-requires
closed-requires g c = record {
  this = λ t. this_across _ (g.D.InPlace.Partition.past c.in_ok-onto.onto)
      (g.D.InPlace.Partition.past c.delivered_through-answer.new.onto) _ _ _ _ _ _ _ (c.in_ok-onto.ensures.past t)
      (c.delivered_through-answer.ensures.same t) (c.in_ok-through.ensures.opened t)
      (c.delivered_through-answer.ensures.closed t) (c.let_go_source.ensures.held t);
}

-- ---- the third file was not opened

pub returns-in_err-through-clause-refused : goal.returns-in_err-through-clause-refused
returns-in_err-through-clause-refused g c = λ t.
    handed_on c.from_residual-in_err-through.result _ _ (λ r made. pieces_unopened _ r.fault _ c.args.raw c.args.limit _
    _ _ _ _ _ _ _ made (search rules) (part_kept _ _ _ _ _ _ _ _ (c.in_ok-source.ensures.world t)
    (c.in_ok-onto.ensures.opened t) (c.in_ok-onto.ensures.world t) (c.in_err-through.ensures.begun t)))
    c.from_residual-in_err-through.ensures.1
