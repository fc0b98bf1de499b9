use Rattle.std.proofs.Common.{rules, inl, inr, ◌∙◌, refl, sym, ap}
use Rattle.std.proofs.lemmas.List.{length-map}
use Rattle.sys_report.proofs.Beside.{beside}
use Rattle.cmd_expand.proofs.Files.{handed_on}
use Rattle.sys_disk.specs.Counts.{no_counts}
use Rattle.cmd_common_sparse.specs.declared.fault.SparseCommandFault.TheVariants as faults
use Rattle.cmd_expand.proofs.Overlays.{breaks_over, clean_closing, counts_in_all, failed_closing}
use Rattle.cmd_expand.proofs.Overlays.{failed_reading, failed_writing, failed_zeros, from_files, from_laying}
use Rattle.cmd_expand.proofs.Overlays.{from_opening, lands, leaves_overlaid, overlays, sized, synced}
use Rattle.cmd_expand.proofs.Overlays.{spared_made, zeros_long}
use Rattle.cmd_expand.proofs.Lists.{keeps_all_same}
use Rattle.cmd_expand.proofs.overlay.expand_several.Goals as goal

pub returns-in-Err-clause-leaves : goal.returns-in-Err-clause-leaves
returns-in-Err-clause-leaves g c = λ t. record {
  others = search rules;
  in_use = λ used refused. (c.open_all.ensures.alone t).world;
  inputs = keeps_all_same _ _ _ (c.open_all.ensures.alone t).world;
  closed = search rules;
  clean = tt;
}

pub returns-in-Err-clause-refused : goal.returns-in-Err-clause-refused
returns-in-Err-clause-refused g c = λ t. from_opening _ c.in-Err.refusal.fault _ _ _ _ _ _ (c.in-Err.ensures.refused t)

pub returns-in_err-zeros-clause-leaves : goal.returns-in_err-zeros-clause-leaves
returns-in_err-zeros-clause-leaves g c = λ t.
    leaves_overlaid _ _ _ _ _ _ _ _ _ _ (c.in-Ok.ensures.opened t) (c.open_all.ensures.alone t).world
    (c.in_err-zeros.ensures.only t) (c.in_err-zeros.ensures.guarded t)
    (search rules) (search rules)

pub returns-in_err-zeros-clause-refused : goal.returns-in_err-zeros-clause-refused
returns-in_err-zeros-clause-refused g c = λ t.
    handed_on c.from_residual.result _ _
    (λ r made. from_files _ r.fault _ _ _ _ _ _
    (inl (_, made, failed_zeros _ _ _ _ _ _ _ (c.in-Ok.ensures.opened t) (c.in_err-zeros.ensures.kept t))))
    c.from_residual.ensures.1

pub returns-in-Err-answer-clause-leaves : goal.returns-in-Err-answer-clause-leaves
returns-in-Err-answer-clause-leaves g c = λ t.
    leaves_overlaid _ _ _ _ _ _ _ _ _ _ (c.in-Ok.ensures.opened t) refl (lands _ _ _ _ _ _ _ _ _ _
    (c.in_ok-zeros.ensures.made t) (c.open_all.ensures.alone t).world
    (c.lay_all-answer.ensures.alone.world t) (c.lay_all-answer.ensures.alone.held t) (c.close-end.ensures.ended t)
    (c.close-end.ensures.paths t)) (spared_made _ _ _ _ _ _ _ (c.in_ok-zeros.ensures.made t))
    (search rules) tt

pub returns-in-Err-answer-clause-refused : goal.returns-in-Err-answer-clause-refused
returns-in-Err-answer-clause-refused g c = λ t.
    let opened = c.in-Ok.ensures.opened t in
    let s = sized _ _ _ _ _ _ _ c.whole_of-blocks.ensures opened (c.in-Ok.ensures.shape t) in
    let long = zeros_long _ _ _ _ (g.met.D.InPlace.Source.sized c.in_ok-zeros.zeros (g.met.D.Disk.part_told t))
    (c.in_ok-zeros.ensures.zeros t) s.long in
    let h = g.D.Disk.held c.args.disk.now in
    let h2 = g.D.Disk.held c.zeros.new.self in
    let h3 = g.D.Disk.held c.lay_all-answer.new.disk in
    let h4 = g.D.Disk.held c.close-end.new.self in
    let failures = g.D.InPlace.Partition.put_faults c.lay_all-answer.new.onto in
    let counts = counts_in_all _ _ _ _ _ _ failures _ (g.D.InPlace.Partition.past c.lay_all-answer.new.onto) h _ h2
    h3 h4 opened (c.in_ok-zeros.ensures.made t) (c.close-end.ensures.closed t) in
    from_laying _ c.in-Err-answer.refusal.fault _ _ _ _ h h4 _ _ _ _ (failed_reading h h2 h3 h4 failures _ counts)
    (failed_writing h h2 h3 h4 _ failures _ counts (c.in_ok-zeros.ensures.clean t))
    (breaks_over c.in-Err-answer.refusal.fault _ _ _ _ _ _ _ _ _ _ _ _ _ _ _ _ c.whole_of-blocks.ensures opened
    (c.in-Ok.ensures.shape t) (c.in_ok-zeros.ensures.made t) (c.open_all.ensures.alone t).world
    (c.in_ok-zeros.ensures.zeros t) (c.in-Err-answer.ensures.broken t) (c.lay_all-answer.ensures.alone.world t)
    (c.lay_all-answer.ensures.alone.held t) (c.close-end.ensures.ended t) (c.close-end.ensures.paths t))
    (c.in-Err-answer.ensures.refused t s.number s.size long s.all (c.in-Ok.ensures.clean t))

pub returns-in-Err-end-clause-leaves : goal.returns-in-Err-end-clause-leaves
returns-in-Err-end-clause-leaves g c = λ t.
    leaves_overlaid _ _ _ _ _ _ _ _ _ _ (c.in-Ok.ensures.opened t) refl (lands _ _ _ _ _ _ _ _ _ _
    (c.in_ok-zeros.ensures.made t) (c.open_all.ensures.alone t).world
    (c.lay_all-answer.ensures.alone.world t) (c.lay_all-answer.ensures.alone.held t) (c.close-end.ensures.ended t)
    (c.close-end.ensures.paths t)) (spared_made _ _ _ _ _ _ _ (c.in_ok-zeros.ensures.made t))
    (search rules) tt

pub returns-in-Err-end-clause-refused : goal.returns-in-Err-end-clause-refused
returns-in-Err-end-clause-refused g c = λ t.
    let opened = c.in-Ok.ensures.opened t in
    let h = g.D.Disk.held c.args.disk.now in
    let h2 = g.D.Disk.held c.zeros.new.self in
    let h3 = g.D.Disk.held c.lay_all-answer.new.disk in
    let h4 = g.D.Disk.held c.close-end.new.self in
    let failures = g.D.InPlace.Partition.put_faults c.lay_all-answer.new.onto in
    let counts = counts_in_all _ _ _ _ _ _ failures _ (g.D.InPlace.Partition.past c.lay_all-answer.new.onto) h _ h2
    h3 h4 opened (c.in_ok-zeros.ensures.made t) (c.in-Err-end.ensures.closed t) in
    from_files _ c.into.result.fault _ _ _ _ _ _ (inl (
      _,
      c.into.ensures ∙ ap faults.Host c.begun.ensures,
      failed_closing _ h h2 h3 h4 failures counts (c.lay_all-answer.ensures.alone.held t),
    ))

pub returns-in-Err-printed-clause-leaves : goal.returns-in-Err-printed-clause-leaves
returns-in-Err-printed-clause-leaves g c = λ t.
    leaves_overlaid _ _ _ _ _ _ _ _ _ _ (c.in-Ok.ensures.opened t) refl (lands _ _ _ _ _ _ _ _ _ _
    (c.in_ok-zeros.ensures.made t) (c.open_all.ensures.alone t).world
    (c.lay_all-answer.ensures.alone.world t) (c.lay_all-answer.ensures.alone.held t) (c.close-end.ensures.ended t)
    (c.close-end.ensures.paths t)) (spared_made _ _ _ _ _ _ _ (c.in_ok-zeros.ensures.made t))
    (search rules) tt

pub returns-in-Err-printed-clause-refused : goal.returns-in-Err-printed-clause-refused
returns-in-Err-printed-clause-refused g c = λ t.
    from_files _ c.into-in-Err-printed.result.fault _ _ _ _ _ _ (inr (
      c.into-in-Err-printed.ensures ∙ ap faults.Host c.in-Err-printed.ensures.fault,
      overlays _ _ _ _ _ _ _ _ _ _ _ _ _ _ _ _ _ c.whole_of-blocks.ensures (c.in-Ok.ensures.opened t)
          (c.in-Ok.ensures.shape t) (c.in-Ok.ensures.turn t) (c.in_ok-zeros.ensures.made t)
          (c.open_all.ensures.alone t).world (c.in_ok-zeros.ensures.zeros t)
          (c.in-Ok-answer.ensures.laid t) (c.lay_all-answer.ensures.alone.world t)
          (c.lay_all-answer.ensures.alone.held t)
          (c.close-end.ensures.ended t) (c.close-end.ensures.paths t) c.in-Err-printed.ensures.refused,
    ))

pub returns-in-Ok-printed-clause-leaves : goal.returns-in-Ok-printed-clause-leaves
returns-in-Ok-printed-clause-leaves g c = λ t.
    let opened = c.in-Ok.ensures.opened t in
    let h = g.D.Disk.held c.args.disk.now in
    let h2 = g.D.Disk.held c.zeros.new.self in
    let h3 = g.D.Disk.held c.lay_all-answer.new.disk in
    let h4 = g.D.Disk.held c.close-end.new.self in
    let failures = g.D.InPlace.Partition.put_faults c.lay_all-answer.new.onto in
    let counts = counts_in_all _ _ _ _ _ _ failures _ (g.D.InPlace.Partition.past c.lay_all-answer.new.onto) h _ h2
    h3 h4 opened (c.in_ok-zeros.ensures.made t) (c.in-Ok-end.ensures.closed t) in
    let laid = c.in-Ok-answer.ensures.clean t (c.in-Ok.ensures.clean t) in
    leaves_overlaid _ _ _ _ _ _ _ _ _ _ (c.in-Ok.ensures.opened t) refl (lands _ _ _ _ _ _ _ _ _ _
    (c.in_ok-zeros.ensures.made t) (c.open_all.ensures.alone t).world
    (c.lay_all-answer.ensures.alone.world t) (c.lay_all-answer.ensures.alone.held t) (c.close-end.ensures.ended t)
    (c.close-end.ensures.paths t)) (spared_made _ _ _ _ _ _ _ (c.in_ok-zeros.ensures.made t))
    (search rules) (clean_closing h h2 h3 h4 _ failures no_counts counts (c.in_ok-zeros.ensures.clean t) laid.0 laid.1
    (λ cause. refl))

pub returns-in-Ok-printed-clause-synced : goal.returns-in-Ok-printed-clause-synced
returns-in-Ok-printed-clause-synced g c = λ t.
    synced _ _ _ _ _ _ _ _ _ (g.D.InPlace.Partition.past c.in_ok-zeros.zeros)
    (g.D.InPlace.Partition.past c.lay_all-answer.new.onto) _ _ _ _ _ (c.in-Ok.ensures.opened t)
    (c.in_ok-zeros.ensures.made t)
    (c.lay_all-answer.ensures.alone.held t) (c.in-Ok-end.ensures.closed t) (c.in_ok-zeros.ensures.past t)
    (c.in-Ok-answer.ensures.settled t (ap (λ q. q.pending) (c.in_ok-zeros.ensures.past t)))
    c.in-Ok-answer.ensures.synced (length-map c.in-Ok.all.kept.items _)

pub returns-in-Ok-printed-clause-done : goal.returns-in-Ok-printed-clause-done
returns-in-Ok-printed-clause-done g c = λ t.
    overlays _ _ _ _ _ _ _ _ _ _ _ _ _ _ _ _ _ c.whole_of-blocks.ensures (c.in-Ok.ensures.opened t)
    (c.in-Ok.ensures.shape t) (c.in-Ok.ensures.turn t) (c.in_ok-zeros.ensures.made t) (c.open_all.ensures.alone t).world
    (c.in_ok-zeros.ensures.zeros t)
    (c.in-Ok-answer.ensures.laid t) (c.lay_all-answer.ensures.alone.world t) (c.lay_all-answer.ensures.alone.held t)
    (c.close-end.ensures.ended t) (c.close-end.ensures.paths t)
    (beside c.args.report.now c.printed.new.report _ _ _ (c.in-Ok-end.ensures.stream t) c.in-Ok-printed.ensures.shown)
