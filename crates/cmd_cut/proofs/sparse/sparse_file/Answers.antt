use Rattle.std.proofs.Common.{◌∙◌, ap, sym, inr, rules}
use Rattle.sys_disk.specs.World.{untouched}
use Rattle.sys_refusals.specs.Paths.{path_of, path_out}
use Rattle.sys_disk.proofs.Worlds.{only_written, only_behind, kept_behind, spared_behind, synced_behind}
use Rattle.cmd_cut.proofs.Files.{left_unbegun, left_whole, none_open, part_same, part_emptied, part_left}
use Rattle.cmd_cut.proofs.Files.{no_blocks, refuses, refuses_host, spared_created, sparsifies}
use Rattle.sys_report.proofs.Beside.{beside}
use Rattle.cmd_cut.proofs.Counted.{clean_behind, failed_behind, outside_more}
use Rattle.cmd_common_sparse.specs.Fault.{side_of}
use Rattle.cmd_cut.proofs.Told.{run_side, tells_given, tells_host, tells_read}
use Rattle.sys_refusals.proofs.Blames.{told_of_input}
use Rattle.cmd_cut.proofs.sparse.sparse_file.Goals as goal

-- IN cannot be opened

pub returns-in_err-source-clause-left : goal.returns-in_err-source-clause-left
returns-in_err-source-clause-left g c = λ t. record {
  synced = search rules;
  others = untouched (c.in_err-source.ensures.world t);
  guarded = λ used refused. c.in_err-source.ensures.world t;
  input = λ f there. ap (λ w. w.holds f) (c.in_err-source.ensures.world t);
  closed = ap (λ k. k.output) (c.in_err-source.ensures.kept t) ∙ (c.requires.first t).output;
  whole = λ o. part_same _ _ _ _ _ _ (c.in_err-source.ensures.world t);
  clean = search rules;
}

-- it has no such blocks

pub returns-in-Err-clause-left : goal.returns-in-Err-clause-left
returns-in-Err-clause-left g c = λ t.
    left_unbegun _ _ _ _ _ _ _ _ _ _ (none_open _ _ _ _ _ (c.in_ok-source.ensures.opened t) (c.requires.first t).output)
    (c.in_ok-source.ensures.world t)

pub returns-in-Err-clause-refused : goal.returns-in-Err-clause-refused
returns-in-Err-clause-refused g c = λ t.
    no_blocks _ _ _ _ _ _ (g.D.Disk.held c.args.disk.now) (g.D.Disk.held c.source.new.self) _ _ _ _ _
    (c.in_ok-source.ensures.opened t) (c.in_ok-source.ensures.world t)
    (g.met.D.At.Source.sized c.in_ok-source.source (g.met.D.Disk.source_told t)) c.in-Err.ensures.refused
    c.refuse.ensures.fault

-- OUT cannot be opened

pub returns-in_err-image-clause-left : goal.returns-in_err-image-clause-left
returns-in_err-image-clause-left g c = λ t. record {
  synced = search rules;
  others = only_behind _ _ _ _ _ _ _ _ (c.in_ok-source.ensures.opened t) (c.in_ok-source.ensures.world t)
      (c.in_err-image.ensures.only t);
  guarded = spared_behind _ _ _ _ _ _ _ _ (c.in_ok-source.ensures.opened t) (c.in_ok-source.ensures.world t)
      (c.in_err-image.ensures.guarded t);
  input = kept_behind _ _ _ _ _ _ _ _ (c.in_ok-source.ensures.opened t) (c.in_ok-source.ensures.world t)
      (c.in_err-image.ensures.only t);
  closed = ap (λ k. k.output) (c.in_err-image.ensures.kept t) ∙ none_open _ _ _ _ _ (c.in_ok-source.ensures.opened t)
      (c.requires.first t).output;
  whole = λ o. part_emptied (path_of c.args.input) (path_out c.args.output) _ _ (g.D.Disk.world c.args.disk.now)
      (g.D.Disk.world c.source.new.self) (g.D.Disk.world c.image.new.self) (c.in_ok-source.ensures.world t)
      (c.in_err-image.ensures.empties t);
  clean = search rules;
}

-- the image cannot be written

pub returns-in-Err-write_whole-clause-left : goal.returns-in-Err-write_whole-clause-left
returns-in-Err-write_whole-clause-left g c = λ t.
    let made = c.in_ok-image.ensures.created t in
    let only = only_written _ _ _ _ _ _ made (c.in-Err-write_whole.ensures.writes t).rest in
    record {
      synced = tt;
      others = only_behind _ _ _ _ _ _ _ _ (c.in_ok-source.ensures.opened t) (c.in_ok-source.ensures.world t) only;
      guarded = spared_created _ _ _ _ _ _ _ _ _ _ _ (c.in_ok-source.ensures.opened t) made;
      input = kept_behind _ _ _ _ _ _ _ _ (c.in_ok-source.ensures.opened t) (c.in_ok-source.ensures.world t) only;
      closed = ap (λ k. k.output) (c.in-Err-write_whole.ensures.writes t).closed.closed;
      whole = λ o. part_left _ _ _ _ _ _ _ _ _ _ _ _ _ c.in-Ok.ensures.size (c.in_ok-source.ensures.opened t) made
          (c.in-Err-write_whole.ensures.writes t).rest
          (c.in-Err-write_whole.ensures.broken t (c.in_ok-image.ensures.kind t o));
      clean = tt;
    }

pub returns-in-Err-write_whole-clause-refused : goal.returns-in-Err-write_whole-clause-refused
returns-in-Err-write_whole-clause-refused g c = λ t.
    refuses _ _ _ _ (g.D.Disk.held c.args.disk.now) (g.D.Disk.held c.write_whole.new.disk) _ _
    (outside_more _ _ (failed_behind _ _ _ (g.D.Disk.held c.args.disk.now) (g.D.Disk.held c.source.new.self)
    (g.D.Disk.held c.image.new.self) (g.D.Disk.held c.write_whole.new.disk) _ _ _ (c.in_ok-source.ensures.opened t)
    (c.in_ok-image.ensures.created t)) c.in-Err-write_whole.refusal.fault
    (c.in-Err-write_whole.ensures.writes t).outside)

-- nothing can be printed

pub returns-in-Err-printed-clause-left : goal.returns-in-Err-printed-clause-left
returns-in-Err-printed-clause-left g c = λ t.
    let made = c.in_ok-image.ensures.created t in
    left_whole _ _ _ _ _ _ _ c.in-Ok-write_whole.end.0 _ _ _ _ _ _ _ _ _ c.in-Ok.ensures.size
    (c.in_ok-source.ensures.opened t) (c.in_ok-source.ensures.world t) made (c.in-Ok-write_whole.ensures.writes t).holds
    (c.in-Ok-write_whole.ensures.writes t).rest (c.in-Ok-write_whole.ensures.writes t).closed tt tt

pub returns-in-Err-printed-clause-refused : goal.returns-in-Err-printed-clause-refused
returns-in-Err-printed-clause-refused g c = λ t.
    refuses_host _ _ _ _ (g.D.Disk.held c.args.disk.now) (g.D.Disk.held c.write_whole.new.disk) _ _
    c.in-Err-printed.refusal.fault c.into.ensures
    (inr (
      c.in-Err-printed.ensures.fault,
      sparsifies _ _ _ _ _ _ c.in-Ok-write_whole.end.0 _ _ _ _ _ _ _ _
          c.in-Ok.ensures.size c.in-Ok.ensures.granted
          (c.in_ok-source.ensures.opened t) (c.in_ok-source.ensures.world t) (c.in_ok-image.ensures.created t)
          (c.in-Ok-write_whole.ensures.writes t).holds c.in-Err-printed.ensures.refused,
    ))

-- all is done

pub returns-in-Ok-printed-clause-left : goal.returns-in-Ok-printed-clause-left
returns-in-Ok-printed-clause-left g c = λ t.
    let made = c.in_ok-image.ensures.created t in
    left_whole _ _ _ _ _ _ _ c.in-Ok-write_whole.end.0 _ _ _ _ _ _ _ _ _ c.in-Ok.ensures.size
    (c.in_ok-source.ensures.opened t) (c.in_ok-source.ensures.world t) made (c.in-Ok-write_whole.ensures.writes t).holds
    (c.in-Ok-write_whole.ensures.writes t).rest (c.in-Ok-write_whole.ensures.writes t).closed
    (synced_behind _ _ _ _ _ _ _ _ _ _ (c.in_ok-source.ensures.opened t) made
    (c.in-Ok-write_whole.ensures.writes t).closed.failures (c.in-Ok-write_whole.ensures.writes t).closed.closed)
    (clean_behind _ _ _ _ _ _ _ _ _ _ (c.in_ok-source.ensures.opened t) made
    (c.in-Ok-write_whole.ensures.writes t).closed)

pub returns-in-Ok-printed-clause-done : goal.returns-in-Ok-printed-clause-done
returns-in-Ok-printed-clause-done g c = λ t.
    sparsifies _ _ _ _ _ _ c.in-Ok-write_whole.end.0 _ _ _ _ _ _ _ _ c.in-Ok.ensures.size c.in-Ok.ensures.granted
    (c.in_ok-source.ensures.opened t) (c.in_ok-source.ensures.world t) (c.in_ok-image.ensures.created t)
    (c.in-Ok-write_whole.ensures.writes t).holds
    (beside c.args.report.now c.printed.new.report _ _ _ (c.in-Ok-write_whole.ensures.stream t)
    c.in-Ok-printed.ensures.shown)

-- the file that a refusal is told of

pub returns-in_err-source-clause-told_of : goal.returns-in_err-source-clause-told_of
returns-in_err-source-clause-told_of g c =
    tells_given (λ r. r.fault) (λ r. r.about.place) c.from_residual.result _ _ _ c.from_residual.ensures.1

pub returns-in-Err-clause-told_of : goal.returns-in-Err-clause-told_of
returns-in-Err-clause-told_of g c = record {
  reads = tells_read c.reading-sides.result _ _ _ _ c.refuse.ensures.place c.refuse.ensures.fault
      c.reading-sides.ensures.place;
  written = λ on. absurd (run_side c.in-Err.fault _ _ c.in-Err.ensures.refused
      (sym (ap side_of c.refuse.ensures.fault) ∙ on));
}

pub returns-in_err-image-clause-told_of : goal.returns-in_err-image-clause-told_of
returns-in_err-image-clause-told_of g c =
    tells_given (λ r. r.fault) (λ r. r.about.place) c.from_residual-in_err-image.result _ _ _
    c.from_residual-in_err-image.ensures.1

pub returns-in-Err-write_whole-clause-told_of : goal.returns-in-Err-write_whole-clause-told_of
returns-in-Err-write_whole-clause-told_of g c =
    told_of_input _ _ _ _ _ c.reading-sides.ensures.place c.in-Err-write_whole.ensures.told_of

pub returns-in-Err-printed-clause-told_of : goal.returns-in-Err-printed-clause-told_of
returns-in-Err-printed-clause-told_of g c = tells_host _ c.in-Err-printed.refusal.fault _ _ _ c.into.ensures
