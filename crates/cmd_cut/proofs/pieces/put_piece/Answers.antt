use Rattle.std.proofs.Common.{◌∙◌, ap}
use Rattle.cmd_cut.proofs.Beside.{adds_none, adds_none_refused, adds_piece, any_refused, clean_piece, goes_guarded}
use Rattle.cmd_cut.proofs.Beside.{goes_piece}
use Rattle.cmd_cut.proofs.Beside.{none_open, outside_piece, outside_refused}
use Rattle.std.proofs.lemmas.Bool.{false≢true}
use Rattle.abt_sparse.specs.Pieces.{pieces}
use Rattle.sys_refusals.specs.Paths.{path_out}
use Rattle.cmd_cut.proofs.Fronts.{any_err}
use Rattle.cmd_cut.proofs.Leavings.{holds_emptied, holds_left}
use Rattle.cmd_cut.proofs.Told.{tells_given}
use Rattle.cmd_cut.proofs.pieces.put_piece.Goals as goal

pub returns-in_err-image-clause-left : goal.returns-in_err-image-clause-left
returns-in_err-image-clause-left g c = λ t. record {
  only = goes_guarded _ _ _ _ _ _ (c.in_err-image.ensures.kept t) (c.in_err-image.ensures.only t)
      (c.in_err-image.ensures.guarded t);
  closed = ap (λ k. k.output) (c.in_err-image.ensures.kept t) ∙ c.requires.one t;
}

pub returns-in_err-image-clause-keeps : goal.returns-in_err-image-clause-keeps
returns-in_err-image-clause-keeps g c = λ t.
    any_refused c.from_residual.result _ (adds_none_refused _ _ (g.D.Disk.held c.args.disk.now)
    (g.D.Disk.held c.image.new.self) (g.D.Disk.world c.args.disk.now) (g.D.Disk.world c.image.new.self)
    (c.requires.one t) (c.in_err-image.ensures.kept t) (c.in_err-image.ensures.only t) (c.in_err-image.ensures.begun t))

pub returns-in-File-clause-adds : goal.returns-in-File-clause-adds
returns-in-File-clause-adds g c = λ t.
    let told = g.met.D.Disk.source_told t in
    adds_piece _ _ _ _ _ _ _ _ _ _ _ _ (c.in_ok-image.ensures.created t)
    (rw (c.forget.ensures.content told) at (c.put_in_file.ensures.puts t).holds) (c.put_in_file.ensures.puts t).closed
    (c.put_in_file.ensures.puts t).rest

pub returns-in-File-clause-keeps : goal.returns-in-File-clause-keeps
returns-in-File-clause-keeps g c = λ t.
    adds_none c.put_in_file.result _ _ _ _ _ _ _ _ _ (c.in_ok-image.ensures.created t)
    (c.put_in_file.ensures.puts t).closed
    (c.put_in_file.ensures.puts t).rest

pub returns-in-File-clause-left : goal.returns-in-File-clause-left
returns-in-File-clause-left g c = λ t. record {
  only = goes_piece _ _ _ _ _ _ _ _ _ _ (c.in_ok-image.ensures.created t) (c.put_in_file.ensures.puts t).closed
      (c.put_in_file.ensures.puts t).rest;
  closed = none_open _ _ _ _ _ (c.put_in_file.ensures.puts t).closed;
}

pub returns-in-File-clause-clean : goal.returns-in-File-clause-clean
returns-in-File-clause-clean g c = λ t.
    clean_piece _ _ _ _ _ _ _ _ _ (c.in_ok-image.ensures.created t)
    (rw c.forget.ensures.faults at (c.put_in_file.ensures.puts t).closed)

pub returns-in-File-clause-outside : goal.returns-in-File-clause-outside
returns-in-File-clause-outside g c = λ t.
    outside_piece (λ e. e.fault) c.put_in_file.result _ (g.D.At.Source.read_faults c.args.source.now.device)
    (g.D.At.Source.read_faults c.put_in_file.new.source.device) (g.D.Disk.held c.args.disk.now)
    (g.D.Disk.held c.image.new.self) (g.D.Disk.held c.put_in_file.new.disk) _ _ (c.in_ok-image.ensures.created t)
    (rw c.forget.ensures.faults at (c.put_in_file.ensures.puts t).outside)

pub returns-in-Stream-clause-adds : goal.returns-in-Stream-clause-adds
returns-in-Stream-clause-adds g c = λ t.
    let told = g.met.D.Disk.source_told t in
    adds_piece _ _ _ _ _ _ _ _ _ _ _ _ (c.in_ok-image.ensures.created t)
    (rw (c.forget.ensures.content told) at (c.put_in_stream.ensures.puts t).holds)
    (c.put_in_stream.ensures.puts t).closed
    (c.put_in_stream.ensures.puts t).rest

pub returns-in-Stream-clause-keeps : goal.returns-in-Stream-clause-keeps
returns-in-Stream-clause-keeps g c = λ t.
    adds_none c.put_in_stream.result _ _ _ _ _ _ _ _ _ (c.in_ok-image.ensures.created t)
    (c.put_in_stream.ensures.puts t).closed (c.put_in_stream.ensures.puts t).rest

pub returns-in-Stream-clause-left : goal.returns-in-Stream-clause-left
returns-in-Stream-clause-left g c = λ t. record {
  only = goes_piece _ _ _ _ _ _ _ _ _ _ (c.in_ok-image.ensures.created t) (c.put_in_stream.ensures.puts t).closed
      (c.put_in_stream.ensures.puts t).rest;
  closed = none_open _ _ _ _ _ (c.put_in_stream.ensures.puts t).closed;
}

pub returns-in-Stream-clause-clean : goal.returns-in-Stream-clause-clean
returns-in-Stream-clause-clean g c = λ t.
    clean_piece _ _ _ _ _ _ _ _ _ (c.in_ok-image.ensures.created t)
    (rw c.forget.ensures.faults at (c.put_in_stream.ensures.puts t).closed)

pub returns-in-Stream-clause-outside : goal.returns-in-Stream-clause-outside
returns-in-Stream-clause-outside g c = λ t.
    outside_piece (λ e. e.fault) c.put_in_stream.result _ (g.D.At.Source.read_faults c.args.source.now.device)
    (g.D.At.Source.read_faults c.put_in_stream.new.source.device) (g.D.Disk.held c.args.disk.now)
    (g.D.Disk.held c.image.new.self) (g.D.Disk.held c.put_in_stream.new.disk) _ _ (c.in_ok-image.ensures.created t)
    (rw c.forget.ensures.faults at (c.put_in_stream.ensures.puts t).outside)

pub returns-in-File-clause-told : goal.returns-in-File-clause-told
returns-in-File-clause-told g c = λ t.
    rw (c.forget.ensures.content (g.met.D.Disk.source_told t)) at (c.put_in_file.ensures.told t)

pub returns-in-Stream-clause-told : goal.returns-in-Stream-clause-told
returns-in-Stream-clause-told g c = λ t.
    rw (c.forget.ensures.content (g.met.D.Disk.source_told t)) at (c.put_in_stream.ensures.told t)

pub returns-in_err-image-clause-broken : goal.returns-in_err-image-clause-broken
returns-in_err-image-clause-broken g c = λ t over.
    any_err c.from_residual.result (holds_emptied (pieces c.args.pieces.now.cutter.limit
    (g.B.BlockRuns.size c.args.pieces.now.cutter.runs) (g.B.BlockRuns.list c.args.pieces.now.cutter.runs
    (g.D.At.Source.content c.args.source.now.device))) c.args.pieces.now.cutter.made (path_out c.args.place)
    (g.D.Disk.world c.args.disk.now) (g.D.Disk.world c.image.new.self) (c.in_err-image.ensures.empties t))

pub returns-in-File-clause-broken : goal.returns-in-File-clause-broken
returns-in-File-clause-broken g c = λ t over.
    let told = g.met.D.Disk.source_told t in
    holds_left c.put_in_file.result _ _ _ _ _ _ _ _ (c.in_ok-image.ensures.created t)
    (c.put_in_file.ensures.puts t).rest (rw (c.forget.ensures.content told) at (c.put_in_file.ensures.broken t))

pub returns-in-Stream-clause-broken : goal.returns-in-Stream-clause-broken
returns-in-Stream-clause-broken g c = λ t over.
    absurd (false≢true ((rw c.in-Stream.is at (c.in_ok-image.ensures.kind t)) over))

pub returns-in_err-image-clause-outside : goal.returns-in_err-image-clause-outside
returns-in_err-image-clause-outside g c = λ t.
    outside_refused (λ e. e.fault) c.from_residual.result _ _ _ _ c.from_residual.ensures.1
    (c.in_err-image.ensures.kept t)

pub returns-in_err-image-clause-told_of : goal.returns-in_err-image-clause-told_of
returns-in_err-image-clause-told_of g c =
    tells_given (λ r. r.fault) (λ r. r.about.place) c.from_residual.result _ _ _ c.from_residual.ensures.1
