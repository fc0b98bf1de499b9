use Rattle.std.proofs.Common.{ap, refl, ◌∙◌}
use Rattle.cmd_common_sparse.specs.PieceNames.{naming_of}
use Rattle.cmd_cut.specs.Cutting.{IsPiecePath, MayWritePiece}
use Rattle.cmd_cut.proofs.Opened.{if_err}
use Rattle.sys_disk.proofs.Amongs.{among_none}
use Rattle.cmd_cut.proofs.Wholes.{cuts_file_as, cuts_shown, leaves_cut, refuses_file_as, refuses_unopened}
use Rattle.cmd_cut.specs.Leaving.{unchanged}
use Rattle.cmd_cut.proofs.Leavings.{spares_file_as}
use Rattle.cmd_cut.proofs.Told.{host_output, reads_host, told_file_as}
use Rattle.cmd_cut.proofs.cut.cut_file.Goals as goal

pub returns-in-Err-clause-refused : goal.returns-in-Err-clause-refused
returns-in-Err-clause-refused g c = λ t.
    refuses_unopened _ _ _ _ _ _ c.in-Err.refusal.fault _ _ _ _ c.into.ensures (c.in-Err.ensures.kept t)
    (c.in-Err.ensures.world t)

pub returns-in-Err-clause-leaves : goal.returns-in-Err-clause-leaves
returns-in-Err-clause-leaves g c = λ t. record {
  only = among_none (IsPiecePath c.args.order.names.prefix.now) _ _ _ _ _ (c.requires.first t).begun
      (c.in-Err.ensures.kept t) (c.in-Err.ensures.world t);
  guarded = among_none (MayWritePiece c.args.order.names.prefix.now (g.D.Disk.held c.args.disk.now)) _ _ _ _ _
      (c.requires.first t).begun (c.in-Err.ensures.kept t) (c.in-Err.ensures.world t);
  input = λ f there. ap (λ w. w.holds f) (c.in-Err.ensures.world t);
  closed = ap (λ k. k.output) (c.in-Err.ensures.kept t) ∙ (c.requires.first t).output;
  clean = tt;
}

pub returns-in-Some-clause-done : goal.returns-in-Some-clause-done
returns-in-Some-clause-done g c = λ t.
    cuts_shown g.D.Disk.on_output c.cut_raw.result c.args.order.raw c.args.order.limit _ (naming_of c.args.order.names)
    _ _ _ _ c.args.report.now _ _ ((refl, refl), refl)
    (cuts_file_as c.cut_raw.result c.args.order.raw _ _ _ _ _ _ _ _ _ _ _ _ c.in-Some.is (c.requires.first t).begun
    (c.in-Ok.ensures.opened t) (c.in-Ok.ensures.world t) (c.cut_raw.ensures.done t))

pub returns-in-Some-clause-leaves : goal.returns-in-Some-clause-leaves
returns-in-Some-clause-leaves g c = λ t.
    leaves_cut c.cut_raw.result c.args.order.names.prefix.now _ _ _ _ _ _ _ _ (c.requires.first t).begun
    (c.in-Ok.ensures.opened t) (c.in-Ok.ensures.world t) (c.cut_raw.ensures.leaves t)

pub returns-in-Some-clause-refused : goal.returns-in-Some-clause-refused
returns-in-Some-clause-refused g c = λ t.
    if_err c.cut_raw.result _ _ (λ e why.
    refuses_file_as _ c.args.order.raw _ _ _ _ _ e.fault _ _ _ _ _ _ c.in-Some.is (c.requires.first t).begun
    (c.in-Ok.ensures.opened t) (c.in-Ok.ensures.world t) why)
    (c.cut_raw.ensures.refused t)

pub returns-in-None-clause-done : goal.returns-in-None-clause-done
returns-in-None-clause-done g c = λ t.
    cuts_shown g.D.Disk.on_output c.cut_sparse.result c.args.order.raw c.args.order.limit _
    (naming_of c.args.order.names) _ _ _ _ c.args.report.now _ _ ((refl, refl), refl)
    (cuts_file_as c.cut_sparse.result c.args.order.raw _ _ _ _ _ _ _ _ _ _ _ _ c.in-None.is (c.requires.first t).begun
    (c.in-Ok.ensures.opened t) (c.in-Ok.ensures.world t) (c.cut_sparse.ensures.done t))

pub returns-in-None-clause-leaves : goal.returns-in-None-clause-leaves
returns-in-None-clause-leaves g c = λ t.
    leaves_cut c.cut_sparse.result c.args.order.names.prefix.now _ _ _ _ _ _ _ _ (c.requires.first t).begun
    (c.in-Ok.ensures.opened t) (c.in-Ok.ensures.world t) (c.cut_sparse.ensures.leaves t)

pub returns-in-None-clause-refused : goal.returns-in-None-clause-refused
returns-in-None-clause-refused g c = λ t.
    if_err c.cut_sparse.result _ _ (λ e why.
    refuses_file_as _ c.args.order.raw _ _ _ _ _ e.fault _ _ _ _ _ _ c.in-None.is (c.requires.first t).begun
    (c.in-Ok.ensures.opened t) (c.in-Ok.ensures.world t) why)
    (c.cut_sparse.ensures.refused t)

pub returns-in-Err-clause-spares : goal.returns-in-Err-clause-spares
returns-in-Err-clause-spares g c = λ t. unchanged (c.in-Err.ensures.world t)

pub returns-in-Some-clause-spares : goal.returns-in-Some-clause-spares
returns-in-Some-clause-spares g c = λ t.
    spares_file_as c.args.order.raw _ _ _ _ _ _ _ _ _ _ _ _ c.in-Some.is (c.in-Ok.ensures.opened t)
    (c.in-Ok.ensures.world t) (c.cut_raw.ensures.begins t)

pub returns-in-None-clause-spares : goal.returns-in-None-clause-spares
returns-in-None-clause-spares g c = λ t.
    spares_file_as c.args.order.raw _ _ _ _ _ _ _ _ _ _ _ _ c.in-None.is (c.in-Ok.ensures.opened t)
    (c.in-Ok.ensures.world t) (c.cut_sparse.ensures.begins t)

-- the file that a refusal is told of

pub returns-in-Err-clause-told_of : goal.returns-in-Err-clause-told_of
returns-in-Err-clause-told_of g c = reads_host _ c.in-Err.refusal.fault _ _ c.into.ensures

pub returns-in-Err-clause-told_of_piece : goal.returns-in-Err-clause-told_of_piece
returns-in-Err-clause-told_of_piece g c = λ t on. absurd (host_output _ c.in-Err.refusal.fault c.into.ensures on)

pub returns-in-Some-clause-told_of_piece : goal.returns-in-Some-clause-told_of_piece
returns-in-Some-clause-told_of_piece g c = λ t.
    if_err c.cut_raw.result _ _ (λ e why on.
    told_file_as c.args.order.raw _ _ _ _ _ _ _ _ _ _ _ _ c.in-Some.is (c.requires.first t).begun
    (c.in-Ok.ensures.opened t) (c.in-Ok.ensures.world t) (why on))
    (c.cut_raw.ensures.told_of_piece t)

pub returns-in-None-clause-told_of_piece : goal.returns-in-None-clause-told_of_piece
returns-in-None-clause-told_of_piece g c = λ t.
    if_err c.cut_sparse.result _ _ (λ e why on.
    told_file_as c.args.order.raw _ _ _ _ _ _ _ _ _ _ _ _ c.in-None.is (c.requires.first t).begun
    (c.in-Ok.ensures.opened t) (c.in-Ok.ensures.world t) (why on))
    (c.cut_sparse.ensures.told_of_piece t)
