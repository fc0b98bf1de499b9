use Rattle.std.proofs.Common.{Some, refl, ap}
use Rattle.abt_sparse.specs.Block.{classify}
use Rattle.cmd_common_sparse.specs.PieceNames.{naming_of}
use Rattle.cmd_cut.specs.Cutting.{ShowsCut}
use Rattle.cmd_cut.proofs.Opened.{cut_of, if_err, raw_image, raw_uncut, stop_of}
use Rattle.cmd_cut.specs.Leaving.{unbegun}
use Rattle.cmd_cut.proofs.Leavings.{begun_of}
use Rattle.cmd_cut.proofs.Told.{raw_side, tells_read, told_image}
use Rattle.cmd_cut.proofs.cut.cut_raw.Goals as goal

pub returns-in-Ok-clause-done : goal.returns-in-Ok-clause-done
returns-in-Ok-clause-done g c = λ t.
    let x = g.D.At.Source.content c.args.source in
    let runs = c.in-Ok.ensures.runs in
    cut_of c.cut_pieces.result (Some c.args.size) c.args.size _ c.args.order.limit _ (classify c.args.size x) _
    (naming_of c.args.order.names) x _ _ _ _
    (λ n. ShowsCut g.D.Disk.on_output (naming_of c.args.order.names) n (g.D.Disk.world c.cut_pieces.new.disk)
    c.args.report.now c.cut_pieces.new.report) (raw_image c.args.size x c.in-Ok.ensures.granted.0)
    c.in-Ok.ensures.granted.1 runs.0 runs.1
    (ap (λ n. classify n x) runs.0) (c.cut_pieces.ensures.done t)

pub returns-in-Ok-clause-refused : goal.returns-in-Ok-clause-refused
returns-in-Ok-clause-refused g c = λ t.
    let x = g.D.At.Source.content c.args.source in
    let runs = c.in-Ok.ensures.runs in
    if_err c.cut_pieces.result _ _ (λ e why.
    stop_of _ e.fault (Some c.args.size) c.args.size _ c.args.order.limit _ (classify c.args.size x) _
    (naming_of c.args.order.names)
    x _ _ _ _ _ _ (raw_image c.args.size x c.in-Ok.ensures.granted.0) runs.0 runs.1 (ap (λ n. classify n x) runs.0) why)
    (c.cut_pieces.ensures.refused t)

pub returns-clause-refused : goal.returns-clause-refused
returns-clause-refused g c = λ t.
    raw_uncut _ c.in-Err.fault c.refuse.result.fault c.args.size _ c.args.order.limit
    (g.D.At.Source.content c.args.source) _ _ _ c.refuse.ensures.fault
    (g.met.D.At.Source.sized c.args.source (g.met.D.Disk.source_told t)) c.in-Err.ensures.refused refl

pub returns-in-Ok-clause-begins : goal.returns-in-Ok-clause-begins
returns-in-Ok-clause-begins g c = λ t.
    let x = g.D.At.Source.content c.args.source in
    let runs = c.in-Ok.ensures.runs in
    begun_of (Some c.args.size) c.args.size _ c.args.order.limit _ (classify c.args.size x) _ _
    (naming_of c.args.order.names) _ x _ _ _ (raw_image c.args.size x c.in-Ok.ensures.granted.0) runs.0 runs.1
    (ap (λ n. classify n x) runs.0) (c.cut_pieces.ensures.spares t).0 (c.cut_pieces.ensures.spares t).1

pub returns-clause-begins : goal.returns-clause-begins
returns-clause-begins g c = λ t. unbegun refl

-- the file that a refusal is told of

pub returns-in-Ok-clause-told_of_piece : goal.returns-in-Ok-clause-told_of_piece
returns-in-Ok-clause-told_of_piece g c = λ t.
    let x = g.D.At.Source.content c.args.source in
    let runs = c.in-Ok.ensures.runs in
    if_err c.cut_pieces.result _ _ (λ e why on.
    told_image (Some c.args.size) c.args.size _ c.args.order.limit _ (classify c.args.size x) _
    (naming_of c.args.order.names) x _ _ _ _ _ (raw_image c.args.size x c.in-Ok.ensures.granted.0) runs.0 runs.1
    (ap (λ n. classify n x) runs.0) (why on))
    (c.cut_pieces.ensures.told_of_piece t)

pub returns-clause-told_of : goal.returns-clause-told_of
returns-clause-told_of g c =
    tells_read c.reading.result c.in-Err.fault _ _ _ c.refuse.ensures.place c.refuse.ensures.fault
    c.reading.ensures.place

pub returns-clause-told_of_piece : goal.returns-clause-told_of_piece
returns-clause-told_of_piece g c = λ t on.
    absurd (raw_side c.in-Err.fault _ c.args.size _ c.args.order.limit c.refuse.ensures.fault
    c.in-Err.ensures.refused on)
