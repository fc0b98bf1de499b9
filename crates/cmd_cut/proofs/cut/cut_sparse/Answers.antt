use Rattle.std.proofs.Common.{None, refl, ap, arith, ◌≡◌, ◌<◌, ◌+◌, ℕ}
use Rattle.abt_runs.specs.Sparse.{sparse_list}
use Rattle.abt_sparse.proofs.Exactly.{is_so}
use Rattle.sys_disk.specs.Counts.{reading, reads}
use Rattle.sys_disk.specs.World.{OpenFiles, HasFailed, counting}
use Rattle.cmd_common_sparse.specs.PieceNames.{naming_of}
use Rattle.cmd_cut.specs.Cutting.{ShowsCut}
use Rattle.cmd_cut.proofs.Opened.{cut_of, if_err, sparse_image, sparse_uncut, stop_of}
use Rattle.cmd_cut.specs.Leaving.{unbegun}
use Rattle.cmd_cut.proofs.Leavings.{begun_of}
use Rattle.cmd_cut.proofs.Told.{sparse_side, tells_read, told_image}
use Rattle.cmd_cut.proofs.cut.cut_sparse.Goals as goal

-- what was read is closed, and has failed
read_fails : (g r r' : ℕ) (h h' : OpenFiles) → r ≡ 0 → h' ≡ counting (reads g r') h → r < r' → HasFailed reading h h'
read_fails g r r' h h' none closed more =
    let last : h'.counts.failed reading ≡ h.counts.failed reading + r' = ap (λ k. k.counts.failed reading) closed in
    omega (arith, last, more)

pub returns-in-Ok-clause-done : goal.returns-in-Ok-clause-done
returns-in-Ok-clause-done g c = λ t.
    let told = g.met.D.Disk.source_told t in
    let x = g.D.At.Source.content c.args.source in
    let size = c.in-Ok.pieces.cutter.runs.header.blk_sz in
    cut_of c.cut_pieces.result None size size c.args.order.limit _ (sparse_list x) _ (naming_of c.args.order.names)
    x _ _ _ _
    (λ n. ShowsCut g.D.Disk.on_output (naming_of c.args.order.names) n (g.D.Disk.world c.cut_pieces.new.disk)
    c.args.report.now c.cut_pieces.new.report) (sparse_image _ _ _ x
    (is_so x (g.met.D.At.Source.are_bytes c.args.source told)) (c.in-Ok.ensures.opened told))
    c.in-Ok.ensures.granted refl c.in-Ok.ensures.limit
    (ap sparse_list (c.sparse_pieces.ensures.reads.content told)) (c.cut_pieces.ensures.done t)

pub returns-in-Ok-clause-refused : goal.returns-in-Ok-clause-refused
returns-in-Ok-clause-refused g c = λ t.
    let told = g.met.D.Disk.source_told t in
    let x = g.D.At.Source.content c.args.source in
    let size = c.in-Ok.pieces.cutter.runs.header.blk_sz in
    if_err c.cut_pieces.result _ _ (λ e why.
    stop_of _ e.fault None size size c.args.order.limit _ (sparse_list x) _ (naming_of c.args.order.names) x _ _ _ _ _ _
    (sparse_image _ _ _ x (is_so x (g.met.D.At.Source.are_bytes c.args.source told)) (c.in-Ok.ensures.opened told))
    refl c.in-Ok.ensures.limit (ap sparse_list (c.sparse_pieces.ensures.reads.content told)) why)
    (c.cut_pieces.ensures.refused t)

pub returns-in-Err-clause-refused : goal.returns-in-Err-clause-refused
returns-in-Err-clause-refused g c = λ t.
    let told = g.met.D.Disk.source_told t in
    let x = g.D.At.Source.content c.args.source in
    sparse_uncut _ c.in-Err.fault c.refuse.result.fault c.args.order.limit x _ _ _ _ _
    (is_so x (g.met.D.At.Source.are_bytes c.args.source told)) c.refuse.ensures.fault (c.in-Err.ensures.refused told)
    (λ more. read_fails _ _ _ _ _ (c.requires.fresh t).clean (c.let_go_source.ensures.held t) more)
    (c.let_go_source.ensures.world t)

pub returns-in-Ok-clause-begins : goal.returns-in-Ok-clause-begins
returns-in-Ok-clause-begins g c = λ t.
    let told = g.met.D.Disk.source_told t in
    let x = g.D.At.Source.content c.args.source in
    let size = c.in-Ok.pieces.cutter.runs.header.blk_sz in
    begun_of None size size c.args.order.limit _ (sparse_list x) _ _ (naming_of c.args.order.names) _ x _ _ _
    (sparse_image _ _ _ x (is_so x (g.met.D.At.Source.are_bytes c.args.source told)) (c.in-Ok.ensures.opened told))
    refl c.in-Ok.ensures.limit (ap sparse_list (c.sparse_pieces.ensures.reads.content told))
    (c.cut_pieces.ensures.spares t).0 (c.cut_pieces.ensures.spares t).1

pub returns-in-Err-clause-begins : goal.returns-in-Err-clause-begins
returns-in-Err-clause-begins g c = λ t. unbegun (c.let_go_source.ensures.world t)

-- the file that a refusal is told of

pub returns-in-Ok-clause-told_of_piece : goal.returns-in-Ok-clause-told_of_piece
returns-in-Ok-clause-told_of_piece g c = λ t.
    let told = g.met.D.Disk.source_told t in
    let x = g.D.At.Source.content c.args.source in
    let size = c.in-Ok.pieces.cutter.runs.header.blk_sz in
    if_err c.cut_pieces.result _ _ (λ e why on.
    told_image None size size c.args.order.limit _ (sparse_list x) _ (naming_of c.args.order.names) x _ _ _ _ _
    (sparse_image _ _ _ x (is_so x (g.met.D.At.Source.are_bytes c.args.source told)) (c.in-Ok.ensures.opened told))
    refl c.in-Ok.ensures.limit (ap sparse_list (c.sparse_pieces.ensures.reads.content told)) (why on))
    (c.cut_pieces.ensures.told_of_piece t)

pub returns-in-Err-clause-told_of : goal.returns-in-Err-clause-told_of
returns-in-Err-clause-told_of g c =
    tells_read c.reading.result c.in-Err.fault _ _ _ c.refuse.ensures.place c.refuse.ensures.fault
    c.reading.ensures.place

pub returns-in-Err-clause-told_of_piece : goal.returns-in-Err-clause-told_of_piece
returns-in-Err-clause-told_of_piece g c = λ t on.
    let told = g.met.D.Disk.source_told t in
    let x = g.D.At.Source.content c.args.source in
    absurd (sparse_side c.in-Err.fault _ c.args.order.limit x _ _
    (is_so x (g.met.D.At.Source.are_bytes c.args.source told)) c.refuse.ensures.fault
    (c.in-Err.ensures.refused told) on)
