use Rattle.std.proofs.Common.{subst}
use Rattle.abt_runs.specs.Sparse.{sparse_list}
use Rattle.cmd_expand.specs.CutOf.{Said, TellsPiece}
use Rattle.cmd_expand.proofs.Opens.{is_image, not_read, not_walked, tells_bytes}
use Rattle.cmd_expand.proofs.open_images.shape_of.Goals as goal

pub returns-in-Err-clause-refused : goal.returns-in-Err-clause-refused
returns-in-Err-clause-refused g c = λ t.
    not_read c.in-Err.fault _ _ _ _ (g.met.S.Source.are_bytes c.args.source.now t) (c.in-Err.ensures.refused t)
    c.in-Err.ensures.cause

pub returns-in-None-clause-image : goal.returns-in-None-clause-image
returns-in-None-clause-image g c = λ t.
    is_image _ c.in-Ok.runs.header _ _ (g.met.S.Source.are_bytes c.args.source.now t) (c.in-Ok.ensures.opened t)

pub returns-in-None-clause-piece : goal.returns-in-None-clause-piece
returns-in-None-clause-piece g c = λ t.
    tells_bytes c.in-Ok-piece_of.piece c.args.path.now (g.S.Source.content c.args.source.now) c.in-Ok.runs.header _ _
    (g.met.S.Source.are_bytes c.args.source.now t) (c.in-Ok.ensures.opened t)
    (subst (λ x. TellsPiece c.in-Ok-piece_of.piece c.args.path.now (Said (sparse_list x)))
    (c.in-Ok.ensures.reads.content t) (c.in-Ok-piece_of.ensures.piece t))

pub returns-in-Err-piece_of-clause-refused : goal.returns-in-Err-piece_of-clause-refused
returns-in-Err-piece_of-clause-refused g c = λ t.
    not_walked c.in-Err-piece_of.fault _ g.S.Source.models _ _ _ t c.in-Ok.ensures.reads.clean
    c.in-Err-piece_of.ensures.walks.cause
