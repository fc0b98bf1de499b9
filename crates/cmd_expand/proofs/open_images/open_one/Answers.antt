use Rattle.cmd_expand.proofs.Files.{handed_on}
use Rattle.cmd_expand.proofs.Opens.{not_opened, refused_once, tells_file, told_so}
use Rattle.cmd_expand.proofs.open_images.open_one.Goals as goal

pub returns-in_err-source-clause-refused : goal.returns-in_err-source-clause-refused
returns-in_err-source-clause-refused g c = λ t.
    handed_on c.from_residual.result _ _
    (λ r made. refused_once r.fault _ _ _ _ _ made (c.in_err-source.ensures.kept t)) c.from_residual.ensures.1

pub returns-in-Err-clause-refused : goal.returns-in-Err-clause-refused
returns-in-Err-clause-refused g c = λ t.
    told_so c.in-Err.fault c.refuse.result.fault _ _ _ _ c.refuse.ensures.fault
    (not_opened c.in-Err.fault _ _ _ _ _ _ _ _ _ (c.in_ok-source.ensures.opened t) (c.in_ok-source.ensures.clean t)
    (c.let_go_source.ensures.held t) (c.in-Err.ensures.refused (g.met.D.Disk.source_told t)))

pub returns-in-Ok-clause-piece : goal.returns-in-Ok-clause-piece
returns-in-Ok-clause-piece g c = λ t.
    tells_file c.in-Ok.piece _ c.args.word.now _ _ _ _ (c.in_ok-source.ensures.opened t) c.requires.word
    (c.in-Ok.ensures.piece (g.met.D.Disk.source_told t))
