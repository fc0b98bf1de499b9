use Rattle.std.proofs.Common.{◌∙◌}
use Rattle.abootimg.proofs.Unpacks.{clean_counting, kept_counting, none_read, step_over, step_refused}
use Rattle.abootimg.proofs.unpack_image.look_on.Goals as goal

pub returns-in-Err : goal.returns-in-Err
returns-in-Err g c = λ t. step_refused _ _ _ _ _
    (kept_counting _ _ _ _ _ (c.in-Err.ensures.world t) (c.in-Err.ensures.kept t)) c.refused_step.ensures

pub returns : goal.returns
returns g c = λ t. step_over _ _ _ _ _ _ _ _ _ _ _ _ _ _ (c.in-Ok.ensures.opened t) (c.in-Ok.ensures.world t)
    (c.look_into-status.ensures.stays t) (c.let_go_source.ensures.world t) (c.let_go_source.ensures.held t)
    (λ done. clean_counting _ _ _ _ _ (c.let_go_source.ensures.held t)
    (none_read _ (c.look_into-status.ensures.read done ∙ c.in-Ok.ensures.clean t)))
