use Rattle.std.proofs.Common.{refl, ◌∙◌}
use Rattle.abootimg.proofs.Unpacks.{clean_counting, clean_opening, clean_then, kept_counting, kept_opening, kept_then}
use Rattle.abootimg.proofs.Unpacks.{none_read, text_done, text_refused, why_of_text, why_unopened}
use Rattle.abootimg.proofs.unpack_image.print_on.Goals as goal

pub returns-in-Err : goal.returns-in-Err
returns-in-Err g c = λ t. text_refused _ _ _ _ _ _
    (kept_counting _ _ _ _ _ (c.in-Err.ensures.world t) (c.in-Err.ensures.kept t)) c.refused_step.ensures
    (why_unopened c.args.image _ _ _ _ _ _ _ (c.in-Err.ensures.kept t))

pub returns-in-Ok-write_text : goal.returns-in-Ok-write_text
returns-in-Ok-write_text g c = λ t.
    text_done c.args.image _ _ _ _ _ _ (g.D.Disk.held c.let_go_source.new.self) _ _ _ c.input_of-place.ensures
    (c.in-Ok.ensures.opened t)
    (c.in-Ok-write_text.ensures.printed (g.met.D.Disk.source_told t)) refl
    (kept_then _ _ _ (kept_opening _ _ _ _ _ _ (c.in-Ok.ensures.opened t) (c.in-Ok.ensures.world t))
    (kept_counting _ _ _ _ _ (c.let_go_source.ensures.world t) (c.let_go_source.ensures.held t)))
    (clean_then _ _ _ (clean_opening _ (g.D.Disk.world c.args.disk.now) _ _ _ _ (c.in-Ok.ensures.opened t))
    (clean_counting _ _ _ _ _ (c.let_go_source.ensures.held t)
    (none_read _ (c.in-Ok-write_text.ensures.clean ∙ c.in-Ok.ensures.clean t))))

pub returns-in-Err-write_text : goal.returns-in-Err-write_text
returns-in-Err-write_text g c = λ t. text_refused _ _ _ _ _ _
    (kept_then _ _ _ (kept_opening _ _ _ _ _ _ (c.in-Ok.ensures.opened t) (c.in-Ok.ensures.world t))
    (kept_counting _ _ _ _ _ (c.let_go_source-in-Err-write_text.ensures.world t)
    (c.let_go_source-in-Err-write_text.ensures.held t))) c.refused_image.ensures.status
    (why_of_text c.args.image _ _ _ _ _ _ _ _ _ _ _ _ _ _ c.input_of-place.ensures (c.in-Ok.ensures.opened t)
    (c.in-Ok.ensures.clean t) (c.let_go_source-in-Err-write_text.ensures.world t ∙ c.in-Ok.ensures.world t)
    (c.let_go_source-in-Err-write_text.ensures.held t) c.refused_image.ensures.noted
    (c.in-Err-write_text.ensures.refused (g.met.D.Disk.source_told t)))
