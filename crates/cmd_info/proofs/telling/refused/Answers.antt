use Rattle.std.proofs.Common.{◌∙◌, ap}
use Rattle.cmd_common_boot.proofs.Sides.{tells_read}
use Rattle.cmd_info.proofs.telling.refused.Goals as goal

pub returns-clause-told_of : goal.returns-clause-told_of
returns-clause-told_of c =
    tells_read c.writing-sides.result _ _ _ _ c.refuse.ensures.place c.refuse.ensures.fault
    (ap (λ s. s.input.place) c.writing-sides.ensures.others ∙ c.reading-sides.ensures.place)
