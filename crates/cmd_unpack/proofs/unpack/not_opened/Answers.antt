use Rattle.cmd_common_boot.proofs.Sides.{tells_read}
use Rattle.cmd_unpack.proofs.unpack.not_opened.Goals as goal

pub returns-clause-told_of : goal.returns-clause-told_of
returns-clause-told_of c =
    tells_read c.reading-sides.result _ _ _ _ c.refuse.ensures.place c.refuse.ensures.fault
    c.reading-sides.ensures.place
