use Rattle.abt_flash.proofs.GivenBytes.{forward_raw}
use Rattle.abt_flash.proofs.raw.resume_raw.Goals as goal

pub returns-clause-reads : goal.returns-clause-reads
returns-clause-reads g c models =
    let e = c.raw_behind.ensures in
    rw c.pieces_before.ensures at (forward_raw c.raw_behind.result _ c.args.b _ _ _ _ e.delivered.image.delivers.some
    (e.few models) (e.reads models))
