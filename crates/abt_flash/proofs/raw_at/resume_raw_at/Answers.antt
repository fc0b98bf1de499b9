use Rattle.abt_flash.proofs.GivenBytes.{once_raw}
use Rattle.abt_flash.proofs.raw_at.resume_raw_at.Goals as goal

pub returns-clause-reads : goal.returns-clause-reads
returns-clause-reads g c models =
    let e = c.raw_behind.ensures in
    rw c.pieces_before.ensures at (once_raw c.raw_behind.result c.args.b _ _ _ _ _ (e.reads models))
