use Rattle.std.proofs.Common.{refl}
use Rattle.abt_flash.proofs.GivenBytes.{once_first, once_raw}
use Rattle.abt_flash.proofs.raw_at.deliver_raw_at.Goals as goal

pub returns-clause-reads : goal.returns-clause-reads
returns-clause-reads g c models = once_first c.raw_behind.result c.args.b _ _ _ _ refl
    (once_raw c.raw_behind.result c.args.b _ _ 0 _ _ (c.raw_behind.ensures.reads models))
