use Rattle.std.proofs.Common.{refl}
use Rattle.abt_c.proofs.stored.puller_in.Goals as goal

pub returns-in-None-header_in-clause-none : goal.returns-in-None-header_in-clause-none
returns-in-None-header_in-clause-none c n p e = absurd (c.header_in.ensures.none (rw c.in-None-header_in.is refl)
    p.walk.header e.stands.header)
